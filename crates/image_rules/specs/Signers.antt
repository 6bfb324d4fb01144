-- The ranges of signers, one by one.
use Rattle.std.specs.Prelude.{◌≡◌, ◌≢◌, ◌≤◌, List, length, All, Option, Some}
use Rattle.std.specs.declared.cmp.Ordering.TheVariants.{Less}
use Rattle.ledger_types.specs.declared.ids.AccountId.{AccountId}
use Rattle.ledger_types.specs.declared.signer.Signer.{Signer}
use Rattle.ledger_types.specs.declared.signer.SignerKey.TheVariants as signer
use Rattle.ledger_types.specs.KeyOrder.{signer_key_cmp}

abbrev pub IsBelow : Signer → Signer → Type 0
IsBelow x y = signer_key_cmp x.key y.key ≡ Less

pub record IsSignerInRange (id : AccountId) (s : Signer) : Type 0 where
  pub weight : (1 ≤ s.weight) × (s.weight ≤ 255)
  pub other : s.key ≢ signer.Ed25519 id.0

pub record ArePayersOthers (id : AccountId) (signers : List Signer) (sponsors : List (Option AccountId)) : Type 0 where
  pub items : length sponsors ≡ length signers
  pub others : All (λ s. s ≢ Some id) sponsors
