-- Vouches in groups of one signature each.
use Rattle.std.specs.Prelude.{◌≡◌, ℕ, List, [], unwrap_or}
use Rattle.std.specs.BTreeMap.{BTreeMap, get}
use Rattle.std.specs.List.{filter}
use Rattle.std.specs.Str.{bytes_eq}
use Rattle.ledger_types.specs.Bytes.{bytes_cmp}
use Rattle.op_types.specs.declared.vouch.Vouch.{Vouch}
use Rattle.op_types.specs.declared.vouch.Vouch.TheVariants as vouching

-- the signature that a vouch is for
abbrev pub signature_of : Vouch → List ℕ
signature_of (vouching.Hash key over signature) = signature
signature_of (vouching.Payload key payload signature) = signature

-- those for one signature, in their order
abbrev pub all_for : (signature : List ℕ) → List Vouch → List Vouch
all_for signature vouches = filter (λ vouch. bytes_eq (signature_of vouch) signature) vouches

abbrev pub group_at : BTreeMap (List ℕ) (List Vouch) → (signature : List ℕ) → List Vouch
group_at groups signature = unwrap_or (get bytes_cmp groups signature) []

-- under each signature stand all vouches for it
abbrev pub AreGrouped : BTreeMap (List ℕ) (List Vouch) → List Vouch → Type 0
AreGrouped groups vouches = (signature : List ℕ) → group_at groups signature ≡ all_for signature vouches
