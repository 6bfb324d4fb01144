-- That signers which are added, removed and moved keep a state legal.
use Rattle.std.specs.Prelude.{◌≡◌, ◌≢◌, ℤ, ◌≤◌, All, List, Option, Ok, ◌<◌, length}
use Rattle.hash_ids.specs.ledger_types.declared.ids.AccountId.{AccountId}
use Rattle.hash_ids.specs.ledger_types.declared.header.LedgerHeader.{LedgerHeader}
use Rattle.hash_ids.specs.ledger_types.declared.signer.Signer.{Signer}
use Rattle.hash_ids.specs.ledger_types.declared.signer.SignerKey.{SignerKey}
use Rattle.hash_ids.specs.ledger_types.declared.signer.SignerKey.TheVariants as signer
use Rattle.hash_ids.specs.ledger_types.declared.account.AccountEntry.{AccountEntry}
use Rattle.std.specs.Prelude.{ℕ, Some}
use Rattle.entry_sums.specs.entry_map.EntryMap.{EntryMap}
use Rattle.sponsor_laws.specs.entry_slots.Accounts.{account_at}
use Rattle.sponsor_laws.specs.sponsor_rules.declared.context.Ctx.{Ctx}
use Rattle.sponsor_laws.specs.sponsor_rules.Signers.{map_after_adding_signer, map_after_removing_signer}
use Rattle.sponsor_laws.specs.sponsor_rules.Signers.{map_after_moving_signer}
use Rattle.sponsor_laws.specs.Laws.{PayerExists}
use Rattle.legal_rules.specs.Aggregates.{View}
use Rattle.legal_rules.specs.EntryLaws.{AreReservesSettled}
use Rattle.legal_rules.specs.Sponsorships.{IsSponsorReady}
use Rattle.legal_rules.specs.Legal.{IsLegal}
use Rattle.legal_rules.specs.Owing.{Owed, IsLegalOwing}

-- a signer that an account may get, which has fewer than 20: of another key than its own, and of none that it has
pub record IsNewSigner (id : AccountId) (signers : List Signer) (s : Signer) : Type 0 where
  pub room : length signers < 20
  pub weight : (1 ≤ s.weight) × (s.weight ≤ 255)
  pub other : s.key ≢ signer.Ed25519 id.0
  pub new : All (λ x. x.key ≢ s.key) signers

-- ---- within a transaction

abbrev pub SignerAdded : Type 0
SignerAdded =
    (v : View) (id_pool : ℕ) (owed : Owed) (sum : ℤ) (ctx : Ctx) (id : AccountId) (a : AccountEntry) (s : Signer)
    (old new : EntryMap) → IsLegalOwing v id_pool owed sum old → account_at old id ≡ Some a
    → IsNewSigner id a.signers s → IsSponsorReady ctx id old → map_after_adding_signer ctx id s old ≡ Ok new
    → IsLegalOwing v id_pool owed sum new

abbrev pub SignerRemoved : Type 0
SignerRemoved =
    (v : View) (id_pool : ℕ) (owed : Owed) (sum : ℤ) (id : AccountId) (which : SignerKey) (m : EntryMap)
    → IsLegalOwing v id_pool owed sum m → AreReservesSettled owed
    → IsLegalOwing v id_pool owed sum (map_after_removing_signer id which m)

abbrev pub SignerMoved : Type 0
SignerMoved =
    (v : View) (id_pool : ℕ) (owed : Owed) (sum : ℤ) (ctx : Ctx) (id : AccountId) (which : SignerKey)
    (payer : Option AccountId) (old new : EntryMap) → IsLegalOwing v id_pool owed sum old → AreReservesSettled owed
    → PayerExists payer old → map_after_moving_signer ctx id which payer old ≡ Ok new
    → IsLegalOwing v id_pool owed sum new

-- ---- complete changes

abbrev pub AddingSignersKeep : Type 0
AddingSignersKeep =
    (h : LedgerHeader) (ctx : Ctx) (id : AccountId) (a : AccountEntry) (s : Signer) (old new : EntryMap) → IsLegal h old
    → account_at old id ≡ Some a → IsNewSigner id a.signers s → IsSponsorReady ctx id old
    → map_after_adding_signer ctx id s old ≡ Ok new → IsLegal h new

abbrev pub RemovingSignersKeep : Type 0
RemovingSignersKeep = (h : LedgerHeader) (id : AccountId) (which : SignerKey) (m : EntryMap) → IsLegal h m
    → IsLegal h (map_after_removing_signer id which m)

abbrev pub MovingSignersKeep : Type 0
MovingSignersKeep =
    (h : LedgerHeader) (ctx : Ctx) (id : AccountId) (which : SignerKey) (payer : Option AccountId) (old new : EntryMap)
    → IsLegal h old → PayerExists payer old → map_after_moving_signer ctx id which payer old ≡ Ok new → IsLegal h new
