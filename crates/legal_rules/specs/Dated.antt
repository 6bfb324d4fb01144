-- What protocol 19 brought to accounts, as a ledger of a version, a number and a close time lets it be (CAP-0021,
-- CAP-0040).
use Rattle.std.specs.Prelude.{ℕ, ◌≤◌, length, All, Option, Some, None}
use Rattle.hash_ids.specs.ledger_types.declared.account.AccountEntry.{AccountEntry}
use Rattle.hash_ids.specs.ledger_types.declared.account.AccountEntryExtensionV3.{AccountEntryExtensionV3}
use Rattle.hash_ids.specs.ledger_types.declared.entry.LedgerEntryBody.{LedgerEntryBody}
use Rattle.hash_ids.specs.ledger_types.declared.entry.LedgerEntryBody.TheVariants as body
use Rattle.hash_ids.specs.ledger_types.declared.header.LedgerHeader.{LedgerHeader}
use Rattle.hash_ids.specs.ledger_types.declared.signer.SignerKey.{SignerKey}
use Rattle.hash_ids.specs.ledger_types.declared.signer.SignerKey.TheVariants.{SignedPayload}
use Rattle.entry_sums.specs.entry_map.EntryMap.{EntryMap}
use Rattle.entry_sums.specs.Sums.{EachEntry}
use Rattle.sponsor_laws.specs.entry_slots.AccountExtensions.{second_in, third_in}

-- the first version in which accounts record when their sequence numbers were set, and have signed payloads as signers
abbrev pub dated_from : ℕ
dated_from = 19

-- the ledger and the close time that are recorded aren't later ones
abbrev pub IsThirdDated : (version seq close_time : ℕ) → Option AccountEntryExtensionV3 → Type 0
IsThirdDated version seq close_time None = Unit {0}
IsThirdDated version seq close_time (Some third) =
    (dated_from ≤ version) × ((third.seq_ledger ≤ seq) × (third.seq_time ≤ close_time))

-- a signed payload may be there, and isn't empty
abbrev pub IsKeyDated : (version : ℕ) → SignerKey → Type 0
IsKeyDated version (SignedPayload key payload) = (dated_from ≤ version) × (1 ≤ length payload)
IsKeyDated version other = Unit {0}

pub record IsAccountDated (version seq close_time : ℕ) (account : AccountEntry) : Type 0 where
  pub third : IsThirdDated version seq close_time (third_in (second_in account.ext))
  pub signers : All (λ signer. IsKeyDated version signer.key) account.signers

abbrev pub IsBodyDated : (version seq close_time : ℕ) → LedgerEntryBody → Type 0
IsBodyDated version seq close_time (body.Account account) = IsAccountDated version seq close_time account
IsBodyDated version seq close_time other = Unit {0}

-- each account is dated by a header
abbrev pub AreDated : LedgerHeader → EntryMap → Type 0
AreDated h m = EachEntry (λ k e. IsBodyDated h.ledger_version h.ledger_seq h.scp_value.close_time e.body) m
