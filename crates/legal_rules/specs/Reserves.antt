-- What an entry counts for the reserves of accounts (CAP-0033).
use Rattle.std.specs.Prelude.{ℕ, ◌+◌, ℤ, pos, Bool, false, List, [], length, Option, Some, None, if◌then◌else◌}
use Rattle.std.specs.List.{count_by}
use Rattle.hash_ids.specs.ledger_types.declared.ids.AccountId.{AccountId}
use Rattle.hash_ids.specs.ledger_types.declared.entry.LedgerEntry.{LedgerEntry}
use Rattle.hash_ids.specs.ledger_types.declared.entry.LedgerEntryBody.{LedgerEntryBody}
use Rattle.hash_ids.specs.ledger_types.declared.entry.LedgerEntryBody.TheVariants as body
use Rattle.hash_ids.specs.ledger_types.declared.key.LedgerKey.{LedgerKey}
use Rattle.hash_ids.specs.ledger_types.declared.key.LedgerKey.TheVariants as key
use Rattle.sponsor_laws.specs.entry_slots.EntrySponsor.{sponsor_of}
use Rattle.sponsor_laws.specs.sponsor_rules.Charge.{multiplicity}
use Rattle.sponsor_laws.specs.Sums.{is_there, signer_sponsors}
use Rattle.legal_rules.specs.EntryKeys.{is_key}

-- a line, an offer or data counts as often as its multiplicity as a subentry of its owner, and so does each signer of
-- an account once
abbrev pub subentries_in : LedgerEntryBody → ℕ
subentries_in (body.Account account) = length account.signers
subentries_in (body.ClaimableBalance balance) = 0
subentries_in (body.LiquidityPool pool) = 0
subentries_in other = multiplicity other

-- who pays the reserves of the signers in an entry, in their order
abbrev pub signer_sponsors_in : LedgerEntryBody → List (Option AccountId)
signer_sponsors_in (body.Account account) = signer_sponsors account
signer_sponsors_in other = []

-- how many reserves of the owner of an entry somebody else pays, for it and for its signers
abbrev pub sponsored_in_entry : LedgerEntry → ℕ
sponsored_in_entry e = (if is_there (sponsor_of e) then multiplicity e.body else 0)
    + count_by is_there (signer_sponsors_in e.body)

abbrev pub is_for : LedgerKey → Option AccountId → Bool
is_for k None = false
is_for k (Some id) = is_key (key.Account id) k

-- how many of these are the account under a key
abbrev pub for_each : LedgerKey → List (Option AccountId) → ℤ
for_each k ids = pos (count_by (is_for k) ids)
