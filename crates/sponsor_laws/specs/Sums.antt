-- The counts of accounts as sums over all entries of a ledger: the subentries of each account, the reserves that it
-- pays as a sponsor, and those of its own that others pay.
use Rattle.std.specs.Prelude.{◌≡◌, ◌≢◌, ℕ, ◌+◌, ◌≤◌, Bool, true, false, List, length, Contains, Option, Some, None}
use Rattle.std.specs.Prelude.{if◌then◌else◌}
use Rattle.std.specs.FinMap.{get, entries}
use Rattle.std.specs.List.{sum_by, count_by}
use Rattle.sponsor_rules.specs.ledger_types.declared.ids.AccountId.{AccountId}
use Rattle.sponsor_rules.specs.ledger_types.declared.account.AccountEntry.{AccountEntry}
use Rattle.sponsor_rules.specs.ledger_types.declared.account.AccountEntryExtensionV2.{AccountEntryExtensionV2}
use Rattle.sponsor_rules.specs.ledger_types.declared.entry.LedgerEntry.{LedgerEntry}
use Rattle.sponsor_rules.specs.ledger_types.declared.entry.LedgerEntryBody.{LedgerEntryBody}
use Rattle.sponsor_rules.specs.ledger_types.declared.entry.LedgerEntryBody.TheVariants as body
use Rattle.sponsor_rules.specs.ledger_types.declared.key.LedgerKey.{LedgerKey}
use Rattle.sponsor_rules.specs.entry_map.EntryMap.{EntryMap, IsKeyed}
use Rattle.sponsor_rules.specs.entry_slots.Accounts.{account_at, HasAccount}
use Rattle.sponsor_rules.specs.entry_slots.AccountExtensions.{second_in, sponsorship_of}
use Rattle.sponsor_rules.specs.entry_slots.EntrySponsor.{sponsor_of}
use Rattle.sponsor_rules.specs.Charge.{multiplicity, owner_of}
use Rattle.sponsor_rules.specs.Counting.{count_in}
use Rattle.sponsor_rules.specs.Payers.{is_same_account}
use Rattle.sponsor_rules.specs.declared.count.Count.{Count}
use Rattle.sponsor_rules.specs.declared.count.Count.TheVariants.{SubEntries, Sponsoring, Sponsored}

-- ---- what an entry counts for an account

-- an account that may be missing is this one
abbrev pub is_this : AccountId → Option AccountId → Bool
is_this id None = false
is_this id (Some other) = is_same_account other id

abbrev pub is_there : Option AccountId → Bool
is_there None = false
is_there (Some id) = true

-- who pays the reserves of an account's signers, in their order
abbrev pub signer_sponsors : AccountEntry → List (Option AccountId)
signer_sponsors account = (sponsorship_of account).signer_sponsoring_ids

-- A line, an offer or data counts as often as its multiplicity for its owner, and an account's signers for it once
-- each.
abbrev pub subentries_for : AccountId → LedgerEntryBody → ℕ
subentries_for id (body.Account account) = if is_same_account account.account_id id then length account.signers else 0
subentries_for id other = if is_this id (owner_of other) then multiplicity other else 0

-- how many reserves of signers others pay for this account
abbrev pub sponsored_signers : AccountId → LedgerEntryBody → ℕ
sponsored_signers id (body.Account account) = if is_same_account account.account_id id then count_by is_there
    (signer_sponsors account) else 0
sponsored_signers id other = 0

abbrev pub sponsored_for : AccountId → LedgerEntry → ℕ
sponsored_for id entry =
    (if is_there (sponsor_of entry)
    then (if is_this id (owner_of entry.body) then multiplicity entry.body else 0)
    else 0)
    + sponsored_signers id entry.body

-- how many reserves of signers this account pays
abbrev pub sponsoring_signers : AccountId → LedgerEntryBody → ℕ
sponsoring_signers id (body.Account account) = count_by (is_this id) (signer_sponsors account)
sponsoring_signers id other = 0

abbrev pub sponsoring_for : AccountId → LedgerEntry → ℕ
sponsoring_for id entry =
    (if is_this id (sponsor_of entry) then multiplicity entry.body else 0) + sponsoring_signers id entry.body

-- what an entry adds to a count of an account
abbrev pub counted_for : Count → AccountId → LedgerEntry → ℕ
counted_for SubEntries id entry = subentries_for id entry.body
counted_for Sponsoring id entry = sponsoring_for id entry
counted_for Sponsored id entry = sponsored_for id entry

-- the sum over all entries
abbrev pub total : Count → AccountId → EntryMap → ℕ
total count id m = sum_by (λ pair. counted_for count id pair.1) (entries m)

-- ---- what holds of a ledger's entries

-- Each entry is under its key; each count of an account is the sum over all entries; an account has at most 1000
-- subentries, and these and the reserves that it pays as a sponsor fit 32 bits together; owners and sponsors exist.
pub record AreCounted (m : EntryMap) : Type 0 where
  pub keyed : IsKeyed m
  pub sums : (id : AccountId) (account : AccountEntry) (count : Count) → account_at m id ≡ Some account
      → count_in count account ≡ total count id m
  pub few : (id : AccountId) (account : AccountEntry) → account_at m id ≡ Some account → account.num_sub_entries ≤ 1000
  pub fits : (id : AccountId) (account : AccountEntry) → account_at m id ≡ Some account
      → count_in SubEntries account + count_in Sponsoring account ≤ 4294967295
  pub owners : (key : LedgerKey) (entry : LedgerEntry) (id : AccountId) → get m key ≡ Some entry
      → owner_of entry.body ≡ Some id → HasAccount m id
  pub sponsors : (key : LedgerKey) (entry : LedgerEntry) (id : AccountId) → get m key ≡ Some entry
      → sponsor_of entry ≡ Some id → HasAccount m id
  pub signers : (of : AccountId) (account : AccountEntry) (id : AccountId) → account_at m of ≡ Some account
      → Contains (signer_sponsors account) (Some id) → HasAccount m id

-- where an account has the extension of sponsorship, it has one item for each signer
abbrev pub HasItems : AccountEntry → Type 0
HasItems account = (ext : AccountEntryExtensionV2) → second_in account.ext ≡ Some ext
    → length ext.signer_sponsoring_ids ≡ length account.signers

abbrev pub AllHaveItems : EntryMap → Type 0
AllHaveItems m = (id : AccountId) (account : AccountEntry) → account_at m id ≡ Some account → HasItems account

-- nothing has this account as its sponsor
pub record SponsorsNothing (m : EntryMap) (id : AccountId) : Type 0 where
  pub entries : (key : LedgerKey) (entry : LedgerEntry) → get m key ≡ Some entry → sponsor_of entry ≢ Some id
  pub signers : (of : AccountId) (account : AccountEntry) → account_at m of ≡ Some account
      → (Contains (signer_sponsors account) (Some id) → ⊥)
