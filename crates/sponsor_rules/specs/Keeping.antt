-- What a change of counts and signers leaves.
use Rattle.std.specs.Prelude.{◌≡◌, ◌≢◌, ℕ, ◌+◌, ◌<◌, ◌≤◌, ◌^◌, Option, Some}
use Rattle.std.specs.Option.{ForSome}
use Rattle.ledger_types.specs.declared.ids.AccountId.{AccountId}
use Rattle.ledger_types.specs.declared.account.AccountEntry.{AccountEntry}
use Rattle.ledger_types.specs.declared.key.LedgerKey.{LedgerKey}
use Rattle.ledger_types.specs.declared.key.LedgerKey.TheVariants as key
use Rattle.reserve_rules.specs.entry_map.EntryMap.{EntryMap}
use Rattle.reserve_rules.specs.entry_slots.declared.accounts.AccountSlot.{AccountSlot}
use Rattle.reserve_rules.specs.entry_slots.Accounts.{account_at, account_slot_at, account_of_slot}
use Rattle.reserve_rules.specs.entry_slots.AccountExtensions.{account_liabilities}
use Rattle.sponsor_rules.specs.declared.count.Count.{Count}
use Rattle.sponsor_rules.specs.declared.count.Count.TheVariants.{SubEntries, Sponsored}
use Rattle.sponsor_rules.specs.Counting.{count_in, count_if, count_at}

-- ---- an account

-- an account that is changed: id, balance, liabilities, sequence number, thresholds and flags are as they were
pub record KeepsCore (was account : AccountEntry) : Type 0 where
  pub id : account.account_id ≡ was.account_id
  pub balance : account.balance ≡ was.balance
  pub liabilities : account_liabilities account ≡ account_liabilities was
  pub seq_num : account.seq_num ≡ was.seq_num
  pub thresholds : account.thresholds ≡ was.thresholds
  pub flags : account.flags ≡ was.flags

-- the other counts are as they were
abbrev pub KeepsOtherCounts : Count → (was account : AccountEntry) → Type 0
KeepsOtherCounts count was account = (other : Count) → other ≢ count → count_in other account ≡ count_in other was

-- no count is higher than it was
abbrev pub RaisesNoCount : (was account : AccountEntry) → Type 0
RaisesNoCount was account = (count : Count) → count_in count account ≤ count_in count was

-- an owner's counts of subentries and of sponsored reserves can each take k more in 32 bits
pub record FitsSubentry (k : ℕ) (owner : Option AccountEntry) : Type 0 where
  pub subentries : count_if SubEntries owner + k < 2 ^ 32
  pub sponsored : count_if Sponsored owner + k < 2 ^ 32

-- ---- a map

-- what is under an account's id has changed as R says, if it exists
abbrev pub IsChanged : (AccountEntry → AccountEntry → Type 0) → EntryMap → AccountId → AccountEntry → Type 0
IsChanged R m id account = (was : AccountEntry) → account_at m id ≡ Some was → R was account

-- an account with the core fields of the one that is under the id, to be stored in its place
pub record IsChangeOf (m : EntryMap) (id : AccountId) (account : AccountEntry) : Type 0 where
  pub was : AccountEntry
  pub exists : account_at m id ≡ Some was
  pub core : KeepsCore was account

-- the other counts of each account are as they were
pub record KeepsOthers (count : Count) (old new : EntryMap) : Type 0 where
  pub kept : (id : AccountId) (other : Count) → other ≢ count → count_at new id other ≡ count_at old id other

-- no count of an account is higher than it was
pub record RaisesNone (old new : EntryMap) : Type 0 where
  pub low : (id : AccountId) (count : Count) → count_at new id count ≤ count_at old id count

-- all accounts but this one, if it is one, are as they were
pub record ChangesAtMost (changed : Option AccountId) (old new : EntryMap) : Type 0 where
  pub others : (other : AccountId) → changed ≢ Some other → account_slot_at new other ≡ account_slot_at old other

-- a slot is what is under an account's id
pub record IsLoaded (m : EntryMap) (id : AccountId) (slot : Option AccountSlot) : Type 0 where
  pub slot_is : slot ≡ account_slot_at m id
  pub account_is : account_at m id ≡ account_of_slot slot
  pub named : ForSome slot (λ s. s.account.account_id ≡ id)

-- an account that existed still exists, with its core fields
pub record HasCore (m : EntryMap) (id : AccountId) (was : AccountEntry) : Type 0 where
  pub account : AccountEntry
  pub exists : account_at m id ≡ Some account
  pub core : KeepsCore was account

-- Each account that existed still exists, and its balance, liabilities, sequence number, thresholds and flags are as
-- they were.
pub record LeavesCore (old new : EntryMap) : Type 0 where
  pub kept : (id : AccountId) (was : AccountEntry) → account_at old id ≡ Some was → HasCore new id was

-- the same of each account but the one under a key
pub record LeavesOtherCores (k : LedgerKey) (old new : EntryMap) : Type 0 where
  pub kept : (id : AccountId) (was : AccountEntry) → key.Account id ≢ k → account_at old id ≡ Some was
      → HasCore new id was
