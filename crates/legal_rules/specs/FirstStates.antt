-- States that are legal from the first, and what a legal state of one account says.
use Rattle.std.specs.Prelude.{◌≡◌, ℕ, ◌≤◌, pos, ◌+ℤ◌, length, [], Some, None}
use Rattle.std.specs.FinMap.{empty}
use Rattle.hash_ids.specs.ledger_types.declared.asset.Asset.TheVariants as asset
use Rattle.hash_ids.specs.ledger_types.declared.ids.AccountId.{AccountId}
use Rattle.hash_ids.specs.ledger_types.declared.account.AccountEntry.{AccountEntry}
use Rattle.hash_ids.specs.ledger_types.declared.header.LedgerHeader.{LedgerHeader}
use Rattle.hash_ids.specs.ledger_types.declared.entry.LedgerEntry.{LedgerEntry}
use Rattle.hash_ids.specs.ledger_types.declared.entry.LedgerEntryBody.TheVariants as body
use Rattle.hash_ids.specs.ledger_types.declared.key.LedgerKey.TheVariants as key
use Rattle.hash_ids.specs.ledger_types.Keys.{key_of}
use Rattle.entry_sums.specs.entry_map.EntryMap.{EntryMap, put}
use Rattle.sponsor_laws.specs.entry_slots.AccountExtensions.{account_liabilities}
use Rattle.sponsor_laws.specs.entry_slots.EntrySponsor.{sponsor_of}
use Rattle.sponsor_laws.specs.sponsor_rules.Charge.{owner_of}
use Rattle.entry_sums.specs.Sums.{total, EachEntry}
use Rattle.legal_rules.specs.Supply.{held}
use Rattle.legal_rules.specs.Ranges.{IsAccountInRange}
use Rattle.legal_rules.specs.Headers.{IsHeaderInRange}
use Rattle.legal_rules.specs.Legal.{IsLegal}

-- an account without extensions, whose subentries are its signers
pub record IsPlainAccount (e : LedgerEntry) : Type 0 where
  pub account : AccountEntry
  pub is : e.body ≡ body.Account account
  pub unsponsored : e.ext ≡ None
  pub unbound : account.ext ≡ None
  pub subentries : account.num_sub_entries ≡ length account.signers
  pub few : account.num_sub_entries ≤ 1000
  pub range : IsAccountInRange account

-- plain accounts, each under its own key, with the header that they need
abbrev pub PlainStatesAreLegal : Type 0
PlainStatesAreLegal =
    (h : LedgerHeader) (m : EntryMap) → IsHeaderInRange h → EachEntry (λ k e. key_of e ≡ k) m
    → EachEntry (λ k e. IsPlainAccount e) m → (total (held asset.Native) m +ℤ h.fee_pool) ≡ h.total_coins → IsLegal h m

abbrev pub new_account : ℕ → AccountEntry → LedgerEntry
new_account seq a = record { last_modified_ledger_seq = seq; body = body.Account a; ext = None }

-- the first account of a ledger has all lumens
abbrev pub GenesisIsLegal : Type 0
GenesisIsLegal =
    (h : LedgerHeader) (seq : ℕ) (root : AccountEntry) → IsHeaderInRange h → IsAccountInRange root
    → root.num_sub_entries ≡ 0 → root.signers ≡ [] → root.ext ≡ None
    → (root.balance +ℤ h.fee_pool) ≡ h.total_coins → IsLegal h (put empty (new_account seq root))

-- what a legal state of one account says of it: any other number breaks a rule
pub record IsLoneAccount (h : LedgerHeader) (a : AccountEntry) : Type 0 where
  pub header : IsHeaderInRange h
  pub range : IsAccountInRange a
  pub subentries : a.num_sub_entries ≡ length a.signers
  pub few : a.num_sub_entries ≤ 1000
  pub selling : (account_liabilities a).selling ≡ pos 0
  pub buying : (account_liabilities a).buying ≡ pos 0
  pub lumens : (a.balance +ℤ h.fee_pool) ≡ h.total_coins

abbrev pub LoneAccounts : Type 0
LoneAccounts = (h : LedgerHeader) (seq : ℕ) (a : AccountEntry) → IsLegal h (put empty (new_account seq a))
    → IsLoneAccount h a

-- what a legal state of one entry says of it: its owner is itself, and nobody pays for it
pub record IsLoneEntry (e : LedgerEntry) : Type 0 where
  pub owner : (id : AccountId) → owner_of e.body ≡ Some id → key_of e ≡ key.Account id
  pub sponsor : sponsor_of e ≡ None

-- so neither a line, an offer or data nor a claimable balance is legal alone
abbrev pub LoneEntries : Type 0
LoneEntries = (h : LedgerHeader) (e : LedgerEntry) → IsLegal h (put empty e) → IsLoneEntry e
