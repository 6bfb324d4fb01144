-- That fees, sequence numbers and signers that are used up leave settled entries.
use Rattle.std.specs.Prelude.{◌≡◌, ℕ, ◌+◌, ◌≤◌, ℤ, pos, neg_ℤ, ◌+ℤ◌, ◌≤ℤ◌, ◌<ℤ◌, [], length, Option, Some}
use Rattle.op_flags.specs.ledger_types.declared.ids.AccountId.{AccountId}
use Rattle.op_flags.specs.ledger_types.declared.ids.Hash.{Hash}
use Rattle.op_flags.specs.ledger_types.declared.asset.Asset.{Asset}
use Rattle.op_flags.specs.ledger_types.declared.asset.Asset.TheVariants as asset
use Rattle.op_flags.specs.ledger_types.declared.header.LedgerHeader.{LedgerHeader}
use Rattle.op_flags.specs.ledger_types.declared.account.AccountEntry.{AccountEntry}
use Rattle.op_flags.specs.ledger_types.declared.account.AccountEntryExtensionV3.{AccountEntryExtensionV3}
use Rattle.op_flags.specs.entry_map.EntryMap.{EntryMap}
use Rattle.op_flags.specs.entry_slots.AccountExtensions.{with_seq_num}
use Rattle.op_flags.specs.entry_slots.Accounts.{account_at, with_account, HasAccount}
use Rattle.op_flags.specs.entry_sums.Sums.{total}
use Rattle.op_pool.specs.reserve_rules.Reserve.{greatest_i64}
use Rattle.op_flags.specs.sponsor_rules.declared.context.Ctx.{Ctx}
use Rattle.op_flags.specs.sponsor_rules.Signers.{map_after_removing_preauth}
use Rattle.op_flags.specs.legal_rules.Headers.{IsHeaderInRange}
use Rattle.op_flags.specs.legal_rules.Legal.{IsLegal}
use Rattle.op_flags.specs.legal_rules.Payments.{with_paid}
use Rattle.op_flags.specs.legal_rules.Supply.{held, lumens_of}
use Rattle.op_flags.specs.legal_rules.Ranges.{IsAccountInRange}
use Rattle.op_flags.specs.pool_shares.Premises.{ArePoolsSound}
use Rattle.op_flags.specs.op_form.Premises.{AccountsAreReady, BalancesAreInRange, AreAmountsLow}
use Rattle.op_offers.specs.Calls.{IsManageable}
use Rattle.op_laws.specs.Laws.{AllLawful}
use Rattle.op_laws.specs.Underway.{IsSettled, IsUnderway, LeavesSettled}

-- a legal state is settled
abbrev pub LegalSettles : Type 0
LegalSettles = (h : LedgerHeader) (m : EntryMap) → IsLegal h m → IsSettled h.id_pool m

-- what settled entries need for a legal state: a header in its ranges, whose total of lumens is theirs and the fee pool
abbrev pub SettledLegal : Type 0
SettledLegal = (h : LedgerHeader) (m : EntryMap) → IsHeaderInRange h → IsSettled h.id_pool m
    → (total (held asset.Native) m +ℤ h.fee_pool) ≡ h.total_coins → IsLegal h m

-- a fee that an account has is taken, and so much less is held in lumens, and of nothing else
abbrev pub FeesSettle : Type 0
FeesSettle =
    (id_pool : ℕ) (m : EntryMap) (id : AccountId) (a : AccountEntry) (fee : ℤ) → IsSettled id_pool m
    → account_at m id ≡ Some a → pos 0 ≤ℤ fee → fee ≤ℤ a.balance
    → IsSettled id_pool (with_paid id (neg_ℤ fee) m)
    × ((x : Asset) → total (held x) (with_paid id (neg_ℤ fee) m) ≡ total (held x) m +ℤ lumens_of x (neg_ℤ fee))

-- A greater sequence number of an account, within int64 where the account's is, is used up, whatever extension V3 the
-- account is given with it.
abbrev pub SeqNumsSettle : Type 0
SeqNumsSettle =
    (id_pool : ℕ) (m : EntryMap) (id : AccountId) (a : AccountEntry) (n : ℤ) (ext : Option AccountEntryExtensionV3)
    → IsSettled id_pool m → account_at m id ≡ Some a → a.seq_num <ℤ n
    → (a.seq_num ≤ℤ greatest_i64 → n ≤ℤ greatest_i64)
    → LeavesSettled id_pool m (with_account m id (with_seq_num n ext)) []

-- the pre-authorised signers of a hash are removed from an account
abbrev pub PreauthsSettle : Type 0
PreauthsSettle = (id_pool : ℕ) (m : EntryMap) (id : AccountId) (hash : Hash) → IsSettled id_pool m
    → LeavesSettled id_pool m (map_after_removing_preauth id hash m) []

-- ---- what settled entries give

abbrev pub SettledAccounts : Type 0
SettledAccounts = (id_pool : ℕ) (m : EntryMap) (id : AccountId) (a : AccountEntry) → IsSettled id_pool m
    → account_at m id ≡ Some a → IsAccountInRange a

abbrev pub SettledReady : Type 0
SettledReady = (id_pool : ℕ) (m : EntryMap) → IsSettled id_pool m → AccountsAreReady m

abbrev pub SettledInRange : Type 0
SettledInRange = (id_pool : ℕ) (m : EntryMap) → IsSettled id_pool m → BalancesAreInRange m

-- pools and lines of their shares are sound
abbrev pub SettledSound : Type 0
SettledSound = (id_pool : ℕ) (m : EntryMap) → IsSettled id_pool m → ArePoolsSound m

-- each account has at most 20 signers (MAX_SIGNERS in Stellar-ledger-entries.x)
pub record AreSignersFew (m : EntryMap) : Type 0 where
  pub few : (id : AccountId) (account : AccountEntry) → account_at m id ≡ Some account → length account.signers ≤ 20

abbrev pub SettledFew : Type 0
SettledFew = (id_pool : ℕ) (m : EntryMap) → IsSettled id_pool m → AreSignersFew m

-- no claimable balance has less than nothing
abbrev pub SettledAmounts : Type 0
SettledAmounts = (id_pool : ℕ) (m : EntryMap) → IsSettled id_pool m → AreAmountsLow m

-- no less than nothing is held in lumens
abbrev pub SettledHeld : Type 0
SettledHeld = (id_pool : ℕ) (m : EntryMap) → IsSettled id_pool m → pos 0 ≤ℤ total (held asset.Native) m

-- what holds before each operation is what those on offers ask for, where one more id can be drawn
abbrev pub UnderwayManageable : Type 0
UnderwayManageable = (ctx : Ctx) (m : EntryMap) → IsUnderway ctx m → HasAccount m ctx.op_source
    → pos (ctx.id_pool + 1) ≤ℤ greatest_i64 → IsManageable ctx m

-- all that the transactions of a set rely on
pub record TransactionLaws : Type 0 where
  pub operations : AllLawful
  pub fees : FeesSettle
  pub seq_nums : SeqNumsSettle
  pub preauths : PreauthsSettle
  pub accounts : SettledAccounts
  pub few : SettledFew
  pub ready : SettledReady
  pub in_range : SettledInRange
  pub sound : SettledSound
  pub amounts : SettledAmounts
  pub held : SettledHeld
  pub manageable : UnderwayManageable
