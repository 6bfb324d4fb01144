-- The laws of a record that closes a ledger: amounts are conserved, reserves are kept and states are legal, by each of
-- its transactions and by the entire close.
use Rattle.std.specs.Prelude.{◌≡◌, ◌≢◌, ◌+◌, ◌≤◌, ◌+ℤ◌, ℕ, ℤ, All, List, length, Ok}
use Rattle.close_rules.specs.ledger_types.declared.asset.Asset.{Asset}
use Rattle.close_rules.specs.ledger_types.declared.asset.Asset.TheVariants as asset
use Rattle.close_rules.specs.ledger_types.declared.header.LedgerHeader.{LedgerHeader}
use Rattle.close_rules.specs.xdr_header.declared.record.CloseRecord.{CloseRecord}
use Rattle.close_rules.specs.entry_sums.Sums.{total}
use Rattle.close_rules.specs.fee_rules.Fees.{set_base_fee}
use Rattle.close_rules.specs.legal_rules.Legal.{IsLegal}
use Rattle.close_rules.specs.legal_rules.Supply.{held}
use Rattle.close_rules.specs.op_form.Done.{Move}
use Rattle.close_rules.specs.op_laws.Moves.{issued}
use Rattle.close_rules.specs.tx_apply.EachTransaction.{AreEachConserved, FeeTurn, entries_left, fee_pool_left}
use Rattle.close_rules.specs.tx_apply.EachTransaction.{fee_turns_of, lumens_with}
use Rattle.close_rules.specs.tx_apply.KeptReserves.{KeepsReserves}
use Rattle.close_rules.specs.tx_apply.Laws.{AreAllDescribed, Turn, moves_of, turn_applied, turns_of}
use Rattle.close_rules.specs.tx_apply.Set.{Setting, fee_pool_after}
use Rattle.close_rules.specs.State.{ClosingState, IsClosingState}
use Rattle.close_rules.specs.Refusals.{record_in}
use Rattle.close_rules.specs.Close.{PreparedClose, IsClosed, IsClose, applied_in, setting_in}
use Rattle.close_laws.specs.Legal.{IsClosable}

-- ---- conservation

-- all that the set of a record moves, the fees first
abbrev pub moves_in : ClosingState → CloseRecord → List Move
moves_in s closing = moves_of (setting_in s closing) closing.tx_set s.entries

-- No fee and no transaction makes or loses lumens, nor do all together; the supply of each other asset changes by what
-- is issued and redeemed; each holder has what it had and what the moves give it.
pub record IsConservedBetween (s : ClosingState) (closing : CloseRecord) (next : ClosingState) : Type 0 where
  pub each : AreEachConserved (setting_in s closing) closing.tx_set s.entries
  pub lumens : lumens_with next.header.fee_pool next.entries ≡ lumens_with s.header.fee_pool s.entries
  pub supply : (x : Asset) → x ≢ asset.Native
      → total (held x) next.entries ≡ total (held x) s.entries +ℤ issued x (moves_in s closing)
  pub described : AreAllDescribed s.header.fee_pool s.entries next.header.fee_pool next.entries (moves_in s closing)

-- ---- legal states

-- the header in the middle of a close: that of the ledger before, with the number of the ledger that closes, and with
-- the fee pool and the ids so far
abbrev pub header_within : LedgerHeader → (fee_pool : ℤ) → (id_pool : ℕ) → LedgerHeader
header_within header fee_pool id_pool = record header {
  ledger_seq = header.ledger_seq + 1;
  fee_pool = fee_pool;
  id_pool = id_pool;
}

abbrev pub IsLegalAfterFee : LedgerHeader → (base_fee : ℕ) → FeeTurn → Type 0
IsLegalAfterFee header base_fee turn =
    IsLegal (header_within header (fee_pool_left base_fee turn) header.id_pool) (entries_left base_fee turn)

-- The fee pool is that after all fees.
abbrev pub IsLegalAfter : Setting → (fee_pool : ℤ) → Turn → Type 0
IsLegalAfter setting fee_pool turn =
    IsLegal (header_within setting.header fee_pool (turn_applied setting turn).id_pool)
    (turn_applied setting turn).entries

-- each fee, and then each transaction by its operations, leaves a legal state
pub record AreEachLegal (s : ClosingState) (closing : CloseRecord) : Type 0 where
  pub fees : All (λ turn. IsLegalAfterFee s.header (set_base_fee s.header closing.tx_set.txs) turn)
      (fee_turns_of (setting_in s closing) closing.tx_set s.entries)
  pub operations : All
      (λ turn. IsLegalAfter (setting_in s closing)
      (fee_pool_after (setting_in s closing) closing.tx_set s.entries) turn)
      (turns_of (setting_in s closing) closing.tx_set s.entries)

-- ---- the laws

pub record KeepsLaws (s : ClosingState) (closing : CloseRecord) (next : ClosingState) : Type 0 where
  pub conserved : IsConservedBetween s closing next
  -- by each operation
  pub reserves : All (λ step. KeepsReserves s.header.base_reserve step) (applied_in s closing).steps
  -- by each transaction, and by the close
  pub each_legal : AreEachLegal s closing
  pub legal : IsLegal next.header next.entries

abbrev pub RecordsKeepLaws : Type 0
RecordsKeepLaws = (s : ClosingState) (closing : CloseRecord) (closed : PreparedClose) → IsClosable s closing
    → IsClosed s closing closed → KeepsLaws s closing closed.state

-- what bytes that close a ledger are, and what they leave
pub record IsLawfulClose (s : ClosingState) (bytes : List ℕ) (next : ClosingState) : Type 0 where
  pub closing : CloseRecord
  pub reads : record_in bytes ≡ Ok closing
  pub laws : KeepsLaws s closing next
  pub state : IsClosingState next

-- bytes, as many as a record may have
abbrev pub ClosesAreLawful : Type 0
ClosesAreLawful = (s : ClosingState) (bytes : List ℕ) (closed : PreparedClose) → IsClosingState s
    → length bytes ≤ 16777216 → IsClose s bytes (Ok closed) → IsLawfulClose s bytes closed.state
