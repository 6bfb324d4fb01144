-- Each fee of a record that closes a ledger, and then each of its transactions, leaves a legal state.
use Rattle.close_laws.proofs.Prelude as prelude
use prelude.{◌≡◌, ℕ, ℤ, pos, ◌+◌, ◌<◌, ◌≤◌, ◌≤ℤ◌, ◌+ℤ◌, ap, ◌∙◌, List, [], ◌∷◌, length, All, All-nil, All-cons}
use prelude.{All-head, All-tail, arith, LedgerHeader, CloseRecord, TransactionEnvelope, EntryMap, total, held, IsLegal}
use prelude.{IsHeaderInRange, TransactionLaws, LegalSettles, SettledLegal, IsSettled, operations_of, AreFit, AreAllFit}
use prelude.{operation_total, Setting, envelope_applied, envelopes_in_order, fees_taken_of, map_after_fee, sum_of}
use prelude.{add_nonnegative, natural_nonnegative, ClosingState, setting_in, IsClosable}
use Rattle.close_rules.specs.ledger_types.declared.asset.Asset.TheVariants as asset
use Rattle.close_rules.specs.fee_rules.Fees.{set_base_fee}
use Rattle.close_rules.specs.tx_apply.EachTransaction.{EachConserves, FeeTurn, IsFeeConserved, fee_turns, lumens_with}
use Rattle.close_rules.specs.tx_apply.Fees.{fee_of}
use Rattle.close_rules.specs.tx_apply.Laws.{IsTurnConserved, Turn, turns}
use Rattle.close_rules.specs.tx_apply.Set.{fee_pool_after}
use Rattle.close_laws.specs.ClosedRecords.{AreEachLegal, IsLegalAfter, IsLegalAfterFee, header_within}
use Rattle.close_rules.proofs.tx_apply_proofs.Conserving.{fees_sound, set_fit}
use Rattle.close_rules.proofs.tx_apply_proofs.EachConserved.{moved}
use Rattle.close_rules.proofs.tx_apply_proofs.Sound.{envelope_sound}
use Rattle.close_laws.proofs.EncodedSets.{set_encoded}
use Rattle.close_laws.proofs.FewDrawn.{set_draws}
use Rattle.close_laws.proofs.NextHeader.{above_0, fees_low, ids_few, one_above}
use Rattle.close_laws.proofs.NextLegal.{can_close}

-- ---- headers

range_within : (h : LedgerHeader) (pool : ℤ) (ids : ℕ) → IsHeaderInRange h → h.ledger_seq < 2147483647
    → pos 0 ≤ℤ pool → ids ≤ h.id_pool + 1677721600 → IsHeaderInRange (header_within h pool ids)
range_within h pool ids range seq low few = record {
  version = range.version;
  seq_low = above_0 h.ledger_seq;
  seq_high = one_above h.ledger_seq seq;
  base_fee = range.base_fee;
  base_reserve = range.base_reserve;
  total_coins = range.total_coins;
  fee_pool = low;
  id_pool = ids_few h.ledger_seq h.id_pool ids range.id_pool few;
  flags = range.flags;
}

none_drawn : (n : ℕ) → n ≤ n + 1677721600
none_drawn n = omega arith

-- ---- ids

-- those of the first, and then those of the others
left_for_others : (was count now others most : ℕ) → now ≤ was + count → was + (count + others) ≤ most
    → now + others ≤ most
left_for_others was count now others most drawn few = omega arith

drawn_few : (now others most : ℕ) → now + others ≤ most → now ≤ most
drawn_few now others most few = omega arith

all_few : (was count : ℕ) → count ≤ 1677721600 → was + count ≤ was + 1677721600
all_few was count few = omega arith

module _ (laws : TransactionLaws) (legal : SettledLegal) (setting : Setting) (range : IsHeaderInRange setting.header)
    (seq : setting.header.ledger_seq < 2147483647) where
  -- settled entries that, with the fee pool, hold all lumens
  within : (pool : ℤ) (ids : ℕ) (m : EntryMap) → pos 0 ≤ℤ pool → ids ≤ setting.header.id_pool + 1677721600
      → IsSettled ids m → lumens_with pool m ≡ setting.header.total_coins
      → IsLegal (header_within setting.header pool ids) m
  within pool ids m low few settled lumens =
      legal (header_within setting.header pool ids) m (range_within setting.header pool ids range seq low few) settled
      lumens

  -- ---- fees

  fees_legal : (base : ℕ) (envelopes : List TransactionEnvelope) (pool : ℤ) (m : EntryMap) → pos 0 ≤ℤ pool
      → lumens_with pool m ≡ setting.header.total_coins
      → All (λ (turn : FeeTurn). IsFeeConserved setting.header.id_pool base turn) (fee_turns base envelopes pool m)
      → All (λ (turn : FeeTurn). IsLegalAfterFee setting.header base turn) (fee_turns base envelopes pool m)
  unfolding fee_turns
  fees_legal base [] pool m low lumens each = All-nil (λ (turn : FeeTurn). IsLegalAfterFee setting.header base turn)
  fees_legal base (entire ∷ others) pool m low lumens each =
      let Conserved = λ (turn : FeeTurn). IsFeeConserved setting.header.id_pool base turn in
      let turn : FeeTurn = record { entire = entire; fee_pool = pool; entries = m } in
      let fee = fee_of base entire m in
      let after = map_after_fee base entire m in
      let rest = fee_turns base others (pool +ℤ fee) after in
      let own = All-head Conserved turn rest each in
      let more = add_nonnegative pool fee low (natural_nonnegative _) in
      let same = own.lumens ∙ lumens in
      All-cons (λ (turn : FeeTurn). IsLegalAfterFee setting.header base turn) turn rest
      (within (pool +ℤ fee) setting.header.id_pool after more (none_drawn setting.header.id_pool) own.taken.settled
      same)
      (fees_legal base others (pool +ℤ fee) after more same (All-tail Conserved turn rest each))

  -- ---- transactions

  turns_legal : (pool : ℤ) → pos 0 ≤ℤ pool → (id_pool : ℕ) (envelopes : List TransactionEnvelope) (m : EntryMap)
      → IsSettled id_pool m → AreAllFit envelopes
      → id_pool + operation_total envelopes ≤ setting.header.id_pool + 1677721600
      → lumens_with pool m ≡ setting.header.total_coins
      → All (λ (turn : Turn). IsTurnConserved setting turn) (turns setting id_pool envelopes m)
      → All (λ (turn : Turn). IsLegalAfter setting pool turn) (turns setting id_pool envelopes m)
  unfolding turns operation_total
  turns_legal pool low id_pool [] m settled fit few lumens each =
      All-nil (λ (turn : Turn). IsLegalAfter setting pool turn)
  turns_legal pool low id_pool (entire ∷ others) m settled fit few lumens each =
      let Conserved = λ (turn : Turn). IsTurnConserved setting turn in
      let Fits = λ (w : TransactionEnvelope). AreFit (operations_of w) in
      let turn : Turn = record { entire = entire; id_pool = id_pool; entries = m } in
      let first = envelope_applied setting id_pool entire m in
      let sound = envelope_sound laws setting id_pool entire m settled seq (All-head Fits entire others fit) in
      let rest = turns setting first.id_pool others first.entries in
      let own = All-head Conserved turn rest each in
      let left = left_for_others id_pool (length (operations_of entire)) first.id_pool (operation_total others)
      (setting.header.id_pool + 1677721600) sound.ids.high few in
      let same = ap (λ (n : ℤ). n +ℤ pool) own.lumens ∙ lumens in
      All-cons (λ (turn : Turn). IsLegalAfter setting pool turn) turn rest
      (within pool first.id_pool first.entries low
      (drawn_few first.id_pool (operation_total others) (setting.header.id_pool + 1677721600) left) sound.left.settled
      same)
      (turns_legal pool low first.id_pool others first.entries sound.left.settled (All-tail Fits entire others fit) left
      same (All-tail Conserved turn rest each))

-- ---- the record

pub each_legal : TransactionLaws → LegalSettles → SettledLegal → EachConserves → (s : ClosingState)
    (closing : CloseRecord) → IsClosable s closing → AreEachLegal s closing
each_legal laws settles legal conserve s closing can =
    let setting = setting_in s closing in
    let closes = can_close s closing can in
    let each = conserve setting closing.tx_set s.entries closes in
    let taken = fees_sound laws settles setting closing.tx_set s.entries closes in
    let range = can.state.legal.header in
    let fees = fees_taken_of setting closing.tx_set s.entries in
    let pool = fee_pool_after setting closing.tx_set s.entries in
    record {
      fees = fees_legal laws legal setting range closes.seq (set_base_fee s.header closing.tx_set.txs)
          (envelopes_in_order closing.tx_set) s.header.fee_pool s.entries range.fee_pool can.state.legal.lumens
          each.fees;
      operations = turns_legal laws legal setting range closes.seq pool
          (add_nonnegative s.header.fee_pool _ range.fee_pool (fees_low _ _ s.entries)) s.header.id_pool
          (envelopes_in_order closing.tx_set) fees.entries taken.settled
          (set_fit laws settles setting closing.tx_set s.entries closes)
          (all_few s.header.id_pool (operation_total (envelopes_in_order closing.tx_set))
          (set_draws closing.tx_set (set_encoded closing can.encoded) can.few))
          (moved (total (held asset.Native) fees.entries) (sum_of fees.fees) (total (held asset.Native) s.entries)
          s.header.fee_pool taken.lumens ∙ can.state.legal.lumens) each.operations;
    }
