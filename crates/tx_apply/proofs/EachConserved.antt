-- Each fee of a set, and then each of its transactions, conserves lumens, and a set does what these do.
use Rattle.tx_apply.proofs.Prelude as prelude
use prelude.{◌≡◌, ℕ, suc, ℤ, ◌+ℤ◌, List, [], ◌∷◌, ◌++◌, length, map, flat_map, All, All-nil, All-cons, refl, ap, arith}
use prelude.{ints, TransactionEnvelope, TransactionSet, EntryMap, total, set_base_fee, Move, TransactionLaws}
use prelude.{LegalSettles, IsSettled, CanClose, Turn, turns, Step, Setting, envelope_applied, DoneSet, all_applied}
use prelude.{envelopes_in_order, fees_taken_of}
use Rattle.ledger_types.specs.declared.asset.Asset.TheVariants as asset
use Rattle.op_laws.specs.legal_rules.Supply.{held}
use Rattle.tx_apply.specs.Fees.{fee_of, fee_move, fees_taken, map_after_fee}
use Rattle.tx_apply.specs.Laws.{turn_applied}
use Rattle.tx_apply.specs.EachTransaction.{FeeTurn, fee_moved, fee_turns, IsFeeConserved, IsByTurns}
use Rattle.tx_apply.specs.EachTransaction.{AreEachConserved, EachConserves}
use Rattle.tx_apply.proofs.TakenFees.{as_many_fees, fees_conserve}
use Rattle.tx_apply.proofs.Conserving.{turns_are_conserved}

-- a fee that is taken is in the fee pool
pub moved : (after fee before pool : ℤ) → (after +ℤ fee) ≡ before → (after +ℤ (pool +ℤ fee)) ≡ (before +ℤ pool)
moved after fee before pool is = omega (arith, ints)

pub fees_conserved : TransactionLaws → (id_pool base : ℕ) (envelopes : List TransactionEnvelope) (pool : ℤ)
    (m : EntryMap) → IsSettled id_pool m
    → All (λ (turn : FeeTurn). IsFeeConserved id_pool base turn) (fee_turns base envelopes pool m)
unfolding fee_turns
fees_conserved laws id_pool base [] pool m settled = All-nil (λ (turn : FeeTurn). IsFeeConserved id_pool base turn)
fees_conserved laws id_pool base (entire ∷ others) pool m settled =
    let fee = fee_of base entire m in
    let after = map_after_fee base entire m in
    let taken = fees_conserve laws id_pool base entire m settled in
    All-cons (λ (turn : FeeTurn). IsFeeConserved id_pool base turn)
    (record { entire = entire; fee_pool = pool; entries = m }) (fee_turns base others (pool +ℤ fee) after)
    (record {
      lumens = moved (total (held asset.Native) after) fee (total (held asset.Native) m) pool taken.lumens;
      taken = taken;
    })
    (fees_conserved laws id_pool base others (pool +ℤ fee) after taken.settled)

-- ---- the set by its transactions

fees_by_turns : (base : ℕ) (envelopes : List TransactionEnvelope) (pool : ℤ) (m : EntryMap)
    → (fees_taken base envelopes m).moves ≡ map (fee_moved base) (fee_turns base envelopes pool m)
unfolding fees_taken fee_turns
fees_by_turns base [] pool m = refl
fees_by_turns base (entire ∷ others) pool m =
    let fee = fee_of base entire m in
    ap (λ (moves : List Move). fee_move entire fee ∷ moves)
    (fees_by_turns base others (pool +ℤ fee) (map_after_fee base entire m))

-- all that transactions move, and all operations that they run
record AreByTurns (setting : Setting) (done : DoneSet) (all : List Turn) : Type 0 where
  moves : done.moves ≡ flat_map (λ turn. (turn_applied setting turn).moves) all
  steps : done.steps ≡ flat_map (λ turn. (turn_applied setting turn).steps) all

one_fee_more : {n k : ℕ} → suc n ≡ suc k → n ≡ k
one_fee_more many = omega (arith, many)

by_turns : (setting : Setting) (id_pool : ℕ) (envelopes : List TransactionEnvelope) (fees : List ℤ) (m : EntryMap)
    → length fees ≡ length envelopes
    → AreByTurns setting (all_applied setting id_pool envelopes fees m) (turns setting id_pool envelopes m)
unfolding all_applied turns
by_turns setting id_pool [] fees m many = record { moves = refl; steps = refl }
by_turns setting id_pool (entire ∷ others) [] m many = absurd (omega (arith, many))
by_turns setting id_pool (entire ∷ others) (fee ∷ fees) m many =
    let first = envelope_applied setting id_pool entire m in
    let rest = by_turns setting first.id_pool others fees first.entries (one_fee_more many) in
    record {
      moves = ap (λ (moves : List Move). first.moves ++ moves) rest.moves;
      steps = ap (λ (steps : List Step). first.steps ++ steps) rest.steps;
    }

set_by_turns : (setting : Setting) (set : TransactionSet) (m : EntryMap) → IsByTurns setting set m
set_by_turns setting set m =
    let base = set_base_fee setting.header set.txs in
    let taken = fees_taken_of setting set m in
    let all = by_turns setting setting.header.id_pool (envelopes_in_order set) taken.fees taken.entries
    (as_many_fees base (envelopes_in_order set) m) in
    record {
      fees = fees_by_turns base (envelopes_in_order set) setting.header.fee_pool m;
      moves = all.moves;
      steps = all.steps;
    }

-- ---- each transaction

pub each_conserved : TransactionLaws → LegalSettles → (setting : Setting) (set : TransactionSet) (m : EntryMap)
    → CanClose setting set m → AreEachConserved setting set m
each_conserved laws settles setting set m can = record {
  turns = set_by_turns setting set m;
  fees = fees_conserved laws setting.header.id_pool (set_base_fee setting.header set.txs) (envelopes_in_order set)
      setting.header.fee_pool m (settles setting.header m can.legal);
  operations = turns_are_conserved laws settles setting set m can;
}

pub each_conserves : TransactionLaws → LegalSettles → EachConserves
each_conserves laws settles setting set m can = each_conserved laws settles setting set m can
