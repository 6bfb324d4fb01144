-- Complete sets: what they leave is settled, by the moves that they list, and their operations are lawful.
use Rattle.tx_apply.proofs.Prelude as prelude
use prelude.{◌≡◌, ℕ, suc, ◌<◌, ℤ, pos, ◌+ℤ◌, ◌-ℤ◌, List, [], ◌∷◌, All, Option, Some, None, refl, ap, subst, ◌∙◌, arith}
use prelude.{length, ints, All-nil, All-cons, All-append, slice_get_within, get_or_from_slice_get, slice_get}
use prelude.{TransactionEnvelope, TransactionSet, EntryMap, set_base_fee, at_most_one, apply_order_of, IsLawful, issued}
use prelude.{TransactionLaws, LegalSettles, IsSettled, LeavesSettled, AreDrawn, none_drawn, lumens_not_issued}
use prelude.{operations_of, operation_total, AreFit, AreAllFit, AreLawful, CanClose, TransactionsConserve, Turn, turns}
use prelude.{turns_of, IsTurnConserved, TurnsConserve, IsConserved, SetsConserve, OperationsAreLawful, envelopes_at}
use prelude.{Step, Setting, envelope_applied, DoneSet, none_applied, all_applied, envelopes_in_order, fees_taken_of}
use prelude.{set_done, fee_pool_after}
use Rattle.ledger_types.specs.declared.asset.Asset.TheVariants as asset
use Rattle.op_laws.proofs.legal_rules_proofs.Legality.{owing_nothing}
use Rattle.tx_apply.proofs.TakenFees.{AreTaken, all_taken, described_all, all_described_twice}
use Rattle.tx_apply.proofs.Settling.{leaves_itself, leaves_twice, no_steps, drawn_twice}
use Rattle.tx_apply.proofs.Sound.{envelope_sound}

-- ---- what holds of all of a list holds of those at indices

one_at : {X : Type 0} (P : X → Type 0) (xs : List X) (index : ℕ) (found : Option X) → slice_get xs index ≡ found
    → All P xs → All P (at_most_one found)
one_at P xs index None e all = All-nil P
one_at P xs index (Some x) e all =
    All-cons P x [] (subst P (get_or_from_slice_get xs index x x e) (all index x (slice_get_within xs index x e)))
    (All-nil P)

pub all_at : (P : TransactionEnvelope → Type 0) (envelopes : List TransactionEnvelope) (indices : List ℕ)
    → All P envelopes → All P (envelopes_at envelopes indices)
unfolding envelopes_at
all_at P envelopes [] all = All-nil P
all_at P envelopes (index ∷ indices) all =
    All-append P (at_most_one (slice_get envelopes index)) (envelopes_at envelopes indices)
    (one_at P envelopes index (slice_get envelopes index) refl all) (all_at P envelopes indices all)

-- ---- the transactions

first_of : (P : TransactionEnvelope → Type 0) (entire : TransactionEnvelope) (others : List TransactionEnvelope)
    → All P (entire ∷ others) → P entire
first_of P entire others all = all 0 entire (omega arith)

rest_of : (P : TransactionEnvelope → Type 0) (entire : TransactionEnvelope) (others : List TransactionEnvelope)
    → All P (entire ∷ others) → All P others
rest_of P entire others all = λ k d within. all (suc k) d (let h = within in omega (arith, h))

pub record AreSound (count first : ℕ) (m : EntryMap) (done : DoneSet) : Type 0 where
  pub ids : AreDrawn count first done.id_pool
  pub left : LeavesSettled done.id_pool m done.entries done.moves
  pub steps : AreLawful done.steps

none_sound : (count id_pool : ℕ) (m : EntryMap) → IsSettled id_pool m
    → AreSound count id_pool m (none_applied id_pool m)
none_sound count id_pool m settled = record {
  ids = none_drawn count id_pool id_pool refl;
  left = leaves_itself id_pool m settled;
  steps = no_steps;
}

none_added : (after before moved : ℤ) → after ≡ (before +ℤ moved) → moved ≡ pos 0 → after ≡ before
none_added after before moved is none = omega (arith, ints)

module _ (laws : TransactionLaws) (setting : Setting) (seq : setting.header.ledger_seq < 2147483647) where
  pub all_sound : (id_pool : ℕ) (envelopes : List TransactionEnvelope) (fees : List ℤ) (m : EntryMap)
      → IsSettled id_pool m → AreAllFit envelopes
      → AreSound (operation_total envelopes) id_pool m (all_applied setting id_pool envelopes fees m)
  unfolding all_applied operation_total
  all_sound id_pool [] fees m settled fit = none_sound 0 id_pool m settled
  all_sound id_pool (entire ∷ others) [] m settled fit = none_sound _ id_pool m settled
  all_sound id_pool (entire ∷ others) (fee ∷ fees) m settled fit =
      let P = λ (w : TransactionEnvelope). AreFit (operations_of w) in
      let first = envelope_applied setting id_pool entire m in
      let sound = envelope_sound laws setting id_pool entire m settled seq (first_of P entire others fit) in
      let rest = all_sound first.id_pool others fees first.entries sound.left.settled (rest_of P entire others fit) in
      let after = all_applied setting first.id_pool others fees first.entries in
      record {
        ids = drawn_twice (length (operations_of entire)) (operation_total others) id_pool first.id_pool after.id_pool
            sound.ids rest.ids;
        left = leaves_twice first.id_pool after.id_pool m first.entries after.entries first.moves after.moves sound.left
            rest.left;
        steps = All-append (λ (step : Step). IsLawful step.ctx step.entries step.done) first.steps after.steps
            sound.steps rest.steps;
      }

  -- ---- each transaction

  pub turns_conserved : (id_pool : ℕ) (envelopes : List TransactionEnvelope) (m : EntryMap) → IsSettled id_pool m
      → AreAllFit envelopes → All (λ (turn : Turn). IsTurnConserved setting turn) (turns setting id_pool envelopes m)
  unfolding turns
  turns_conserved id_pool [] m settled fit = All-nil (λ (turn : Turn). IsTurnConserved setting turn)
  turns_conserved id_pool (entire ∷ others) m settled fit =
      let P = λ (w : TransactionEnvelope). AreFit (operations_of w) in
      let first = envelope_applied setting id_pool entire m in
      let sound = envelope_sound laws setting id_pool entire m settled seq (first_of P entire others fit) in
      All-cons (λ (turn : Turn). IsTurnConserved setting turn)
      (record { entire = entire; id_pool = id_pool; entries = m }) (turns setting first.id_pool others first.entries)
      (record {
        lumens = none_added _ _ _ (sound.left.supply asset.Native) (lumens_not_issued first.moves);
        leaves = sound.left;
      })
      (turns_conserved first.id_pool others first.entries sound.left.settled (rest_of P entire others fit))

pub transactions_conserve : TransactionLaws → TransactionsConserve
transactions_conserve laws setting id_pool entire m settled seq fit =
    (envelope_sound laws setting id_pool entire m settled seq fit).left

-- ---- the set

all_lumens : (last between none first pool sum coins : ℤ) → last ≡ (between +ℤ none) → none ≡ pos 0
    → (between +ℤ sum) ≡ first → first ≡ (coins -ℤ pool) → (last +ℤ (pool +ℤ sum)) ≡ coins
all_lumens last between none first pool sum coins e nothing h g = omega (arith, ints)

module _ (laws : TransactionLaws) (settles : LegalSettles) (setting : Setting) (set : TransactionSet) (m : EntryMap)
    (can : CanClose setting set m) where
  pub fees_sound : AreTaken setting.header.id_pool m (fees_taken_of setting set m)
  fees_sound = all_taken laws setting.header.id_pool (set_base_fee setting.header set.txs) (envelopes_in_order set)
      m
      (settles setting.header m can.legal)

  pub set_fit : AreAllFit (envelopes_in_order set)
  set_fit = all_at (λ (w : TransactionEnvelope). AreFit (operations_of w)) set.txs (apply_order_of set) can.fit

  sound : AreSound (operation_total (envelopes_in_order set)) setting.header.id_pool
      (fees_taken_of setting set m).entries (set_done setting set m)
  sound = all_sound laws setting can.seq setting.header.id_pool (envelopes_in_order set)
      (fees_taken_of setting set m).fees (fees_taken_of setting set m).entries fees_sound.settled
      set_fit

  pub set_conserved : IsConserved setting set m
  set_conserved = record {
    settled = sound.left.settled;
    ids = sound.ids;
    lumens = all_lumens _ _ _ _ _ _ _ (sound.left.supply asset.Native)
        (lumens_not_issued (set_done setting set m).moves) fees_sound.lumens
        (owing_nothing setting.header m can.legal).supply;
    supply = λ x apart. sound.left.supply x
        ∙ ap (λ (n : ℤ). n +ℤ issued x (set_done setting set m).moves) (fees_sound.others x apart);
    described =
        let fees = fees_taken_of setting set m in
        let applied = set_done setting set m in
        let pool = fee_pool_after setting set m in
        all_described_twice setting.header.fee_pool m pool fees.entries pool applied.entries fees.moves applied.moves
        (fees_sound.described setting.header.fee_pool)
        (described_all pool fees.entries applied.entries applied.moves sound.left.described);
  }

  pub turns_are_conserved : All (λ (turn : Turn). IsTurnConserved setting turn) (turns_of setting set m)
  turns_are_conserved = turns_conserved laws setting can.seq setting.header.id_pool (envelopes_in_order set)
      (fees_taken_of setting set m).entries fees_sound.settled set_fit

  pub set_lawful : AreLawful (set_done setting set m).steps
  set_lawful = sound.steps

pub sets_conserve : TransactionLaws → LegalSettles → SetsConserve
sets_conserve laws settles setting set m can = set_conserved laws settles setting set m can

pub turns_conserve : TransactionLaws → LegalSettles → TurnsConserve
turns_conserve laws settles setting set m can = turns_are_conserved laws settles setting set m can

pub operations_are_lawful : TransactionLaws → LegalSettles → OperationsAreLawful
operations_are_lawful laws settles setting set m can = set_lawful laws settles setting set m can
