-- The transactions that are left.
use Rattle.tx_apply.proofs.Prelude.{◌≡◌, ℕ, ◌+◌, ◌<◌, ◌≤◌, ℤ, List, [], ◌∷◌, ◌++◌, length, get_or, drop, refl, sym, ap}
use Rattle.tx_apply.proofs.Prelude.{subst, ◌∙◌, append_assoc, append-nil, drop_more, drop_all, TransactionEnvelope}
use Rattle.tx_apply.proofs.Prelude.{EntryMap, Undo, with_current, IsSettled, envelopes_at, Applied, Setting}
use Rattle.tx_apply.proofs.Prelude.{envelope_applied, result_pair, DoneSet, none_applied, after_transaction}
use Rattle.tx_apply.proofs.Prelude.{all_applied}
use Rattle.op_types.specs.declared.transaction_result.TransactionResultPair.{TransactionResultPair}
use Rattle.tx_apply.proofs.Placed.{first_left}

-- so far: the results and those that are left make up all of them, and so do the entries and the ids
pub record SoFar (setting : Setting) (first_id : ℕ) (envelopes : List TransactionEnvelope) (order : List ℕ)
    (fees : List ℤ) (first described : List TransactionResultPair) (old now : Undo) (id_pool : ℕ) (i : ℕ)
    : Type 0 where
  pub results : described
      ++ (all_applied setting id_pool (envelopes_at envelopes (drop i order)) (drop i fees) now.current).results
      ≡ first ++ (all_applied setting first_id (envelopes_at envelopes order) fees old.current).results
  pub entries : (all_applied setting id_pool (envelopes_at envelopes (drop i order)) (drop i fees)
      now.current).entries
      ≡ (all_applied setting first_id (envelopes_at envelopes order) fees old.current).entries
  pub ids : (all_applied setting id_pool (envelopes_at envelopes (drop i order)) (drop i fees)
      now.current).id_pool
      ≡ (all_applied setting first_id (envelopes_at envelopes order) fees old.current).id_pool
  pub undo : now ≡ with_current old now.current
  pub settled : IsSettled id_pool now.current

later : (setting : Setting) (id_pool : ℕ) (envelope : TransactionEnvelope) (fee : ℤ)
    (left : List TransactionEnvelope) (fees : List ℤ) (m : EntryMap)
    → all_applied setting id_pool (envelope ∷ left) (fee ∷ fees) m
    ≡ after_transaction (result_pair setting envelope fee (envelope_applied setting id_pool envelope m).outcome)
    (envelope_applied setting id_pool envelope m)
    (all_applied setting (envelope_applied setting id_pool envelope m).id_pool left fees
    (envelope_applied setting id_pool envelope m).entries)
unfolding all_applied
later setting id_pool envelope fee left fees m = refl

-- what is left begins with one transaction
one_left : (setting : Setting) (id_pool : ℕ) (envelopes : List TransactionEnvelope) (order : List ℕ)
    (fees : List ℤ) (i : ℕ) (envelope : TransactionEnvelope) (fee : ℤ) (m : EntryMap) → i < length order
    → i < length fees → get_or order i 0 < length envelopes
    → envelope ≡ get_or envelopes (get_or order i 0) envelope → fee ≡ get_or fees i fee
    → all_applied setting id_pool (envelopes_at envelopes (drop i order)) (drop i fees) m
    ≡ after_transaction (result_pair setting envelope fee (envelope_applied setting id_pool envelope m).outcome)
    (envelope_applied setting id_pool envelope m)
    (all_applied setting (envelope_applied setting id_pool envelope m).id_pool
    (envelopes_at envelopes (drop (i + 1) order)) (drop (i + 1) fees)
    (envelope_applied setting id_pool envelope m).entries)
one_left setting id_pool envelopes order fees i envelope fee m within inside there e at =
    ap (λ (left : List TransactionEnvelope). all_applied setting id_pool left (drop i fees) m)
    (first_left envelopes order i envelope within there
    ∙ ap (λ (x : TransactionEnvelope). x ∷ envelopes_at envelopes (drop (i + 1) order)) (sym e))
    ∙ ap (λ (cs : List ℤ). all_applied setting id_pool
    (envelope ∷ envelopes_at envelopes (drop (i + 1) order)) cs m)
    (drop_more fees i fee inside ∙ ap (λ (c : ℤ). c ∷ drop (i + 1) fees) (sym at))
    ∙ later setting id_pool envelope fee (envelopes_at envelopes (drop (i + 1) order)) (drop (i + 1) fees) m

-- one transaction more
pub step : (setting : Setting) (first_id : ℕ) (envelopes : List TransactionEnvelope) (order : List ℕ)
    (fees : List ℤ) (first results : List TransactionResultPair) (old now : Undo) (id_pool : ℕ) (i : ℕ)
    (envelope : TransactionEnvelope) (fee : ℤ) (after : Undo)
    → SoFar setting first_id envelopes order fees first results old now id_pool i → i < length order
    → i < length fees → get_or order i 0 < length envelopes
    → envelope ≡ get_or envelopes (get_or order i 0) envelope → fee ≡ get_or fees i fee
    → after ≡ with_current now (envelope_applied setting id_pool envelope now.current).entries
    → IsSettled (envelope_applied setting id_pool envelope now.current).id_pool
    (envelope_applied setting id_pool envelope now.current).entries
    → SoFar setting first_id envelopes order fees first
    (results ++ result_pair setting envelope fee
    (envelope_applied setting id_pool envelope now.current).outcome ∷ []) old after
    (envelope_applied setting id_pool envelope now.current).id_pool (i + 1)
step setting first_id envelopes order fees first results old now id_pool i envelope fee after so_far within inside
    there e at is settled = record {
      results = append_assoc results (pair ∷ []) (left after.current).results
          ∙ ap (λ (s : DoneSet). results ++ s.results) (sym one_after) ∙ so_far.results;
      entries = ap (λ (s : DoneSet). s.entries) (sym one_after) ∙ so_far.entries;
      ids = ap (λ (s : DoneSet). s.id_pool) (sym one_after) ∙ so_far.ids;
      undo = is ∙ ap (λ (u : Undo). with_current u done.entries) so_far.undo
          ∙ ap (λ (m : EntryMap). with_current old m) (sym same);
      settled = subst (IsSettled done.id_pool) (sym same) settled;
    }
  where
    done : Applied
    done = envelope_applied setting id_pool envelope now.current

    pair : TransactionResultPair
    pair = result_pair setting envelope fee done.outcome

    left : EntryMap → DoneSet
    left m = all_applied setting done.id_pool (envelopes_at envelopes (drop (i + 1) order))
        (drop (i + 1) fees) m

    same : after.current ≡ done.entries
    same = ap (λ (u : Undo). u.current) is

    one_after : all_applied setting id_pool (envelopes_at envelopes (drop i order)) (drop i fees) now.current
        ≡ after_transaction pair done (left after.current)
    one_after = one_left setting id_pool envelopes order fees i envelope fee now.current within inside there e at
        ∙ ap (λ (m : EntryMap). after_transaction pair done (left m)) (sym same)

-- the same, by what the transaction left
pub step_to : (setting : Setting) (first_id : ℕ) (envelopes : List TransactionEnvelope) (order : List ℕ)
    (fees : List ℤ) (first described : List TransactionResultPair) (old now : Undo) (id_pool : ℕ) (i : ℕ)
    (envelope : TransactionEnvelope) (fee : ℤ) (after : Undo) (described_after : List TransactionResultPair)
    (id_pool_after : ℕ) → SoFar setting first_id envelopes order fees first described old now id_pool i
    → i < length order → i < length fees → get_or order i 0 < length envelopes
    → envelope ≡ get_or envelopes (get_or order i 0) envelope → fee ≡ get_or fees i fee
    → after ≡ with_current now (envelope_applied setting id_pool envelope now.current).entries
    → described_after ≡ described ++ result_pair setting envelope fee
    (envelope_applied setting id_pool envelope now.current).outcome ∷ []
    → id_pool_after ≡ (envelope_applied setting id_pool envelope now.current).id_pool
    → IsSettled (envelope_applied setting id_pool envelope now.current).id_pool
    (envelope_applied setting id_pool envelope now.current).entries
    → SoFar setting first_id envelopes order fees first described_after old after id_pool_after (i + 1)
step_to setting first_id envelopes order fees first described old now id_pool i envelope fee after described_after
    id_pool_after so_far within inside there e at is listed drawn settled =
    let done = envelope_applied setting id_pool envelope now.current in
    let pair = result_pair setting envelope fee done.outcome in
    subst (λ (ps : List TransactionResultPair). SoFar setting first_id envelopes order fees first ps old after
    id_pool_after (i + 1)) (sym listed)
    (subst (λ (n : ℕ). SoFar setting first_id envelopes order fees first (described ++ pair ∷ []) old after n (i + 1))
    (sym drawn)
    (step setting first_id envelopes order fees first described old now id_pool i envelope fee after so_far within
    inside there e at is settled))

-- nothing is left after the last index
nothing_left : (setting : Setting) (id_pool : ℕ) (envelopes : List TransactionEnvelope) (order : List ℕ)
    (fees : List ℤ) (i : ℕ) (m : EntryMap) → length order ≤ i
    → all_applied setting id_pool (envelopes_at envelopes (drop i order)) fees m ≡ none_applied id_pool m
unfolding all_applied envelopes_at
nothing_left setting id_pool envelopes order fees i m past =
    ap (λ (indices : List ℕ). all_applied setting id_pool (envelopes_at envelopes indices) fees m)
    (drop_all i order past)

-- all are applied
pub record IsFinished (setting : Setting) (envelopes : List TransactionEnvelope) (order : List ℕ) (fees : List ℤ)
    (first_id : ℕ) (first described : List TransactionResultPair) (old now : Undo) (id_pool : ℕ) : Type 0 where
  pub results : described
      ≡ first ++ (all_applied setting first_id (envelopes_at envelopes order) fees old.current).results
  pub entries : now
      ≡ with_current old (all_applied setting first_id (envelopes_at envelopes order) fees old.current).entries
  pub ids : id_pool ≡ (all_applied setting first_id (envelopes_at envelopes order) fees old.current).id_pool

pub finished : (setting : Setting) (first_id : ℕ) (envelopes : List TransactionEnvelope) (order : List ℕ)
    (fees : List ℤ) (first described : List TransactionResultPair) (old now : Undo) (id_pool : ℕ) (i : ℕ)
    → SoFar setting first_id envelopes order fees first described old now id_pool i → length order ≤ i
    → IsFinished setting envelopes order fees first_id first described old now id_pool
finished setting first_id envelopes order fees first described old now id_pool i so_far past =
    let none = nothing_left setting id_pool envelopes order (drop i fees) i now.current past in
    record {
      results = sym (append-nil described) ∙ ap (λ (s : DoneSet). described ++ s.results) (sym none) ∙ so_far.results;
      entries = so_far.undo ∙ ap (λ (m : EntryMap). with_current old m)
          (ap (λ (s : DoneSet). s.entries) (sym none) ∙ so_far.entries);
      ids = ap (λ (s : DoneSet). s.id_pool) (sym none) ∙ so_far.ids;
    }
