-- The order of application names indices of the set's list alone.
use Rattle.fee_rules.proofs.Prelude.{◌≡◌, ℕ, zero, suc, ◌+◌, ◌<◌, ◌≤◌, Bool, true, false, cond, List, [], ◌∷◌, length}
use Rattle.fee_rules.proofs.Prelude.{Option, Some, None, refl, sym, ap, subst, ◌∙◌, arith, All-nil, All-cons}
use Rattle.fee_rules.proofs.Prelude.{All-append, All-map, find, Ordering, TransactionEnvelope, TransactionSet, Queued}
use Rattle.fee_rules.proofs.Prelude.{Turn, at_rank, at_most_one, first_ranked, queued_of, all_queued_from, all_queued}
use Rattle.fee_rules.proofs.Prelude.{hash_of_set, turn_cmp, turn_of, turns_of, indices_in_order, apply_order_of}
use Rattle.std.proofs.Common.{All}

-- ---- what is found in a list is of the list

tail_holds : {X : Type 0} (P : X → Type 0) (x : X) (xs : List X) → All P (x ∷ xs) → All P xs
tail_holds P x xs all = λ k d within. all (suc k) d (let h = within in omega (arith, h))

found_holds : {X : Type 0} (P : X → Type 0) (p : X → Bool) (xs : List X) (x : X) → find p xs ≡ Some x → All P xs → P x
found_holds P p [] x e all = absurd (cc)
found_holds P p (y ∷ ys) x e all = by (p y) refl (λ rest. found_holds P p ys x rest (tail_holds P y ys all))
  where
    by : (b : Bool) → p y ≡ b → (find p ys ≡ Some x → P x) → P x
    by true is next =
        let same : y ≡ x = cc in
        subst P same (all 0 y (omega arith))
    by false is next = next (sym (ap (λ b. cond b (Some y) (find p ys)) is) ∙ e)

one_holds : {X : Type 0} (P : X → Type 0) (p : X → Bool) (xs : List X) (found : Option X) → find p xs ≡ found
    → All P xs → All P (at_most_one found)
one_holds P p xs None e all = All-nil P
one_holds P p xs (Some x) e all = All-cons P x [] (found_holds P p xs x e all) (All-nil P)

ranked_hold : {X : Type 0} (P : X → Type 0) (cmp : X → X → Ordering) (xs : List X) (k : ℕ) → All P xs
    → All P (first_ranked cmp xs k)
unfolding first_ranked
ranked_hold P cmp xs zero all = All-nil P
ranked_hold P cmp xs (suc k) all =
    All-append P (first_ranked cmp xs k) (at_most_one (at_rank cmp xs k)) (ranked_hold P cmp xs k all)
    (one_holds P _ xs (at_rank cmp xs k) refl all)

-- ---- the indices of a set

one_less : (index left n : ℕ) → index + suc left ≤ n → (index < n) × (index + 1 + left ≤ n)
one_less index left n le = (omega arith, omega arith)

queued_below : (n index : ℕ) (envelopes : List TransactionEnvelope) → index + length envelopes ≤ n
    → All (λ (tx : Queued). tx.index < n) (all_queued_from index envelopes)
queued_below n index [] le = All-nil (λ (tx : Queued). tx.index < n)
queued_below n index (envelope ∷ envelopes) le =
    let less = one_less index (length envelopes) n le in
    All-cons (λ (tx : Queued). tx.index < n) (queued_of index envelope) (all_queued_from (index + 1) envelopes) less.0
    (queued_below n (index + 1) envelopes less.1)

itself : (n : ℕ) → 0 + n ≤ n
itself n = omega arith

pub indices_exist : (set : TransactionSet) → All (λ index. index < length set.txs) (apply_order_of set)
unfolding indices_in_order
indices_exist set =
    let n = length set.txs in
    let txs = all_queued set.txs in
    let turns = turns_of (hash_of_set set) txs in
    All-map (λ (index : ℕ). index < n) (λ (turn : Turn). turn.index) (first_ranked turn_cmp turns (length turns))
    (ranked_hold (λ (turn : Turn). turn.index < n) turn_cmp turns (length turns)
    (All-map (λ (turn : Turn). turn.index < n) (turn_of (hash_of_set set) txs) txs
    (queued_below n 0 set.txs (itself n))))
