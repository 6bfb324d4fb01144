-- The rank in a queue, by the index where the run of its source begins.
use Rattle.fee_rules.proofs.Prelude as prelude
use prelude.{◌≡◌, ◌≢◌, ℕ, ◌+◌, ◌-◌, ◌<◌, ◌≤◌, Bool, true, false, ◌&&◌, List, length, get_or, refl, ap, ◌∙◌, sym, subst}
use prelude.{arith, ◌⊎◌, inl, inr, IsDistinct, IsSorted, Ordering, Less, Equal, Greater, is_lt, is_eq, eq_by_cmp}
use prelude.{ordering_then, ordering_reverse, nat_cmp, IsTotalOrder, sorted_far, ranks_by, apart_from_distinct}
use prelude.{nat_cmp_total, leb, suc, cond, [], ◌∷◌, ◌++◌, map, take, map-append, Hash, account_cmp, Queued, Turn}
use prelude.{queue_cmp, queued_cmp, is_ahead, queue_rank, no_tx, at, IsRun, turn_of, mixed_hash, Equal-is}
use Rattle.std.specs.Cmp.Lexicographic.{lists_total, slice_cmp}
use Rattle.std.proofs.lemmas.Bool.Decides.{leb_tells}
use Rattle.std.proofs.Math.Seq.{take-suc}
use Rattle.ledger_types.specs.declared.ids.AccountId.{AccountId}
use Rattle.fee_rules.proofs.Counting.{must_be_less, middle_counted}
use Rattle.fee_rules.proofs.Orders.{queued_total}
use Rattle.ledger_types.proofs.KeyOrdering.{account_cmp_itself, exact_accounts}

bytes_total : IsTotalOrder (λ (a b : List ℕ). slice_cmp nat_cmp a b)
bytes_total = lists_total nat_cmp_total

-- ---- a source and a queue

ahead_false : (s q : Ordering) → is_lt (ordering_then s q) ≡ false → (is_eq s && is_lt q) ≡ false
ahead_false Less q h = refl
ahead_false Equal q h = h
ahead_false Greater q h = refl

ahead_true : (s q : Ordering) → s ≡ Equal → is_lt (ordering_then s q) ≡ true → (is_eq s && is_lt q) ≡ true
ahead_true Less q e h = absurd (cc)
ahead_true Equal q e h = h
ahead_true Greater q e h = absurd (cc)

ahead_apart : (s q : Ordering) → s ≢ Equal → (is_eq s && is_lt q) ≡ false
ahead_apart Less q differ = refl
ahead_apart Equal q differ = absurd (differ refl)
ahead_apart Greater q differ = refl

source_first : (s q : Ordering) → is_lt (ordering_then s q) ≡ false → is_lt s ≡ false
source_first Less q h = h
source_first Equal q h = refl
source_first Greater q h = refl

neither_less : (s t : Ordering) → s ≡ ordering_reverse t → is_lt s ≡ false → is_lt t ≡ false → s ≡ Equal
neither_less Less t e h g = absurd (cc)
neither_less Equal t e h g = refl
neither_less Greater Less e h g = absurd (cc)
neither_less Greater Equal e h g = absurd (cc)
neither_less Greater Greater e h g = absurd (cc)

not_equal : (r : Ordering) → is_eq r ≡ false → r ≡ Equal → ⊥
not_equal Less h e = cc
not_equal Equal h e = cc
not_equal Greater h e = cc

differs : (a b : AccountId) (r : Ordering) → account_cmp a b ≡ r → is_eq r ≡ false → a ≢ b
differs a b r e h = λ s. not_equal r h (sym e ∙ subst (λ x. account_cmp a x ≡ Equal) s (account_cmp_itself a))

-- ---- ranks

-- the rank is how far the run of its source has come
pub rank_is : (txs : List Queued) (start i : ℕ) (d : Queued) → IsSorted queued_cmp txs
    → IsDistinct (eq_by_cmp queued_cmp) txs → start ≤ i → i < length txs
    → ((j : ℕ) → start ≤ j → j < i → (get_or txs j d).source ≡ (get_or txs i d).source)
    → ((j : ℕ) → j < start → (get_or txs j d).source ≢ (get_or txs i d).source)
    → queue_rank txs (get_or txs i d) ≡ i - start
rank_is txs start i d sorted apart le within same before =
    let tx = get_or txs i d in
    let far = sorted_far (λ x y. is_lt (queued_cmp x y)) (ranks_by queued_total (λ x. x)) txs sorted in
    middle_counted (λ other. is_ahead other tx) d txs start i le (omega arith)
    (λ j h. ahead_apart (account_cmp (get_or txs j d).source tx.source) (queue_cmp (get_or txs j d) tx)
    (λ e. before j h (exact_accounts _ _ e)))
    (λ j h g. ahead_true (account_cmp (get_or txs j d).source tx.source) (queue_cmp (get_or txs j d) tx)
    (subst (λ s. account_cmp (get_or txs j d).source s ≡ Equal) (same j h g)
    (account_cmp_itself (get_or txs j d).source))
    (must_be_less _ _ (queued_total.antisymm (get_or txs j d) tx) (far j i d (omega arith) within)
    (apart_from_distinct (eq_by_cmp queued_cmp) txs j i d apart g within)))
    (λ j h g. ahead_false (account_cmp (get_or txs j d).source tx.source) (queue_cmp (get_or txs j d) tx)
    (far i j d h g))

-- two indices of one source with no other source between them
sandwiched : (txs : List Queued) (j start i : ℕ) → IsSorted queued_cmp txs → j ≤ start → start ≤ i → i < length txs
    → (at txs j).source ≡ (at txs i).source
    → (at txs start).source ≡ (at txs i).source
sandwiched txs j start i sorted low high within e =
    let far = sorted_far (λ x y. is_lt (queued_cmp x y)) (ranks_by queued_total (λ x. x)) txs sorted in
    let a = (at txs start).source in
    let b = (at txs i).source in
    let first : is_lt (account_cmp a (at txs j).source)
    ≡ false = source_first _ (queue_cmp (at txs start) (at txs j)) (far j start no_tx low (omega arith)) in
    let second : is_lt (account_cmp b a)
    ≡ false = source_first _ (queue_cmp (at txs i) (at txs start)) (far start i no_tx high within) in
    exact_accounts a b (neither_less (account_cmp a b) (account_cmp b a) (bytes_total.antisymm a.0 b.0)
    (subst (λ s. is_lt (account_cmp a s) ≡ false) e first) second)

-- where another source begins at i, no earlier index has its source
earlier : (txs : List Queued) (start i : ℕ) → IsSorted queued_cmp txs → start ≤ i → i < length txs → IsRun txs start i
    → (at txs start).source ≢ (at txs i).source
    → (j : ℕ) → j < i → ((leb start j ≡ true) × (start ≤ j)) ⊎ ((leb start j ≡ false) × (j < start))
    → (at txs j).source ≢ (at txs i).source
earlier txs start i sorted le within run differ j h (inl g) = λ e. differ (sym (run.same j g.1 h) ∙ e)
earlier txs start i sorted le within run differ j h (inr g) = λ e. differ
    (sandwiched txs j start i sorted (omega (arith, g.1)) le within e)

-- ---- one turn more

pub record SoFar (set_hash : Hash) (txs : List Queued) (turns : List Turn) (start i : ℕ) : Type 0 where
  pub done : turns ≡ map (turn_of set_hash txs) (take i txs)
  pub low : start ≤ i
  pub run : IsRun txs start i

one_more : (set_hash : Hash) (txs : List Queued) (turns : List Turn) (start i : ℕ) (tx : Queued)
    → IsSorted queued_cmp txs → IsDistinct (eq_by_cmp queued_cmp) txs → i < length txs → tx ≡ at txs i → start ≤ i
    → ((j : ℕ) → start ≤ j → j < i → (at txs j).source ≡ (at txs i).source)
    → ((j : ℕ) → j < start → (at txs j).source ≢ (at txs i).source) → turns ≡ map (turn_of set_hash txs) (take i txs)
    → turns ++ record { queue_rank = i - start; mixed = mixed_hash tx.full_hash set_hash; index = tx.index } ∷ []
    ≡ map (turn_of set_hash txs) (take (i + 1) txs)
one_more set_hash txs turns start i tx sorted apart within there le same before done =
    let rank : queue_rank txs (at txs i) ≡ i - start = rank_is txs start i no_tx sorted apart le within same before in
    let next : suc i ≡ i + 1 = omega arith in
    let turn : record { queue_rank = i - start; mixed = mixed_hash tx.full_hash set_hash; index = tx.index }
    ≡ turn_of set_hash txs
    (at txs i) = λ k. record
    { queue_rank = sym rank k; mixed = mixed_hash (there k).full_hash set_hash; index = (there k).index } in
    ap (λ ts. ts ++ record { queue_rank = i - start; mixed = mixed_hash tx.full_hash set_hash; index = tx.index } ∷ [])
    done
    ∙ ap (λ (t : Turn). map (turn_of set_hash txs) (take i txs) ++ t ∷ []) turn
    ∙ sym (map-append (turn_of set_hash txs) (take i txs) (at txs i ∷ []))
    ∙ ap (map (turn_of set_hash txs)) (sym (take-suc txs i no_tx within))
    ∙ ap (λ n. map (turn_of set_hash txs) (take n txs)) next

same_there : (txs : List Queued) (start i : ℕ) → IsRun txs start i → (at txs start).source ≡ (at txs i).source → (j : ℕ)
    → start ≤ j → j < i → (at txs j).source ≡ (at txs i).source
same_there txs start i run e j h g = run.same j h g ∙ e

longer : (txs : List Queued) (start i : ℕ) → IsRun txs start i → (at txs start).source ≡ (at txs i).source → (j : ℕ)
    → start ≤ j → j < i + 1
    → ((leb i j ≡ true) × (i ≤ j)) ⊎ ((leb i j ≡ false) × (j < i)) → (at txs j).source ≡ (at txs start).source
longer txs start i run e j h g (inl t) = let last : j ≡ i = omega (arith, t.1) in ap (λ k. (at txs k).source) last
    ∙ sym e
longer txs start i run e j h g (inr t) = run.same j h t.1

alone : (txs : List Queued) (i j : ℕ) → i ≤ j → j < i + 1 → (at txs j).source ≡ (at txs i).source
alone txs i j h g = let last : j ≡ i = omega arith in ap (λ k. (at txs k).source) last

step_by : (set_hash : Hash) (txs : List Queued) (turns : List Turn) (start i : ℕ) (first tx : Queued) (r : Ordering)
    → IsSorted queued_cmp txs → IsDistinct (eq_by_cmp queued_cmp) txs → i < length txs
    → first ≡ at txs start → tx ≡ at txs i → SoFar set_hash txs turns start i → account_cmp first.source tx.source ≡ r
    → is_eq r ≡ true
    → SoFar set_hash txs (turns
    ++ record { queue_rank = i - start; mixed = mixed_hash tx.full_hash set_hash; index = tx.index } ∷ []) start (i + 1)
step_by set_hash txs turns start i first tx r sorted apart within at_start at_i far e is =
    let equal : account_cmp first.source tx.source ≡ Equal = e ∙ (Equal-is r).0 is in
    let one : (at txs start).source ≡ (at txs i).source = ap (λ (q : Queued). q.source) (sym at_start)
    ∙ exact_accounts first.source tx.source equal ∙ ap (λ (q : Queued). q.source) at_i in
    record {
      done = one_more set_hash txs turns start i tx sorted apart within at_i far.low
          (same_there txs start i far.run one) (λ j h. λ s. far.run.before j h (s ∙ sym one)) far.done;
      low = (let low = far.low in omega arith);
      run = record { same = λ j h g. longer txs start i far.run one j h g (leb_tells i j); before = far.run.before };
    }

step_fresh : (set_hash : Hash) (txs : List Queued) (turns : List Turn) (start i : ℕ) (first tx : Queued) (r : Ordering)
    → IsSorted queued_cmp txs → IsDistinct (eq_by_cmp queued_cmp) txs → i < length txs
    → first ≡ at txs start → tx ≡ at txs i → SoFar set_hash txs turns start i → account_cmp first.source tx.source ≡ r
    → is_eq r ≡ false
    → SoFar set_hash txs (turns
    ++ record { queue_rank = i - i; mixed = mixed_hash tx.full_hash set_hash; index = tx.index } ∷ []) i (i + 1)
step_fresh set_hash txs turns start i first tx r sorted apart within at_start at_i far e is =
    let other : first.source ≢ tx.source = differs first.source tx.source r e is in
    let apart_there : (at txs start).source ≢ (at txs i).source = λ s. other
    (ap (λ (q : Queued). q.source) at_start ∙ s ∙ ap (λ (q : Queued). q.source) (sym at_i)) in
    let before = λ (j : ℕ) (h : j < i). earlier txs start i sorted far.low within far.run apart_there j h
    (leb_tells start j) in
    record {
      done = one_more set_hash txs turns i i tx sorted apart within at_i (omega arith)
          (λ j h g. absurd (omega arith)) before far.done;
      low = omega arith;
      run = record { same = λ j h g. alone txs i j h g; before = before };
    }

-- the invariant after one turn more
pub step : (set_hash : Hash) (txs : List Queued) (turns : List Turn) (start i : ℕ) (first tx : Queued) (r : Ordering)
    → IsSorted queued_cmp txs → IsDistinct (eq_by_cmp queued_cmp) txs → i < length txs
    → first ≡ at txs start → tx ≡ at txs i → SoFar set_hash txs turns start i → account_cmp first.source tx.source ≡ r
    → SoFar set_hash txs (turns
    ++ record { queue_rank = i - cond (is_eq r) start i; mixed = mixed_hash tx.full_hash set_hash; index = tx.index } ∷
    []) (cond (is_eq r) start i) (i + 1)
step set_hash txs turns start i first tx Less sorted apart within at_start at_i far e = step_fresh set_hash txs turns
    start i first tx Less sorted apart within at_start at_i far e refl
step set_hash txs turns start i first tx Equal sorted apart within at_start at_i far e = step_by set_hash txs turns
    start i first tx Equal sorted apart within at_start at_i far e refl
step set_hash txs turns start i first tx Greater sorted apart within at_start at_i far e = step_fresh set_hash txs turns
    start i first tx Greater sorted apart within at_start at_i far e refl

pub next_low : (b : Bool) (start i : ℕ) → start ≤ i → cond b start i ≤ i
next_low true start i h = h
next_low false start i h = omega arith
