-- Indices in the set's list keep transactions, their turns and their hashes apart.
use Rattle.fee_rules.proofs.Prelude as prelude
use prelude.{◌≡◌, ℕ, ◌+◌, ◌<◌, zero, suc, false, cond, List, [], ◌∷◌, length, map, get_or, refl, ap, ◌∙◌, sym, subst}
use prelude.{arith, IsDistinct, IsPermutation, Ordering, Less, Equal, Greater, nat_cmp_is, is_eq, eq_by_cmp}
use prelude.{ordering_then, nat_cmp, int_cmp, get_or-map, length-map, sum_by-IsPermutation, IsPermutation-map}
use prelude.{apart_from_distinct, IsDistinct-from_apart, IsDistinct-IsPermutation, eq_by_cmp_equiv, nat_cmp_total, Hash}
use prelude.{account_cmp, hash_cmp, TransactionEnvelope, Queued, Turn, all_queued_from, queue_cmp, queued_cmp, is_ahead}
use prelude.{queue_rank, has_index_of, no_tx, hashed_of, hashed_cmp, turn_cmp, turn_of, turns_of, mixed_hash}

-- ---- two of different indices

then_apart : (s p : Ordering) → is_eq p ≡ false → is_eq (ordering_then s p) ≡ false
then_apart Less p h = refl
then_apart Equal p h = h
then_apart Greater p h = refl

queued_apart : (a b : Queued) → has_index_of a b ≡ false → eq_by_cmp queued_cmp a b ≡ false
queued_apart a b h =
    then_apart (account_cmp a.source b.source) (queue_cmp a b)
    (then_apart (int_cmp a.seq_num b.seq_num) _
    (then_apart (hash_cmp a.full_hash b.full_hash) (nat_cmp a.index b.index) h))

hashed_apart : (a b : Queued) → has_index_of a b ≡ false → eq_by_cmp hashed_cmp (hashed_of a) (hashed_of b) ≡ false
hashed_apart a b h = then_apart (hash_cmp a.full_hash b.full_hash) (nat_cmp a.index b.index) h

turns_apart : (set_hash : Hash) (txs : List Queued) (a b : Queued) → has_index_of a b ≡ false
    → eq_by_cmp turn_cmp (turn_of set_hash txs a) (turn_of set_hash txs b) ≡ false
turns_apart set_hash txs a b h =
    then_apart (nat_cmp (queue_rank txs a) (queue_rank txs b)) _
    (then_apart (hash_cmp (mixed_hash a.full_hash set_hash) (mixed_hash b.full_hash set_hash))
    (nat_cmp a.index b.index) h)

indices_flip : (a b : Queued) → has_index_of a b ≡ has_index_of b a
indices_flip a b = (eq_by_cmp_equiv nat_cmp_total).symm a.index b.index

-- ---- lists of different indices

pub apart_sorted : (txs sorted : List Queued) → IsPermutation txs sorted → IsDistinct has_index_of txs
    → IsDistinct (eq_by_cmp queued_cmp) sorted
apart_sorted txs sorted moved apart =
    let after = IsDistinct-IsPermutation has_index_of indices_flip txs sorted moved apart in
    IsDistinct-from_apart (eq_by_cmp queued_cmp) sorted
    (λ i j d h g. queued_apart (get_or sorted i d) (get_or sorted j d)
    (apart_from_distinct has_index_of sorted i j d after h g))

-- what is made of each is apart where what they are made of is
apart_map : {Y : Type 0} (cmp : Y → Y → Ordering) (f : Queued → Y) (txs : List Queued)
    → ((a b : Queued) → has_index_of a b ≡ false → eq_by_cmp cmp (f a) (f b) ≡ false) → IsDistinct has_index_of txs
    → IsDistinct (eq_by_cmp cmp) (map f txs)
apart_map {Y} cmp f txs differs apart =
    let same_length : length (map f txs) ≡ length txs = length-map txs f in
    IsDistinct-from_apart (eq_by_cmp cmp) (map f txs)
    (λ i j d h g.
    let within : j < length txs = omega (arith, same_length, g) in
    subst (λ (y : Y). eq_by_cmp cmp y (get_or (map f txs) j d) ≡ false)
    (sym (get_or-map f txs i no_tx d (omega (arith, h, within))))
    (subst (λ (y : Y). eq_by_cmp cmp (f (get_or txs i no_tx)) y ≡ false) (sym (get_or-map f txs j no_tx d within))
    (differs (get_or txs i no_tx) (get_or txs j no_tx)
    (apart_from_distinct has_index_of txs i j no_tx apart h within))))

pub apart_turns : (set_hash : Hash) (txs : List Queued) → IsDistinct has_index_of txs
    → IsDistinct (eq_by_cmp turn_cmp) (turns_of set_hash txs)
apart_turns set_hash txs apart = apart_map turn_cmp (turn_of set_hash txs) txs (turns_apart set_hash txs) apart

pub apart_hashes : (txs : List Queued) → IsDistinct has_index_of txs
    → IsDistinct (eq_by_cmp hashed_cmp) (map hashed_of txs)
apart_hashes txs apart = apart_map hashed_cmp hashed_of txs hashed_apart apart

-- ---- turns of a list and of its permutation

rank_same : (txs sorted : List Queued) → IsPermutation txs sorted → (tx : Queued)
    → queue_rank sorted tx ≡ queue_rank txs tx
rank_same txs sorted moved tx = sum_by-IsPermutation (λ other. cond (is_ahead other tx) 1 0) txs sorted moved

turn_same : (set_hash : Hash) (txs sorted : List Queued) → IsPermutation txs sorted → (tx : Queued)
    → turn_of set_hash sorted tx ≡ turn_of set_hash txs tx
turn_same set_hash txs sorted moved tx =
    λ k. record {
      queue_rank = rank_same txs sorted moved tx k;
      mixed = mixed_hash tx.full_hash set_hash;
      index = tx.index;
    }

-- the turns of sorted transactions are those of the set, in another order
pub turns_moved : (set_hash : Hash) (txs sorted : List Queued) → IsPermutation txs sorted
    → IsPermutation (turns_of set_hash txs) (turns_of set_hash sorted)
turns_moved set_hash txs sorted moved =
    subst (λ (ts : List Turn). IsPermutation (turns_of set_hash txs) ts)
    (λ i. map (λ tx. sym (turn_same set_hash txs sorted moved tx) i) sorted)
    (IsPermutation-map (turn_of set_hash txs) txs sorted moved)

-- ---- indices of a set's list

from_apart : (index n : ℕ) (envelopes : List TransactionEnvelope) (i : ℕ) (d : Queued) → i < length envelopes
    → (get_or (all_queued_from index envelopes) i d).index ≡ index + i
from_apart index n [] i d h = absurd (omega arith)
from_apart index n (e ∷ es) zero d h = omega arith
from_apart index n (e ∷ es) (suc i) d h = from_apart (index + 1) n es i d (omega arith) ∙ omega arith

pub all_queued_length : (index : ℕ) (envelopes : List TransactionEnvelope)
    → length (all_queued_from index envelopes) ≡ length envelopes
all_queued_length index [] = refl
all_queued_length index (e ∷ es) = ap suc (all_queued_length (index + 1) es)

differ_at_less : (a b : ℕ) → a < b → nat_cmp a b ≡ Equal → ⊥
differ_at_less a b h e = let is : Less ≡ nat_cmp a b = nat_cmp_is a b Less h in
    let same : Less ≡ Equal = is ∙ e in cc same

lower_differs : (a b : ℕ) → a < b → (r : Ordering) → nat_cmp a b ≡ r → is_eq r ≡ false
lower_differs a b h Less e = refl
lower_differs a b h Equal e = absurd (differ_at_less a b h e)
lower_differs a b h Greater e = refl

pub apart_in_list : (envelopes : List TransactionEnvelope) → IsDistinct has_index_of (all_queued_from 0 envelopes)
apart_in_list envelopes =
    let long : length (all_queued_from 0 envelopes) ≡ length envelopes = all_queued_length 0 envelopes in
    IsDistinct-from_apart has_index_of (all_queued_from 0 envelopes)
    (λ i j d h g.
    let all = all_queued_from 0 envelopes in
    let at_i : (get_or all i d).index ≡ i = from_apart 0 0 envelopes i d (omega (arith, long, h, g)) ∙ omega arith in
    let at_j : (get_or all j d).index ≡ j = from_apart 0 0 envelopes j d (omega (arith, long, g)) ∙ omega arith in
    lower_differs (get_or all i d).index (get_or all j d).index (omega (arith, at_i, at_j, h)) _ refl)
