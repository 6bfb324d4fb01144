-- Pages of a row.
use Rattle.std.proofs.Common.{◌≡◌, ◌<◌, ◌+◌, ◌*◌, ◌-◌, ℕ, zero, suc, List, [], ◌∷◌, ◌++◌, Option, Some, None, map}
use Rattle.std.proofs.Common.{take}
use Rattle.std.proofs.Common.{drop, length, slice_get, refl, sym, ap, subst, ◌∙◌, arith, min}
use Rattle.std.proofs.lemmas.List.{map-append, take_min}
use Rattle.std.proofs.lemmas.List.{length-drop}
use Rattle.ledger_types.specs.declared.bucket.BucketEntry.{BucketEntry}
use Rattle.ledger_types.specs.declared.key.LedgerKey.{LedgerKey}
use Rattle.std.proofs.Common.{◌≢◌, get_or, Bool, true, false, cond, option_map, ◌/◌, ◌%◌, Vec, Global}
use Rattle.std.specs.Prelude.{MatchOption, is_some}
use Rattle.std.specs.Ordering.{eq_by_cmp}
use Rattle.ledger_types.specs.KeyOrder.{key_cmp}
use Rattle.bucket_core.specs.Bucket.{Change, Contents, change_at}
use Rattle.bucket_core.specs.Encoded.{IsEncoded}
use Rattle.bucket_core.specs.File.{item_of, items_of, HasFile}
use Rattle.bucket_core.specs.Index.{Row, rows, value_at, index_of}
use Rattle.bucket_core.specs.xdr_entries.Keys.{ledger_key}
use Rattle.bucket_items.specs.KeyText.{IsKeyText}
use Rattle.bucket_core.proofs.FileRows.{value_is_under}
use Rattle.bucket_core.proofs.Unencoded.{nothing_said}
use Rattle.bucket_core.proofs.Walking.{item_of_change}
use Rattle.page_cache.specs.Pages.{page_at}

take_suc : {X : Type 0} (xs : List X) (i : ℕ) (x : X) → slice_get xs i ≡ Some x
    → take (suc i) xs ≡ take i xs ++ x ∷ []
take_suc [] i x h = absurd (cc (h))
take_suc (y ∷ ys) zero x h = let is : y ≡ x = cc (h) in ap (λ z. z ∷ []) is
take_suc (y ∷ ys) (suc i) x h = ap (λ zs. y ∷ zs) (take_suc ys i x h)

get_dropped : {X : Type 0} (xs : List X) (n i : ℕ) → slice_get (drop n xs) i ≡ slice_get xs (n + i)
get_dropped xs zero i = let e : i ≡ 0 + i = omega arith in ap (slice_get xs) e
get_dropped [] (suc n) i = refl
get_dropped (x ∷ xs) (suc n) i =
    let e : suc (n + i) ≡ suc n + i = omega arith in get_dropped xs n i ∙ ap (slice_get (x ∷ xs)) e

-- an item more
pub one_more : (row : Row) (first i : ℕ) (x : LedgerKey × BucketEntry) (page : List BucketEntry) (item : BucketEntry)
    → page ≡ map (λ y. y.1) (take i (drop first row)) → slice_get row (first + i) ≡ Some x → item ≡ x.1
    → page ++ item ∷ [] ≡ map (λ y. y.1) (take (i + 1) (drop first row))
one_more row first i x page item so there is =
    ap (λ p. p ++ item ∷ []) so
    ∙ ap (λ e. map (λ y. y.1) (take i (drop first row)) ++ e ∷ []) is
    ∙ sym (ap (map (λ y. y.1)) (let e : i + 1 ≡ suc i = omega arith in ap (λ n. take n (drop first row)) e
    ∙ take_suc (drop first row) i x (get_dropped row first i ∙ there))
    ∙ map-append (λ y. y.1) (take i (drop first row)) (x ∷ []))

pub page_is : (row : Row) (number n len : ℕ) → len ≡ length row → n ≡ min 64 (len - number * 64)
    → map (λ (y : LedgerKey × BucketEntry). y.1) (take n (drop (number * 64) row)) ≡ page_at number row
page_is row number n len long is =
    let count : n ≡ min 64 (length (drop (number * 64) row)) =
    is ∙ ap (λ m. min 64 (m - number * 64)) long ∙ ap (min 64) (sym (length-drop (number * 64) row)) in
    ap (map (λ (y : LedgerKey × BucketEntry). y.1))
    (ap (λ m. take m (drop (number * 64) row)) count ∙ take_min 64 (drop (number * 64) row))

-- ---- the item of a key

-- the item at an index is that under the key
pub record IsLocated (k : LedgerKey) (row : Row) (i : ℕ) : Type 0 where
  pub item : LedgerKey × BucketEntry
  pub there : slice_get row i ≡ Some item
  pub value : value_at k row ≡ Some item.1

located_by : (k : LedgerKey) (x : LedgerKey × BucketEntry) (xs : Row) (i : ℕ) (b : Bool)
    → eq_by_cmp key_cmp k x.0 ≡ b → (o : Option ℕ) → ((j : ℕ) → o ≡ Some j → IsLocated k xs j)
    → cond b (Some 0) (option_map suc o) ≡ Some i → IsLocated k (x ∷ xs) i
located_by k x xs i true e o later is =
    let first : 0 ≡ i = cc (is) in subst (IsLocated k (x ∷ xs)) first
    (record { item = x; there = refl; value = ap (λ b. cond b (Some x.1) (value_at k xs)) e })
located_by k x xs i false e None later is = absurd (cc (is))
located_by k x xs i false e (Some j) later is =
    let past : suc j ≡ i = cc (is) in
    let p = later j refl in
    subst (IsLocated k (x ∷ xs)) past
    (record { item = p.item; there = p.there; value = ap (λ b. cond b (Some x.1) (value_at k xs)) e ∙ p.value })

pub located : (k : LedgerKey) (row : Row) (i : ℕ) → index_of k row ≡ Some i → IsLocated k row i
located k [] i is = absurd (cc (is))
located k (x ∷ xs) i is =
    located_by k x xs i (eq_by_cmp key_cmp k x.0) refl (index_of k xs) (λ j so. located k xs j so) is

nowhere_by : (k : LedgerKey) (x : LedgerKey × BucketEntry) (xs : Row) (b : Bool) (o : Option ℕ)
    → eq_by_cmp key_cmp k x.0 ≡ b → (o ≡ None → value_at k xs ≡ None)
    → cond b (Some 0) (option_map suc o) ≡ None → cond b (Some x.1) (value_at k xs) ≡ None
nowhere_by k x xs true o e later is = absurd (cc (is))
nowhere_by k x xs false None e later is = later refl
nowhere_by k x xs false (Some j) e later is = absurd (cc (is))

pub nowhere : (k : LedgerKey) (row : Row) → index_of k row ≡ None → value_at k row ≡ None
nowhere k [] is = refl
nowhere k (x ∷ xs) is =
    nowhere_by k x xs (eq_by_cmp key_cmp k x.0) (index_of k xs) refl (λ so. nowhere k xs so) is

-- what a file says of a key, by its row
pub told_value : (c : Contents) (k : LedgerKey) → HasFile c
    → value_at k (rows c) ≡ option_map (λ change. item_of (k, change)) (change_at c k)
told_value c k h = value_is_under k (items_of c) ∙ item_of_change k c h.keyed

mapped_none : (k : LedgerKey) (o : Option Change) → None ≡ option_map (λ change. item_of (k, change)) o → o ≡ None
mapped_none k None h = refl
mapped_none k (Some c) h = absurd (cc (h))

-- ---- whether a key has a mark

-- the text of a key that has an encoding
abbrev pub IsTextOf : LedgerKey → Option (Vec ℕ Global) → Type 0
IsTextOf k text = MatchOption text (IsEncoded ledger_key k → ⊥) (λ t. IsKeyText t.items k)

pub unencoded : (c : Contents) (k : LedgerKey) → HasFile c → (IsEncoded ledger_key k → ⊥) → change_at c k ≡ None
unencoded c k h none = mapped_none k (change_at c k) (nothing_said c k h none)

pub unmarked : (c : Contents) (k : LedgerKey) → HasFile c → index_of k (rows c) ≡ None → change_at c k ≡ None
unmarked c k h is = mapped_none k (change_at c k) (sym (nowhere k (rows c) is) ∙ told_value c k h)

pub marked : (c : Contents) (k : LedgerKey) (i : ℕ) → HasFile c → index_of k (rows c) ≡ Some i → change_at c k ≢ None
marked c k i h is = λ none.
    absurd (cc (
      (located k (rows c) i is).value,
      told_value c k h,
      ap (option_map (λ change. item_of (k, change))) none,
    ))

unindexed_by : (c : Contents) (k : LedgerKey) (o : Option ℕ) → HasFile c → change_at c k ≡ None
    → index_of k (rows c) ≡ o → o ≡ None
unindexed_by c k None h none is = refl
unindexed_by c k (Some i) h none is = absurd (marked c k i h is none)

pub unindexed : (c : Contents) (k : LedgerKey) → HasFile c → change_at c k ≡ None → index_of k (rows c) ≡ None
unindexed c k h none = unindexed_by c k (index_of k (rows c)) h none refl

-- an item that isn't stored is of a key without a mark
pub unstored : (k : LedgerKey) (stored : Option (LedgerKey × BucketEntry)) (o : Option Change)
    → is_some stored ≡ false
    → option_map (λ x. x.1) stored ≡ option_map (λ change. item_of (k, change)) o → o ≡ None
unstored k None o none is = mapped_none k o is
unstored k (Some x) o none is = absurd (cc (none))

get_mapped : (row : Row) (i : ℕ) (x : LedgerKey × BucketEntry) → slice_get row i ≡ Some x
    → slice_get (map (λ (y : LedgerKey × BucketEntry). y.1) row) i ≡ Some x.1
get_mapped [] i x h = absurd (cc (h))
get_mapped (y ∷ ys) zero x h = let is : y ≡ x = cc (h) in ap (λ (z : LedgerKey × BucketEntry). Some z.1) is
get_mapped (y ∷ ys) (suc i) x h = get_mapped ys i x h

get_taken : (row : Row) (n i : ℕ) (x : LedgerKey × BucketEntry) → i < n → slice_get row i ≡ Some x
    → slice_get (take n row) i ≡ Some x
get_taken row zero i x w h = absurd (omega (arith, w))
get_taken [] (suc n) i x w h = h
get_taken (y ∷ ys) (suc n) zero x w h = h
get_taken (y ∷ ys) (suc n) (suc i) x w h = get_taken ys n i x (omega (arith, w)) h

pub on_page : (row : Row) (i : ℕ) (x : LedgerKey × BucketEntry) → slice_get row i ≡ Some x
    → slice_get (page_at (i / 64) row) (i % 64) ≡ Some x.1
on_page row i x h =
    let at : i ≡ i / 64 * 64 + i % 64 = omega arith in
    get_mapped (take 64 (drop (i / 64 * 64) row)) (i % 64) x
    (get_taken (drop (i / 64 * 64) row) 64 (i % 64) x (omega arith)
    (get_dropped row (i / 64 * 64) (i % 64) ∙ ap (slice_get row) (sym at) ∙ h))

pub in_bounds : {X : Type 0} (xs : List X) (i : ℕ) (x : X) → slice_get xs i ≡ Some x → i < length xs
in_bounds [] i x h = absurd (cc (h))
in_bounds (y ∷ ys) zero x h = omega arith
in_bounds (y ∷ ys) (suc i) x h = let w = in_bounds ys i x h in omega (arith, w)

pub got : {X : Type 0} (xs : List X) (i : ℕ) (x d : X) → slice_get xs i ≡ Some x → get_or xs i d ≡ x
got [] i x d h = absurd (cc (h))
got (y ∷ ys) zero x d h = cc (h)
got (y ∷ ys) (suc i) x d h = got ys i x d h

pub same_some : {X : Type 0} (x y : X) (o : Option X) → o ≡ Some x → o ≡ Some y → x ≡ y
same_some x y o h g = cc (h, g)
