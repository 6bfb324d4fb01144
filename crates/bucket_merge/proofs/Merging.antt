-- What the pass over two buckets makes is their merge, and has a file.
use Rattle.bucket_merge.proofs.Prelude.{◌≡◌, ℕ, ◌≤◌, pos, Bool, true, false, cond, T, List, [], ◌∷◌, map, max, Option}
use Rattle.bucket_merge.proofs.Prelude.{Some, None, refl, sym, ap, subst, ◌∙◌, All, eqb, arith, length, ◌++◌, ◌⊎◌, inl}
use Rattle.bucket_merge.proofs.Prelude.{inr, cases_lt, length-append, option_and_then, AllByRecursion, find, LedgerKey}
use Rattle.bucket_merge.proofs.Prelude.{LedgerEntry, key_cmp, i32, ledger_entry, bucket_entry, IsEncodable}
use Rattle.bucket_merge.proofs.Prelude.{max_item_len, i32_len, Change, Init, Live, Dead, Contents, change_at}
use Rattle.bucket_merge.proofs.Prelude.{version_of, IsUnderKey, item_of, items_of, HasFile, joined, kept, merged_change}
use Rattle.bucket_merge.proofs.Prelude.{greater_version, IsMerge, Pair, put, walk, changes_of, filled_with, merge_of}
use Rattle.std.proofs.lemmas.List.Elements.{All-from_recursion, recursion_from_All}
use Rattle.std.specs.FinMap.{entries, entries_sorted, get-entries, entries-from_sorted, get-from_sorted}
use Rattle.bucket_core.specs.ledger_types.declared.bucket.BucketEntry.TheVariants as bucket
use Rattle.bucket_core.proofs.Files.{nothing_has_file}
use Rattle.bucket_merge.proofs.WalkLaws.{Sorted, along, walk_in_order, walk_merges}

-- ---- key by key

changes_sorted : (c : Contents) → Sorted (changes_of c)
changes_sorted None = tt
changes_sorted (Some filled) = entries_sorted filled.changes

found_at : (c : Contents) (k : LedgerKey) → find key_cmp k (changes_of c) ≡ change_at c k
found_at None k = refl
found_at (Some filled) k = sym (get-entries filled.changes k)

pub walk_sorted : (level : ℕ) (a b : Contents) → Sorted (walk level (changes_of a) (changes_of b))
walk_sorted level a b =
    (walk_in_order level (changes_of a) (changes_of b) (changes_sorted a) (changes_sorted b)).sorted

found_merged : (level : ℕ) (a b : Contents) (k : LedgerKey)
    → find key_cmp k (walk level (changes_of a) (changes_of b)) ≡ merged_change level (change_at a k) (change_at b k)
found_merged level a b k =
    walk_merges level (changes_of a) (changes_of b) (changes_sorted a) (changes_sorted b) k
    ∙ (λ i. merged_change level (found_at a k i) (found_at b k i))

-- where both are empty nothing is merged
no_version : (level : ℕ) (a b : Contents) (k : LedgerKey)
    → greater_version (version_of a) (version_of b) ≡ None
    → merged_change level (change_at a k) (change_at b k) ≡ None
no_version level None None k e = refl
no_version level None (Some b) k e = absurd (cc (e))
no_version level (Some a) None k e = absurd (cc (e))
no_version level (Some a) (Some b) k e = absurd (cc (e))

filled_change : (level : ℕ) (a b : Contents) (k : LedgerKey) (v : Option ℕ)
    → greater_version (version_of a) (version_of b) ≡ v
    → change_at (filled_with v (walk level (changes_of a) (changes_of b))) k
    ≡ merged_change level (change_at a k) (change_at b k)
filled_change level a b k None e = sym (no_version level a b k e)
filled_change level a b k (Some v) e =
    get-from_sorted key_cmp (walk level (changes_of a) (changes_of b)) k (walk_sorted level a b)
    ∙ found_merged level a b k

filled_version : (v : Option ℕ) (es : List Pair) → version_of (filled_with v es) ≡ v
filled_version None es = refl
filled_version (Some v) es = refl

pub pass_is_merge : (level : ℕ) (a b : Contents) → IsMerge level a b (merge_of level a b)
pass_is_merge level a b = record {
  version = filled_version (greater_version (version_of a) (version_of b)) _;
  changes = λ k. filled_change level a b k (greater_version (version_of a) (version_of b)) refl;
}

-- ---- under their own keys

abbrev Keyed : LedgerKey → Option Change → Type 0
Keyed k o = (c : Change) → o ≡ Some c → IsUnderKey k c

some_is : (a c : Change) → Some a ≡ Some c → a ≡ c
some_is a c e = cc

dead_keyed : (k : LedgerKey) (c : Change) (b : Bool) → cond b None (Some Dead) ≡ Some c → IsUnderKey k c
dead_keyed k c true is = absurd (cc (is))
dead_keyed k c false is = subst (IsUnderKey k) (some_is Dead c is) tt

kept_keyed : (level : ℕ) (k : LedgerKey) (a : Change) → IsUnderKey k a → Keyed k (kept level a)
kept_keyed level k (Init e) h c is = subst (IsUnderKey k) (some_is (Init e) c is) h
kept_keyed level k (Live e) h c is = subst (IsUnderKey k) (some_is (Live e) c is) h
kept_keyed level k Dead h c is = dead_keyed k c (eqb level 10) is

joined_keyed : (level : ℕ) (k : LedgerKey) (a b : Change) → IsUnderKey k b
    → Keyed k (option_and_then (kept level) (joined a b))
joined_keyed level k Dead (Init e) h c is = kept_keyed level k (Live e) h c is
joined_keyed level k (Init was) (Live e) h c is = kept_keyed level k (Init e) h c is
joined_keyed level k (Init was) Dead h c is = absurd (cc (is))
joined_keyed level k a b h c is = kept_keyed level k b h c is

merged_keyed : (level : ℕ) (k : LedgerKey) (a b : Option Change) → Keyed k a → Keyed k b
    → Keyed k (merged_change level a b)
merged_keyed level k None None ha hb c is = absurd (cc (is))
merged_keyed level k (Some a) None ha hb c is = kept_keyed level k a (ha a refl) c is
merged_keyed level k None (Some b) ha hb c is = kept_keyed level k b (hb b refl) c is
merged_keyed level k (Some a) (Some b) ha hb c is = joined_keyed level k a b (hb b refl) c is

-- ---- encoded

same_length : (e : LedgerEntry)
    → length (bucket_entry.encoding (bucket.Init e)) ≡ length (bucket_entry.encoding (bucket.Live e))
unfolding bucket_entry
same_length e = omega (
  arith,
  length-append (i32.encoding (pos 2)) (ledger_entry.encoding e),
  length-append (i32.encoding (pos 0)) (ledger_entry.encoding e),
  i32_len (pos 2),
  i32_len (pos 0),
)

-- an entry that has an encoding as made has one as changed, and the other way round
init_as_live : (e : LedgerEntry) → IsEncodable (bucket.Init e) → IsEncodable (bucket.Live e)
unfolding bucket_entry
init_as_live e h = record {
  within = h.within;
  sized = h.sized;
  short = subst (λ (n : ℕ). n ≤ max_item_len) (same_length e) h.short;
}

live_as_init : (e : LedgerEntry) → IsEncodable (bucket.Live e) → IsEncodable (bucket.Init e)
unfolding bucket_entry
live_as_init e h = record {
  within = h.within;
  sized = h.sized;
  short = subst (λ (n : ℕ). n ≤ max_item_len) (sym (same_length e)) h.short;
}

abbrev pub IsEncoded : Pair → Type 0
IsEncoded x = IsEncodable (item_of x)

abbrev pub AreEncoded : List Pair → Type 0
AreEncoded es = AllByRecursion IsEncoded es

-- what is put has an encoding
abbrev PutEncoded : LedgerKey → Option Change → Type 0
PutEncoded k None = Unit {0}
PutEncoded k (Some c) = IsEncoded (k, c)

put_encoded : (k : LedgerKey) (o : Option Change) (zs : List Pair) → PutEncoded k o → AreEncoded zs
    → AreEncoded (put k o zs)
put_encoded k None zs p h = h
put_encoded k (Some c) zs p h = (p, h)

dead_encoded : (k : LedgerKey) (b : Bool) → IsEncoded (k, Dead) → PutEncoded k (cond b None (Some Dead))
dead_encoded k true h = tt
dead_encoded k false h = h

kept_encoded : (level : ℕ) (k : LedgerKey) (c : Change) → IsEncoded (k, c) → PutEncoded k (kept level c)
kept_encoded level k (Init e) h = h
kept_encoded level k (Live e) h = h
kept_encoded level k Dead h = dead_encoded k (eqb level 10) h

joined_encoded : (level : ℕ) (k : LedgerKey) (a b : Change) → IsEncoded (k, b)
    → PutEncoded k (option_and_then (kept level) (joined a b))
joined_encoded level k Dead (Init e) h = kept_encoded level k (Live e) (init_as_live e h)
joined_encoded level k (Init was) (Live e) h = kept_encoded level k (Init e) (live_as_init e h)
joined_encoded level k (Init was) Dead h = tt
joined_encoded level k a b h = kept_encoded level k b h

-- the items of a merge have encodings where those of both lists have
abbrev StayEncoded : List Pair → List Pair → List Pair → Type 0
StayEncoded xs ys zs = AreEncoded xs → AreEncoded ys → AreEncoded zs

walk_encoded : (level : ℕ) (xs ys : List Pair) → Sorted xs → Sorted ys → StayEncoded xs ys (walk level xs ys)
walk_encoded level = along level StayEncoded (λ a b. tt)
    (λ x xs ys zs ax ay h a b. put_encoded x.0 (kept level x.1) zs (kept_encoded level x.0 x.1 a.0) (h a.1 b))
    (λ y xs ys zs ax ay h a b. put_encoded y.0 (kept level y.1) zs (kept_encoded level y.0 y.1 b.0) (h a b.1))
    (λ x y xs ys zs e ax ay h a b.
    put_encoded y.0 (option_and_then (kept level) (joined x.1 y.1)) zs (joined_encoded level y.0 x.1 y.1 b.0)
    (h a.1 b.1))

-- ---- entire contents

each_encoded : (es : List Pair) → AllByRecursion IsEncodable (map item_of es) → AreEncoded es
each_encoded [] h = tt
each_encoded (x ∷ es) h = (h.0, each_encoded es h.1)

items_encoded : (es : List Pair) → AreEncoded es → AllByRecursion IsEncodable (map item_of es)
items_encoded [] h = tt
items_encoded (x ∷ es) h = (h.0, items_encoded es h.1)

pub entries_encoded : (c : Contents) → HasFile c → AreEncoded (changes_of c)
entries_encoded None h = tt
entries_encoded (Some filled) h =
    each_encoded (entries filled.changes) (recursion_from_All IsEncodable (items_of (Some filled)) h.encoded).1

-- META of the greater version has an encoding where those of both have
abbrev MetaEncoded : Option ℕ → Type 0
MetaEncoded None = Unit {0}
MetaEncoded (Some v) = IsEncodable (bucket.Meta v)

meta_encoded : (c : Contents) → HasFile c → MetaEncoded (version_of c)
meta_encoded None h = tt
meta_encoded (Some filled) h = (recursion_from_All IsEncodable (items_of (Some filled)) h.encoded).0

max_is : (v w : ℕ) → (max v w ≡ v) ⊎ (max v w ≡ w)
max_is v w = elim (cases_lt v w) [ inl lt ↦ inr (omega arith) | inr le ↦ inl (omega arith) ]

greater_encoded : (v w : Option ℕ) → MetaEncoded v → MetaEncoded w → MetaEncoded (greater_version v w)
greater_encoded None w a b = b
greater_encoded (Some v) None a b = a
greater_encoded (Some v) (Some w) a b =
    elim (max_is v w) [
      | inl e ↦ subst (λ (n : ℕ). IsEncodable (bucket.Meta n)) (sym e) a
      | inr e ↦ subst (λ (n : ℕ). IsEncodable (bucket.Meta n)) (sym e) b
    ]

-- the items of a filled bucket
pub items_filled : (v : ℕ) (es : List Pair) → Sorted es
    → items_of (filled_with (Some v) es) ≡ bucket.Meta v ∷ map item_of es
items_filled v es s =
    ap (λ (xs : List Pair). bucket.Meta v ∷ map item_of xs) (entries-from_sorted key_cmp es s)

filled_has_file : (level : ℕ) (a b : Contents) → HasFile a → HasFile b → (v : Option ℕ)
    → greater_version (version_of a) (version_of b) ≡ v → MetaEncoded v
    → HasFile (filled_with v (walk level (changes_of a) (changes_of b)))
filled_has_file level a b ha hb None e m = nothing_has_file
filled_has_file level a b ha hb (Some v) e m =
    let es = walk level (changes_of a) (changes_of b) in
    let encoded = walk_encoded level (changes_of a) (changes_of b) (changes_sorted a) (changes_sorted b)
    (entries_encoded a ha) (entries_encoded b hb) in
    record {
      keyed = λ k c is. merged_keyed level k (change_at a k) (change_at b k) (ha.keyed k) (hb.keyed k) c
          (sym (filled_change level a b k (Some v) e) ∙ is);
      encoded = subst (All IsEncodable) (sym (items_filled v es (walk_sorted level a b)))
          (All-from_recursion IsEncodable (bucket.Meta v ∷ map item_of es) (m, items_encoded es encoded));
    }

pub merge_has_file : (level : ℕ) (a b : Contents) → HasFile a → HasFile b → HasFile (merge_of level a b)
merge_has_file level a b ha hb =
    filled_has_file level a b ha hb (greater_version (version_of a) (version_of b)) refl
    (greater_encoded (version_of a) (version_of b) (meta_encoded a ha) (meta_encoded b hb))
