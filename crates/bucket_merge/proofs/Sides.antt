-- Both sides of a merge, from the first items to the last ones.
use Rattle.bucket_merge.proofs.Prelude as prelude
use prelude.{◌≡◌, ℕ, ◌+◌, ◌<◌, List, [], ◌∷◌, ◌++◌, length, Option, Some, None, refl, sym, ap, subst, ◌∙◌, append_assoc}
use prelude.{arith, true, false, max, suc, Bool, nat_eq, ne_eqb, true≢false, IsSomeAnd, if◌then◌else◌, not, flat_map}
use prelude.{append-nil, length-map, big_bytes, i32, u32, mark, bucket_entry, BucketEntry, BucketItem, Shows, record_of}
use prelude.{Contents, version_of, item_of, items_of, file_of, HasFile, TakesFirst, Side, greater_version, Pair, walk}
use prelude.{changes_of, filled_with, merge_of, Has, GoesTo, records_of, size_of, meta_of, Nearer}
use Rattle.std.specs.Option.{is_some, is_none}
use Rattle.xdr_core.specs.Combinators.{constant}
use Rattle.bucket_core.specs.ledger_types.declared.bucket.BucketEntry.TheVariants as bucket
use Rattle.bucket_core.proofs.Rows.{under_keys}
use Rattle.bucket_merge.proofs.Stepping.{hand_is_there}
use Rattle.bucket_merge.proofs.Merging.{entries_encoded, items_filled, walk_sorted}

-- ---- the first items

pub side_begins : (c : Contents) (all ahead : List BucketEntry) (meta : Option BucketItem) (side : Side) → HasFile c
    → all ≡ items_of c → TakesFirst all meta ahead → TakesFirst ahead side.hand side.ahead → Has side (changes_of c)
side_begins None all ahead meta side h is t u =
    let t : TakesFirst [] meta ahead = subst (λ (x : List BucketEntry). TakesFirst x meta ahead) is t in
    record {
      first = subst (λ (x : List BucketEntry). TakesFirst x side.hand side.ahead) t.1 u;
      keyed = tt;
      encoded = tt;
    }
side_begins (Some filled) all ahead meta side h is t u =
    let first : TakesFirst (items_of (Some filled)) meta ahead =
    subst (λ (x : List BucketEntry). TakesFirst x meta ahead) is t in
    record {
      first = subst (λ (x : List BucketEntry). TakesFirst x side.hand side.ahead) first.1 u;
      keyed = under_keys filled.changes h.keyed;
      encoded = entries_encoded (Some filled) h;
    }

-- ---- how many are left

some_hand : (o : Option BucketItem) (e : BucketEntry) → IsSomeAnd o (λ here. Shows here here.bytes.now e)
    → is_some o ≡ true
some_hand None e h = absurd h
some_hand (Some item) e h = refl

pub size_is : (side : Side) (changes : List Pair) → Has side changes → size_of side ≡ length changes
size_is side [] h =
    let hand : is_some side.hand ≡ false = ap is_some h.first.0 in
    let ahead : length side.ahead ≡ 0 = ap (λ (x : List BucketEntry). length x) h.first.1 in
    rw (hand, ahead) refl
size_is side (x ∷ xs) h =
    let hand = some_hand side.hand (item_of x) h.first.0 in
    let ahead : length side.ahead ≡ length xs =
    ap (λ (y : List BucketEntry). length y) h.first.1 ∙ length-map xs item_of in
    rw (hand, ahead) (omega arith)

pub none_ahead : (side : Side) → Has side [] → length side.ahead ≡ 0
none_ahead side h = ap (λ (x : List BucketEntry). length x) h.first.1

-- ---- META

pub meta_record : (v : ℕ) (file : List ℕ)
    → (((file ++ big_bytes 4 2147483660) ++ big_bytes 4 4294967295) ++ big_bytes 4 v) ++ big_bytes 4 0
    ≡ file ++ record_of (bucket.Meta v)
unfolding bucket_entry mark u32 i32 constant
meta_record v file = simp append_assoc

-- ---- the entire file

filled_file : (level : ℕ) (a b : Contents) (v : ℕ)
    → record_of (bucket.Meta v) ++ records_of (walk level (changes_of a) (changes_of b))
    ≡ file_of (filled_with (Some v) (walk level (changes_of a) (changes_of b)))
filled_file level a b v = sym (ap (flat_map record_of)
    (items_filled v (walk level (changes_of a) (changes_of b)) (walk_sorted level a b)))

pub entire_file : (level : ℕ) (a b : Contents)
    → meta_of (greater_version (version_of a) (version_of b)) ++ records_of (walk level (changes_of a) (changes_of b))
    ≡ file_of (merge_of level a b)
entire_file level None None = refl
entire_file level None (Some g) = filled_file level None (Some g) g.version
entire_file level (Some f) None = filled_file level (Some f) None f.version
entire_file level (Some f) (Some g) = filled_file level (Some f) (Some g) (max f.version g.version)

-- ---- from the first step to the last one

pub stepped : (level : ℕ) (entire before after : List ℕ) (one two older newer : Side)
    (g : GoesTo level entire before one two) → Nearer level g.old g.new before after older newer
    → GoesTo level entire after older newer
stepped level entire before after one two older newer g n = record {
  old = n.left_old;
  new = n.left_new;
  has_old = n.has_old;
  has_new = n.has_new;
  rest = n.same ∙ g.rest;
}

pub step_shortens : (level : ℕ) (entire before after : List ℕ) (one two older newer : Side)
    (g : GoesTo level entire before one two) → Nearer level g.old g.new before after older newer
    → size_of older + size_of newer < size_of one + size_of two
step_shortens level entire before after one two older newer g n =
    omega (
      arith,
      n.less,
      size_is one g.old g.has_old,
      size_is two g.new g.has_new,
      size_is older n.left_old n.has_old,
      size_is newer n.left_new n.has_new,
    )

no_sum : (n m : ℕ) → nat_eq (suc n + m) 0 ≡ false
no_sum n m = ne_eqb (suc n + m) 0 (λ e. omega arith)

-- whether nothing is left, by what is in hand
pub some_old_left : (older : Side) (item : BucketItem) (old new : List Pair) → Has older old
    → older.hand ≡ Some item → false ≡ nat_eq (length old + length new) 0
some_old_left older item [] new h e = absurd (cc (h.first.0, e))
some_old_left older item (x ∷ xs) new h e = sym (no_sum (length xs) (length new))

pub new_left : (older newer : Side) (old new : List Pair) (r : Bool) → Has older old → Has newer new
    → older.hand ≡ None → r ≡ is_none newer.hand → r ≡ nat_eq (length old + length new) 0
new_left older newer (x ∷ xs) new r h k e is = absurd (hand_is_there older x xs h e)
new_left older newer [] [] r h k e is = is ∙ ap is_none k.first.0
new_left older newer [] (y ∷ ys) r h k e is =
    is ∙ ap not (some_hand newer.hand (item_of y) k.first.0) ∙ sym (ne_eqb (0 + suc (length ys)) 0 (λ e. omega arith))

pub by_not : (r s : Bool) → s ≡ not r → r ≡ not s
by_not true s h = sym (ap not h)
by_not false s h = sym (ap not h)

pub left_over : (old new : List Pair) (r : Bool) → r ≡ nat_eq (length old + length new) 0 → r ≡ false
    → 0 < length old + length new
left_over [] [] r is e = absurd (cc (is, e))
left_over [] (y ∷ ys) r is e = omega arith
left_over (x ∷ xs) new r is e = omega arith

pub none_over : (old new : List Pair) (r : Bool) → r ≡ nat_eq (length old + length new) 0 → r ≡ true
    → (old ≡ []) × (new ≡ [])
none_over [] [] r is e = (refl, refl)
none_over [] (y ∷ ys) r is e =
    absurd (true≢false (sym e ∙ is ∙ ne_eqb (0 + suc (length ys)) 0 (λ e. omega arith)))
none_over (x ∷ xs) new r is e = absurd (true≢false (sym e ∙ is ∙ no_sum (length xs) (length new)))

-- where nothing is left, all is written
pub all_written : (level : ℕ) (entire written : List ℕ) (older newer : Side)
    (g : GoesTo level entire written older newer) → (g.old ≡ []) × (g.new ≡ []) → written ≡ entire
all_written level entire written older newer g none =
    sym (append-nil written)
    ∙ (λ i. written ++ records_of (walk level (sym none.0 i) (sym none.1 i)))
    ∙ g.rest

-- and nothing is ahead
pub all_taken : (level : ℕ) (entire written : List ℕ) (older newer : Side)
    (g : GoesTo level entire written older newer) → (g.old ≡ []) × (g.new ≡ [])
    → (length older.ahead ≡ 0) × (length newer.ahead ≡ 0)
all_taken level entire written older newer g none = (
  none_ahead older (subst (Has older) none.0 g.has_old),
  none_ahead newer (subst (Has newer) none.1 g.has_new),
)

-- META, and after it the records of the pass
pub file_written : (level : ℕ) (a b : Contents) (v : Option ℕ) (none meta file : List ℕ) → none ≡ []
    → meta ≡ none ++ meta_of v → v ≡ greater_version (version_of a) (version_of b)
    → file ≡ meta ++ records_of (walk level (changes_of a) (changes_of b)) → file ≡ file_of (merge_of level a b)
file_written level a b v none meta file n m is f =
    let records : List ℕ = records_of (walk level (changes_of a) (changes_of b)) in
    f ∙ ap (λ (t : List ℕ). t ++ records) (m ∙ ap (λ (t : List ℕ). t ++ meta_of v) n)
    ∙ ap (λ (o : Option ℕ). meta_of o ++ records) is
    ∙ entire_file level a b
