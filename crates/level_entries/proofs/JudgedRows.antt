-- Judging two rows from their least key on.
use Rattle.level_entries.proofs.Prelude as prelude
use prelude.{◌≡◌, ◌↔◌, List, [], ◌∷◌, Option, Some, Bool, true, false, cond, option_map, length, ◌⊎◌, inl, inr, ◌++◌}
use prelude.{append-nil, ℕ, ◌+◌, ◌<◌, ◌≤◌, drop, get_or, refl, sym, ap, subst, ◌∙◌, arith, Ordering, Less, Equal}
use prelude.{Greater, tied_itself, is_lt, is_eq, eq_by_cmp, below_all, LedgerKey, BucketEntry, key_cmp, keys_total}
use prelude.{keys_exact, drop_more, length-drop, value_at, putting, IsOverlaid, nothing_left, overlaid, pass_ended}
use prelude.{all_changed, both, first, second, is_less, none_found, Sorted, Above, item_type}
use prelude.{MayFollow, stated, alone, MayAllFollow, IsLeftToJudge, MayFollowBy}
use Rattle.ledger_types.specs.declared.bucket.BucketEntry.TheVariants as bucket
use Rattle.entry_table.proofs.shared_tree_proofs.Parts.{turned}
use Rattle.entry_table.proofs.shared_tree_proofs.Changed.{below_less}
use Rattle.bucket_levels.proofs.Joined.{may_be_first}

abbrev Row : Type 0
Row = List (LedgerKey × BucketEntry)

-- ---- one item on another

types_agree : (x y : BucketEntry) → MayFollowBy (item_type x) (item_type y) ≡ MayFollow (stated x) (stated y ∷ [])
types_agree (bucket.Meta v) (bucket.Meta w) = refl
types_agree (bucket.Meta v) (bucket.Live e) = refl
types_agree (bucket.Meta v) (bucket.Dead k) = refl
types_agree (bucket.Meta v) (bucket.Init e) = refl
types_agree (bucket.Live d) (bucket.Meta w) = refl
types_agree (bucket.Live d) (bucket.Live e) = refl
types_agree (bucket.Live d) (bucket.Dead k) = refl
types_agree (bucket.Live d) (bucket.Init e) = refl
types_agree (bucket.Dead k) (bucket.Meta w) = refl
types_agree (bucket.Dead k) (bucket.Live e) = refl
types_agree (bucket.Dead k) (bucket.Dead q) = refl
types_agree (bucket.Dead k) (bucket.Init e) = refl
types_agree (bucket.Init d) (bucket.Meta w) = refl
types_agree (bucket.Init d) (bucket.Live e) = refl
types_agree (bucket.Init d) (bucket.Dead k) = refl
types_agree (bucket.Init d) (bucket.Init e) = refl

-- ---- a key below a row

below_row : (k : LedgerKey) (x : LedgerKey × BucketEntry) (xs : Row) → key_cmp k x.0 ≡ Less → Sorted (x ∷ xs)
    → Above k (x ∷ xs)
below_row k x xs lt s = both (is_lt (key_cmp k x.0)) (below_all key_cmp k xs) (is_less (key_cmp k x.0) lt)
    (below_less keys_total k x.0 xs lt (first _ _ s))

-- what is under a key isn't what a lower key has
passed : (x : LedgerKey × BucketEntry) (others row : Row) (k : LedgerKey) (item : BucketEntry) → Above x.0 row
    → value_at k row ≡ Some item → (b : Bool) → eq_by_cmp key_cmp k x.0 ≡ b
    → cond b (Some x.1) (value_at k others) ≡ value_at k others
passed x others row k item above there true tied = absurd (cc (none_found k x.0 row tied above, there))
passed x others row k item above there false tied = refl

abbrev FollowsOn : BucketEntry → Option BucketEntry → Type 0
FollowsOn item older = MayFollow (stated item) (alone (option_map stated older))

-- ---- the least key is in the older row alone

pass_older : (x : LedgerKey × BucketEntry) (xs newer : Row) → Above x.0 newer
    → MayAllFollow xs newer ↔ MayAllFollow (x ∷ xs) newer
pass_older x xs newer above = (
  λ all k item there. subst (FollowsOn item)
      (sym (passed x xs newer k item above there (eq_by_cmp key_cmp k x.0) refl)) (all k item there),
  λ all k item there. subst (FollowsOn item) (passed x xs newer k item above there (eq_by_cmp key_cmp k x.0) refl)
      (all k item there),
)

-- ---- it is in the newer row alone

newer_first : (older : Row) (y : LedgerKey × BucketEntry) (ys : Row) (k : LedgerKey) (item : BucketEntry)
    → Above y.0 older → MayAllFollow older ys → (b : Bool) → eq_by_cmp key_cmp k y.0 ≡ b
    → cond b (Some y.1) (value_at k ys) ≡ Some item → FollowsOn item (value_at k older)
newer_first older y ys k item above all true tied there =
    subst (FollowsOn item) (sym (none_found k y.0 older tied above)) (may_be_first (stated item))
newer_first older y ys k item above all false tied there = all k item there

pass_newer : (older : Row) (y : LedgerKey × BucketEntry) (ys : Row) → Above y.0 older → Above y.0 ys
    → MayAllFollow older ys ↔ MayAllFollow older (y ∷ ys)
pass_newer older y ys above rises = (
  λ all k item there. newer_first older y ys k item above all (eq_by_cmp key_cmp k y.0) refl there,
  λ all k item there. all k item (passed y ys ys k item rises there (eq_by_cmp key_cmp k y.0) refl ∙ there),
)

-- ---- it is in both

module _ (x : LedgerKey × BucketEntry) (xs : Row) (y : LedgerKey × BucketEntry) (ys : Row) (tied : x.0 ≡ y.0)
    (rises : Above y.0 ys) where
  both_first : (k : LedgerKey) (item : BucketEntry) → FollowsOn y.1 (Some x.1) → MayAllFollow xs ys → (b : Bool)
      → eq_by_cmp key_cmp k y.0 ≡ b → cond b (Some y.1) (value_at k ys) ≡ Some item
      → FollowsOn item (cond b (Some x.1) (value_at k xs))
  both_first k item may all true same there =
      let is : y.1 ≡ item = cc in subst (λ (i : BucketEntry). FollowsOn i (Some x.1)) is may
  both_first k item may all false same there = all k item there

  abbrev older_at : LedgerKey → LedgerKey → Option BucketEntry
  older_at k q = cond (eq_by_cmp key_cmp k q) (Some x.1) (value_at k xs)

  pass_both : FollowsOn y.1 (Some x.1) → MayAllFollow xs ys ↔ MayAllFollow (x ∷ xs) (y ∷ ys)
  pass_both may = (
    λ all k item there. subst (FollowsOn item) (ap (older_at k) (sym tied))
        (both_first k item may all (eq_by_cmp key_cmp k y.0) refl there),
    λ all k item there. subst (FollowsOn item)
        (ap (older_at k) tied ∙ passed (y.0, x.1) xs ys k item rises there (eq_by_cmp key_cmp k y.0) refl)
        (all k item (passed y ys ys k item rises there (eq_by_cmp key_cmp k y.0) refl ∙ there)),
  )

  itself : (o : Option BucketEntry) (v : BucketEntry) → cond (eq_by_cmp key_cmp y.0 y.0) (Some v) o ≡ Some v
  itself o v = ap (λ (r : Ordering). cond (is_eq r) (Some v) o) (tied_itself keys_total y.0)

  both_refused : (FollowsOn y.1 (Some x.1) → ⊥) → MayAllFollow (x ∷ xs) (y ∷ ys) → ⊥
  both_refused never all = never (subst (FollowsOn y.1) (ap (older_at y.0) tied ∙ itself (value_at y.0 xs) x.1)
      (all y.0 y.1 (itself (value_at y.0 ys) y.1)))

-- ---- one step

module _ (older newer later : Row) (turn : LedgerKey × BucketEntry) (ahead : newer ≡ turn ∷ later) (so : Sorted older)
    (sn : Sorted newer) where
  sorted_turns : Sorted (turn ∷ later)
  sorted_turns = subst Sorted ahead sn

  longer_turns : length newer ≡ length later + 1
  longer_turns = ap length ahead ∙ omega arith

  left_of_newer : Above turn.0 older → IsLeftToJudge older newer older later
  left_of_newer above = record {
    older_rises = so;
    newer_rises = second _ _ sorted_turns;
    same = subst (λ (ys : Row). MayAllFollow older later ↔ MayAllFollow older ys) (sym ahead)
        (pass_newer older turn later above (first _ _ sorted_turns));
    less = omega (arith, longer_turns);
  }

  module _ (others : Row) (value : LedgerKey × BucketEntry) (entire : older ≡ value ∷ others) where
    sorted_row : Sorted (value ∷ others)
    sorted_row = subst Sorted entire so

    longer : length older ≡ length others + 1
    longer = ap length entire ∙ omega arith

    pub judged_less : key_cmp value.0 turn.0 ≡ Less → IsLeftToJudge older newer others newer
    judged_less lt = record {
      older_rises = second _ _ sorted_row;
      newer_rises = sn;
      same = subst (λ (xs : Row). MayAllFollow others newer ↔ MayAllFollow xs newer) (sym entire)
          (pass_older value others newer
          (subst (λ (ys : Row). Above value.0 ys) (sym ahead) (below_row value.0 turn later lt sorted_turns)));
      less = omega (arith, longer);
    }

    pub judged_greater : key_cmp value.0 turn.0 ≡ Greater → IsLeftToJudge older newer older later
    judged_greater gt = left_of_newer (subst (λ (xs : Row). Above turn.0 xs) (sym entire)
        (below_row turn.0 value others (turned keys_total value.0 turn.0 gt) sorted_row))

    pub judged_equal : key_cmp value.0 turn.0 ≡ Equal → MayFollowBy (item_type turn.1) (item_type value.1)
        → IsLeftToJudge older newer others later
    judged_equal e may = record {
      older_rises = second _ _ sorted_row;
      newer_rises = second _ _ sorted_turns;
      same = subst (λ (xs : Row). MayAllFollow others later ↔ MayAllFollow xs newer) (sym entire)
          (subst (λ (ys : Row). MayAllFollow others later ↔ MayAllFollow (value ∷ others) ys) (sym ahead)
          (pass_both value others turn later (keys_exact value.0 turn.0 e) (first _ _ sorted_turns)
          (subst (λ (P : Type 0). P) (types_agree turn.1 value.1) may)));
      less = omega (arith, longer, longer_turns);
    }

    pub refused_equal : key_cmp value.0 turn.0 ≡ Equal → (MayFollowBy (item_type turn.1) (item_type value.1) → ⊥)
        → MayAllFollow older newer → ⊥
    refused_equal e never all = both_refused value others turn later (keys_exact value.0 turn.0 e)
        (first _ _ sorted_turns) (λ may. never (subst (λ (P : Type 0). P) (sym (types_agree turn.1 value.1)) may))
        (subst (λ (ys : Row). MayAllFollow (value ∷ others) ys) ahead
        (subst (λ (xs : Row). MayAllFollow xs newer) entire all))

-- ---- from two indices on

pub from_index : (row : Row) (index : ℕ) (x : LedgerKey × BucketEntry) → index < length row → x ≡ get_or row index x
    → drop index row ≡ x ∷ drop (index + 1) row
from_index row index x h is =
    drop_more row index x h ∙ ap (λ (v : LedgerKey × BucketEntry). v ∷ drop (index + 1) row) (sym is)

pub drop_past_end : (row : Row) (index : ℕ) → length row ≤ index → drop index row ≡ []
drop_past_end row index h = nothing_left (drop index row) (omega (arith, length-drop index row))

pub nothing_to_judge : (older newer : Row) → newer ≡ [] → MayAllFollow older newer
nothing_to_judge older newer none k item there =
    absurd (let found = ap (value_at k) (sym none) ∙ there in cc (found))

pub nothing_under : (older newer : Row) → older ≡ [] → MayAllFollow older newer
nothing_under older newer none k item there =
    subst (λ (xs : Row). FollowsOn item (value_at k xs)) (sym none) (may_be_first (stated item))

-- ---- putting a row over another one

-- the pass ends where nothing is left of one of both rows
pub pass_ends : (older newer rest turns all prefix after : Row)
    → all ++ all_changed key_cmp (putting turns) rest ≡ all_changed key_cmp (putting newer) older
    → (rest ≡ []) ⊎ (turns ≡ []) → Sorted turns → prefix ≡ all ++ rest → after ≡ prefix ++ turns → Sorted older
    → IsOverlaid older newer after
pass_ends older newer rest turns all prefix after same (inl none) st is_prefix is so =
    pass_ended rest older newer turns all after same none st
    (is ∙ ap (λ (r : Row). r ++ turns) (is_prefix ∙ ap (λ (r : Row). all ++ r) none ∙ append-nil all)) so
pass_ends older newer rest turns all prefix after same (inr none) st is_prefix is so =
    overlaid older newer after
    (is ∙ ap (λ (r : Row). prefix ++ r) none ∙ append-nil prefix ∙ is_prefix
    ∙ ap (λ (ys : Row). all ++ all_changed key_cmp (putting ys) rest) (sym none) ∙ same) so
