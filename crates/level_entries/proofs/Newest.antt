-- What each key has once a newer file is put over some files.
use Rattle.level_entries.proofs.Prelude.{◌≡◌, List, [], ◌∷◌, Option, Some, None, false, map, option_map, refl, sym, ap}
use Rattle.level_entries.proofs.Prelude.{subst, ◌∙◌, ℕ, is_some, LedgerKey, BucketEntry, IsRising, value_at, IsOverlaid}
use Rattle.level_entries.proofs.Prelude.{Change, Contents, change_at, version_of, IsUnderKey, LevelPair, pair_of}
use Rattle.level_entries.proofs.Prelude.{files_of, changes_of, prepended, AreMarkedWell, MayFollow, stated, newest}
use Rattle.level_entries.proofs.Prelude.{alone, IsFileRow, IsNewestRow, IsRowOf, MayAllFollow, IsPutOver}
use Rattle.std.specs.Option.{option_or}
use Rattle.level_entries.proofs.JudgedRows.{nothing_to_judge, nothing_under}
use Rattle.bucket_levels.proofs.Marks.{on_same_newest}

exists : (c : Change) (older : List Change) → MayFollow c (alone (newest older)) → MayFollow c older
exists c [] m = m
exists c (d ∷ xs) m = on_same_newest c d [] xs m

existed : (c : Change) (older : List Change) → MayFollow c older → MayFollow c (alone (newest older))
existed c [] m = m
existed c (d ∷ xs) m = on_same_newest c d xs [] m

-- ---- one key

newest_prefix : (o : Option Change) (older : List Change) → newest (prepended o older) ≡ option_or o (newest older)
newest_prefix None older = refl
newest_prefix (Some c) older = refl

stated_or : (a b : Option BucketEntry) → option_map stated (option_or a b) ≡ option_or (option_map stated a)
    (option_map stated b)
stated_or None b = refl
stated_or (Some x) b = refl

marked_prefix : (o : Option Change) (older : List Change) → AreMarkedWell older
    → ((c : Change) → o ≡ Some c → MayFollow c older) → AreMarkedWell (prepended o older)
unfolding AreMarkedWell
marked_prefix None older w m = w
marked_prefix (Some c) older w m = (m c refl, w)

prefix_follows : (o : Option Change) (older : List Change) (c : Change) → o ≡ Some c → AreMarkedWell (prepended o older)
    → MayFollow c older
unfolding AreMarkedWell
prefix_follows None older c is w = absurd (cc)
prefix_follows (Some d) older c is w = let same : d ≡ c = cc in subst (λ (x : Change). MayFollow x older) same w.0

after_marked : (o : Option Change) (older : List Change) → AreMarkedWell (prepended o older) → AreMarkedWell older
unfolding AreMarkedWell
after_marked None older w = w
after_marked (Some c) older w = w.1

own_either : (a b : Option BucketEntry) (k : LedgerKey) (item : BucketEntry) → option_or a b ≡ Some item
    → (a ≡ Some item → IsUnderKey k (stated item)) → (b ≡ Some item → IsUnderKey k (stated item))
    → IsUnderKey k (stated item)
own_either None b k item is f g = g is
own_either (Some x) b k item is f g = f is

stated_back : (o : Option BucketEntry) (c : Change) → option_map stated o ≡ Some c
    → (item : BucketEntry) × (o ≡ Some item) × (stated item ≡ c)
stated_back None c is = absurd (cc)
stated_back (Some item) c is = (item, refl, cc)

-- ---- all keys

module _ (file : Contents) (files : List Contents) where
  prefix : (k : LedgerKey) → changes_of (file ∷ files) k ≡ prepended (change_at file k) (changes_of files k)
  unfolding changes_of
  prefix k = refl

  pub fewer_marked : ((k : LedgerKey) → AreMarkedWell (changes_of (file ∷ files) k)) → (k : LedgerKey)
      → AreMarkedWell (changes_of files k)
  fewer_marked marks k = after_marked (change_at file k) (changes_of files k) (subst AreMarkedWell (prefix k) (marks k))

  module _ (row newer : List (LedgerKey × BucketEntry)) (n : IsNewestRow files row) (f : IsFileRow file newer) where
    pub refused : (MayAllFollow row newer → ⊥) → ((k : LedgerKey) → AreMarkedWell (changes_of (file ∷ files) k)) → ⊥
    refused never marks = never (λ k item h.
        subst (λ (o : Option Change). MayFollow (stated item) (alone o)) (sym (n.says k))
        (existed (stated item) (changes_of files k)
        (prefix_follows (change_at file k) (changes_of files k) (stated item)
        (sym (f.says k) ∙ ap (option_map stated) h) (subst AreMarkedWell (prefix k) (marks k)))))

    pub added : (all : List (LedgerKey × BucketEntry)) → MayAllFollow row newer → IsOverlaid row newer all
        → IsNewestRow (file ∷ files) all
    added all may o = record {
      rises = o.rises;
      says = λ k. ap (option_map stated) (o.each k) ∙ stated_or (value_at k newer) (value_at k row)
          ∙ (λ i. option_or (f.says k i) (n.says k i))
          ∙ sym (ap newest (prefix k) ∙ newest_prefix (change_at file k) (changes_of files k));
      own = λ k item h. own_either (value_at k newer) (value_at k row) k item (sym (o.each k) ∙ h) (f.own k item)
          (n.own k item);
      marks = λ k. subst AreMarkedWell (sym (prefix k))
          (marked_prefix (change_at file k) (changes_of files k) (n.marks k)
          (λ c is.
          let t = stated_back (value_at k newer) c (f.says k ∙ is) in
          subst (λ (x : Change). MayFollow x (changes_of files k)) t.2
          (exists (stated t.0) (changes_of files k)
          (subst (λ (p : Option Change). MayFollow (stated t.0) (alone p)) (n.says k) (may k t.0 t.1)))));
    }

    -- a row that was put over another one, or was refused
    pub put_over : (o : Option (List (LedgerKey × BucketEntry))) → IsPutOver row newer o → IsRowOf (file ∷ files) o
    put_over None never = refused never
    put_over (Some all) h = added all h.0 h.1

-- ---- empty rows

pub over_nothing : (older newer : List (LedgerKey × BucketEntry)) → older ≡ [] → IsRising newer
    → IsPutOver older newer (Some newer)
over_nothing older newer none rises = subst (λ (xs : List (LedgerKey × BucketEntry)). IsPutOver xs newer (Some newer))
    (sym none) (
      nothing_under [] newer refl,
      record { rises = rises; each = λ k. or_none (value_at k newer) },
    )
  where
    or_none : (o : Option BucketEntry) → o ≡ option_or o None
    or_none None = refl
    or_none (Some item) = refl

pub nothing_over : (older newer : List (LedgerKey × BucketEntry)) → newer ≡ [] → IsRising older
    → IsPutOver older newer (Some older)
nothing_over older newer none rises = subst (λ (ys : List (LedgerKey × BucketEntry)). IsPutOver older ys (Some older))
    (sym none) (nothing_to_judge older [] refl, record { rises = rises; each = λ k. refl })

pub no_files : IsNewestRow [] []
unfolding changes_of AreMarkedWell
no_files = record { rises = tt; says = λ k. refl; own = λ k item h. absurd (cc); marks = λ k. tt }

-- ---- as the code finds it

pub row_in : {V : Type 0} (f : V → List (LedgerKey × BucketEntry)) (files : List Contents) (o : Option V) (row : V)
    → IsRowOf files (option_map f o) → o ≡ Some row → IsNewestRow files (f row)
row_in f files o row h is = subst (λ p. IsRowOf files (option_map f p)) is h

pub none_in : {V : Type 0} (f : V → List (LedgerKey × BucketEntry)) (files : List Contents) (o : Option V)
    → IsRowOf files (option_map f o) → o ≡ None → ((k : LedgerKey) → AreMarkedWell (changes_of files k)) → ⊥
none_in f files o h is = subst (λ p. IsRowOf files (option_map f p)) is h

-- ---- levels

pub first_files : (pairs deeper : List LevelPair) (pair : LevelPair) → pairs ≡ pair ∷ deeper
    → pair.curr.value ∷ pair.snap.value ∷ files_of (map pair_of deeper) ≡ files_of (map pair_of pairs)
first_files pairs deeper pair is = ap (λ (ps : List LevelPair). files_of (map pair_of ps)) (sym is)

pub empty_of : (c : Contents) (version : Option ℕ) → version ≡ version_of c → is_some version ≡ false → c ≡ None
empty_of None version is none = refl
empty_of (Some filled) version is none = absurd (cc)
