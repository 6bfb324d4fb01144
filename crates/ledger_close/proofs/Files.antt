-- The files of an image as those of levels.
use Rattle.ledger_close.proofs.Prelude as prelude
use prelude.{◌≡◌, ℕ, zero, suc, ◌+◌, ◌*◌, ◌<◌, ◌⊎◌, inl, inr, List, [], ◌∷◌, ◌++◌, length, map, get_or, take, drop}
use prelude.{Some, None, Result, Err, refl, sym, ap, ◌∙◌, subst, arith, All, append_assoc, flat_map, get_or-drop}
use prelude.{drop-drop, length-drop, map-append, flat_map_more, take_all, take_more, length_push, All-nil, All-head}
use prelude.{All-tail, All-push, Contents, file_of, HasFile, Pair, pair_at, empty_pair, pair_of, LevelPair, ImageFault}
use prelude.{AreFilesOf, IsFileOf, IsNoFile, IsFileFault, fault_of}
use Rattle.bucket_core.specs.Faults.{first_fault, JudgedBy}
use Rattle.bucket_core.specs.declared.fault.BucketFault.{BucketFault}
use Rattle.bucket_core.specs.declared.fault.BucketFault.TheVariants as bucket
use Rattle.bucket_levels.specs.Spills.{level_count}
use Rattle.close_rules.specs.declared.image_fault.ImageFault.TheVariants as fault
use Rattle.close_rules.specs.declared.image_fault.ImageRule.TheVariants as rule

-- ---- one file

-- a bucket's file has no fault
abbrev pub NoFaults : Type 0
NoFaults = (contents : Contents) → HasFile contents → first_fault (file_of contents) ≡ None

faulty : (file : List ℕ) (wrong : BucketFault) → NoFaults → first_fault file ≡ Some wrong → (contents : Contents)
    → IsFileOf file contents → ⊥
faulty file wrong law recorded contents is =
    let none : first_fault file ≡ None =
    subst (λ (t : List ℕ). first_fault t ≡ None) (sym is.is) (law contents is.has) in
    cc

shown_by : (T : Type 0) (file : List ℕ) (wrong : BucketFault) → NoFaults
    → JudgedBy {T = T} (first_fault file) (Err wrong) → IsFileFault (fault_of wrong) (IsNoFile file)
shown_by T file bucket.NoMemory law recorded = tt
shown_by T file (bucket.Xdr at kind) law recorded = faulty file (bucket.Xdr at kind) law recorded
shown_by T file (bucket.NoMeta at) law recorded = faulty file (bucket.NoMeta at) law recorded
shown_by T file (bucket.SecondMeta at) law recorded = faulty file (bucket.SecondMeta at) law recorded
shown_by T file (bucket.Order at) law recorded = faulty file (bucket.Order at) law recorded

-- what a reader's fault says of the file of which it read a copy
pub shown_of : {T : Type 0} (answered : Result T BucketFault) (file copied : List ℕ) (wrong : BucketFault)
    (answer : ImageFault) → NoFaults → copied ≡ file → JudgedBy (first_fault copied) answered
    → answered ≡ Err wrong → answer ≡ fault_of wrong → IsFileFault answer (IsNoFile file)
shown_of {T = T} answered file copied wrong answer law same recorded failed is =
    subst (λ (a : ImageFault). IsFileFault a (IsNoFile file)) (sym is)
    (subst (λ (t : List ℕ). IsFileFault (fault_of wrong) (IsNoFile t)) same
    (shown_by T copied wrong law
    (subst (λ (r : Result T BucketFault). JudgedBy {T = T} (first_fault copied) r) failed recorded)))

pub weaker : {P Q : Type 0} (wrong : ImageFault) → (P → Q) → IsFileFault wrong P → IsFileFault wrong Q
weaker fault.NoMemory on h = tt
weaker (fault.BadImage rule.Header) on h = absurd h
weaker (fault.BadImage rule.Version) on h = absurd h
weaker (fault.BadImage rule.Fields) on h = absurd h
weaker (fault.BadImage rule.Bucket) on h = on h
weaker (fault.BadImage rule.Marks) on h = absurd h
weaker (fault.BadImage rule.ListHash) on h = absurd h
weaker (fault.BadImage rule.Entry) on h = absurd h
weaker (fault.BadImage rule.Owner) on h = absurd h
weaker (fault.BadImage rule.Liabilities) on h = absurd h
weaker (fault.BadImage rule.Subentries) on h = absurd h
weaker (fault.BadImage rule.Sponsorship) on h = absurd h
weaker (fault.BadImage rule.Pools) on h = absurd h
weaker (fault.BadImage rule.Lumens) on h = absurd h

-- ---- all files

abbrev pub HasBoth : Pair → Type 0
HasBoth pair = HasFile pair.curr × HasFile pair.snap

abbrev pub files_in : Pair → List (List ℕ)
files_in pair = file_of pair.curr ∷ file_of pair.snap ∷ []

-- so many levels were read from the start of the files
pub record AreRead (files : List (List ℕ)) (levels : List Pair) (n : ℕ) : Type 0 where
  pub count : length levels ≡ n
  pub have : All HasBoth levels
  pub are : take (2 * n) files ≡ flat_map files_in levels

pub none_read : (files : List (List ℕ)) (pairs : List LevelPair) → pairs ≡ [] → AreRead files (map pair_of pairs) 0
none_read files pairs none =
    subst (λ (p : List LevelPair). AreRead files (map pair_of p) 0) (sym none)
    (record { count = refl; have = All-nil HasBoth; are = refl })

more_read : (files : List (List ℕ)) (levels : List Pair) (pair : Pair) (n : ℕ) (a b : List ℕ) → AreRead files levels n
    → 2 * n + 1 < length files → a ≡ get_or files (2 * n) a → b ≡ get_or files (2 * n + 1) b
    → IsFileOf a pair.curr → IsFileOf b pair.snap → AreRead files (levels ++ pair ∷ []) (n + 1)
more_read files levels pair n a b read below at_a at_b curr snap = record {
  count = omega (arith, length_push levels pair, read.count);
  have = All-push HasBoth levels pair read.have (curr.has, snap.has);
  are =
      let all : List (List ℕ) = flat_map files_in levels in
      let second : take (2 * n + 1 + 1) files ≡ take (2 * n + 1) files ++ b ∷ [] =
      take_more files (2 * n + 1) b below ∙ ap (λ (x : List ℕ). take (2 * n + 1) files ++ x ∷ []) (sym at_b) in
      let first : take (2 * n + 1) files ≡ all ++ a ∷ [] =
      take_more files (2 * n) a (omega arith) ∙ ap (λ (x : List ℕ). take (2 * n) files ++ x ∷ []) (sym at_a)
      ∙ ap (λ (x : List (List ℕ)). x ++ a ∷ []) read.are in
      let long : 2 * (n + 1) ≡ 2 * n + 1 + 1 = omega arith in
      let last : all ++ files_in pair ≡ flat_map files_in (levels ++ pair ∷ []) =
      flat_map_more files_in [] levels pair in
      ap (λ (m : ℕ). take m files) long ∙ second ∙ ap (λ (x : List (List ℕ)). x ++ b ∷ []) first
      ∙ append_assoc all (a ∷ []) (b ∷ [])
      ∙ ap (λ (x : List ℕ). all ++ x ∷ b ∷ []) curr.is
      ∙ ap (λ (x : List ℕ). all ++ file_of pair.curr ∷ x ∷ []) snap.is
      ∙ last;
}

pub one_more_read : (files : List (List ℕ)) (old new : List LevelPair) (pair : LevelPair) (n : ℕ) (a b : List ℕ)
    → AreRead files (map pair_of old) n → 2 * n + 1 < length files → a ≡ get_or files (2 * n) a
    → b ≡ get_or files (2 * n + 1) b → IsFileOf a pair.curr.value → IsFileOf b pair.snap.value
    → new ≡ old ++ pair ∷ [] → AreRead files (map pair_of new) (n + 1)
one_more_read files old new pair n a b read below at_a at_b curr snap is =
    subst (λ (p : List Pair). AreRead files p (n + 1)) (sym (ap (map pair_of) is ∙ map-append pair_of old (pair ∷ [])))
    (more_read files (map pair_of old) (pair_of pair) n a b read below at_a at_b curr snap)

pub all_read : (files : List (List ℕ)) (levels : List Pair) (n : ℕ) → length files ≡ 22 → n ≡ 11
    → AreRead files levels n → AreFilesOf levels files
all_read files levels n count end read = record {
  count = read.count ∙ end;
  have = read.have;
  are = sym (take_all (2 * n) files (omega arith)) ∙ read.are;
}

-- ---- files put one by one

-- the files of so many levels were put one after another
pub record AreWritten (levels : List Pair) (files : List (List ℕ)) (n : ℕ) : Type 0 where
  pub have : All HasBoth (take n levels)
  pub are : files ≡ flat_map files_in (take n levels)

pub none_written : (levels : List Pair) (files : List (List ℕ)) → files ≡ [] → AreWritten levels files 0
none_written levels files none = record { have = All-nil HasBoth; are = none }

pub one_more_written : (levels : List Pair) (pair : Pair) (old half new : List (List ℕ)) (n : ℕ)
    → AreWritten levels old n → n < length levels → pair ≡ pair_at levels n → HasBoth pair
    → half ≡ old ++ file_of pair.curr ∷ [] → new ≡ half ++ file_of pair.snap ∷ [] → AreWritten levels new (n + 1)
one_more_written levels pair old half new n written below at both curr snap =
    let grown : take (n + 1) levels ≡ take n levels ++ pair ∷ [] =
    take_more levels n empty_pair below ∙ ap (λ (p : Pair). take n levels ++ p ∷ []) (sym at) in
    record {
      have = subst (All HasBoth) (sym grown) (All-push HasBoth (take n levels) pair written.have both);
      are = snap
          ∙ ap (λ (f : List (List ℕ)). f ++ file_of pair.snap ∷ []) curr
          ∙ append_assoc old (file_of pair.curr ∷ []) (file_of pair.snap ∷ [])
          ∙ ap (λ (f : List (List ℕ)). f ++ files_in pair) written.are
          ∙ flat_map_more files_in [] (take n levels) pair
          ∙ ap (flat_map files_in) (sym grown);
    }

pub all_written : (levels : List Pair) (files : List (List ℕ)) (n : ℕ) → length levels ≡ level_count → n ≡ 11
    → AreWritten levels files n → AreFilesOf levels files
all_written levels files n count end written =
    let all : take n levels ≡ levels = take_all n levels (omega (arith, count, end)) in
    record {
      count = count;
      have = subst (All HasBoth) all written.have;
      are = written.are ∙ ap (flat_map files_in) all;
    }

-- ---- files taken one by one

-- the first of the files that are left was taken
pub record NextFile (files after : List (List ℕ)) (index : ℕ) (file : List ℕ) : Type 0 where
  pub is : file ≡ get_or files index file
  pub left : after ≡ drop (index + 1) files

pub file_ahead : (files ahead : List (List ℕ)) (index : ℕ) → ahead ≡ drop index files → index < length files
    → 0 < length ahead
file_ahead files ahead index left below = omega (arith, ap length left, length-drop index files)

pub next_file : (files ahead after : List (List ℕ)) (index : ℕ) (file : List ℕ) → ahead ≡ drop index files
    → file ≡ get_or ahead 0 file → after ≡ take 0 ahead ++ drop (0 + 1) ahead → NextFile files after index file
next_file files ahead after index file left first taken = record {
  is = first ∙ ap (λ (f : List (List ℕ)). get_or f 0 file) left ∙ get_or-drop index files 0 file
      ∙ (let same : index + 0 ≡ index = omega arith in ap (λ (n : ℕ). get_or files n file) same);
  left = taken ∙ ap (λ (f : List (List ℕ)). drop 1 f) left ∙ drop-drop 1 index files;
}

-- ---- where one is no bucket's

abbrev double : ℕ → ℕ
double zero = zero
double (suc n) = suc (suc (double n))

doubles : (n : ℕ) → double n ≡ 2 * n
doubles zero = refl
doubles (suc n) = omega (arith, doubles n)

record HasLevelAt (files : List (List ℕ)) (i : ℕ) (a b : List ℕ) : Type 0 where
  pub pair : Pair
  pub curr : IsFileOf (get_or files (double i) a) pair.curr
  pub snap : IsFileOf (get_or files (suc (double i)) b) pair.snap

level_at : (levels : List Pair) (i : ℕ) (a b : List ℕ) → All HasBoth levels → i < length levels
    → HasLevelAt (flat_map files_in levels) i a b
level_at [] i a b have below = absurd (omega arith)
level_at (pair ∷ rest) zero a b have below =
    let h = All-head HasBoth pair rest have in
    record { pair = pair; curr = record { has = h.0; is = refl }; snap = record { has = h.1; is = refl } }
level_at (pair ∷ rest) (suc i) a b have below =
    let h = level_at rest i a b (All-tail HasBoth pair rest have) (omega arith) in
    record { pair = h.pair; curr = h.curr; snap = h.snap }

two_at : (files : List (List ℕ)) (i : ℕ) (a b : List ℕ) → i < 11 → a ≡ get_or files (2 * i) a
    → b ≡ get_or files (2 * i + 1) b → (levels : List Pair) → AreFilesOf levels files
    → (pair : Pair) × IsFileOf a pair.curr × IsFileOf b pair.snap
two_at files i a b below at_a at_b levels are =
    let h = level_at levels i a b are.have (omega (arith, are.count)) in
    let all : List (List ℕ) = flat_map files_in levels in
    let first : get_or all (double i) a ≡ a =
    ap (λ (n : ℕ). get_or all n a) (doubles i) ∙ ap (λ (f : List (List ℕ)). get_or f (2 * i) a) (sym are.are)
    ∙ sym at_a in
    let odd : suc (double i) ≡ 2 * i + 1 = omega (arith, doubles i) in
    let second : get_or all (suc (double i)) b ≡ b =
    ap (λ (n : ℕ). get_or all n b) odd ∙ ap (λ (f : List (List ℕ)). get_or f (2 * i + 1) b) (sym are.are)
    ∙ sym at_b in (
      h.pair,
      subst (λ (x : List ℕ). IsFileOf x h.pair.curr) first h.curr,
      subst (λ (x : List ℕ). IsFileOf x h.pair.snap) second h.snap,
    )

pub no_levels : (files : List (List ℕ)) (i : ℕ) (a b : List ℕ) → i < 11 → a ≡ get_or files (2 * i) a
    → b ≡ get_or files (2 * i + 1) b → IsNoFile a ⊎ IsNoFile b → (levels : List Pair) → AreFilesOf levels files → ⊥
no_levels files i a b below at_a at_b (inl first) levels are =
    let h = two_at files i a b below at_a at_b levels are in first h.0.curr h.1
no_levels files i a b below at_a at_b (inr second) levels are =
    let h = two_at files i a b below at_a at_b levels are in second h.0.snap h.2

-- ---- levels with the same files

-- buckets with the same file are the same
abbrev pub OneFile : Type 0
OneFile = (a b : Contents) → HasFile a → HasFile b → file_of a ≡ file_of b → a ≡ b

abbrev pair_with : Contents → Contents → Pair
pair_with curr snap = record { curr = curr; snap = snap }

same_levels : OneFile → (a b : List Pair) → All HasBoth a → All HasBoth b → length a ≡ length b
    → flat_map files_in a ≡ flat_map files_in b → a ≡ b
same_levels law [] [] ha hb count is = refl
same_levels law [] (y ∷ ys) ha hb count is = absurd (omega arith)
same_levels law (x ∷ xs) [] ha hb count is = absurd (omega arith)
same_levels law (x ∷ xs) (y ∷ ys) ha hb count is =
    let h = All-head HasBoth x xs ha in
    let k = All-head HasBoth y ys hb in
    let curr : x.curr ≡ y.curr = law x.curr y.curr h.0 k.0 (cc) in
    let snap : x.snap ≡ y.snap = law x.snap y.snap h.1 k.1 (cc) in
    let rest : xs ≡ ys =
    same_levels law xs ys (All-tail HasBoth x xs ha) (All-tail HasBoth y ys hb) (omega arith) (cc) in
    ap (λ (c : Contents). pair_with c x.snap ∷ xs) curr ∙ ap (λ (s : Contents). pair_with y.curr s ∷ xs) snap
    ∙ ap (λ (r : List Pair). y ∷ r) rest

pub levels_are_one : OneFile → (files : List (List ℕ)) (a b : List Pair) → AreFilesOf a files → AreFilesOf b files
    → a ≡ b
levels_are_one law files a b ha hb =
    same_levels law a b ha.have hb.have (ha.count ∙ sym hb.count) (sym ha.are ∙ hb.are)
