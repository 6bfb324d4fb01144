-- An image is judged to be one thing.
use Rattle.close_laws.proofs.Prelude.{◌≡◌, ℕ, List, [], ◌∷◌, Option, Some, None, Result, Ok, Err, refl, sym, ap, subst}
use Rattle.close_laws.proofs.Prelude.{◌∙◌, inl, inr, ◌⊎◌, flat_map, All-head, All-tail}
use Rattle.close_laws.proofs.Prelude.{Hash, LedgerHeader, StartImage, EntryMap, Contents, file_of, HasFile}
use Rattle.close_laws.proofs.Prelude.{Pair, list_hash, ClosingState, entry_rules, IsFirstBroken, header_in, HasHeader}
use Rattle.close_laws.proofs.Prelude.{HasFiles, HasLevels, HasEntries, state_of, IsJudged, BreaksEntries}
use Rattle.close_laws.proofs.Prelude.{AreFieldsInRange, ImagesAreOne}
use Rattle.std.specs.Prelude.{All}
use Rattle.bucket_levels.proofs.Represented.{one_map}
use Rattle.bucket_levels.proofs.bucket_core_proofs.Files.{files_distinguish}
use Rattle.bucket_levels.specs.Meaning.{Represent, AreWellMarked}
use Rattle.close_rules.specs.legal_rules.Headers.{IsSupported}
use Rattle.close_rules.specs.declared.image_fault.ImageFault.{ImageFault}
use Rattle.close_rules.specs.declared.image_fault.ImageFault.TheVariants as fault
use Rattle.close_rules.specs.declared.image_fault.ImageRule.{ImageRule}
use Rattle.close_rules.specs.declared.image_fault.ImageRule.TheVariants as rule

-- ---- what an image has

abbrev some : LedgerHeader → Option LedgerHeader
some h = Some h

some_is : (a b : LedgerHeader) → some a ≡ Some b → a ≡ b
some_is a b e = cc

same_header : (image : StartImage) (a b : LedgerHeader) → header_in image.header ≡ Some a
    → header_in image.header ≡ Some b → a ≡ b
same_header image a b h i = some_is a b (sym h ∙ i)

abbrev pair_files : Pair → List (List ℕ)
pair_files pair = file_of pair.curr ∷ file_of pair.snap ∷ []

abbrev HavePair : Pair → Type 0
HavePair pair = HasFile pair.curr × HasFile pair.snap

heads_are : (a b : List ℕ) (x y : List (List ℕ)) → a ∷ x ≡ b ∷ y → (a ≡ b) × (x ≡ y)
heads_are a b x y e = (cc, cc)

abbrev pair_of : Contents → Contents → Pair
pair_of curr snap = record { curr = curr; snap = snap }

same_pairs : (a b : List Pair) → All HavePair a → All HavePair b → flat_map pair_files a ≡ flat_map pair_files b → a ≡ b
same_pairs [] [] h i e = refl
same_pairs [] (q ∷ b) h i e = absurd cc
same_pairs (p ∷ a) [] h i e = absurd cc
same_pairs (p ∷ a) (q ∷ b) h i e =
    let curr = heads_are (file_of p.curr) (file_of q.curr) (file_of p.snap ∷ flat_map pair_files a)
    (file_of q.snap ∷ flat_map pair_files b) e in
    let snap = heads_are (file_of p.snap) (file_of q.snap) (flat_map pair_files a) (flat_map pair_files b) curr.1 in
    let have_p = All-head HavePair p a h in
    let have_q = All-head HavePair q b i in
    let curr_is : p.curr ≡ q.curr = files_distinguish p.curr q.curr have_p.0 have_q.0 curr.0 in
    let snap_is : p.snap ≡ q.snap = files_distinguish p.snap q.snap have_p.1 have_q.1 snap.0 in
    let rest : a ≡ b = same_pairs a b (All-tail HavePair p a h) (All-tail HavePair q b i) snap.1 in
    let pair_is : p ≡ q = ap (λ (c : Contents). pair_of c p.snap) curr_is
    ∙ ap (λ (c : Contents). pair_of q.curr c) snap_is in
    ap (λ (x : Pair). x ∷ a) pair_is ∙ ap (λ (x : List Pair). q ∷ x) rest

same_levels : (image : StartImage) (a b : List Pair) → HasFiles image a → HasFiles image b → a ≡ b
same_levels image a b h i = same_pairs a b h.files.have i.files.have (sym h.files.are ∙ i.files.are)

same_entries : (levels : List Pair) (m n : EntryMap) → Represent levels m → Represent levels n → m ≡ n
same_entries levels m n h i = sym (one_map levels m h) ∙ one_map levels n i

-- ---- rules of entries

abbrev rule_of : ImageRule → Option ImageRule
rule_of broken = Some broken

-- the first rule that is broken is one
same_broken : (h : LedgerHeader) (m : EntryMap) (rules : List ImageRule) (a b : Option ImageRule)
    → IsFirstBroken h m rules a → IsFirstBroken h m rules b → a ≡ b
same_broken h m [] a b x y = x ∙ sym y
same_broken h m (first ∷ rules) None None x y = refl
same_broken h m (first ∷ rules) None (Some b) x (inl y) = absurd (y.0 x.0)
same_broken h m (first ∷ rules) None (Some b) x (inr y) = same_broken h m rules None (Some b) x.1 y.1
same_broken h m (first ∷ rules) (Some a) None (inl x) y = absurd (x.0 y.0)
same_broken h m (first ∷ rules) (Some a) None (inr x) y = same_broken h m rules (Some a) None x.1 y.1
same_broken h m (first ∷ rules) (Some a) (Some b) (inl x) (inl y) = ap rule_of (x.1 ∙ sym y.1)
same_broken h m (first ∷ rules) (Some a) (Some b) (inl x) (inr y) = absurd (x.0 y.0)
same_broken h m (first ∷ rules) (Some a) (Some b) (inr x) (inl y) = absurd (y.0 x.0)
same_broken h m (first ∷ rules) (Some a) (Some b) (inr x) (inr y) = same_broken h m rules (Some a) (Some b) x.1 y.1

-- ---- an image, judged rule by rule

abbrev Judged : Type 0
Judged = Result ClosingState ImageFault

abbrev ok : ClosingState → Judged
ok s = Ok s

abbrev bad : ImageRule → Judged
bad broken = Err (fault.BadImage broken)

-- where one test or another one ends, or the next goes on
abbrev Broken : ImageRule → (IsKept : Type 0) → Judged → Type 0
Broken broken IsKept judged = (IsKept → ⊥) × (judged ≡ bad broken)

abbrev by_entries : Hash → LedgerHeader → List Pair → EntryMap → Option ImageRule → Judged
by_entries network h levels m None = Ok (state_of network h levels m)
by_entries network h levels m (Some broken) = bad broken

abbrev ByEntries : Hash → LedgerHeader → List Pair → EntryMap → Judged → Type 0
ByEntries network h levels m judged =
    (broken : Option ImageRule) × IsFirstBroken h m entry_rules broken × (judged ≡ by_entries network h levels m broken)

abbrev ByHash : Hash → LedgerHeader → List Pair → Judged → Type 0
ByHash network h levels judged =
    Broken rule.ListHash (list_hash levels ≡ h.bucket_list_hash) judged
    ⊎ ((list_hash levels ≡ h.bucket_list_hash)
    × (m : EntryMap) × Represent levels m × ByEntries network h levels m judged)

abbrev ByMarks : Hash → LedgerHeader → List Pair → Judged → Type 0
ByMarks network h levels judged =
    Broken rule.Marks (AreWellMarked levels) judged ⊎ (AreWellMarked levels × ByHash network h levels judged)

abbrev ByFiles : Hash → StartImage → LedgerHeader → Judged → Type 0
ByFiles network image h judged =
    Broken rule.Bucket ((levels : List Pair) × HasFiles image levels) judged
    ⊎ ((levels : List Pair) × HasFiles image levels × ByMarks network h levels judged)

abbrev ByFields : Hash → StartImage → LedgerHeader → Judged → Type 0
ByFields network image h judged =
    Broken rule.Fields (AreFieldsInRange h) judged ⊎ (AreFieldsInRange h × ByFiles network image h judged)

abbrev ByVersion : Hash → StartImage → LedgerHeader → Judged → Type 0
ByVersion network image h judged =
    Broken rule.Version (IsSupported h.ledger_version) judged
    ⊎ (IsSupported h.ledger_version × ByFields network image h judged)

abbrev ByRules : Hash → StartImage → Judged → Type 0
ByRules network image judged =
    ((header_in image.header ≡ None) × (judged ≡ bad rule.Header))
    ⊎ ((h : LedgerHeader) × (header_in image.header ≡ Some h) × ByVersion network image h judged)

with_header : (network : Hash) (image : StartImage) (h : LedgerHeader) (judged : Judged) → HasHeader image h
    → ByFiles network image h judged → ByRules network image judged
with_header network image h judged x y = inr (h, x.reads, inr (x.version, inr (x.fields, y)))

with_levels : (network : Hash) (image : StartImage) (h : LedgerHeader) (levels : List Pair) (judged : Judged)
    → HasLevels image h levels → ByMarks network h levels judged → ByRules network image judged
with_levels network image h levels judged x y =
    with_header network image h judged x.header (inr (levels, x.files, y))

with_entries : (network : Hash) (image : StartImage) (h : LedgerHeader) (levels : List Pair) (m : EntryMap)
    (judged : Judged) → HasEntries image h levels m → ByEntries network h levels m judged → ByRules network image judged
with_entries network image h levels m judged x y =
    with_levels network image h levels judged x.files (inr (x.marks, inr (x.hash, m, x.existing, y)))

broken_entries : (network : Hash) (image : StartImage) (broken : ImageRule) → BreaksEntries image (Some broken)
    → ByRules network image (bad broken)
broken_entries network image broken y =
    with_entries network image y.0 y.1 y.2 (bad broken) y.3 (Some broken, y.4, refl)

by_rules : (network : Hash) (image : StartImage) (judged : Judged) → IsJudged network image judged
    → ByRules network image judged
by_rules network image (Ok s) y =
    with_entries network image y.0 y.1 y.2 (Ok s) y.3 (None, y.4, ap (λ (z : ClosingState). ok z) y.5)
by_rules network image (Err (fault.BadImage rule.Header)) y = inl (y, refl)
by_rules network image (Err (fault.BadImage rule.Version)) y = inr (y.0, y.1, inl (y.2, refl))
by_rules network image (Err (fault.BadImage rule.Fields)) y = inr (y.0, y.1, inr (y.2, inl (y.3, refl)))
by_rules network image (Err (fault.BadImage rule.Bucket)) y =
    with_header network image y.0 (bad rule.Bucket) y.1 (inl ((λ x. y.2 x.0 x.1), refl))
by_rules network image (Err (fault.BadImage rule.Marks)) y =
    with_levels network image y.0 y.1 (bad rule.Marks) y.2 (inl (y.3, refl))
by_rules network image (Err (fault.BadImage rule.ListHash)) y =
    with_levels network image y.0 y.1 (bad rule.ListHash) y.2 (inr (y.3, inl (y.4, refl)))
by_rules network image (Err (fault.BadImage rule.Entry)) y = broken_entries network image rule.Entry y
by_rules network image (Err (fault.BadImage rule.Owner)) y = broken_entries network image rule.Owner y
by_rules network image (Err (fault.BadImage rule.Liabilities)) y = broken_entries network image rule.Liabilities y
by_rules network image (Err (fault.BadImage rule.Subentries)) y = broken_entries network image rule.Subentries y
by_rules network image (Err (fault.BadImage rule.Sponsorship)) y = broken_entries network image rule.Sponsorship y
by_rules network image (Err (fault.BadImage rule.Pools)) y = broken_entries network image rule.Pools y
by_rules network image (Err (fault.BadImage rule.Lumens)) y = broken_entries network image rule.Lumens y
by_rules network image (Err fault.NoMemory) y = absurd y

-- ---- two judgements are one

one_by_entries : (network : Hash) (h : LedgerHeader) (levels : List Pair) (m : EntryMap) (a b : Judged)
    → ByEntries network h levels m a → ByEntries network h levels m b → a ≡ b
one_by_entries network h levels m a b x y =
    x.2 ∙ ap (λ (o : Option ImageRule). by_entries network h levels m o)
    (same_broken h m entry_rules x.0 y.0 x.1 y.1) ∙ sym y.2

one_by_hash : (network : Hash) (h : LedgerHeader) (levels : List Pair) (a b : Judged) → ByHash network h levels a
    → ByHash network h levels b → a ≡ b
one_by_hash network h levels a b (inl x) (inl y) = x.1 ∙ sym y.1
one_by_hash network h levels a b (inl x) (inr y) = absurd (x.0 y.0)
one_by_hash network h levels a b (inr x) (inl y) = absurd (y.0 x.0)
one_by_hash network h levels a b (inr x) (inr y) =
    one_by_entries network h levels y.1 a b
    (subst (λ (m : EntryMap). ByEntries network h levels m a) (same_entries levels x.1 y.1 x.2 y.2) x.3) y.3

one_by_marks : (network : Hash) (h : LedgerHeader) (levels : List Pair) (a b : Judged) → ByMarks network h levels a
    → ByMarks network h levels b → a ≡ b
one_by_marks network h levels a b (inl x) (inl y) = x.1 ∙ sym y.1
one_by_marks network h levels a b (inl x) (inr y) = absurd (x.0 y.0)
one_by_marks network h levels a b (inr x) (inl y) = absurd (y.0 x.0)
one_by_marks network h levels a b (inr x) (inr y) = one_by_hash network h levels a b x.1 y.1

one_by_files : (network : Hash) (image : StartImage) (h : LedgerHeader) (a b : Judged) → ByFiles network image h a
    → ByFiles network image h b → a ≡ b
one_by_files network image h a b (inl x) (inl y) = x.1 ∙ sym y.1
one_by_files network image h a b (inl x) (inr y) = absurd (x.0 (y.0, y.1))
one_by_files network image h a b (inr x) (inl y) = absurd (y.0 (x.0, x.1))
one_by_files network image h a b (inr x) (inr y) =
    one_by_marks network h y.0 a b
    (subst (λ (levels : List Pair). ByMarks network h levels a) (same_levels image x.0 y.0 x.1 y.1) x.2) y.2

one_by_fields : (network : Hash) (image : StartImage) (h : LedgerHeader) (a b : Judged) → ByFields network image h a
    → ByFields network image h b → a ≡ b
one_by_fields network image h a b (inl x) (inl y) = x.1 ∙ sym y.1
one_by_fields network image h a b (inl x) (inr y) = absurd (x.0 y.0)
one_by_fields network image h a b (inr x) (inl y) = absurd (y.0 x.0)
one_by_fields network image h a b (inr x) (inr y) = one_by_files network image h a b x.1 y.1

one_by_version : (network : Hash) (image : StartImage) (h : LedgerHeader) (a b : Judged) → ByVersion network image h a
    → ByVersion network image h b → a ≡ b
one_by_version network image h a b (inl x) (inl y) = x.1 ∙ sym y.1
one_by_version network image h a b (inl x) (inr y) = absurd (x.0 y.0)
one_by_version network image h a b (inr x) (inl y) = absurd (y.0 x.0)
one_by_version network image h a b (inr x) (inr y) = one_by_fields network image h a b x.1 y.1

none_and_some : (image : StartImage) (h : LedgerHeader) → header_in image.header ≡ None
    → header_in image.header ≡ Some h → ⊥
none_and_some image h none is = let e : some h ≡ None = sym is ∙ none in absurd cc

one_by_rules : (network : Hash) (image : StartImage) (a b : Judged) → ByRules network image a
    → ByRules network image b → a ≡ b
one_by_rules network image a b (inl x) (inl y) = x.1 ∙ sym y.1
one_by_rules network image a b (inl x) (inr y) = absurd (none_and_some image y.0 x.0 y.1)
one_by_rules network image a b (inr x) (inl y) = absurd (none_and_some image x.0 y.0 x.1)
one_by_rules network image a b (inr x) (inr y) =
    one_by_version network image y.0 a b
    (subst (λ (h : LedgerHeader). ByVersion network image h a) (same_header image x.0 y.0 x.1 y.1) x.2) y.2

-- an image is judged to be one thing
pub images_are_one : ImagesAreOne
images_are_one network image a b x y =
    one_by_rules network image a b (by_rules network image a x) (by_rules network image b y)
