-- Whether files are those of levels.
use Rattle.existence_laws.proofs.Prelude as prelude
use prelude.{◌≡◌, inl, inr, ℕ, ◌*◌, ◌≤◌, List, [], ◌∷◌, length, Option, Some, None, All, refl, sym, ap, subst, ◌∙◌}
use prelude.{arith, flat_map, All-nil, All-cons, All-head, All-tail, IsBytes, StartImage, Contents, file_of, HasFile}
use prelude.{Pair, file_total, level_count, max_file_total, AreFilesOf, HasFiles, HasBoth, files_in, levels_are_one}
use Rattle.replay.specs.bucket_core.declared.fault.BucketFault.{BucketFault}
use Rattle.replay.specs.bucket_core.Faults.{first_fault}
use Rattle.replay.specs.bucket_core.Reading.{contents_of}
use Rattle.replay.proofs.bucket_core_proofs.Files.{no_fault_is_file, file_has_no_fault, files_distinguish}
use Rattle.existence_laws.proofs.Decided.{Decided, decided_as, both, below, same_number}

-- ---- one file

abbrev HasContents : List ℕ → Type 0
HasContents bytes = (contents : Contents) × HasFile contents × (bytes ≡ file_of contents)

a_file : (bytes : List ℕ) → IsBytes bytes → Decided (HasContents bytes)
a_file bytes text = by_fault (first_fault bytes) refl
  where
    by_fault : (found : Option BucketFault) → first_fault bytes ≡ found → Decided (HasContents bytes)
    by_fault None none = let file = no_fault_is_file bytes text none in inl (contents_of bytes, file.has, file.is)
    by_fault (Some wrong) some = inr (λ h.
        let none : first_fault bytes ≡ None = ap first_fault h.2 ∙ file_has_no_fault h.0 h.1 in
        cc (some, none))

-- ---- files, two and two

abbrev HaveLevels : List (List ℕ) → Type 0
HaveLevels files = (levels : List Pair) × All HasBoth levels × (files ≡ flat_map files_in levels)

first_two : (a b x y : List ℕ) (rest others : List (List ℕ)) → a ∷ b ∷ rest ≡ x ∷ y ∷ others
    → (a ≡ x) × ((b ≡ y) × (rest ≡ others))
first_two a b x y rest others is = (cc, (cc, cc))

no_pair : (a : List ℕ) → HaveLevels (a ∷ []) → ⊥
no_pair a ([], have, is) = cc (is)
no_pair a (pair ∷ levels, have, is) = cc (is)

prepended : (a b : List ℕ) (rest : List (List ℕ)) → HasContents a × (HasContents b × HaveLevels rest)
    → HaveLevels (a ∷ b ∷ rest)
prepended a b rest (curr, (snap, others)) =
    let pair : Pair = record { curr = curr.0; snap = snap.0 } in (
      pair ∷ others.0,
      All-cons HasBoth pair others.0 (curr.1, snap.1) others.1,
      λ i. curr.2 i ∷ snap.2 i ∷ others.2 i,
    )

taken_apart : (a b : List ℕ) (rest : List (List ℕ)) → HaveLevels (a ∷ b ∷ rest)
    → HasContents a × (HasContents b × HaveLevels rest)
taken_apart a b rest ([], have, is) = absurd (cc (is))
taken_apart a b rest (pair ∷ levels, have, is) =
    let here = All-head HasBoth pair levels have in
    let same = first_two a b (file_of pair.curr) (file_of pair.snap) rest (flat_map files_in levels) is in (
      (pair.curr, here.0, same.0),
      ((pair.snap, here.1, same.1.0), (levels, All-tail HasBoth pair levels have, same.1.1)),
    )

levels_of : (files : List (List ℕ)) → All IsBytes files → Decided (HaveLevels files)
levels_of [] text = inl ([], All-nil HasBoth, refl)
levels_of (a ∷ []) text = inr (no_pair a)
levels_of (a ∷ b ∷ rest) text =
    let later = All-tail IsBytes a (b ∷ rest) text in
    decided_as (prepended a b rest) (taken_apart a b rest)
    (both (a_file a (All-head IsBytes a (b ∷ rest) text))
    (both (a_file b (All-head IsBytes b rest later)) (levels_of rest (All-tail IsBytes b rest later))))

-- ---- an image

two_each : (levels : List Pair) → length (flat_map files_in levels) ≡ 2 * length levels
two_each [] = refl
two_each (pair ∷ levels) = omega (arith, two_each levels)

pub some_files : (image : StartImage) → All IsBytes image.files
    → Decided ((levels : List Pair) × HasFiles image levels)
some_files image text = by_levels (levels_of image.files text)
  where
    of_levels : (levels : List Pair) → AreFilesOf levels image.files
        → Decided ((found : List Pair) × HasFiles image found)
    of_levels levels files =
        decided_as (λ fit. (levels, record { files = files; fit = fit }))
        (λ h. subst (λ (found : List Pair). file_total found ≤ max_file_total)
        (levels_are_one files_distinguish image.files h.0 levels h.1.files files) h.1.fit)
        (below (file_total levels) max_file_total)

    by_count : (levels : List Pair) → All HasBoth levels → image.files ≡ flat_map files_in levels
        → Decided (length levels ≡ level_count) → Decided ((found : List Pair) × HasFiles image found)
    by_count levels have are (inl count) = of_levels levels (record { count = count; have = have; are = are })
    by_count levels have are (inr other) = inr (λ h. other
        (let same : 2 * length levels ≡ 2 * length h.0 =
        sym (two_each levels) ∙ ap length (sym are ∙ h.1.files.are) ∙ two_each h.0 in
        omega (arith, same, h.1.files.count)))

    by_levels : Decided (HaveLevels image.files) → Decided ((found : List Pair) × HasFiles image found)
    by_levels (inl found) = by_count found.0 found.1 found.2 (same_number (length found.0) level_count)
    by_levels (inr none) = inr (λ h. none (h.0, h.1.files.have, h.1.files.are))
