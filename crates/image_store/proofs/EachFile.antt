-- Each list of numbers is a journal of some records, or is none, for what is at some offset.
use Rattle.image_store.proofs.Prelude.{◌≡◌, ℕ, zero, suc, ◌<◌, ◌≤◌, ◌⊎◌, inl, inr, List, [], ◌∷◌, ◌++◌, length, take}
use Rattle.image_store.proofs.Prelude.{drop, refl, sym, ◌∙◌, ap, ap₂, arith, length-append, cases_eq, cases_lt, take_at}
use Rattle.image_store.proofs.Prelude.{drop_at, All-nil, All-cons, big_number, big_bytes, big_number-reads_back}
use Rattle.image_store.proofs.Prelude.{max_record, block, blocks, BeginWith, IsShut, IsBroken, HasRecords, HasNoRecords}
use Rattle.std.proofs.Common.{append_assoc}
use mathlib.Core.List.{List-discrete}
use native.Mathlib.Decide.{ℕ_discrete}

-- its records, or the offset where there are none
abbrev Decided : List ℕ → Type 0
Decided file = ((records : List (List ℕ)) × HasRecords file records) ⊎ ((offset : ℕ) × HasNoRecords file offset)

-- ---- what is at the start

-- a record, and what is after it
record Prefix (file : List ℕ) : Type 0 where
  bytes : List ℕ
  after : List ℕ
  short : length bytes ≤ max_record
  is : file ≡ block bytes ++ after

-- the only bytes that a record there can have, by the length that it begins with, and what would follow it
abbrev reported_bytes : List ℕ → List ℕ
reported_bytes rest = take (big_number 4 rest) (drop 4 rest)

abbrev reported_after : List ℕ → List ℕ
reported_after rest = drop (big_number 4 rest) (drop 4 rest)

reported_length : (rest bytes more : List ℕ) → length bytes ≤ max_record
    → rest ≡ big_bytes 4 (length bytes) ++ (bytes ++ more)
    → big_number 4 rest ≡ length bytes
reported_length rest bytes more short is =
    ap (big_number 4) is ∙ big_number-reads_back 4 (length bytes) (bytes ++ more) (omega arith)

only_record : (gate : ℕ) (rest bytes more : List ℕ) → length bytes ≤ max_record → gate ∷ rest ≡ block bytes ++ more
    → (bytes ≡ reported_bytes rest) × (more ≡ reported_after rest)
only_record gate rest bytes more short is =
    let after : rest ≡ big_bytes 4 (length bytes) ++ (bytes ++ more) = ap (λ (l : List ℕ). drop 1 l) is in
    let size = reported_length rest bytes more short after in
    let both : drop 4 rest ≡ bytes ++ more = ap (λ (l : List ℕ). drop 4 l) after in (
      sym (ap (take (big_number 4 rest)) both ∙ take_at bytes more (big_number 4 rest) (sym size)),
      sym (ap (drop (big_number 4 rest)) both ∙ drop_at bytes more (big_number 4 rest) (sym size)),
    )

too_long : (gate : ℕ) (rest : List ℕ) → gate ≡ 1 → max_record < length (reported_bytes rest) → IsBroken (gate ∷ rest)
too_long gate rest one long = (
  one,
  λ bytes more short is.
      let size = ap length (only_record gate rest bytes more short is).0 in
      absurd (omega arith),
)

otherwise : (gate : ℕ) (rest : List ℕ) → gate ≡ 1
    → (gate ∷ rest ≡ block (reported_bytes rest) ++ reported_after rest → ⊥)
    → IsBroken (gate ∷ rest)
otherwise gate rest one none = (
  one,
  λ bytes more short is.
      let only = only_record gate rest bytes more short is in
      none (is ∙ ap₂ (λ (b m : List ℕ). block b ++ m) only.0 only.1),
)

opened : (gate : ℕ) (rest : List ℕ) → gate ≡ 1 → Prefix (gate ∷ rest) ⊎ IsBroken (gate ∷ rest)
opened gate rest one = elim (cases_lt max_record (length (reported_bytes rest))) [
  | inl long ↦ inr (too_long gate rest one long)
  | inr short ↦ elim (List-discrete ℕ_discrete (gate ∷ rest) (block (reported_bytes rest) ++ reported_after rest)) [
    | yes is ↦ inl (record { bytes = reported_bytes rest; after = reported_after rest; short = short; is = is })
    | no other ↦ inr (otherwise gate rest one other)
  ]
]

prefix : (file : List ℕ) → IsShut file ⊎ (Prefix file ⊎ IsBroken file)
prefix [] = inr (inr tt)
prefix (gate ∷ rest) = elim (cases_eq gate 1) [ inl one ↦ inr (opened gate rest one) | inr other ↦ inl other ]

-- ---- the entire file

nothing_first : (file : List ℕ) → BeginWith file [] file
nothing_first file =
    record { cut = refl; short = All-nil (λ (bytes : List ℕ). length bytes ≤ max_record) }

one_first : (file : List ℕ) (first : Prefix file) (records : List (List ℕ)) (after : List ℕ)
    → BeginWith first.after records after → BeginWith file (first.bytes ∷ records) after
one_first file first records after rest = record {
  cut = first.is ∙ ap (λ (l : List ℕ). block first.bytes ++ l) rest.cut
      ∙ sym (append_assoc (block first.bytes) (blocks records) after);
  short = All-cons (λ (bytes : List ℕ). length bytes ≤ max_record) first.bytes records first.short rest.short;
}

with_prefix : (file : List ℕ) (first : Prefix file) → Decided first.after → Decided file
with_prefix file first (inl (records, (after, exist, shut))) =
    inl (first.bytes ∷ records, (after, one_first file first records after exist, shut))
with_prefix file first (inr (offset, (records, after, exist, broken, at))) = inr (
  length (blocks (first.bytes ∷ records)),
  (first.bytes ∷ records, after, one_first file first records after exist, broken, refl),
)

shorter : (file : List ℕ) (first : Prefix file) → length first.after < length file
shorter file first = omega (arith, ap length first.is, length-append (block first.bytes) first.after)

by_prefix : (file : List ℕ) → IsShut file ⊎ (Prefix file ⊎ IsBroken file)
    → ((after : List ℕ) → length after < length file → Decided after) → Decided file
by_prefix file (inl shut) others = inl ([], (file, nothing_first file, shut))
by_prefix file (inr (inl first)) others = with_prefix file first (others first.after (shorter file first))
by_prefix file (inr (inr broken)) others = inr (0, ([], file, nothing_first file, broken, refl))

each_within : (most : ℕ) (file : List ℕ) → length file < most → Decided file
each_within zero file less = absurd (omega arith)
each_within (suc most) file less =
    by_prefix file (prefix file) (λ after shorter. each_within most after (omega arith))

pub each_file : (file : List ℕ)
    → ((records : List (List ℕ)) × HasRecords file records) ⊎ ((offset : ℕ) × HasNoRecords file offset)
each_file file = each_within (suc (length file)) file (omega arith)
