-- Options that stand one after another, in any order.
use Rattle.command_words.proofs.Prelude.{◌≡◌, ◌≤◌, ◌∙◌, ◌⊎◌, ℕ, ap, sym, subst, inl, inr, List, ◌++◌, length, take}
use Rattle.command_words.proofs.Prelude.{Option, Some, None, Bor, MatchOption, String, string_bytes, length-map}
use Rattle.command_words.proofs.Prelude.{take-append-drop, IsOption, words_of}
use Rattle.std.proofs.Common.{append_assoc, drop}
use Rattle.std.specs.Global.{Global}
use Rattle.command_words.specs.WatchWords.{AreInAnyOrder}
use Rattle.command_words.specs.WatchOptions.{BeginsWith, Differ, AreTwo, AreThree}
use Rattle.command_words.proofs.Judging.{cut_after}
use Rattle.command_words.proofs.Options.{prefix_one, option_one, never_apart}

-- ---- one option before other words

-- an option is one word or two
abbrev IsFound : (name : List ℕ) (words : List (String Global)) (len : ℕ) → Bor (List ℕ) × Bor (List (String Global))
    → Type 0
IsFound name words len found = IsOption name found.0.now (take len (words_of words))
    × (words_of found.1.now ≡ drop len (words_of words))

abbrev IsUnfound : (name : List ℕ) (words : List (String Global)) (len : ℕ) → Type 0
IsUnfound name words len =
    (value : List ℕ) → len ≤ length words → IsOption name value (take len (words_of words)) → ⊥

pub found_at_two : (name : List ℕ) (words : List (String Global))
    (o : Option (Bor (List ℕ) × Bor (List (String Global))))
    → IsUnfound name words 1 → MatchOption o (IsUnfound name words 2) (IsFound name words 2)
    → MatchOption o ((value : List ℕ) (rest : List (List ℕ)) → BeginsWith name value rest (words_of words) → ⊥)
    (λ found. BeginsWith name found.0.now (words_of found.1.now) (words_of words))
found_at_two name words None one two = λ value rest begins.
    let long : length (words_of words) ≡ length words = length-map words string_bytes in
    elim (cut_after (λ option others. IsOption name value option) name value begins.0 rest (words_of words) begins.1
    begins.2 begins.1) [
      | inl cut ↦ one value (subst (λ n. 1 ≤ n) long cut.0) cut.1
      | inr cut ↦ two value (subst (λ n. 2 ≤ n) long cut.0) cut.1
    ]
found_at_two name words (Some found) one two = (
  take 2 (words_of words),
  two.0,
  sym (take-append-drop 2 (words_of words)) ∙ ap (λ ws. take 2 (words_of words) ++ ws) (sym two.1),
)

-- ---- two options

abbrev pub NoneBegins : (name : List ℕ) (words : List (List ℕ)) → Type 0
NoneBegins name words = (value : List ℕ) (rest : List (List ℕ)) → BeginsWith name value rest words → ⊥

two_turned : (n v m w : List ℕ) (words : List (List ℕ)) → AreTwo n v m w words → AreTwo m w n v words
two_turned n v m w words (a, b, is, is', inl e) = (b, a, is', is, inr e)
two_turned n v m w words (a, b, is, is', inr e) = (b, a, is', is, inl e)

-- the words begin with one of them
pub two_after : (n v v' m w : List ℕ) (rest words : List (List ℕ)) → Differ n m → BeginsWith n v rest words
    → AreTwo n v' m w words → (v' ≡ v) × IsOption m w rest
two_after n v v' m w rest words differ (option, first, is) (a, b, one, other, inl e) =
    let same = prefix_one n v' v a option b rest one first (sym e ∙ is) in
    (same.0, subst (IsOption m w) same.2 other)
two_after n v v' m w rest words differ (option, first, is) (a, b, one, other, inr e) =
    absurd (never_apart n m differ v w option b rest a first other (sym is ∙ e))

-- they don't begin with the other one
pub second_after : (n v m w w' : List ℕ) (rest words : List (List ℕ)) → NoneBegins n words → BeginsWith m w rest words
    → AreTwo n v m w' words → IsOption n v rest
second_after n v m w w' rest words none (option, first, is) (a, b, one, other, inl e) = absurd (none v b (a, one, e))
second_after n v m w w' rest words none (option, first, is) (a, b, one, other, inr e) =
    let same = prefix_one m w' w b option a rest other first (sym e ∙ is) in
    subst (IsOption n v) same.2 one

pub no_two : (n v m w : List ℕ) (words : List (List ℕ)) → NoneBegins n words → NoneBegins m words
    → AreTwo n v m w words → ⊥
no_two n v m w words none none' (a, b, one, other, inl e) = none v b (a, one, e)
no_two n v m w words none none' (a, b, one, other, inr e) = none' w a (b, other, e)

two_one : (n v v' m w w' : List ℕ) (words : List (List ℕ)) → Differ n m → Differ m n → AreTwo n v m w words
    → AreTwo n v' m w' words → (v ≡ v') × (w ≡ w')
two_one n v v' m w w' words differ differ' (a, b, one, other, inl e) two =
    let after = two_after n v v' m w' b words differ (a, one, e) two in
    (sym after.0, option_one m w w' b other after.1)
two_one n v v' m w w' words differ differ' (a, b, one, other, inr e) two =
    let after = two_after m w w' n v' a words differ' (b, other, e) (two_turned n v' m w' words two) in
    (option_one n v v' a one after.1, sym after.0)

-- ---- three options

any_swapped : (a b c words : List (List ℕ)) → AreInAnyOrder a b c words → AreInAnyOrder b a c words
any_swapped a b c words (inl e) = inr (inr (inl e))
any_swapped a b c words (inr (inl e)) = inr (inr (inr (inl e)))
any_swapped a b c words (inr (inr (inl e))) = inl e
any_swapped a b c words (inr (inr (inr (inl e)))) = inr (inl e)
any_swapped a b c words (inr (inr (inr (inr (inl e))))) = inr (inr (inr (inr (inr e))))
any_swapped a b c words (inr (inr (inr (inr (inr e))))) = inr (inr (inr (inr (inl e))))

any_turned : (a b c words : List (List ℕ)) → AreInAnyOrder a b c words → AreInAnyOrder c a b words
any_turned a b c words (inl e) = inr (inr (inr (inl e)))
any_turned a b c words (inr (inl e)) = inr (inr (inl e))
any_turned a b c words (inr (inr (inl e))) = inr (inr (inr (inr (inr e))))
any_turned a b c words (inr (inr (inr (inl e)))) = inr (inr (inr (inr (inl e))))
any_turned a b c words (inr (inr (inr (inr (inl e))))) = inl e
any_turned a b c words (inr (inr (inr (inr (inr e))))) = inr (inl e)

pub three_swapped : (n v m w k u : List ℕ) (words : List (List ℕ)) → AreThree n v m w k u words
    → AreThree m w n v k u words
three_swapped n v m w k u words (a, b, c, is, is', is'', any) = (b, a, c, is', is, is'', any_swapped a b c words any)

pub three_turned : (n v m w k u : List ℕ) (words : List (List ℕ)) → AreThree n v m w k u words
    → AreThree k u n v m w words
three_turned n v m w k u words (a, b, c, is, is', is'', any) = (c, a, b, is'', is, is', any_turned a b c words any)

pub three_after : (n v v' m w k u : List ℕ) (rest words : List (List ℕ)) → Differ n m → Differ n k
    → BeginsWith n v rest words → AreThree n v' m w k u words → (v' ≡ v) × AreTwo m w k u rest
three_after n v v' m w k u rest words differ differ' (option, first, is) (a, b, c, one, two, three, inl e) =
    let same = prefix_one n v' v a option (b ++ c) rest one first (sym (append_assoc a b c) ∙ sym e ∙ is) in
    (same.0, (b, c, two, three, inl (sym same.2)))
three_after n v v' m w k u rest words differ differ' (option, first, is) (a, b, c, one, two, three, inr (inl e)) =
    let same = prefix_one n v' v a option (c ++ b) rest one first (sym (append_assoc a c b) ∙ sym e ∙ is) in
    (same.0, (b, c, two, three, inr (sym same.2)))
three_after n v v' m w k u rest words differ differ' (option, first, is) (a, b, c, one, two, three, inr (inr (inl e))) =
    absurd (never_apart n m differ v w option b rest (a ++ c) first two (sym is ∙ e ∙ append_assoc b a c))
three_after n v v' m w k u rest words differ differ' (option, first, is)
    (a, b, c, one, two, three, inr (inr (inr (inl e)))) =
    absurd (never_apart n m differ v w option b rest (c ++ a) first two (sym is ∙ e ∙ append_assoc b c a))
three_after n v v' m w k u rest words differ differ' (option, first, is)
    (a, b, c, one, two, three, inr (inr (inr (inr (inl e))))) =
    absurd (never_apart n k differ' v u option c rest (a ++ b) first three (sym is ∙ e ∙ append_assoc c a b))
three_after n v v' m w k u rest words differ differ' (option, first, is)
    (a, b, c, one, two, three, inr (inr (inr (inr (inr e))))) =
    absurd (never_apart n k differ' v u option c rest (b ++ a) first three (sym is ∙ e ∙ append_assoc c b a))

-- the words begin with one of them
first_of_three : (n v m w k u : List ℕ) (words : List (List ℕ)) → AreThree n v m w k u words
    → ((rest : List (List ℕ)) × BeginsWith n v rest words) ⊎ ((rest : List (List ℕ)) × BeginsWith m w rest words)
    ⊎ ((rest : List (List ℕ)) × BeginsWith k u rest words)
first_of_three n v m w k u words (a, b, c, one, two, three, inl e) = inl (b ++ c, (a, one, e ∙ append_assoc a b c))
first_of_three n v m w k u words (a, b, c, one, two, three, inr (inl e)) =
    inl (c ++ b, (a, one, e ∙ append_assoc a c b))
first_of_three n v m w k u words (a, b, c, one, two, three, inr (inr (inl e))) =
    inr (inl (a ++ c, (b, two, e ∙ append_assoc b a c)))
first_of_three n v m w k u words (a, b, c, one, two, three, inr (inr (inr (inl e)))) =
    inr (inl (c ++ a, (b, two, e ∙ append_assoc b c a)))
first_of_three n v m w k u words (a, b, c, one, two, three, inr (inr (inr (inr (inl e))))) =
    inr (inr (a ++ b, (c, three, e ∙ append_assoc c a b)))
first_of_three n v m w k u words (a, b, c, one, two, three, inr (inr (inr (inr (inr e))))) =
    inr (inr (b ++ a, (c, three, e ∙ append_assoc c b a)))

pub no_three : (n v m w k u : List ℕ) (words : List (List ℕ)) → NoneBegins n words → NoneBegins m words
    → NoneBegins k words → AreThree n v m w k u words → ⊥
no_three n v m w k u words none none' none'' three = elim (first_of_three n v m w k u words three) [
  | inl first ↦ none v first.0 first.1
  | inr (inl first) ↦ none' w first.0 first.1
  | inr (inr first) ↦ none'' u first.0 first.1
]

one_after : (n v v' m w w' k u u' : List ℕ) (rest words : List (List ℕ)) → Differ n m → Differ n k → Differ m k
    → Differ k m → BeginsWith n v rest words → AreThree n v m w k u words → AreThree n v' m w' k u' words
    → (v ≡ v') × (w ≡ w') × (u ≡ u')
one_after n v v' m w w' k u u' rest words nm nk mk km begins three other =
    let one = three_after n v v m w k u rest words nm nk begins three in
    let two = three_after n v v' m w' k u' rest words nm nk begins other in
    let later = two_one m w w' k u u' rest mk km one.1 two.1 in
    (sym two.0, later.0, later.1)

-- three options of three names that differ from each other
pub record DifferAll (n m k : List ℕ) : Type 0 where
  pub nm : Differ n m
  pub mn : Differ m n
  pub nk : Differ n k
  pub kn : Differ k n
  pub mk : Differ m k
  pub km : Differ k m

pub three_one : (n v v' m w w' k u u' : List ℕ) (words : List (List ℕ)) → DifferAll n m k
    → AreThree n v m w k u words → AreThree n v' m w' k u' words → (v ≡ v') × (w ≡ w') × (u ≡ u')
three_one n v v' m w w' k u u' words d three other = elim (first_of_three n v m w k u words three) [
  | inl first ↦ one_after n v v' m w w' k u u' first.0 words d.nm d.nk d.mk d.km first.1 three other
  | inr (inl first) ↦
      let same = one_after m w w' n v v' k u u' first.0 words d.mn d.mk d.nk d.kn first.1
      (three_swapped n v m w k u words three) (three_swapped n v' m w' k u' words other) in
      (same.1, same.0, same.2)
  | inr (inr first) ↦
      let same = one_after k u u' n v v' m w w' first.0 words d.kn d.km d.nm d.mn first.1
      (three_turned n v m w k u words three) (three_turned n v' m w' k u' words other) in
      (same.1, same.2, same.0)
]
