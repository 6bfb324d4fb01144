-- Small facts of lists and options.
use Rattle.std.proofs.Common.{◌≡◌, refl, sym, ap, subst, ◌∙◌, ℕ, suc, ◌<◌, false, arith, List, [], ◌∷◌, ◌++◌, map}
use Rattle.std.proofs.Common.{length, get_or, take, drop, All, Option, Some, None}
use Rattle.std.proofs.lemmas.List.{length-map, get_or-map}
use Rattle.std.proofs.lemmas.List.Elements.{All-nil, All-cons, All-head, All-tail, All-append, All-take, All-drop}
use Rattle.std.proofs.lemmas.List.Elements.{Contains-get_or}
use Rattle.std.specs.List.{Contains, insert, remove}
use Rattle.std.specs.Option.{IfSome, is_some}

-- ---- all elements

pub all_both : {X : Type 0} (P Q : X → Type 0) (xs : List X) → All P xs → All Q xs → All (λ x. P x × Q x) xs
all_both P Q [] first second = All-nil (λ x. P x × Q x)
all_both P Q (x ∷ xs) first second =
    All-cons (λ y. P y × Q y) x xs (All-head P x xs first, All-head Q x xs second)
    (all_both P Q xs (All-tail P x xs first) (All-tail Q x xs second))

pub all_front : {X : Type 0} (P : X → Type 0) (xs ys : List X) → All P (xs ++ ys) → All P xs
all_front P [] ys all = All-nil P
all_front P (x ∷ xs) ys all =
    All-cons P x xs (All-head P x (xs ++ ys) all) (all_front P xs ys (All-tail P x (xs ++ ys) all))

pub all_back : {X : Type 0} (P : X → Type 0) (xs ys : List X) → All P (xs ++ ys) → All P ys
all_back P [] ys all = all
all_back P (x ∷ xs) ys all = all_back P xs ys (All-tail P x (xs ++ ys) all)

pub all_insert : {X : Type 0} (P : X → Type 0) (xs : List X) (i : ℕ) (x : X) → All P xs → P x → All P (insert xs i x)
all_insert P xs i x all here = All-append P (take i xs) (x ∷ drop i xs) (All-take P i xs all)
    (All-cons P x (drop i xs) here (All-drop P i xs all))

pub all_remove : {X : Type 0} (P : X → Type 0) (xs : List X) (i : ℕ) → All P xs → All P (remove xs i)
all_remove P xs i all = All-append P (take i xs) (drop (suc i) xs) (All-take P i xs all) (All-drop P (suc i) xs all)

-- ---- elements

pub nil_contains_nothing : {X : Type 0} (x : X) → Contains [] x → ⊥
nil_contains_nothing x there = omega (arith, there.1)

pub map_contains : {X Y : Type 0} (f : X → Y) (xs : List X) (x : X) → Contains xs x → Contains (map f xs) (f x)
map_contains f xs x there =
    (there.0, omega (arith, length-map xs f, there.1), get_or-map f xs there.0 x (f x) there.1 ∙ ap f there.2)

pub contained_in_map : {X Y : Type 0} (f : X → Y) (xs : List X) (y : Y) → Contains (map f xs) y
    → (x : X) × Contains xs x × (y ≡ f x)
contained_in_map f [] y there = absurd (omega (arith, there.1))
contained_in_map f (x ∷ xs) y there =
    let within : there.0 < length (x ∷ xs) = omega (arith, there.1, length-map (x ∷ xs) f) in (
      get_or (x ∷ xs) there.0 x,
      Contains-get_or (x ∷ xs) there.0 x within,
      sym there.2 ∙ get_or-map f (x ∷ xs) there.0 x y within,
    )

-- ---- options

pub is_some_false : {X : Type 0} (o : Option X) → is_some o ≡ false → o ≡ None
is_some_false None test = refl
is_some_false (Some x) test = absurd (cc)

pub if_some_from : {X : Type 0} (P : X → Type 0) (o : Option X) → ((x : X) → o ≡ Some x → P x) → IfSome o P
if_some_from P None each = tt
if_some_from P (Some x) each = each x refl

pub if_some_at : {X : Type 0} (P : X → Type 0) (o : Option X) (x : X) → IfSome o P → o ≡ Some x → P x
if_some_at P o x holds is = subst (λ p. IfSome p P) is holds
