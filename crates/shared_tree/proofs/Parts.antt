-- A row in order, parted at one of its values.
use Rattle.shared_tree.proofs.Prelude.{◌≡◌, ◌<◌, cond, Bool, true, false, T, ◌&&◌, List, [], ◌∷◌, ◌++◌, Option, Some}
use Rattle.shared_tree.proofs.Prelude.{None, length, refl, sym, ap, subst, ◌∙◌, arith, length-append, Ordering, Less}
use Rattle.shared_tree.proofs.Prelude.{Equal, Greater, option_or, is_lt, is_eq, eq_by_cmp, ordering_reverse}
use Rattle.shared_tree.proofs.Prelude.{IsTotalOrder, alike_right, tied_back, find, is_sorted, below_all, by_order}
use Rattle.shared_tree.proofs.Prelude.{prefix, changed, first_above}

pub both : (a b : Bool) → T a → T b → T (a && b)
both true b p q = q
both false b p q = p

pub first : (a b : Bool) → T (a && b) → T a
first true b p = tt
first false b p = p

pub second : (a b : Bool) → T (a && b) → T b
second true b p = p
second false b p = absurd p

pub less : (o : Ordering) → T (is_lt o) → o ≡ Less
less Less p = refl
less Equal p = absurd p
less Greater p = absurd p

pub is_less : (o : Ordering) → o ≡ Less → T (is_lt o)
is_less o e = subst (λ (r : Ordering). T (is_lt r)) (sym e) tt

module _ {K : Type 0} {R : K → K → Ordering} (total : IsTotalOrder R) where
  pub greater : (a b : K) → R a b ≡ Less → R b a ≡ Greater
  greater a b e = total.antisymm b a ∙ ap ordering_reverse e

  pub turned : (a b : K) → R a b ≡ Greater → R b a ≡ Less
  turned a b e = total.antisymm b a ∙ ap ordering_reverse e

module _ {K V : Type 0} {R : K → K → Ordering} (total : IsTotalOrder R) where
  abbrev pub Sorted : List (K × V) → Type 0
  Sorted row = T (is_sorted R row)

  abbrev pub Above : K → List (K × V) → Type 0
  Above k row = T (below_all R k row)

  -- all keys are below k
  abbrev pub Below : List (K × V) → K → Type 0
  Below [] k = Unit {0}
  Below (x ∷ xs) k = (R x.0 k ≡ Less) × Below xs k

  pub below_more : (xs : List (K × V)) (k m : K) → R k m ≡ Less → Below xs k → Below xs m
  below_more [] k m lt b = tt
  below_more (x ∷ xs) k m lt b = (total.trans x.0 k m b.0 lt, below_more xs k m lt b.1)

  pub below_same : (xs : List (K × V)) (k m : K) → R k m ≡ Equal → Below xs k → Below xs m
  below_same [] k m tied b = tt
  below_same (x ∷ xs) k m tied b = (sym (alike_right total k m x.0 tied) ∙ b.0, below_same xs k m tied b.1)

  pub record IsParted (row before : List (K × V)) (x : K × V) (after : List (K × V)) : Type 0 where
    pub is : row ≡ before ++ x ∷ after
    pub before_sorted : Sorted before
    pub below : Below before x.0
    pub above : Above x.0 after
    pub after_sorted : Sorted after
    pub before_shorter : length before < length row
    pub after_shorter : length after < length row

  pub above_prefix : (k : K) (xs zs : List (K × V)) → Above k (xs ++ zs) → Above k xs
  above_prefix k [] zs h = tt
  above_prefix k (x ∷ xs) zs h =
      both (is_lt (R k x.0)) (below_all R k xs) (first _ _ h) (above_prefix k xs zs (second _ _ h))

  above_at : (k : K) (xs : List (K × V)) (y : K × V) (ys : List (K × V)) → Above k (xs ++ y ∷ ys) → R k y.0 ≡ Less
  above_at k [] y ys h = less (R k y.0) (first _ _ h)
  above_at k (x ∷ xs) y ys h = above_at k xs y ys (second _ _ h)

  record AreParts (before : List (K × V)) (x : K × V) (after : List (K × V)) : Type 0 where
    before_sorted : Sorted before
    below : Below before x.0
    above : Above x.0 after
    after_sorted : Sorted after

  are_parts : (xs : List (K × V)) (y : K × V) (ys : List (K × V)) → Sorted (xs ++ y ∷ ys) → AreParts xs y ys
  are_parts [] y ys s = record { before_sorted = tt; below = tt; above = first _ _ s; after_sorted = second _ _ s }
  are_parts (x ∷ xs) y ys s =
      let p = are_parts xs y ys (second _ _ s) in
      record {
        before_sorted = both _ _ (above_prefix x.0 xs (y ∷ ys) (first _ _ s)) p.before_sorted;
        below = (above_at x.0 xs y ys (first _ _ s), p.below);
        above = p.above;
        after_sorted = p.after_sorted;
      }

  pub parted : (row before : List (K × V)) (x : K × V) (after : List (K × V)) → row ≡ before ++ x ∷ after
      → Sorted row → IsParted row before x after
  parted row before x after is s =
      let p = are_parts before x after (subst (λ (r : List (K × V)). Sorted r) is s) in
      let lengths = ap length is in
      let sum = length-append before (x ∷ after) in
      record {
        is = is;
        before_sorted = p.before_sorted;
        below = p.below;
        above = p.above;
        after_sorted = p.after_sorted;
        before_shorter = omega (arith, lengths, sum);
        after_shorter = omega (arith, lengths, sum);
      }

  -- ---- finding

  find_past : (k : K) (xs zs : List (K × V)) → Below xs k → find R k (xs ++ zs) ≡ find R k zs
  find_past k [] zs b = refl
  find_past k (x ∷ xs) zs b =
      ap (λ (o : Ordering). cond (is_eq o) (Some x.1) (find R k (xs ++ zs))) (greater total x.0 k b.0)
      ∙ find_past k xs zs b.1

  find_none : (k m : K) (zs : List (K × V)) → R k m ≡ Less → Above m zs → find R k zs ≡ None
  find_none k m [] lt h = refl
  find_none k m (z ∷ zs) lt h =
      ap (λ (o : Ordering). cond (is_eq o) (Some z.1) (find R k zs))
      (total.trans k m z.0 lt (less (R m z.0) (first _ _ h))) ∙ find_none k m zs lt (second _ _ h)

  find_prefix : (k : K) (xs zs : List (K × V)) → find R k zs ≡ None → find R k (xs ++ zs) ≡ find R k xs
  find_prefix k [] zs none = none
  find_prefix k (x ∷ xs) zs none = ap (cond (eq_by_cmp R k x.0) (Some x.1)) (find_prefix k xs zs none)

  -- ---- the first above a key

  above_past : (k : K) (xs zs : List (K × V)) → Below xs k → first_above R k (xs ++ zs) ≡ first_above R k zs
  above_past k [] zs b = refl
  above_past k (x ∷ xs) zs b = ap (λ (o : Ordering). by_order o
      (first_above R k (xs ++ zs)) (first_above R k (xs ++ zs)) (Some x)) b.0 ∙ above_past k xs zs b.1

  above_prefix_or : (k : K) (xs zs : List (K × V))
      → first_above R k (xs ++ zs) ≡ option_or (first_above R k xs) (first_above R k zs)
  above_prefix_or k [] zs = refl
  above_prefix_or k (x ∷ xs) zs =
      elim (R x.0 k) as (λ o. by_order o (first_above R k (xs ++ zs)) (first_above R k (xs ++ zs)) (Some x)
      ≡ option_or (by_order o (first_above R k xs) (first_above R k xs) (Some x)) (first_above R k zs)) [
        | Less ↦ above_prefix_or k xs zs
        | Equal ↦ above_prefix_or k xs zs
        | Greater ↦ refl
      ]

  -- ---- one change

  prefix_append : (k : K) (o : Option V) (xs zs : List (K × V)) → prefix k o (xs ++ zs) ≡ prefix k o xs ++ zs
  prefix_append k None xs zs = refl
  prefix_append k (Some v) xs zs = refl

  pub changed_past : (k : K) (o : Option V) (xs zs : List (K × V)) → Below xs k
      → changed R k o (xs ++ zs) ≡ xs ++ changed R k o zs
  changed_past k o [] zs b = refl
  changed_past k o (x ∷ xs) zs b = ap (λ (r : Ordering). by_order r (x ∷ changed R k o (xs ++ zs))
      (prefix k o (xs ++ zs)) (prefix k o (x ∷ xs ++ zs))) b.0 ∙ ap (λ r. x ∷ r) (changed_past k o xs zs b.1)

  pub changed_prefix : (k : K) (o : Option V) (xs : List (K × V)) (z : K × V) (zs : List (K × V)) → R z.0 k ≡ Greater
      → changed R k o (xs ++ z ∷ zs) ≡ changed R k o xs ++ z ∷ zs
  changed_prefix k o [] z zs gt = ap (λ (r : Ordering). by_order r (z ∷ changed R k o zs)
      (prefix k o zs) (prefix k o (z ∷ zs))) gt ∙ prefix_append k o [] (z ∷ zs)
  changed_prefix k o (x ∷ xs) z zs gt =
      elim (R x.0 k) as (λ r. by_order r (x ∷ changed R k o (xs ++ z ∷ zs))
      (prefix k o (xs ++ z ∷ zs)) (prefix k o (x ∷ xs ++ z ∷ zs))
      ≡ by_order r (x ∷ changed R k o xs) (prefix k o xs) (prefix k o (x ∷ xs)) ++ z ∷ zs) [
        | Less ↦ ap (λ r. x ∷ r) (changed_prefix k o xs z zs gt)
        | Equal ↦ prefix_append k o xs (z ∷ zs)
        | Greater ↦ prefix_append k o (x ∷ xs) (z ∷ zs)
      ]

  -- ---- by the order of the key and the value on top

  module _ (k : K) {row before : List (K × V)} {x : K × V} {after : List (K × V)} (p : IsParted row before x after)
    where
      pub find_after : R x.0 k ≡ Less → find R k row ≡ find R k after
      find_after lt = ap (find R k) p.is ∙ find_past k before (x ∷ after) (below_more before x.0 k lt p.below)
          ∙ ap (λ (o : Ordering). cond (is_eq o) (Some x.1) (find R k after)) (greater total x.0 k lt)

      pub find_top : R x.0 k ≡ Equal → find R k row ≡ Some x.1
      find_top tied = ap (find R k) p.is ∙ find_past k before (x ∷ after) (below_same before x.0 k tied p.below)
          ∙ ap (λ (o : Ordering). cond (is_eq o) (Some x.1) (find R k after)) (tied_back total x.0 k tied)

      pub find_before : R x.0 k ≡ Greater → find R k row ≡ find R k before
      find_before gt = ap (find R k) p.is ∙ find_prefix k before (x ∷ after)
          (ap (λ (o : Ordering). cond (is_eq o) (Some x.1) (find R k after)) (turned total x.0 k gt)
          ∙ find_none k x.0 after (turned total x.0 k gt) p.above)

      at_top : (o : Ordering) → R x.0 k ≡ o
          → first_above R k (x ∷ after) ≡ by_order o (first_above R k after) (first_above R k after) (Some x)
      at_top o e = ap (λ (r : Ordering). by_order r (first_above R k after) (first_above R k after) (Some x)) e

      pub above_after : R x.0 k ≡ Less → first_above R k row ≡ first_above R k after
      above_after lt = ap (first_above R k) p.is
          ∙ above_past k before (x ∷ after) (below_more before x.0 k lt p.below)
          ∙ at_top Less lt

      pub above_top : R x.0 k ≡ Equal → first_above R k row ≡ first_above R k after
      above_top tied = ap (first_above R k) p.is
          ∙ above_past k before (x ∷ after) (below_same before x.0 k tied p.below) ∙ at_top Equal tied

      pub above_before : R x.0 k ≡ Greater → first_above R k row ≡ option_or (first_above R k before) (Some x)
      above_before gt = ap (first_above R k) p.is ∙ above_prefix_or k before (x ∷ after)
          ∙ ap (option_or (first_above R k before)) (at_top Greater gt)

      module _ (o : Option V) where
        -- the change of k, where x is on top
        changed_top_by : (r : Ordering) → R x.0 k ≡ r → changed R k o (x ∷ after)
            ≡ by_order r (x ∷ changed R k o after) (prefix k o after) (prefix k o (x ∷ after))
        changed_top_by r e = ap (λ (t : Ordering). by_order t (x ∷ changed R k o after) (prefix k o after)
            (prefix k o (x ∷ after))) e

        pub changed_after : R x.0 k ≡ Less → changed R k o row ≡ before ++ x ∷ changed R k o after
        changed_after lt = ap (changed R k o) p.is
            ∙ changed_past k o before (x ∷ after) (below_more before x.0 k lt p.below)
            ∙ ap (λ r. before ++ r) (changed_top_by Less lt)

        pub changed_top : R x.0 k ≡ Equal → changed R k o row ≡ before ++ prefix k o after
        changed_top tied = ap (changed R k o) p.is
            ∙ changed_past k o before (x ∷ after) (below_same before x.0 k tied p.below)
            ∙ ap (λ r. before ++ r) (changed_top_by Equal tied)

        pub changed_before : R x.0 k ≡ Greater → changed R k o row ≡ changed R k o before ++ x ∷ after
        changed_before gt = ap (changed R k o) p.is ∙ changed_prefix k o before x after gt
