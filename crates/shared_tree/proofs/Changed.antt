-- What a row has under each key after a change, and what the first value above a key is.
use Rattle.shared_tree.proofs.Prelude.{◌≡◌, ◌≢◌, cond, Bool, true, false, T, List, [], ◌∷◌, Option, Some, None, refl}
use Rattle.shared_tree.proofs.Prelude.{sym, ap, ◌∙◌, Ordering, Less, Equal, Greater, unwrap_or, is_lt, is_eq, eq_by_cmp}
use Rattle.shared_tree.proofs.Prelude.{IsTotalOrder, alike_right, tied_back, tied_itself, find, is_sorted, below_all}
use Rattle.shared_tree.proofs.Prelude.{by_order, prefix, changed, all_changed, first_above, Equal-is}
use Rattle.shared_tree.proofs.Parts.{both, first, second, less, is_less, greater, turned}

module _ {K : Type 0} {R : K → K → Ordering} (total : IsTotalOrder R) where
  tied : (a b : K) → eq_by_cmp R a b ≡ true → R a b ≡ Equal
  tied a b e = (Equal-is (R a b)).0 e

  -- a key that ties with a lesser one doesn't tie with a greater one
  apart : (q a b : K) → R a b ≡ Less → eq_by_cmp R q a ≡ true → eq_by_cmp R q b ≡ false
  apart q a b lt e = ap is_eq (total.congr q a b (tied q a e) ∙ lt)

  alike : (q a b : K) → R a b ≡ Equal → eq_by_cmp R q a ≡ eq_by_cmp R q b
  alike q a b e = ap is_eq (alike_right total a b q e)

module _ {K V : Type 0} {R : K → K → Ordering} (total : IsTotalOrder R) where
  pub none_above : (q k : K) (row : List (K × V)) → R q k ≡ Equal → T (below_all R k row) → find R q row ≡ None
  none_above q k [] e h = refl
  none_above q k (x ∷ xs) e h =
      ap (λ (o : Ordering). cond (is_eq o) (Some x.1) (find R q xs))
      (total.congr q k x.0 e ∙ less (R k x.0) (first _ _ h)) ∙ none_above q k xs e (second _ _ h)

  pub below_less : (k m : K) (row : List (K × V)) → R k m ≡ Less → T (below_all R m row) → T (below_all R k row)
  below_less k m [] lt h = tt
  below_less k m (x ∷ xs) lt h = both (is_lt (R k x.0)) (below_all R k xs)
      (is_less (R k x.0) (total.trans k m x.0 lt (less (R m x.0) (first _ _ h)))) (below_less k m xs lt (second _ _ h))

  pub below_tied : (k m : K) (row : List (K × V)) → R k m ≡ Equal → T (below_all R m row) → T (below_all R k row)
  below_tied k m [] e h = tt
  below_tied k m (x ∷ xs) e h = both (is_lt (R k x.0)) (below_all R k xs)
      (is_less (R k x.0) (total.congr k m x.0 e ∙ less (R m x.0) (first _ _ h))) (below_tied k m xs e (second _ _ h))

  -- ---- a changed row rises

  below_prefix : (k m : K) (o : Option V) (row : List (K × V)) → R k m ≡ Less → T (below_all R k row)
      → T (below_all R k (prefix m o row))
  below_prefix k m None row lt h = h
  below_prefix k m (Some v) row lt h = both (is_lt (R k m)) (below_all R k row) (is_less (R k m) lt) h

  pub below_changed : (k m : K) (o : Option V) (row : List (K × V)) → R k m ≡ Less → T (below_all R k row)
      → T (below_all R k (changed R m o row))
  below_changed k m o [] lt h = below_prefix k m o [] lt tt
  below_changed k m o (x ∷ xs) lt h =
      elim (R x.0 m) as (λ r. T (below_all R k
      (by_order r (x ∷ changed R m o xs) (prefix m o xs) (prefix m o (x ∷ xs))))) [
        | Less ↦ both (is_lt (R k x.0)) (below_all R k (changed R m o xs)) (first _ _ h)
            (below_changed k m o xs lt (second _ _ h))
        | Equal ↦ below_prefix k m o xs lt (second _ _ h)
        | Greater ↦ below_prefix k m o (x ∷ xs) lt h
      ]

  rising_prefix : (k : K) (o : Option V) (row : List (K × V)) → T (below_all R k row) → T (is_sorted R row)
      → T (is_sorted R (prefix k o row))
  rising_prefix k None row b h = h
  rising_prefix k (Some v) row b h = both (below_all R k row) (is_sorted R row) b h

  pub rising_changed : (k : K) (o : Option V) (row : List (K × V)) → T (is_sorted R row)
      → T (is_sorted R (changed R k o row))
  rising_changed k o [] h = rising_prefix k o [] tt tt
  rising_changed k o (x ∷ xs) h =
      elim (R x.0 k) as (λ r. R x.0 k ≡ r → T (is_sorted R
      (by_order r (x ∷ changed R k o xs) (prefix k o xs) (prefix k o (x ∷ xs))))) [
        | Less ↦ λ e. both (below_all R x.0 (changed R k o xs)) (is_sorted R (changed R k o xs))
            (below_changed x.0 k o xs e (first _ _ h)) (rising_changed k o xs (second _ _ h))
        | Equal ↦ λ e. rising_prefix k o xs (below_tied k x.0 xs (tied_back total x.0 k e) (first _ _ h)) (second _ _ h)
        | Greater ↦ λ e. rising_prefix k o (x ∷ xs)
            (both (is_lt (R k x.0)) (below_all R k xs) (is_less (R k x.0) (turned total x.0 k e))
            (below_less k x.0 xs (turned total x.0 k e) (first _ _ h))) h
      ] refl

  -- ---- what it has under each key

  at_prefix : (q k : K) (o : Option V) (row : List (K × V)) → (eq_by_cmp R q k ≡ true → find R q row ≡ None)
      → find R q (prefix k o row) ≡ cond (eq_by_cmp R q k) o (find R q row)
  at_prefix q k (Some v) row none = refl
  at_prefix q k None row none =
      elim (eq_by_cmp R q k) as (λ b. (b ≡ true → find R q row ≡ None) → find R q row ≡ cond b None (find R q row)) [
        | true ↦ λ f. f refl
        | false ↦ λ f. refl
      ] none

  swapped : (a b : Bool) (x y z : Option V) → (a ≡ true → b ≡ false) → cond a x (cond b y z) ≡ cond b y (cond a x z)
  swapped true b x y z f = sym (ap (λ c. cond c y x) (f refl))
  swapped false b x y z f = refl

  shadowed : (a b : Bool) (x y z : Option V) → a ≡ b → cond b y z ≡ cond b y (cond a x z)
  shadowed a true x y z e = refl
  shadowed a false x y z e = sym (ap (λ c. cond c x z) e)

  pub find_changed : (q k : K) (o : Option V) (row : List (K × V)) → T (is_sorted R row)
      → find R q (changed R k o row) ≡ cond (eq_by_cmp R q k) o (find R q row)
  find_changed q k o [] h = at_prefix q k o [] (λ _. refl)
  find_changed q k o (x ∷ xs) h =
      elim (R x.0 k) as (λ r. R x.0 k ≡ r
      → find R q (by_order r (x ∷ changed R k o xs) (prefix k o xs) (prefix k o (x ∷ xs)))
      ≡ cond (eq_by_cmp R q k) o (cond (eq_by_cmp R q x.0) (Some x.1) (find R q xs))) [
        | Less ↦ λ e. ap (cond (eq_by_cmp R q x.0) (Some x.1)) (find_changed q k o xs (second _ _ h))
            ∙ swapped (eq_by_cmp R q x.0) (eq_by_cmp R q k) (Some x.1) o (find R q xs) (apart total q x.0 k e)
        | Equal ↦ λ e. at_prefix q k o xs (λ t. none_above q x.0 xs
            (alike_right total x.0 k q e ∙ tied total q k t) (first _ _ h))
            ∙ shadowed (eq_by_cmp R q x.0) (eq_by_cmp R q k) (Some x.1) o (find R q xs) (alike total q x.0 k e)
        | Greater ↦ λ e. at_prefix q k o (x ∷ xs) (λ t. none_above q k (x ∷ xs) (tied total q k t)
            (both (is_lt (R k x.0)) (below_all R k xs) (is_less (R k x.0) (turned total x.0 k e))
            (below_less k x.0 xs (turned total x.0 k e) (first _ _ h))))
      ] refl

  pub rising_all : (cs : List (K × Option V)) (row : List (K × V)) → T (is_sorted R row)
      → T (is_sorted R (all_changed R cs row))
  rising_all [] row h = h
  rising_all (c ∷ cs) row h = rising_changed c.0 c.1 (all_changed R cs row) (rising_all cs row h)

  pub find_all : (q : K) (cs : List (K × Option V)) (row : List (K × V)) → T (is_sorted R row)
      → find R q (all_changed R cs row) ≡ unwrap_or (find R q cs) (find R q row)
  find_all q [] row h = refl
  find_all q (c ∷ cs) row h = find_changed q c.0 c.1 (all_changed R cs row) (rising_all cs row h)
      ∙ elim (eq_by_cmp R q c.0) as (λ b. cond b c.1 (find R q (all_changed R cs row))
      ≡ unwrap_or (cond b (Some c.1) (find R q cs)) (find R q row)) [ true ↦ refl | false ↦ find_all q cs row h ]

  -- ---- the first above a key

  -- the least key above k that is in a row
  pub record IsFirst (row : List (K × V)) (k : K) (x : K × V) : Type 0 where
    pub there : find R x.0 row ≡ Some x.1
    pub above : R k x.0 ≡ Less
    pub least : (q : K) → R k q ≡ Less → find R q row ≢ None → R x.0 q ≢ Greater

  abbrev pub IsFirstAbove : List (K × V) → K → Option (K × V) → Type 0
  IsFirstAbove row k None = (q : K) → R k q ≡ Less → find R q row ≡ None
  IsFirstAbove row k (Some x) = IsFirst row k x

  -- a key below x ties with nothing after it
  step_past : (q : K) (x : K × V) (xs : List (K × V)) → eq_by_cmp R q x.0 ≡ false
      → find R q (x ∷ xs) ≡ find R q xs
  step_past q x xs e = ap (λ b. cond b (Some x.1) (find R q xs)) e

  later : (k q : K) (x : K × V) (xs : List (K × V)) → R x.0 k ≢ Greater → R k q ≡ Less
      → find R q (x ∷ xs) ≡ find R q xs
  later k q x xs low lt = step_past q x xs (ap is_eq (greater total x.0 q (elim (R x.0 k) as (λ r. R x.0 k ≡ r
      → r ≢ Greater → R x.0 q ≡ Less) [
        | Less ↦ λ e _. total.trans x.0 k q e lt
        | Equal ↦ λ e _. total.congr x.0 k q e ∙ lt
        | Greater ↦ λ e no. absurd (no refl)
      ] refl low)))

  past : (k : K) (x : K × V) (xs : List (K × V)) (o : Option (K × V)) → R x.0 k ≢ Greater → IsFirstAbove xs k o
      → IsFirstAbove (x ∷ xs) k o
  past k x xs None low h = λ q lt. later k q x xs low lt ∙ h q lt
  past k x xs (Some y) low h = record {
    there = later k y.0 x xs low h.above ∙ h.there;
    above = h.above;
    least = λ q lt some. h.least q lt (λ none. some (later k q x xs low lt ∙ none));
  }

  not_less : (q k : K) (row : List (K × V)) → R k q ≡ Greater → T (below_all R k row) → find R q row ≡ None
  not_less q k [] e h = refl
  not_less q k (x ∷ xs) e h =
      step_past q x xs (ap is_eq (total.trans q k x.0 (turned total k q e) (less (R k x.0) (first _ _ h))))
      ∙ not_less q k xs e (second _ _ h)

  pub first_is : (k : K) (row : List (K × V)) → T (is_sorted R row) → IsFirstAbove row k (first_above R k row)
  first_is k [] h = λ q lt. refl
  first_is k (x ∷ xs) h =
      elim (R x.0 k) as (λ r. R x.0 k ≡ r
      → IsFirstAbove (x ∷ xs) k (by_order r (first_above R k xs) (first_above R k xs) (Some x))) [
        | Less ↦ λ e. past k x xs (first_above R k xs) (λ g. absurd (cc (e, g))) (first_is k xs (second _ _ h))
        | Equal ↦ λ e. past k x xs (first_above R k xs) (λ g. absurd (cc (e, g))) (first_is k xs (second _ _ h))
        | Greater ↦ λ e. record {
          there = ap (λ b. cond b (Some x.1) (find R x.0 xs)) (ap is_eq (tied_itself total x.0));
          above = turned total x.0 k e;
          least = λ q lt some over. some (step_past q x xs (ap is_eq (turned total x.0 q over))
              ∙ not_less q x.0 xs over (first _ _ h));
        }
      ] refl
