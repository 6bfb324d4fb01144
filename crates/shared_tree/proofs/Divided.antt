-- Changes of a row's keys, divided at one of its values.
use Rattle.shared_tree.proofs.Prelude.{◌≡◌, ◌≢◌, ◌+◌, ◌≤◌, suc, List, [], ◌∷◌, ◌++◌, Option, Some, None, length, take}
use Rattle.shared_tree.proofs.Prelude.{drop, refl, sym, ap, subst, ◌∙◌, arith, append-nil, Ordering, Less, Equal}
use Rattle.shared_tree.proofs.Prelude.{Greater, is_lt, IsTotalOrder, alike_right, tied_back, tied_itself, below_all}
use Rattle.shared_tree.proofs.Prelude.{by_order, kept_by, between, prefix, changed, all_put, all_changed, count_below}
use Rattle.shared_tree.proofs.Prelude.{IsTurn, AreDivided}
use Rattle.std.proofs.lemmas.List.{take-append-drop}
use Rattle.shared_tree.proofs.Parts.{both, first, second, less, is_less, greater, turned}
use Rattle.shared_tree.proofs.Parts.{Sorted, Above, Below, IsParted}
use Rattle.shared_tree.proofs.Parts.{below_more, below_same, above_prefix, changed_past, changed_prefix}
use Rattle.shared_tree.proofs.Changed.{below_less, below_tied, below_changed}

pub put_split : {K V : Type 0} (xs ys : List (K × Option V)) → all_put (xs ++ ys) ≡ all_put xs ++ all_put ys
put_split [] ys = refl
put_split (c ∷ cs) ys =
    elim c.1 as (λ o. prefix c.0 o (all_put (cs ++ ys)) ≡ prefix c.0 o (all_put cs) ++ all_put ys) [
      | None ↦ put_split cs ys
      | Some v ↦ ap (λ r. (c.0, v) ∷ r) (put_split cs ys)
    ]

module _ {K : Type 0} {R : K → K → Ordering} (total : IsTotalOrder R) where
  module _ {X : Type 0} where
    -- the first key is not below k
    abbrev NotBelow : K → List (K × X) → Type 0
    NotBelow k [] = Unit {0}
    NotBelow k (x ∷ xs) = R x.0 k ≢ Less

    not_below : (k : K) (xs : List (K × X)) → Above total k xs → NotBelow k xs
    not_below k [] h = tt
    not_below k (x ∷ xs) h = λ e. cc (e, greater total k x.0 (less (R k x.0) (first _ _ h)))

    sorted_prefix : (xs zs : List (K × X)) → Sorted total (xs ++ zs) → Sorted total xs
    sorted_prefix [] zs s = tt
    sorted_prefix (x ∷ xs) zs s =
        both _ _ (above_prefix total x.0 xs zs (first _ _ s)) (sorted_prefix xs zs (second _ _ s))

    sorted_back : (xs zs : List (K × X)) → Sorted total (xs ++ zs) → Sorted total zs
    sorted_back [] zs s = s
    sorted_back (x ∷ xs) zs s = sorted_back xs zs (second _ _ s)

    -- ---- counting

    below_taken : (k : K) (xs : List (K × X)) → Below total (take (count_below R k xs) xs) k
    below_taken k [] = tt
    below_taken k (x ∷ xs) =
        elim (R x.0 k) as (λ r. R x.0 k ≡ r
        → Below total (take (by_order r (suc (count_below R k xs)) 0 0) (x ∷ xs)) k) [
          | Less ↦ λ e. (e, below_taken k xs)
          | Equal ↦ λ e. tt
          | Greater ↦ λ e. tt
        ] refl

    not_below_dropped : (k : K) (xs : List (K × X)) → NotBelow k (drop (count_below R k xs) xs)
    not_below_dropped k [] = tt
    not_below_dropped k (x ∷ xs) =
        elim (R x.0 k) as (λ r. R x.0 k ≡ r
        → NotBelow k (drop (by_order r (suc (count_below R k xs)) 0 0) (x ∷ xs))) [
          | Less ↦ λ e. not_below_dropped k xs
          | Equal ↦ λ e f. cc
          | Greater ↦ λ e f. cc
        ] refl

    pub count_within : (k : K) (xs : List (K × X)) → count_below R k xs ≤ length xs
    count_within k [] = omega arith
    count_within k (x ∷ xs) =
        let within = count_within k xs in
        elim (R x.0 k) as (λ r. by_order r (suc (count_below R k xs)) 0 0 ≤ length (x ∷ xs)) [
          | Less ↦ omega (arith, within)
          | Equal ↦ omega arith
          | Greater ↦ omega arith
        ]

    count_past : (k : K) (xs zs : List (K × X)) → Below total xs k
        → count_below R k (xs ++ zs) ≡ length xs + count_below R k zs
    count_past k [] zs b = omega arith
    count_past k (x ∷ xs) zs b =
        ap (λ (o : Ordering). by_order o (suc (count_below R k (xs ++ zs))) 0 0) b.0 ∙ ap suc (count_past k xs zs b.1)
        ∙ omega arith

    count_prefix : (k : K) (xs : List (K × X)) (z : K × X) (zs : List (K × X)) → R z.0 k ≡ Greater
        → count_below R k (xs ++ z ∷ zs) ≡ count_below R k xs
    count_prefix k [] z zs gt = ap (λ (o : Ordering). by_order o (suc (count_below R k zs)) 0 0) gt
    count_prefix k (x ∷ xs) z zs gt =
        ap (λ n. by_order (R x.0 k) (suc n) 0 0) (count_prefix k xs z zs gt)

    module _ (k : K) {row before : List (K × X)} {x : K × X} {after : List (K × X)}
        (p : IsParted total row before x after) where
      at_top : (o : Ordering) → R x.0 k ≡ o
          → count_below R k (x ∷ after) ≡ by_order o (suc (count_below R k after)) 0 0
      at_top o e = ap (λ (r : Ordering). by_order r (suc (count_below R k after)) 0 0) e

      pub count_after : R x.0 k ≡ Less → length before + 1 + count_below R k after ≡ count_below R k row
      count_after lt =
          let entire = ap (count_below R k) p.is
          ∙ count_past k before (x ∷ after) (below_more total before x.0 k lt p.below) in
          let top = at_top Less lt in
          omega (arith, entire, top)

      pub count_top : R x.0 k ≡ Equal → length before ≡ count_below R k row
      count_top tied =
          let entire = ap (count_below R k) p.is
          ∙ count_past k before (x ∷ after) (below_same total before x.0 k tied p.below) in
          let top = at_top Equal tied in
          omega (arith, entire, top)

      pub count_before : R x.0 k ≡ Greater → count_below R k before ≡ count_below R k row
      count_before gt = sym (ap (count_below R k) p.is ∙ count_prefix k before x after gt)

  module _ {V : Type 0} where
    -- ---- changes on an empty row

    above_put : (k : K) (cs : List (K × Option V)) → Above total k cs → Above total k (all_put cs)
    above_put k [] h = tt
    above_put k (c ∷ cs) h = elim c.1 as (λ o. Above total k (prefix c.0 o (all_put cs))) [
      | None ↦ above_put k cs (second _ _ h)
      | Some v ↦ both (is_lt (R k c.0)) (below_all R k (all_put cs)) (first _ _ h) (above_put k cs (second _ _ h))
    ]

    pub put_first : (k : K) (o : Option V) (xs : List (K × V)) → Above total k xs → changed R k o xs ≡ prefix k o xs
    put_first k o [] h = refl
    put_first k o (x ∷ xs) h =
        ap (λ (r : Ordering). by_order r (x ∷ changed R k o xs) (prefix k o xs) (prefix k o (x ∷ xs)))
        (greater total k x.0 (less (R k x.0) (first _ _ h)))

    pub all_new : (cs : List (K × Option V)) → Sorted total cs → all_put cs ≡ all_changed R cs []
    all_new [] s = refl
    all_new (c ∷ cs) s = sym (put_first c.0 c.1 (all_put cs) (above_put c.0 cs (first _ _ s)))
        ∙ ap (changed R c.0 c.1) (all_new cs (second _ _ s))

    -- ---- changes on a row that is parted

    changes_split : (xs ys : List (K × Option V)) (row : List (K × V))
        → all_changed R (xs ++ ys) row ≡ all_changed R xs (all_changed R ys row)
    changes_split [] ys row = refl
    changes_split (c ∷ cs) ys row = ap (changed R c.0 c.1) (changes_split cs ys row)

    -- changes of keys above x leave x and what is before it
    pub all_past : (before : List (K × V)) (x : K × V) (after : List (K × V)) (cs : List (K × Option V))
        → Below total before x.0 → Above total x.0 cs
        → all_changed R cs (before ++ x ∷ after) ≡ before ++ x ∷ all_changed R cs after
    all_past before x after [] b h = refl
    all_past before x after (c ∷ cs) b h =
        let lt = less (R x.0 c.0) (first _ _ h) in
        let later = all_changed R cs after in
        ap (changed R c.0 c.1) (all_past before x after cs b (second _ _ h))
        ∙ changed_past total c.0 c.1 before (x ∷ later) (below_more total before x.0 c.0 lt b)
        ∙ ap (λ (o : Ordering). before ++ by_order o (x ∷ changed R c.0 c.1 later) (prefix c.0 c.1 later)
        (prefix c.0 c.1 (x ∷ later))) lt

    changed_first : (k m : K) (o : Option V) (xs zs : List (K × V)) → R k m ≡ Less → NotBelow m zs
        → changed R k o (xs ++ zs) ≡ changed R k o xs ++ zs
    changed_first k m o xs [] lt h = ap (changed R k o) (append-nil xs) ∙ sym (append-nil (changed R k o xs))
    changed_first k m o xs (z ∷ zs) lt h = changed_prefix total k o xs z zs (greater total k z.0
        (elim (R z.0 m) as (λ r. R z.0 m ≡ r → R k z.0 ≡ Less) [
          | Less ↦ λ e. absurd (h e)
          | Equal ↦ λ e. alike_right total z.0 m k e ∙ lt
          | Greater ↦ λ e. total.trans k m z.0 lt (turned total z.0 m e)
        ] refl))

    -- changes of keys below those of a row leave that row
    all_first : (m : K) (cs : List (K × Option V)) (xs zs : List (K × V)) → Below total cs m → NotBelow m zs
        → all_changed R cs (xs ++ zs) ≡ all_changed R cs xs ++ zs
    all_first m [] xs zs b h = refl
    all_first m (c ∷ cs) xs zs b h = ap (changed R c.0 c.1) (all_first m cs xs zs b.1 h)
        ∙ changed_first c.0 m c.1 (all_changed R cs xs) zs b.0 h

    pub above_changed : (k : K) (cs : List (K × Option V)) (row : List (K × V)) → Above total k cs → Above total k row
        → Above total k (all_changed R cs row)
    above_changed k [] row h a = a
    above_changed k (c ∷ cs) row h a = below_changed total k c.0 c.1 (all_changed R cs row)
        (less (R k c.0) (first _ _ h)) (above_changed k cs row (second _ _ h) a)

    -- what the changes that are not below x make of x and what is around it
    record IsTurned (before : List (K × V)) (x : K × V) (after : List (K × V)) (others : List (K × Option V))
        (middle : Option (K × V)) (later : List (K × Option V)) : Type 0 where
      same : all_changed R others (before ++ x ∷ after) ≡ before ++ between middle (all_changed R later after)
      first_not_below : NotBelow x.0 (between middle (all_changed R later after))
      later_sorted : Sorted total later

    left : (before : List (K × V)) (x : K × V) (after : List (K × V)) (cs : List (K × Option V))
        → Below total before x.0 → Above total x.0 cs → Sorted total cs → IsTurned before x after cs (Some x) cs
    left before x after cs b h s = record {
      same = all_past before x after cs b h;
      first_not_below = λ e. cc (e, tied_itself total x.0);
      later_sorted = s;
    }

    replaced : (before : List (K × V)) (x : K × V) (after : List (K × V)) (c : K × Option V) (cs : List (K × Option V))
        → Below total before x.0 → Above total x.0 after → R x.0 c.0 ≡ Equal → Sorted total (c ∷ cs)
        → IsTurned before x after (c ∷ cs) (kept_by c) cs
    replaced before x after c cs b a tied s =
        let h = below_tied total x.0 c.0 cs tied (first _ _ s) in
        let later = all_changed R cs after in
        record {
          same = ap (changed R c.0 c.1) (all_past before x after cs b h)
              ∙ changed_past total c.0 c.1 before (x ∷ later) (below_same total before x.0 c.0 tied b)
              ∙ ap (λ (o : Ordering). before ++ by_order o (x ∷ changed R c.0 c.1 later) (prefix c.0 c.1 later)
              (prefix c.0 c.1 (x ∷ later))) tied;
          first_not_below = elim c.1 as (λ o. NotBelow x.0 (prefix c.0 o later)) [
            | None ↦ not_below x.0 later (above_changed x.0 cs after h a)
            | Some v ↦ λ e. cc (e, tied_back total x.0 c.0 tied)
          ];
          later_sorted = second _ _ s;
        }

    turned_by : (before : List (K × V)) (x : K × V) (after : List (K × V)) (others : List (K × Option V))
        (middle : Option (K × V)) (later : List (K × Option V)) → Below total before x.0 → Above total x.0 after
        → Sorted total others → NotBelow x.0 others → IsTurn R x others middle later
        → IsTurned before x after others middle later
    turned_by before x after [] middle later b a s n t =
        subst (λ (m : Option (K × V)). IsTurned before x after [] m later) (sym t.0)
        (subst (λ (l : List (K × Option V)). IsTurned before x after [] (Some x) l) (sym t.1)
        (left before x after [] b tt tt))
    turned_by before x after (c ∷ cs) middle later b a s n t =
        let entire = elim (R x.0 c.0) as (λ r. R x.0 c.0 ≡ r → IsTurned before x after (c ∷ cs)
        (by_order r (Some x) (kept_by c) (Some x)) (by_order r (c ∷ cs) cs (c ∷ cs))) [
          | Less ↦ λ e. left before x after (c ∷ cs) b
              (both (is_lt (R x.0 c.0)) (below_all R x.0 cs) (is_less (R x.0 c.0) e)
              (below_less total x.0 c.0 cs e (first _ _ s))) s
          | Equal ↦ λ e. replaced before x after c cs b a e s
          | Greater ↦ λ e. absurd (n (turned total x.0 c.0 e))
        ] refl in
        subst (λ (m : Option (K × V)). IsTurned before x after (c ∷ cs) m later) (sym t.0)
        (subst (λ (l : List (K × Option V)). IsTurned before x after (c ∷ cs)
        (by_order (R x.0 c.0) (Some x) (kept_by c) (Some x)) l) (sym t.1) entire)

    -- what changes that are divided at x make of a row that is parted there
    pub record AreMade (row before : List (K × V)) (after : List (K × V)) (changes earlier : List (K × Option V))
        (middle : Option (K × V)) (later : List (K × Option V)) : Type 0 where
      pub same : all_changed R earlier before ++ between middle (all_changed R later after)
          ≡ all_changed R changes row
      pub earlier_sorted : Sorted total earlier
      pub later_sorted : Sorted total later

    pub made : (row before : List (K × V)) (x : K × V) (after : List (K × V)) (changes earlier : List (K × Option V))
        (middle : Option (K × V)) (later : List (K × Option V)) → IsParted total row before x after
        → Sorted total changes → AreDivided R x changes earlier middle later
        → AreMade row before after changes earlier middle later
    made row before x after changes earlier middle later p s d =
        let n = count_below R x.0 changes in
        let others = drop n changes in
        let is : changes ≡ earlier ++ others = sym (take-append-drop n changes) ∙ ap (λ r. r ++ others) (sym d.first) in
        let sorted = subst (λ (cs : List (K × Option V)). Sorted total cs) is s in
        let low = subst (λ (cs : List (K × Option V)). Below total cs x.0) (sym d.first) (below_taken x.0 changes) in
        let w = turned_by before x after others middle later p.below p.above (sorted_back earlier others sorted)
        (not_below_dropped x.0 changes) d.turn in
        record {
          same = sym ((λ i. all_changed R (is i) (p.is i)) ∙ changes_split earlier others (before ++ x ∷ after)
              ∙ ap (all_changed R earlier) w.same
              ∙ all_first x.0 earlier before (between middle (all_changed R later after)) low w.first_not_below);
          earlier_sorted = sorted_prefix earlier others sorted;
          later_sorted = w.later_sorted;
        }
