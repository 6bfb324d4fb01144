-- Going over the known keys in their order.
use Rattle.entry_map.proofs.Prelude as prelude
use prelude.{◌≡◌, ◌≢◌, ℕ, ◌+◌, ◌-◌, ◌<◌, ◌≤◌, length, get_or, take, drop, refl, sym, ap, subst, ◌∙◌, arith, Bool, true}
use prelude.{false, cond, ◌||◌, List, [], ◌∷◌, Option, Some, None, Ordering, Less, Equal, Greater, unwrap_or, option_or}
use prelude.{is_lt, is_gt, ordering_reverse, eq_by_cmp, upto, tied_itself, list_any, get, contains_key, keys}
use prelude.{contains_key-keys, LedgerKey, LedgerEntry, key_of, key_cmp, keys_total, keys_exact, EntryMap, IsLeastAbove}
use prelude.{LayerMap, under, under_one, change_of, newest_change, is_changed, is_known, IsLeastKey}
use prelude.{IsNextKey, lesser_of, common_steps, is_lt_true_Less, same_keys, is_some_false, or_left, or_parts, or_right}
use Rattle.std.proofs.Common.{is_some, option_map}
use Rattle.entry_map.specs.EntryMap.{IsNextAfter, IsNextUpTo}
use Rattle.entry_map.specs.Walk.{IsNextKnown, up_to}
use Rattle.entry_map.specs.declared.walk.Known.{Known}
use Rattle.entry_map.specs.declared.walk.Known.TheVariants.{Kept, Changed}
use Rattle.entry_map.proofs.Under.{get-current}
use Rattle.entry_map.proofs.KeyMaps.{not_greater}

-- ---- the order

pub gt_is : (o : Ordering) → is_gt o ≡ true → o ≡ Greater
gt_is Less h = cc
gt_is Equal h = cc
gt_is Greater h = refl

below_not_greater : (a b : LedgerKey) → key_cmp a b ≡ Less → key_cmp a b ≢ Greater
below_not_greater a b less greater = cc

-- a is at most b
abbrev UpTo : LedgerKey → LedgerKey → Type 0
UpTo a b = is_gt (key_cmp a b) ≡ false

not_gt : (o : Ordering) → o ≢ Greater → is_gt o ≡ false
not_gt Less h = refl
not_gt Equal h = refl
not_gt Greater h = absurd (h refl)

not_less_turned : (o : Ordering) → o ≢ Less → is_gt (ordering_reverse o) ≡ false
not_less_turned Less h = absurd (h refl)
not_less_turned Equal h = refl
not_less_turned Greater h = refl

unless_less : (a b : LedgerKey) → key_cmp a b ≢ Less → UpTo b a
unless_less a b h = ap is_gt (keys_total.antisymm b a) ∙ not_less_turned (key_cmp a b) h

less_is : (o : Ordering) → o ≢ Less → is_lt o ≡ false
less_is Less h = absurd (h refl)
less_is Equal h = refl
less_is Greater h = refl

by_order : (P : Type 0) (o : Ordering) → (o ≡ Less → P) → (o ≢ Less → P) → P
by_order P Less f g = f refl
by_order P Equal f g = g (λ e. cc)
by_order P Greater f g = g (λ e. cc)

up_to_less : (a b c : LedgerKey) → UpTo a b → key_cmp b c ≡ Less → key_cmp a c ≡ Less
up_to_less a b c low above =
    elim (key_cmp a b) as (λ o. key_cmp a b ≡ o → is_gt o ≡ false → key_cmp a c ≡ Less) [
      | Less ↦ λ e h. keys_total.trans a b c e above
      | Equal ↦ λ e h. keys_total.congr a b c e ∙ above
      | Greater ↦ λ e h. cc
    ] refl low

-- ---- the lesser of two next keys

or_false : (a b : Bool) → a ≡ false → b ≡ false → (a || b) ≡ false
or_false a b p q = ap (λ x. x || b) p ∙ q

or_elim : (P : Type 0) (a b : Bool) → (a || b) ≡ true → (a ≡ true → P) → (b ≡ true → P) → P
or_elim P true b h f g = f refl
or_elim P false b h f g = g h

cannot_be : {P : Type 0} (a : Bool) → a ≡ false → a ≡ true → P
cannot_be a p q = absurd (cc (p, q))

pub next_either : (p r : LedgerKey → Bool) (k : LedgerKey) (a b : Option LedgerKey) → IsNextKey p k a → IsNextKey r k b
    → IsNextKey (λ q. p q || r q) k (lesser_of a b)
next_either p r k None None one other = λ q above. or_false (p q) (r q) (one q above) (other q above)
next_either p r k None (Some y) one other = record {
  there = or_right (p y) (r y) other.there;
  above = other.above;
  least_of = λ q above passes. or_elim (key_cmp y q ≢ Greater) (p q) (r q) passes (λ h. cannot_be (p q) (one q above) h)
      (λ h. other.least_of q above h);
}
next_either p r k (Some x) None one other = record {
  there = or_left (p x) (r x) one.there;
  above = one.above;
  least_of = λ q above passes. or_elim (key_cmp x q ≢ Greater) (p q) (r q) passes (λ h. one.least_of q above h)
      (λ h. cannot_be (r q) (other q above) h);
}
next_either p r k (Some x) (Some y) one other =
    elim (is_lt (key_cmp y x)) as (λ t. is_lt (key_cmp y x) ≡ t
    → IsNextKey (λ q. p q || r q) k (cond t (Some y) (Some x))) [
      | true ↦ λ e. record {
        there = or_right (p y) (r y) other.there;
        above = other.above;
        least_of = λ q above passes. or_elim (key_cmp y q ≢ Greater) (p q) (r q) passes
            (λ h. not_greater _ (upto keys_total y x q (ap is_gt (is_lt_true_Less _ e))
            (not_gt _ (one.least_of q above h))))
            (λ h. other.least_of q above h);
      }
      | false ↦ λ e. record {
        there = or_left (p x) (r x) one.there;
        above = one.above;
        least_of = λ q above passes. or_elim (key_cmp x q ≢ Greater) (p q) (r q) passes
            (λ h. one.least_of q above h)
            (λ h. not_greater _ (upto keys_total x y q (unless_less y x (λ less. cannot_be _ e (ap is_lt less)))
            (not_gt _ (other.least_of q above h))));
      }
    ] refl

-- ---- known keys

is_some-or : {X : Type 0} (a b : Option X) → is_some (option_or a b) ≡ (is_some b || is_some a)
is_some-or None None = refl
is_some-or None (Some y) = refl
is_some-or (Some x) None = refl
is_some-or (Some x) (Some y) = refl

is_some-change_of : (ls : List LayerMap) (q : LedgerKey) → is_some (change_of ls q) ≡ is_changed ls q
is_some-change_of [] q = refl
is_some-change_of (l ∷ ls) q = is_some-or (change_of ls q) (get l q)
    ∙ ap (λ b. contains_key l q || b) (is_some-change_of ls q)

turned_or : (a b : Bool) → (a || b) ≡ (b || a)
turned_or true true = refl
turned_or true false = refl
turned_or false true = refl
turned_or false false = refl

is_some-newest : (ls : List LayerMap) (top : LayerMap) (q : LedgerKey)
    → is_some (newest_change ls top q) ≡ (contains_key top q || is_changed ls q)
is_some-newest ls top q = is_some-or (get top q) (change_of ls q)
    ∙ ap (λ b. b || contains_key top q) (is_some-change_of ls q) ∙ turned_or (is_changed ls q) (contains_key top q)

-- a key that no layer changed is as in the base
pub unchanged : (m : EntryMap) (ls : List LayerMap) (top : LayerMap) (q : LedgerKey)
    → (contains_key top q || is_changed ls q) ≡ false → get (under_one (under m ls) top) q ≡ get m q
unchanged m ls top q h = get-current m ls top q
    ∙ ap (λ o. unwrap_or o (get m q)) (is_some_false (newest_change ls top q) (is_some-newest ls top q ∙ h))

unknown : (m : EntryMap) (ls : List LayerMap) (top : LayerMap) (q : LedgerKey) → is_known m ls top q ≡ false
    → get (under_one (under m ls) top) q ≡ None
unknown m ls top q h = let parts = or_parts (contains_key m q) (contains_key top q || is_changed ls q) h in
    unchanged m ls top q parts.1 ∙ is_some_false (get m q) parts.0

-- ---- the walk

-- nothing exists above k and up to at
pub record IsSeenTo (m : EntryMap) (k at : LedgerKey) : Type 0 where
  pub ahead : is_gt (key_cmp k at) ≡ false
  pub none : (q : LedgerKey) → key_cmp k q ≡ Less → key_cmp at q ≢ Less → get m q ≡ None

pub seen_first : (m : EntryMap) (k at : LedgerKey) → at ≡ k → IsSeenTo m k at
seen_first m k at same = record {
  ahead = ap (λ x. is_gt (key_cmp k x)) same ∙ ap is_gt (tied_itself keys_total k);
  none = λ q above here. absurd (here (ap (λ x. key_cmp x q) same ∙ above));
}

module _ (m : EntryMap) (ls : List LayerMap) (top : LayerMap) where
  abbrev known : LedgerKey → Bool
  known = is_known m ls top

  abbrev current : EntryMap
  current = under_one (under m ls) top

  none_before : (at least : LedgerKey) → IsLeastKey known at least → (q : LedgerKey) → key_cmp at q ≡ Less
      → key_cmp q least ≡ Less → get current q ≡ None
  none_before at least next q above before =
      elim (known q) as (λ b. known q ≡ b → get current q ≡ None) [
        | true ↦ λ e. absurd (next.least_of q above e (keys_total.antisymm least q ∙ ap ordering_reverse before))
        | false ↦ λ e. unknown m ls top q e
      ] refl

  pub seen_next : (k at least : LedgerKey) → IsSeenTo current k at → IsLeastKey known at least
      → get current least ≡ None → IsSeenTo current k least
  seen_next k at least seen next gone = record {
    ahead = ap is_gt (up_to_less k at least seen.ahead next.above);
    none = λ q above here. by_order (get current q ≡ None) (key_cmp at q)
        (λ later. elim (key_cmp q least) as (λ o. key_cmp q least ≡ o → get current q ≡ None) [
          | Less ↦ λ before. none_before at least next q later before
          | Equal ↦ λ tied. ap (get current) (keys_exact q least tied) ∙ gone
          | Greater ↦ λ after. absurd (here (keys_total.antisymm least q ∙ ap ordering_reverse after))
        ] refl)
        (λ early. seen.none q above early);
  }

  pub found_next : (k at least : LedgerKey) (e : LedgerEntry) → IsSeenTo current k at → IsLeastKey known at least
      → get current least ≡ Some e → key_of e ≡ least → IsLeastAbove current k e
  found_next k at least e seen next there own =
      subst (λ x. (get current x ≡ Some e) × (key_cmp k x ≡ Less)
      × ((q : LedgerKey) → key_cmp k q ≡ Less → get current q ≢ None → key_cmp x q ≢ Greater)
      → IsLeastAbove current k e) own
      (λ h. record { there = h.0; above = h.1; least = h.2 }) (
        there,
        up_to_less k at least seen.ahead next.above,
        λ q above some before. some (by_order (get current q ≡ None) (key_cmp at q)
            (λ later. none_before at least next q later (keys_total.antisymm q least ∙ ap ordering_reverse before))
            (λ early. seen.none q above early)),
      )

  pub ended : (k at : LedgerKey) (last : Option LedgerKey) → IsSeenTo current k at → IsNextKnown m ls top at last None
      → IsNextUpTo current k last None
  ended k at last seen next q above within =
      by_order (get current q ≡ None) (key_cmp at q) (λ later. unknown m ls top q (next q later within))
      (λ early. seen.none q above early)

-- ---- how many known keys are left

abbrev pub count_above : LedgerKey → List LedgerKey → ℕ
count_above k [] = 0
count_above k (q ∷ qs) = cond (is_lt (key_cmp k q)) 1 0 + count_above k qs

abbrev pub changed_above : LedgerKey → List LayerMap → ℕ
changed_above k [] = 0
changed_above k (l ∷ ls) = count_above k (keys l) + changed_above k ls

abbrev pub known_above : EntryMap → List LayerMap → LayerMap → LedgerKey → ℕ
known_above m ls top k = count_above k (keys m) + (count_above k (keys top) + changed_above k ls)

module _ (a b : LedgerKey) (less : key_cmp a b ≡ Less) where
  counts : (q : LedgerKey) → cond (is_lt (key_cmp b q)) 1 0 ≤ cond (is_lt (key_cmp a q)) 1 0
  counts q =
      elim (is_lt (key_cmp b q)) as (λ t. is_lt (key_cmp b q) ≡ t → cond t 1 0 ≤ cond (is_lt (key_cmp a q)) 1 0) [
        | true ↦ λ e. subst (λ t. 1 ≤ cond t 1 0) (sym (ap is_lt (keys_total.trans a b q less (is_lt_true_Less _ e))))
            (omega arith)
        | false ↦ λ e. omega arith
      ] refl

  fewer : (ks : List LedgerKey) → count_above b ks ≤ count_above a ks
  fewer [] = omega arith
  fewer (k ∷ ks) = omega (arith, counts k, fewer ks)

  counts_itself : (q : LedgerKey) → eq_by_cmp key_cmp b q ≡ true
      → cond (is_lt (key_cmp b q)) 1 0 < cond (is_lt (key_cmp a q)) 1 0
  counts_itself q tied = let same : b ≡ q = same_keys b q tied in
      subst (λ x. cond (is_lt (key_cmp b x)) 1 0 < cond (is_lt (key_cmp a x)) 1 0) same
      (subst (λ t. cond (is_lt (key_cmp b b)) 1 0 < cond t 1 0) (sym (ap is_lt less)) (subst (λ t. cond t 1 0 < 1) (sym
      (ap is_lt (tied_itself keys_total b))) (omega arith)))

  falls : (ks : List LedgerKey) → list_any (eq_by_cmp key_cmp b) ks ≡ true → count_above b ks < count_above a ks
  falls [] h = cc
  falls (k ∷ ks) h = or_elim (count_above b (k ∷ ks) < count_above a (k ∷ ks)) (eq_by_cmp key_cmp b k) (list_any
      (eq_by_cmp key_cmp b) ks) h
      (λ here. omega (arith, counts_itself k here, fewer ks))
      (λ later. omega (arith, counts k, falls ks later))

  fewer_changed : (ls : List LayerMap) → changed_above b ls ≤ changed_above a ls
  fewer_changed [] = omega arith
  fewer_changed (l ∷ ls) = omega (arith, fewer (keys l), fewer_changed ls)

  changed_falls : (ls : List LayerMap) → is_changed ls b ≡ true → changed_above b ls < changed_above a ls
  changed_falls [] h = cc
  changed_falls (l ∷ ls) h =
      or_elim (changed_above b (l ∷ ls) < changed_above a (l ∷ ls)) (contains_key l b) (is_changed ls b) h
      (λ here. omega (arith, falls (keys l) (sym (contains_key-keys l b) ∙ here), fewer_changed ls))
      (λ later. omega (arith, fewer (keys l), changed_falls ls later))

pub known_falls : (m : EntryMap) (ls : List LayerMap) (top : LayerMap) (at least : LedgerKey)
    → IsLeastKey (is_known m ls top) at least → known_above m ls top least < known_above m ls top at
known_falls m ls top at least next =
    let less = next.above in
    or_elim (known_above m ls top least < known_above m ls top at) (contains_key m least)
    (contains_key top least || is_changed ls least) next.there
    (λ here. omega (
      arith,
      falls at least less (keys m) (sym (contains_key-keys m least) ∙ here),
      fewer at least less (keys top),
      fewer_changed at least less ls,
    ))
    (λ later. or_elim (known_above m ls top least < known_above m ls top at) (contains_key top least)
    (is_changed ls least) later
    (λ here. omega (
      arith,
      fewer at least less (keys m),
      falls at least less (keys top) (sym (contains_key-keys top least) ∙ here),
      fewer_changed at least less ls,
    ))
    (λ last. omega (
      arith,
      fewer at least less (keys m),
      fewer at least less (keys top),
      changed_falls at least less ls last,
    )))

-- ---- as the code finds it

base_next : (m : EntryMap) (k : LedgerKey) (e : LedgerEntry) → IsLeastAbove m k e
    → IsNextKey (contains_key m) k (Some (key_of e))
base_next m k e next = record {
  there = ap is_some next.there;
  above = next.above;
  least_of = λ q above there. next.least q above (λ none. cannot_be (contains_key m q) (ap is_some none) there);
}

module _ (m : EntryMap) (ls : List LayerMap) (top : LayerMap) where
  abbrev changed : LedgerKey → Bool
  changed q = contains_key top q || is_changed ls q

  -- the next changed key is above the last one
  none_within : (k x l : LedgerKey) → IsLeastKey changed k x → is_gt (key_cmp x l) ≡ true → (q : LedgerKey)
      → key_cmp k q ≡ Less → key_cmp q l ≢ Greater → changed q ≡ false
  none_within k x l next behind q above within =
      elim (changed q) as (λ b. changed q ≡ b → b ≡ false) [
        | true ↦ λ e. cannot_be (is_gt (key_cmp x l))
            (upto keys_total x q l (not_gt _ (next.least_of q above e)) (not_gt _ within)) behind
        | false ↦ λ _. refl
      ] refl

  -- the next changed key is at most the last one
  least_within : (k x l : LedgerKey) → IsNextUpTo m k (Some l) None → IsLeastKey changed k x
      → is_gt (key_cmp x l) ≡ false → IsNextKey (is_known m ls top) k (Some x)
  least_within k x l none next low = record {
    there = or_right (contains_key m x) (changed x) next.there;
    above = next.above;
    least_of = λ q above passes. or_elim (key_cmp x q ≢ Greater) (contains_key m q) (changed q) passes
        (λ here. elim (is_gt (key_cmp q l)) as (λ b. is_gt (key_cmp q l) ≡ b → key_cmp x q ≢ Greater) [
          | true ↦ λ e. below_not_greater x q
              (up_to_less x l q low (keys_total.antisymm l q ∙ ap ordering_reverse (gt_is (key_cmp q l) e)))
          | false ↦ λ e. cannot_be (contains_key m q) (ap is_some (none q above (not_greater _ e))) here
        ] refl)
        (λ here. next.least_of q above here);
  }

  pub none_kept : (k : LedgerKey) (last o : Option LedgerKey) → IsNextUpTo m k last None → IsNextKey changed k o
      → IsNextKnown m ls top k last (option_map Changed (up_to o last))
  none_kept k last None none next =
      λ q above within. or_false (contains_key m q) (changed q) (ap is_some (none q above within)) (next q above)
  none_kept k None (Some x) none next =
      next_either (contains_key m) changed k None (Some x) (λ q above. ap is_some (none q above tt)) next
  none_kept k (Some l) (Some x) none next =
      elim (is_gt (key_cmp x l)) as (λ b. is_gt (key_cmp x l) ≡ b
      → IsNextKnown m ls top k (Some l) (option_map Changed (cond b None (Some x)))) [
        | true ↦ λ e q above within. or_false (contains_key m q) (changed q) (ap is_some (none q above within))
            (none_within k x l next e q above within)
        | false ↦ λ e. least_within k x l none next e
      ] refl

  pub none_changed : (k : LedgerKey) (last : Option LedgerKey) (e : LedgerEntry) → IsLeastAbove m k e
      → IsNextKey changed k None → IsNextKnown m ls top k last (Some (Kept e))
  none_changed k last e base next = (
    next_either (contains_key m) changed k (Some (key_of e)) None (base_next m k e base) next,
    unchanged m ls top (key_of e) (next (key_of e) base.above) ∙ base.there,
    next (key_of e) base.above,
  )

  lesser_known : (k : LedgerKey) (e : LedgerEntry) (x : LedgerKey) (b : Bool) → IsLeastAbove m k e
      → IsNextKey changed k (Some x) → is_lt (key_cmp x (key_of e)) ≡ b
      → IsNextKey (is_known m ls top) k (cond b (Some x) (Some (key_of e)))
  lesser_known k e x b base next is =
      subst (λ t. IsNextKey (is_known m ls top) k (cond t (Some x) (Some (key_of e)))) is
      (next_either (contains_key m) changed k (Some (key_of e)) (Some x) (base_next m k e base) next)

  pub kept_first : (k : LedgerKey) (last : Option LedgerKey) (e : LedgerEntry) (x : LedgerKey) → IsLeastAbove m k e
      → IsNextKey changed k (Some x) → key_cmp (key_of e) x ≡ Less → IsNextKnown m ls top k last (Some (Kept e))
  kept_first k last e x base next less =
      let after : key_cmp x (key_of e) ≡ Greater = keys_total.antisymm x (key_of e) ∙ ap ordering_reverse less in
      let same : changed (key_of e) ≡ false =
      elim (changed (key_of e)) as (λ b. changed (key_of e) ≡ b → b ≡ false) [
        | true ↦ λ h. absurd (next.least_of (key_of e) base.above h after)
        | false ↦ λ h. refl
      ] refl in (
        lesser_known k e x false base next (ap is_lt after),
        unchanged m ls top (key_of e) same ∙ base.there,
        same,
      )

  pub changed_first : (k : LedgerKey) (last : Option LedgerKey) (e : LedgerEntry) (x : LedgerKey)
      → IsLeastAbove m k e → IsNextKey changed k (Some x) → key_cmp (key_of e) x ≢ Less
      → IsNextKnown m ls top k last (Some (Changed x))
  changed_first k last e x base next late =
      elim (key_cmp (key_of e) x) as (λ r. key_cmp (key_of e) x ≡ r → IsNextKey (is_known m ls top) k (Some x)) [
        | Less ↦ λ less. absurd (late less)
        | Equal ↦ λ tied. subst (λ y. IsNextKey (is_known m ls top) k (Some y)) (keys_exact (key_of e) x tied)
            (lesser_known k e x false base next
            (ap is_lt (keys_total.antisymm x (key_of e) ∙ ap ordering_reverse tied)))
        | Greater ↦ λ after. lesser_known k e x true base next
            (ap is_lt (keys_total.antisymm x (key_of e) ∙ ap ordering_reverse after))
      ] refl

  -- what the layers change next is next after an entry of the base that comes before it
  pub still_ahead : (k : LedgerKey) (last : Option LedgerKey) (e : LedgerEntry) (o : Option LedgerKey)
      → IsNextKnown m ls top k last (Some (Kept e)) → IsNextKey changed k o → IsNextKey changed (key_of e) o
  still_ahead k last e None known next = λ q above. next q (keys_total.trans k (key_of e) q known.0.above above)
  still_ahead k last e (Some x) known next = record {
    there = next.there;
    above = elim (key_cmp (key_of e) x) as (λ r. key_cmp (key_of e) x ≡ r → key_cmp (key_of e) x ≡ Less) [
      | Less ↦ λ less. less
      | Equal ↦ λ tied. cannot_be (changed (key_of e)) known.2
          (ap changed (keys_exact (key_of e) x tied) ∙ next.there)
      | Greater ↦ λ after. absurd
          (known.0.least_of x next.above (or_right (contains_key m x) (changed x) next.there) after)
    ] refl;
    least_of = λ q above passes. next.least_of q (keys_total.trans k (key_of e) q known.0.above above) passes;
  }

pub next_is : (m : EntryMap) (ls : List LayerMap) (top : LayerMap) (k : LedgerKey) (last : Option LedgerKey)
    (o p : Option Known) → o ≡ p → IsNextKnown m ls top k last o → IsNextKnown m ls top k last p
next_is m ls top k last o p is next = subst (IsNextKnown m ls top k last) is next

pub first_and_rest : {X : Type 0} (xs : List X) (x : X) → 1 ≤ length xs → x ≡ get_or xs 0 x
    → xs ≡ x ∷ take (length xs - 1) (drop 1 xs)
first_and_rest xs x h e = grind (arith, common_steps)

-- ---- as far as a last key

pub any_last : (m : EntryMap) (k : LedgerKey) (last : Option LedgerKey) (o : Option LedgerEntry) → IsNextAfter m k o
    → IsNextUpTo m k last o
any_last m k last None next = λ q above within. next q above
any_last m k last (Some e) next = next

pub with_no_last : (m : EntryMap) (k : LedgerKey) (o : Option LedgerEntry) → IsNextUpTo m k None o → IsNextAfter m k o
with_no_last m k None next = λ q above. next q above tt
with_no_last m k (Some e) next = next
