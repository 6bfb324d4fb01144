-- Counts of sums.
use Rattle.image_rules.proofs.Prelude.{◌≡◌, refl, sym, ap, subst, ◌∙◌, ℕ, ◌+◌, min, Bool, true, false, cond, Some}
use Rattle.image_rules.proofs.Prelude.{Option, None, unwrap_or, arith, ints, ℤ, pos, ◌+ℤ◌, if◌then◌else◌, LedgerKey}
use Rattle.image_rules.proofs.Prelude.{key_cmp, is_key, for_key, greatest_count, CountMap, count_at, IsCountOf, Adds}
use Rattle.image_rules.proofs.Prelude.{add_assoc, add_zero, if_zeros, same_keys}
use Rattle.std.specs.Map.{lookup}
use Rattle.std.specs.BTreeMap as tree
use Rattle.entry_map.proofs.KeyMaps.{derived, derived_is}

-- ---- numbers

sum_more : (sum : ℤ) (exact more : ℕ) → sum ≡ pos exact → (sum +ℤ pos more) ≡ pos (exact + more)
sum_more sum exact more is = omega (arith, ints)

count_more : (new old exact more : ℕ) → old ≡ min exact greatest_count → new ≡ min (old + more) greatest_count
    → new ≡ min (exact + more) greatest_count
count_more new old exact more was is = omega arith

-- ---- counts in a map

pub count_read : (counts : CountMap) (k : LedgerKey) → unwrap_or (tree.get derived counts k) 0 ≡ count_at counts k
count_read counts k = ap (λ c. unwrap_or (tree.get c counts k) 0) derived_is

chosen : (b : Bool) (n : ℕ) (o : Option ℕ) → unwrap_or (cond b (Some n) o) 0 ≡ cond b n (unwrap_or o 0)
chosen true n o = refl
chosen false n o = refl

pub count_put : (old new : CountMap) (k q : LedgerKey) (n : ℕ) → tree.Updates derived old new k (Some n)
    → count_at new q ≡ cond (is_key k q) n (count_at old q)
count_put old new k q n u =
    let stated = subst (λ c. tree.Updates c old new k (Some n)) derived_is u in
    ap (λ o. unwrap_or o 0) (stated.0 q) ∙ chosen (is_key k q) n (tree.get key_cmp old q)

pub count_added : (old new : CountMap) (k q : LedgerKey) (more was now : ℕ) → was ≡ count_at old k
    → now ≡ min (was + more) greatest_count → tree.Updates derived old new k (Some now)
    → count_at new q ≡ (if is_key k q then min (count_at old k + more) greatest_count else count_at old q)
count_added old new k q more was now is capped u =
    count_put old new k q now u
    ∙ ap (λ n. cond (is_key k q) n (count_at old q)) (capped ∙ ap (λ n. min (n + more) greatest_count) is)

pub count_of_none : (counts : CountMap) → tree.IsEmpty counts → (k : LedgerKey) → IsCountOf (count_at counts k) (pos 0)
count_of_none counts none k = record {
  exact = 0;
  is = refl;
  capped = ap (λ es. unwrap_or (lookup (tree.is_at (key_cmp k)) es) 0) none;
}

-- ---- what is added

abbrev AddsAt : CountMap → CountMap → LedgerKey → ℕ → Type 0
AddsAt old new named more = (q : LedgerKey) → count_at new q
    ≡ (if is_key named q then min (count_at old named + more) greatest_count else count_at old q)

one_added : (old new : CountMap) (named k : LedgerKey) (more : ℕ) (sum : ℤ) (b : Bool) → is_key named k ≡ b
    → count_at new k ≡ cond b (min (count_at old named + more) greatest_count) (count_at old k)
    → IsCountOf (count_at old k) sum → IsCountOf (count_at new k) (sum +ℤ (if b then pos more else pos 0))
one_added old new named k more sum true tied put was = record {
  exact = was.exact + more;
  is = sum_more sum was.exact more was.is;
  capped = count_more (count_at new k) (count_at old named) was.exact more
      (ap (count_at old) (same_keys named k tied) ∙ was.capped) put;
}
one_added old new named k more sum false apart put was = record {
  exact = was.exact;
  is = add_zero sum ∙ was.is;
  capped = put ∙ was.capped;
}

pub added_for : (old new : CountMap) (named : LedgerKey) (more : ℕ) → AddsAt old new named more
    → Adds old new (λ k. for_key k (Some named) (pos more))
added_for old new named more put k sum was =
    one_added old new named k more sum (is_key named k) refl (put k) was

pub added_none : (counts : CountMap) (more : LedgerKey → ℤ) → ((k : LedgerKey) → more k ≡ pos 0)
    → Adds counts counts more
added_none counts more none k sum was =
    subst (IsCountOf (count_at counts k)) (sym (ap (λ n. sum +ℤ n) (none k) ∙ add_zero sum)) was

nothing_for : (k : LedgerKey) (named : Option LedgerKey) → for_key k named (pos 0) ≡ pos 0
nothing_for k None = refl
nothing_for k (Some named) = if_zeros (is_key named k)

pub added_nothing : (counts : CountMap) (named : Option LedgerKey) (more : ℕ) → more ≡ 0
    → Adds counts counts (λ k. for_key k named (pos more))
added_nothing counts named more is =
    added_none counts (λ k. for_key k named (pos more))
    (λ k. ap (λ n. for_key k named (pos n)) is ∙ nothing_for k named)

pub added_both : (old mid new : CountMap) (first second both : LedgerKey → ℤ)
    → ((k : LedgerKey) → both k ≡ (first k +ℤ second k)) → Adds old mid first → Adds mid new second → Adds old new both
added_both old mid new first second both is one two k sum was =
    subst (IsCountOf (count_at new k)) (add_assoc sum (first k) (second k) ∙ ap (λ n. sum +ℤ n) (sym (is k)))
    (two k (sum +ℤ first k) (one k sum was))

pub added_as : (old new : CountMap) (more same : LedgerKey → ℤ) → ((k : LedgerKey) → same k ≡ more k)
    → Adds old new more → Adds old new same
added_as old new more same is adds k sum was =
    subst (λ n. IsCountOf (count_at new k) (sum +ℤ n)) (sym (is k)) (adds k sum was)
