-- Sums over the entries of a map.
use Rattle.entry_sums.proofs.Prelude.{◌≡◌, refl, sym, ap, subst, ◌∙◌, Bool, true, false, cond, Option, Some, None}
use Rattle.entry_sums.proofs.Prelude.{arith, ints, ℤ, pos, ◌+ℤ◌, ◌≤ℤ◌, eq_by_cmp, get, insert, entries, entries_sorted}
use Rattle.entry_sums.proofs.Prelude.{entries-insert, get-entries, get-insert, same_map, put_in, LedgerEntry, LedgerKey}
use Rattle.entry_sums.proofs.Prelude.{key_of, key_cmp, keys_total, keys_exact, EntryMap, erase, Weight, sum_over, total}
use Rattle.entry_sums.proofs.Prelude.{part, EachEntry, erase_get, erase_there, left_over, same_keys}
use Rattle.entry_sums.specs.Laws.{PutAdds, EraseTakes, OnlyAtCounts, PartIsAtMost}
use Rattle.entry_sums.proofs.Lookups.{erase_each}
use Rattle.entry_sums.proofs.Lists.{sum_over-put, sum_over-at_most, sum_over-plus}
use Rattle.entry_map.proofs.ledger_types_proofs.Arithmetic.{add_zero, zero_from_own_double}

-- ---- whole numbers

both_ways : (a b : ℤ) → a ≤ℤ b → b ≤ℤ a → a ≡ b
both_ways a b low high = omega (arith, ints)

nonpositive_from_zero : (a : ℤ) → a ≡ pos 0 → a ≤ℤ pos 0
nonpositive_from_zero a is = omega (arith, ints)

nonnegative_from_zero : (a : ℤ) → a ≡ pos 0 → pos 0 ≤ℤ a
nonnegative_from_zero a is = omega (arith, ints)

only_part : (rest here all : ℤ) → (rest +ℤ here) ≡ all → rest ≡ pos 0 → all ≡ here
only_part rest here all is none = omega (arith, ints)

most_part : (rest here all : ℤ) → (rest +ℤ here) ≡ all → pos 0 ≤ℤ rest → here ≤ℤ all
most_part rest here all is low = omega (arith, ints)

-- ---- sums

total_insert : (f : Weight) (m : EntryMap) (k : LedgerKey) (e : LedgerEntry)
    → (total f (insert m k e) +ℤ part f (get m k)) ≡ (total f m +ℤ f e)
unfolding total
total_insert f m k e =
    ap (λ es. sum_over f es +ℤ part f (get m k)) (entries-insert keys_total m k e)
    ∙ ap (λ o. sum_over f (put_in key_cmp k e (entries m)) +ℤ part f o) (get-entries m k)
    ∙ sum_over-put f k e (entries m) (entries_sorted m)

pub total_put : PutAdds
total_put f m e = total_insert f m (key_of e) e

taken_back : (b : Bool) (x y : Option LedgerEntry) → (b ≡ true → x ≡ y) → cond b x (cond b None y) ≡ y
taken_back true x y h = h refl
taken_back false x y h = refl

put_back : (m : EntryMap) (k : LedgerKey) (e : LedgerEntry) → get m k ≡ Some e → insert (erase m k) k e ≡ m
put_back m k e there = same_map keys_total keys_exact _ _ (λ q. get-insert keys_total (erase m k) k e q
    ∙ ap (cond (eq_by_cmp key_cmp q k) (Some e)) (erase_get m k q)
    ∙ taken_back (eq_by_cmp key_cmp q k) (Some e) (get m q) (λ tied. sym (ap (get m) (same_keys q k tied) ∙ there)))

nothing_there : (b : Bool) (y : Option LedgerEntry) → (b ≡ true → y ≡ None) → cond b None y ≡ y
nothing_there true y h = sym (h refl)
nothing_there false y h = refl

same_without : (m : EntryMap) (k : LedgerKey) → get m k ≡ None → erase m k ≡ m
same_without m k none = same_map keys_total keys_exact _ _
    (λ q. erase_get m k q ∙ nothing_there (eq_by_cmp key_cmp q k) (get m q)
    (λ tied. ap (get m) (same_keys q k tied) ∙ none))

erase_sums : (erased here all none : ℤ) → (all +ℤ none) ≡ (erased +ℤ here) → none ≡ pos 0 → (erased +ℤ here) ≡ all
erase_sums erased here all none is nothing = omega (arith, ints)

erase_part : (f : Weight) (m : EntryMap) (k : LedgerKey) (o : Option LedgerEntry) → get m k ≡ o
    → (total f (erase m k) +ℤ part f o) ≡ total f m
erase_part f m k None none = ap (λ n. total f n +ℤ pos 0) (same_without m k none) ∙ add_zero (total f m)
erase_part f m k (Some e) there = erase_sums (total f (erase m k)) (f e) (total f m) (part f (get (erase m k) k))
    (ap (λ n. total f n +ℤ part f (get (erase m k) k)) (sym (put_back m k e there)) ∙ total_insert f (erase m k) k e)
    (ap (part f) (erase_there m k))

pub total_erase : EraseTakes
total_erase f m k = erase_part f m k (get m k) refl

pub total_at_most : (f g : Weight) (m : EntryMap) → EachEntry (λ k e. f e ≤ℤ g e) m → total f m ≤ℤ total g m
unfolding total
total_at_most f g m le = sum_over-at_most f g (entries m) (entries_sorted m)
    (λ k x there. le k x (get-entries m k ∙ there))

pub total_plus : (f g h : Weight) (m : EntryMap) → ((e : LedgerEntry) → f e ≡ (g e +ℤ h e))
    → total f m ≡ (total g m +ℤ total h m)
unfolding total
total_plus f g h m is = sum_over-plus f g h (entries m) is

-- a sum of zeros
abbrev nothing : Weight
nothing e = pos 0

total_nothing : (m : EntryMap) → total nothing m ≡ pos 0
total_nothing m = zero_from_own_double _ (total_plus nothing nothing nothing m (λ e. omega (arith, ints)))

pub total_none : (f : Weight) (m : EntryMap) → EachEntry (λ k e. f e ≡ pos 0) m → total f m ≡ pos 0
total_none f m none =
    both_ways _ _ (total_at_most f nothing m (λ k e there. nonpositive_from_zero (f e) (none k e there)))
    (total_at_most nothing f m (λ k e there. nonnegative_from_zero (f e) (none k e there))) ∙ total_nothing m

pub total_not_below : (f : Weight) (m : EntryMap) → EachEntry (λ k e. pos 0 ≤ℤ f e) m → pos 0 ≤ℤ total f m
total_not_below f m le = subst (λ s. s ≤ℤ total f m) (total_nothing m) (total_at_most nothing f m le)

pub total_only : OnlyAtCounts
total_only f m k none = only_part (total f (erase m k)) (part f (get m k)) (total f m) (total_erase f m k)
    (total_none f (erase m k) (λ q e there. elsewhere q e there))
  where
    elsewhere : EachEntry (λ q e. f e ≡ pos 0) (erase m k)
    elsewhere q e there = let left = left_over m k q e there in none q e left.1 left.0

pub part_at_most : PartIsAtMost
part_at_most f m k e le there = most_part (total f (erase m k)) (f e) (total f m)
    (ap (λ o. total f (erase m k) +ℤ part f o) (sym there) ∙ total_erase f m k)
    (total_not_below f (erase m k) (erase_each (λ q x. pos 0 ≤ℤ f x) m k le))

-- weights that are equal at each entry
pub total_same : (f g : Weight) (m : EntryMap) → EachEntry (λ k e. f e ≡ g e) m → total f m ≡ total g m
total_same f g m same = both_ways _ _ (total_at_most f g m (λ k e there. no_more (f e) (g e) (same k e there)))
    (total_at_most g f m (λ k e there. no_more (g e) (f e) (sym (same k e there))))
  where
    no_more : (a b : ℤ) → a ≡ b → a ≤ℤ b
    no_more a b is = omega (arith, ints)
