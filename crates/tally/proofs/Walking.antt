-- A sum over all entries, by what comes after one key after another.
use Rattle.tally.proofs.Prelude.{◌≡◌, ◌≢◌, refl, sym, ap, ◌∙◌, ℕ, zero, suc, cond, T, arith, List, [], ◌∷◌}
use Rattle.tally.proofs.Prelude.{length, Option, Some, None, ints, ◌+◌, ◌*◌, ◌<◌, ℤ, pos, negsuc, neg_ℤ, ◌+ℤ◌}
use Rattle.tally.proofs.Prelude.{◌≤ℤ◌, replicate, FitsSigned, w128, key_of, EntryMap}
use Rattle.tally.proofs.Prelude.{IsLeastAbove, IsNextAfter, Weight, sum_over, total, part, first_key, sum_after}
use Rattle.std.specs.declared.cmp.Ordering.TheVariants.{Less, Equal, Greater}
use Rattle.std.specs.Ordering.{is_eq, ordering_then}
use Rattle.std.specs.Cmp.{nat_cmp_is}
use Rattle.std.specs.FinMap.{get, entries, entries_sorted, get-entries}
use Rattle.ledger_types.proofs.KeyOrdering.{keys_total}
use Rattle.std.specs.FinMap.Entries.{find, below_all, is_sorted}
use Rattle.entry_map.proofs.shared_tree_proofs.Parts.{first, second, less}
use Rattle.entry_map.proofs.shared_tree_proofs.Changed.{below_less, below_tied}
use Rattle.ledger_types.specs.declared.entry.LedgerEntry.{LedgerEntry}
use Rattle.ledger_types.specs.declared.key.LedgerKey.{LedgerKey}
use Rattle.ledger_types.specs.declared.key.LedgerKey.TheVariants as key
use Rattle.ledger_types.specs.Bytes.{bytes_cmp}
use Rattle.ledger_types.specs.KeyOrder.{key_cmp}
use Rattle.entry_changes.specs.Encodable.{HasEntireId, HaveEntireIds}
use Rattle.offer_book.specs.Sold.{above}
use Rattle.offer_book.proofs.Above.{Pairs, skipped, taken, nothing_left, next_left}
use Rattle.entry_changes.proofs.entry_sums_proofs.Lists.{not_found_below}
use Rattle.entry_map.proofs.Aggregates.{found_first}

-- ---- no key is ahead of the first

zero_less : (n x : ℕ) (xs : List ℕ) → bytes_cmp (replicate (suc n) 0) (suc x ∷ xs) ≡ Less
zero_less n x xs = ap (λ o. ordering_then o (bytes_cmp (replicate n 0) xs))
    (sym (nat_cmp_is 0 (suc x) Less (omega (arith))))

-- zero bytes never sort after a text that is as long
zeros_first : (n : ℕ) (xs : List ℕ) → length xs ≡ n → bytes_cmp (replicate n 0) xs ≢ Greater
zeros_first zero [] same = λ e. absurd (cc)
zeros_first zero (x ∷ xs) same = λ e. absurd (cc)
zeros_first (suc n) [] same = absurd (cc)
zeros_first (suc n) (zero ∷ xs) same = zeros_first n xs (omega (arith, same))
zeros_first (suc n) (suc x ∷ xs) same = λ e. absurd (let lt = zero_less n x xs in cc)

pub none_ahead : (k : LedgerKey) → HasEntireId k → key_cmp first_key k ≢ Greater
none_ahead (key.Account id) entire = zeros_first 32 id.0 entire
none_ahead (key.TrustLine id held) entire = λ e. absurd (cc)
none_ahead (key.Offer id offer) entire = λ e. absurd (cc)
none_ahead (key.Data id name) entire = λ e. absurd (cc)
none_ahead (key.ClaimableBalance id) entire = λ e. absurd (cc)
none_ahead (key.LiquidityPool id) entire = λ e. absurd (cc)

-- ---- a sum, by what is at its first key and after it

all_after : (f : Weight) (k : LedgerKey) (es : Pairs) → T (below_all key_cmp k es)
    → sum_over f (above k es) ≡ sum_over f es
all_after f k [] h = refl
all_after f k (x ∷ xs) h = ap (sum_over f) (taken k x xs (less _ (first _ _ h)))
    ∙ ap (λ s. f x.1 +ℤ s) (all_after f k xs (second _ _ h))

after_none : (here after all : ℤ) → here ≡ pos 0 → after ≡ all → all ≡ (here +ℤ after)
after_none here after all none is = omega (arith, ints)

after_one : (x rest here after : ℤ) → here ≡ x → after ≡ rest → (x +ℤ rest) ≡ (here +ℤ after)
after_one x rest here after is same = omega (arith, ints)

sum_from : (f : Weight) (k : LedgerKey) (es : Pairs) → T (is_sorted key_cmp es)
    → ((q : LedgerKey) (e : LedgerEntry) → find key_cmp q es ≡ Some e → key_cmp k q ≢ Greater)
    → sum_over f es ≡ (part f (find key_cmp k es) +ℤ sum_over f (above k es))
sum_from f k [] h ahead = omega (arith, ints)
sum_from f k (x ∷ xs) h ahead = elim (key_cmp k x.0) as (λ r. key_cmp k x.0 ≡ r
    → sum_over f (x ∷ xs) ≡ (part f (find key_cmp k (x ∷ xs)) +ℤ sum_over f (above k (x ∷ xs)))) [
      | Less ↦ λ lt. let after = below_less keys_total k x.0 xs lt (first _ _ h) in
          after_none _ _ _
          (ap (λ o. part f (cond (is_eq o) (Some x.1) (find key_cmp k xs))) lt
          ∙ ap (part f) (not_found_below k xs after))
          (ap (sum_over f) (taken k x xs lt) ∙ ap (λ s. f x.1 +ℤ s) (all_after f k xs after))
      | Equal ↦ λ tied. after_one (f x.1) (sum_over f xs) _ _
          (ap (λ o. part f (cond (is_eq o) (Some x.1) (find key_cmp k xs))) tied)
          (ap (sum_over f) (skipped k x xs (λ lt. absurd (cc (tied, lt))))
          ∙ all_after f k xs (below_tied keys_total k x.0 xs tied (first _ _ h)))
      | Greater ↦ λ past. absurd (ahead x.0 x.1 (found_first x xs) past)
    ] refl

pub sum_from_first : (f : Weight) (m : EntryMap) → HaveEntireIds m
    → total f m ≡ (part f (get m first_key) +ℤ sum_after f m first_key)
unfolding total
sum_from_first f m entire =
    sum_from f first_key (entries m) (entries_sorted m)
    (λ q e there. none_ahead q (entire q e (get-entries m q ∙ there)))
    ∙ ap (λ o. part f o +ℤ sum_after f m first_key) (sym (get-entries m first_key))

-- ---- one key after another

pub sum_next : (f : Weight) (m : EntryMap) (k : LedgerKey) (e : LedgerEntry) → IsLeastAbove m k e
    → sum_after f m k ≡ (f e +ℤ sum_after f m (key_of e))
sum_next f m k e next = ap (sum_over f) (next_left m k e next)

pub none_after : (f : Weight) (m : EntryMap) (k : LedgerKey) → IsNextAfter m k None → sum_after f m k ≡ pos 0
none_after f m k none = ap (sum_over f) (nothing_left m k none)

-- what was looked up at the first key, and what comes after it, is all
pub first_part : (f : Weight) (m : EntryMap) → HaveEntireIds m → (k : LedgerKey) (o : Option LedgerEntry)
    → k ≡ first_key → o ≡ get m k → total f m ≡ (part f o +ℤ sum_after f m k)
first_part f m entire k o is found = sum_from_first f m entire
    ∙ ap (λ q. part f (get m q) +ℤ sum_after f m q) (sym is)
    ∙ ap (λ p. part f p +ℤ sum_after f m k) (sym found)

pub at_the_end : (sum rest start after here all : ℤ) → (sum +ℤ rest) ≡ (start +ℤ after) → rest ≡ pos 0
    → start ≡ here → all ≡ (here +ℤ after) → sum ≡ all
at_the_end sum rest start after here all goes none is entire = omega (arith, ints)

-- ---- what so many entries hold fits 128 bits with a sign

pub sum_fits : (sum more : ℤ) (n : ℕ) → n < 4611686018427387904
    → neg_ℤ (pos (18446744073709551616 * (n + 1))) ≤ℤ sum → sum ≤ℤ pos (18446744073709551616 * (n + 1))
    → negsuc 18446744073709551615 ≤ℤ more → more ≤ℤ pos 18446744073709551616 → FitsSigned w128 (sum +ℤ more)
sum_fits sum more n few low high least most = omega (arith, ints)

pub moved_sum_goes_on : (sum more new first rest after moved : ℤ) → new ≡ (sum +ℤ more) → (sum +ℤ rest) ≡ first
    → rest ≡ (after +ℤ moved) → more ≡ after → (new +ℤ moved) ≡ first
moved_sum_goes_on sum more new first rest after moved is goes next held = omega (arith, ints)

pub still_low : (sum more new : ℤ) (n : ℕ) → new ≡ (sum +ℤ more)
    → neg_ℤ (pos (18446744073709551616 * (n + 1))) ≤ℤ sum → negsuc 18446744073709551615 ≤ℤ more
    → neg_ℤ (pos (18446744073709551616 * (n + 1 + 1))) ≤ℤ new
still_low sum more new n is low least = omega (arith, ints)

pub still_high : (sum more new : ℤ) (n : ℕ) → new ≡ (sum +ℤ more) → sum ≤ℤ pos (18446744073709551616 * (n + 1))
    → more ≤ℤ pos 18446744073709551616 → new ≤ℤ pos (18446744073709551616 * (n + 1 + 1))
still_high sum more new n is high most = omega (arith, ints)
