-- A count of an account that is set, raised or lowered.
use Rattle.legal_rules.proofs.Prelude as prelude
use prelude.{◌≡◌, refl, sym, ap, ◌∙◌, ℕ, ◌+◌, ◌-◌, ◌≤◌, Bool, true, false, nat_eq, arith, eqb-true, ints, ℤ, pos, neg_ℤ}
use prelude.{◌+ℤ◌, ◌-ℤ◌, if◌then◌else◌, AccountId, AccountEntry, LedgerEntry, LedgerKey, second_in, num_sponsoring}
use prelude.{num_sponsored, Count, count_in, with_count, with_new_count, with_more, with_less, with_count_core, is_key}
use prelude.{Kind, Subentries, Sponsoring, Sponsored, Selling, Buying, Shares, ShareLines, Uses, View, counted, weight}
use prelude.{in_aggregate, IsEntryLegal, add_zero, if_zeros, same_sponsored, same_sponsoring, with_new_count_named}
use Rattle.hash_ids.specs.ledger_types.declared.key.LedgerKey.TheVariants as key
use Rattle.sponsor_laws.specs.sponsor_rules.declared.count.Count.TheVariants as count
use Rattle.legal_rules.proofs.Steps.{with_body, IsMove, KeepsRange, IsStep, step_as}
use Rattle.legal_rules.proofs.AccountRanges.{MayBe, new_count_keeps}
use Rattle.legal_rules.proofs.Existing.{aggregate_of}

-- ---- a new count

in_the_book : (t : Bool) (c : ℤ) (old new : ℕ) → (c -ℤ (if t then pos new else pos 0))
    ≡ ((c -ℤ (if t then pos old else pos 0)) +ℤ (if t then (pos old -ℤ pos new) else pos 0))
in_the_book true c old new = omega (arith, ints)
in_the_book false c old new = omega (arith, ints)

same_with : (t : Bool) (c : ℤ) (old new : ℕ) → new ≡ old
    → (c -ℤ (if t then pos new else pos 0)) ≡ ((c -ℤ (if t then pos old else pos 0)) +ℤ pos 0)
same_with t c old new is = ap (λ n. c -ℤ (if t then pos n else pos 0)) is ∙ sym (add_zero _)

new_count_moves : (n : ℕ) (a : AccountEntry) (which : Count) (v : View) (kind : Kind) (k : LedgerKey) (e : LedgerEntry)
    → weight v kind k (with_body e (with_new_count which n a)) ≡ (weight v kind k (with_body e a)
    +ℤ in_aggregate (aggregate_of which) (key.Account a.account_id) (pos (count_in which a) -ℤ pos n) kind k)
new_count_moves n a count.SubEntries v Subentries k e = in_the_book (is_key (key.Account a.account_id) k)
    (counted v Subentries k (with_body e a)) a.num_sub_entries n
new_count_moves n a count.SubEntries v other k e = sym (add_zero _)
new_count_moves n a count.Sponsoring v Sponsoring k e = in_the_book (is_key (key.Account a.account_id) k)
    (counted v Sponsoring k (with_body e a)) (num_sponsoring a) n
new_count_moves n a count.Sponsoring v Sponsored k e = same_with (is_key (key.Account a.account_id) k)
    (counted v Sponsored k (with_body e a)) _ _ (same_sponsored a.signers (second_in a.ext))
new_count_moves n a count.Sponsoring v other k e = sym (add_zero _)
new_count_moves n a count.Sponsored v Sponsored k e = in_the_book (is_key (key.Account a.account_id) k)
    (counted v Sponsored k (with_body e a)) (num_sponsored a) n
new_count_moves n a count.Sponsored v Sponsoring k e = same_with (is_key (key.Account a.account_id) k)
    (counted v Sponsoring k (with_body e a)) _ _ (same_sponsoring a.signers (second_in a.ext))
new_count_moves n a count.Sponsored v other k e = sym (add_zero _)

-- ---- numbers in one aggregate

pub zero_in_aggregate : (kind : Kind) (q : LedgerKey) (other : Kind) (k : LedgerKey)
    → in_aggregate kind q (pos 0) other k ≡ pos 0
zero_in_aggregate Subentries q Subentries k = if_zeros (is_key q k)
zero_in_aggregate Sponsoring q Sponsoring k = if_zeros (is_key q k)
zero_in_aggregate Sponsored q Sponsored k = if_zeros (is_key q k)
zero_in_aggregate Selling q Selling k = if_zeros (is_key q k)
zero_in_aggregate Buying q Buying k = if_zeros (is_key q k)
zero_in_aggregate Shares q Shares k = if_zeros (is_key q k)
zero_in_aggregate ShareLines q ShareLines k = if_zeros (is_key q k)
zero_in_aggregate Uses q Uses k = if_zeros (is_key q k)
zero_in_aggregate kind q other k = refl

nothing_in_aggregate : (kind : Kind) (q : LedgerKey) (n : ℤ) → n ≡ pos 0 → (other : Kind) (k : LedgerKey)
    → in_aggregate kind q n other k ≡ pos 0
nothing_in_aggregate kind q n none other k =
    ap (λ x. in_aggregate kind q x other k) none ∙ zero_in_aggregate kind q other k

back : (t : Bool) (n : ℤ) → (if t then neg_ℤ n else pos 0) ≡ neg_ℤ (if t then n else pos 0)
back true n = refl
back false n = refl

pub neg_in_aggregate : (kind : Kind) (q : LedgerKey) (n : ℤ) (other : Kind) (k : LedgerKey)
    → in_aggregate kind q (neg_ℤ n) other k ≡ neg_ℤ (in_aggregate kind q n other k)
neg_in_aggregate Subentries q n Subentries k = back (is_key q k) n
neg_in_aggregate Sponsoring q n Sponsoring k = back (is_key q k) n
neg_in_aggregate Sponsored q n Sponsored k = back (is_key q k) n
neg_in_aggregate Selling q n Selling k = back (is_key q k) n
neg_in_aggregate Buying q n Buying k = back (is_key q k) n
neg_in_aggregate Shares q n Shares k = back (is_key q k) n
neg_in_aggregate ShareLines q n ShareLines k = back (is_key q k) n
neg_in_aggregate Uses q n Uses k = back (is_key q k) n
neg_in_aggregate kind q n other k = refl

-- ---- a count that is set

no_difference : (n m : ℕ) → n ≡ m → (pos m -ℤ pos n) ≡ pos 0
no_difference n m same = omega (arith, ints)

count_moves : (which : Count) (n : ℕ) (a : AccountEntry)
    → IsMove (in_aggregate (aggregate_of which) (key.Account a.account_id) (pos (count_in which a) -ℤ pos n)) a
    (with_count which n a)
unfolding with_count
count_moves which n a = elim (nat_eq n (count_in which a)) as (λ b. nat_eq n (count_in which a) ≡ b
    → IsMove (in_aggregate (aggregate_of which) (key.Account a.account_id) (pos (count_in which a) -ℤ pos n)) a
    (if b then a else with_new_count which n a)) [
      | true ↦ λ same. record {
        id = refl;
        aggregates = λ v kind k e. sym (ap (λ x. weight v kind k (with_body e a) +ℤ x)
            (nothing_in_aggregate (aggregate_of which) (key.Account a.account_id) _
            (no_difference n (count_in which a) (eqb-true _ _ same)) kind k) ∙ add_zero _);
      }
      | false ↦ λ h. record { id = with_new_count_named which n a; aggregates = new_count_moves n a which }
    ] refl

count_keeps : (id_pool : ℕ) (which : Count) (n : ℕ) (a : AccountEntry) → MayBe which n a
    → KeepsRange (IsEntryLegal id_pool) a (with_count which n a)
unfolding with_count
count_keeps id_pool which n a may = elim (nat_eq n (count_in which a)) as
    (λ b. KeepsRange (IsEntryLegal id_pool) a (if b then a else with_new_count which n a)) [
      | true ↦ λ e was. was
      | false ↦ new_count_keeps id_pool n a which may
    ]

-- its aggregate owes what the count fell by
count_step : (id_pool : ℕ) (which : Count) (n : ℕ) (a : AccountEntry) → MayBe which n a
    → IsStep (IsEntryLegal id_pool)
    (in_aggregate (aggregate_of which) (key.Account a.account_id) (pos (count_in which a)
    -ℤ pos n)) a (with_count which n a)
count_step id_pool which n a may = record {
  move = count_moves which n a;
  balance = (with_count_core which n a).balance;
  keeps = count_keeps id_pool which n a may;
}

module _ (id_pool : ℕ) (which : Count) (n : ℕ) (a : AccountEntry) (id : AccountId) (same : a.account_id ≡ id) where
  pub more_step : MayBe which (count_in which a + n) a
      → IsStep (IsEntryLegal id_pool) (in_aggregate (aggregate_of which) (key.Account id) (neg_ℤ (pos n))) a
      (with_more which n a)
  more_step may = step_as (IsEntryLegal id_pool) _ _ a (with_more which n a)
      (count_step id_pool which (count_in which a + n) a may)
      (λ kind k i. in_aggregate (aggregate_of which) (key.Account (same i)) (risen (count_in which a) n i) kind k)
    where
      risen : (c n : ℕ) → (pos c -ℤ pos (c + n)) ≡ neg_ℤ (pos n)
      risen c n = omega (arith, ints)

  pub less_step : n ≤ count_in which a → MayBe which (count_in which a - n) a
      → IsStep (IsEntryLegal id_pool) (in_aggregate (aggregate_of which) (key.Account id) (pos n)) a
      (with_less which n a)
  less_step le may = step_as (IsEntryLegal id_pool) _ _ a (with_less which n a)
      (count_step id_pool which (count_in which a - n) a may)
      (λ kind k i. in_aggregate (aggregate_of which) (key.Account (same i)) (fallen (count_in which a) n le i) kind k)
    where
      fallen : (c n : ℕ) → n ≤ c → (pos c -ℤ pos (c - n)) ≡ pos n
      fallen c n le = omega (arith, ints)
