-- Accounts that stay in range with other counts and signers.
use Rattle.legal_rules.proofs.Prelude.{◌≡◌, ◌≢◌, refl, sym, ap, subst, ◌∙◌, ℕ, ◌+◌, ◌-◌, ◌≤◌, Some, None, arith, pos}
use Rattle.legal_rules.proofs.Prelude.{◌+ℤ◌, ◌≤ℤ◌, Liabilities, AccountEntry, is_valid_text, second_in}
use Rattle.legal_rules.proofs.Prelude.{account_liabilities, num_sponsoring, sponsor_of, greatest_i64, IsInRange, Count}
use Rattle.legal_rules.proofs.Prelude.{count_in, with_new_count, signer_sponsors, AreAccountFlags, AreSignersInRange}
use Rattle.legal_rules.proofs.Prelude.{IsAccountInRange, IsEntryLegal, same_sponsoring}
use Rattle.sponsor_laws.specs.sponsor_rules.declared.count.Count.TheVariants as count
use Rattle.legal_rules.proofs.Steps.{KeepsRange}

-- ---- accounts that are alike in all but counts and signers

pub record AreAlike (a b : AccountEntry) : Type 0 where
  pub id : b.account_id ≡ a.account_id
  pub balance : b.balance ≡ a.balance
  pub liabilities : account_liabilities b ≡ account_liabilities a
  pub seq_num : b.seq_num ≡ a.seq_num
  pub flags : b.flags ≡ a.flags
  pub home_domain : b.home_domain ≡ a.home_domain

in_range_as : (a b : AccountEntry) → AreAlike a b → IsInRange a → IsInRange b
in_range_as a b same range = record {
  balance = subst (λ n. pos 0 ≤ℤ n) (sym same.balance) range.balance;
  buying = subst (λ (l : Liabilities). pos 0 ≤ℤ l.buying) (sym same.liabilities) range.buying;
  selling = subst (λ (l : Liabilities). pos 0 ≤ℤ l.selling) (sym same.liabilities) range.selling;
  fits = subst (λ n. n ≤ℤ greatest_i64) (λ i. sym same.balance i +ℤ (sym same.liabilities i).buying) range.fits;
}

abbrev SignersOf : AccountEntry → Type 0
SignersOf a = AreSignersInRange a.account_id a.signers (signer_sponsors a)

account_as : (a b : AccountEntry) → AreAlike a b → SignersOf b → IsAccountInRange a → IsAccountInRange b
account_as a b same signers r = record {
  range = in_range_as a b same r.range;
  seq_num = subst (λ n. pos 0 ≤ℤ n) (sym same.seq_num) r.seq_num;
  greatest_seq_num = subst (λ n. n ≤ℤ greatest_i64) (sym same.seq_num) r.greatest_seq_num;
  flags = subst AreAccountFlags (sym same.flags) r.flags;
  home_domain = ap is_valid_text same.home_domain ∙ r.home_domain;
  signers = signers;
}

abbrev Fit : AccountEntry → Type 0
Fit a = a.num_sub_entries + num_sponsoring a ≤ 4294967295

pub keeps_as : (id_pool : ℕ) (a b : AccountEntry) → AreAlike a b → (SignersOf a → SignersOf b)
    → (a.num_sub_entries ≤ 1000 → b.num_sub_entries ≤ 1000) → (Fit a → Fit b) → KeepsRange (IsEntryLegal id_pool) a b
keeps_as id_pool a b same signers few fits e was = record {
  range = record {
    body = account_as a b same (signers was.range.body.signers) was.range.body;
    paid = subst (λ x. sponsor_of e ≢ None → sponsor_of e ≢ Some x) (sym same.id) was.range.paid;
  };
  bound = tt;
  few = few was.few;
  fits = fits was.fits;
  filled = tt;
}

-- ---- counts

-- what a count may be
abbrev pub MayBe : Count → ℕ → AccountEntry → Type 0
MayBe count.SubEntries n a = (n ≤ 1000) × (n + num_sponsoring a ≤ 4294967295)
MayBe count.Sponsoring n a = a.num_sub_entries + n ≤ 4294967295
MayBe count.Sponsored n a = Unit {0}

alike : (which : Count) (n : ℕ) (a : AccountEntry) → AreAlike a (with_new_count which n a)
alike count.SubEntries n a = record {
  id = refl;
  balance = refl;
  liabilities = refl;
  seq_num = refl;
  flags = refl;
  home_domain = refl;
}
alike count.Sponsoring n a = record {
  id = refl;
  balance = refl;
  liabilities = refl;
  seq_num = refl;
  flags = refl;
  home_domain = refl;
}
alike count.Sponsored n a = record {
  id = refl;
  balance = refl;
  liabilities = refl;
  seq_num = refl;
  flags = refl;
  home_domain = refl;
}

pub new_count_keeps : (id_pool n : ℕ) (a : AccountEntry) (which : Count) → MayBe which n a
    → KeepsRange (IsEntryLegal id_pool) a (with_new_count which n a)
new_count_keeps id_pool n a count.SubEntries may = keeps_as id_pool a (with_new_count count.SubEntries n a)
    (alike count.SubEntries n a) (λ s. s) (λ few. may.0) (λ fits. may.1)
new_count_keeps id_pool n a count.Sponsoring may = keeps_as id_pool a (with_new_count count.Sponsoring n a)
    (alike count.Sponsoring n a) (λ s. s) (λ few. few) (λ fits. may)
new_count_keeps id_pool n a count.Sponsored may = keeps_as id_pool a (with_new_count count.Sponsored n a)
    (alike count.Sponsored n a) (λ s. s) (λ few. few)
    (λ fits. subst (λ s. a.num_sub_entries + s ≤ 4294967295) (sym (same_sponsoring a.signers (second_in a.ext))) fits)

pub may_fall : (which : Count) (n : ℕ) (a : AccountEntry) → a.num_sub_entries ≤ 1000 → Fit a
    → MayBe which (count_in which a - n) a
may_fall count.SubEntries n a few fits = (omega arith, omega arith)
may_fall count.Sponsoring n a few fits = omega arith
may_fall count.Sponsored n a few fits = tt
