-- Whoever pays for an entry exists, and so does its owner, and both count what is paid.
use Rattle.legal_rules.proofs.Prelude.{◌≡◌, sym, subst, ℕ, ◌+◌, ◌≤◌, Bool, true, false, Some, arith, ints, ℤ, pos, ◌+ℤ◌}
use Rattle.legal_rules.proofs.Prelude.{◌≤ℤ◌, if◌then◌else◌, count_by, get, AccountId, AccountEntry, LedgerEntry}
use Rattle.legal_rules.proofs.Prelude.{LedgerKey, EntryMap, same_itself, account_at, num_sponsored, sponsor_of}
use Rattle.legal_rules.proofs.Prelude.{multiplicity, owner_of, is_there, is_key, for_account, signer_sponsors_in}
use Rattle.legal_rules.proofs.Prelude.{for_each, Sponsoring, Sponsored, View, counted, Owed, nothing_owed, IsLegalOwing}
use Rattle.legal_rules.proofs.Prelude.{AreReservesSettled, natural_nonnegative}
use Rattle.hash_ids.specs.ledger_types.declared.key.LedgerKey.TheVariants as key
use Rattle.sponsor_laws.specs.sponsor_rules.declared.count.Count.TheVariants as count
use Rattle.legal_rules.proofs.Existing.{ExistsWith, counted_exists}

pub nothing_settled : AreReservesSettled nothing_owed
nothing_settled = record {
  subentries = λ k. omega (arith, ints);
  sponsored = λ k. omega (arith, ints);
  sponsoring = λ k. omega (arith, ints);
}

-- ---- what an entry counts

at_itself : (t : Bool) (n more : ℕ) → t ≡ true → pos n ≤ℤ (if t then pos (n + more) else pos 0)
at_itself true n more is = omega (arith, ints)
at_itself false n more is = absurd (cc)

itself : (t : Bool) (n : ℕ) (more : ℤ) → t ≡ true → pos 0 ≤ℤ more → pos n ≤ℤ ((if t then pos n else pos 0) +ℤ more)
itself true n more is low = omega (arith, ints)
itself false n more is low = absurd (cc)

module _ (v : View) (e : LedgerEntry) (x : AccountId) (is : sponsor_of e ≡ Some x) where
  pub counts_sponsored : (owner : AccountId) → owner_of e.body ≡ Some owner
      → pos (multiplicity e.body) ≤ℤ counted v Sponsored (key.Account owner) e
  counts_sponsored owner own = subst (λ n. pos (multiplicity e.body) ≤ℤ n)
      (λ i. for_account (key.Account owner) (sym own i) ((if is_there (sym is i) then multiplicity e.body else 0)
      + count_by is_there (signer_sponsors_in e.body)))
      (at_itself (is_key (key.Account owner) (key.Account owner)) (multiplicity e.body)
      (count_by is_there (signer_sponsors_in e.body)) (same_itself (key.Account owner)))

  pub counts_sponsoring : pos (multiplicity e.body) ≤ℤ counted v Sponsoring (key.Account x) e
  counts_sponsoring = subst (λ n. pos (multiplicity e.body) ≤ℤ n)
      (λ i. for_account (key.Account x) (sym is i) (multiplicity e.body)
      +ℤ for_each (key.Account x) (signer_sponsors_in e.body))
      (itself (is_key (key.Account x) (key.Account x)) (multiplicity e.body)
      (for_each (key.Account x) (signer_sponsors_in e.body)) (same_itself (key.Account x)) (natural_nonnegative _))

-- ---- who exists

module _ (v : View) (id_pool : ℕ) (owed : Owed) (sum : ℤ) (m : EntryMap) (legal : IsLegalOwing v id_pool owed sum m)
    (settled : AreReservesSettled owed) (k : LedgerKey) (e : LedgerEntry) (there : get m k ≡ Some e) (n : ℕ)
    (times : multiplicity e.body ≡ n) (some : 1 ≤ n) where
  pub payer_has : (x : AccountId) → sponsor_of e ≡ Some x → ExistsWith count.Sponsoring n m x
  payer_has x is = counted_exists v id_pool owed sum m legal count.Sponsoring x n k e
      (settled.sponsoring (key.Account x))
      there (subst (λ i. pos i ≤ℤ counted v Sponsoring (key.Account x) e) times (counts_sponsoring v e x is)) some

  -- an owner that exists states what others pay of it
  pub owner_has : (owner : AccountId) (a : AccountEntry) → owner_of e.body ≡ Some owner → account_at m owner ≡ Some a
      → (x : AccountId) → sponsor_of e ≡ Some x → n ≤ num_sponsored a
  owner_has owner a own exists x is =
      let s = counted_exists v id_pool owed sum m legal count.Sponsored owner n k e
      (settled.sponsored (key.Account owner)) there
      (subst (λ i. pos i ≤ℤ counted v Sponsored (key.Account owner) e) times (counts_sponsored v e x is owner own))
      some in
      let also = s.exists in
      let same : s.account ≡ a = cc in
      subst (λ b. n ≤ num_sponsored b) same s.enough
