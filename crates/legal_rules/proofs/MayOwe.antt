-- What aggregates may owe where one subentry is counted that doesn't exist.
use Rattle.legal_rules.proofs.Prelude.{ℕ, ◌≤◌, Bool, true, false, Option, Some, None, arith, ints, pos, neg_ℤ, ◌≤ℤ◌}
use Rattle.legal_rules.proofs.Prelude.{if◌then◌else◌, AccountId, LedgerKey, is_there, is_key, for_account}
use Rattle.legal_rules.proofs.Prelude.{IsOwedRightly, OneMoreIsRight, nothing_owed}
use Rattle.hash_ids.specs.ledger_types.declared.key.LedgerKey.TheVariants as key

not_above : (t : Bool) (n : ℕ) → neg_ℤ (if t then pos n else pos 0) ≤ℤ pos 0
not_above true n = omega (arith, ints)
not_above false n = omega (arith, ints)

for_nobody : (k : LedgerKey) (o : Option AccountId) (n : ℕ) → neg_ℤ (for_account k o n) ≤ℤ pos 0
for_nobody k None n = omega (arith, ints)
for_nobody k (Some id) n = not_above (is_key (key.Account id) k) n

fewer : (t : Bool) (few many : ℕ) → few ≤ many
    → neg_ℤ (if t then pos many else pos 0) ≤ℤ neg_ℤ (if t then pos few else pos 0)
fewer true few many le = omega (arith, ints)
fewer false few many le = omega (arith, ints)

at_most_one : (b : Bool) → (if b then 1 else 0) ≤ 1
at_most_one true = omega arith
at_most_one false = omega arith

pub one_more_is_right : OneMoreIsRight
one_more_is_right id sponsor = record {
  reserves = record {
    subentries = λ k. for_nobody k (Some id) 1;
    sponsored = λ k. for_nobody k (Some id) (if is_there sponsor then 1 else 0);
    sponsoring = λ k. for_nobody k sponsor 1;
  };
  trades = record { selling = λ k. omega (arith, ints); buying = λ k. omega (arith, ints) };
  covered = λ k. fewer (is_key (key.Account id) k) (if is_there sponsor then 1 else 0) 1
      (at_most_one (is_there sponsor));
}

pub nothing_right : IsOwedRightly nothing_owed
nothing_right = record {
  reserves = record {
    subentries = λ k. omega (arith, ints);
    sponsored = λ k. omega (arith, ints);
    sponsoring = λ k. omega (arith, ints);
  };
  trades = record { selling = λ k. omega (arith, ints); buying = λ k. omega (arith, ints) };
  covered = λ k. omega (arith, ints);
}
