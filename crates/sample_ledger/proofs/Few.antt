-- A transaction has at most eight operations.
use Rattle.sample_ledger.proofs.Prelude.{ℕ, ◌≤◌, List, length, arith, ◌==◌, ◌||◌, Operation, issuer_operations}
use Rattle.sample_ledger.proofs.Prelude.{operations_of, if_either}

abbrev AreFew : List Operation → Type 0
AreFew os = length os ≤ 8

few_issued : (seed k : ℕ) → AreFew (issuer_operations seed k)
unfolding issuer_operations
few_issued seed k =
    if_either AreFew (k == 1) _ _ (omega arith)
    (if_either AreFew (k == 2) _ _ (omega arith)
    (if_either AreFew ((k == 3) || (k == 4)) _ _ (omega arith)
    (if_either AreFew (k == 5) _ _ (omega arith) (omega arith))))

pub few_operations : (seed k account : ℕ) → AreFew (operations_of seed k account)
unfolding operations_of
few_operations seed k account = if_either AreFew (account == 0) _ _ (few_issued seed k) (omega arith)
