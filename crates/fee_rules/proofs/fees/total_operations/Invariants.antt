use Rattle.fee_rules.proofs.Prelude.{◌≡◌, ◌≤◌, ◌*◌, ◌^◌, take, sum_by}
use Rattle.fee_rules.specs.Envelopes.{operation_count}
use Rattle.fee_rules.proofs.fees.total_operations.Given as goal

abbrev pub invariant-loop-envelope : goal.invariant-loop-envelope
invariant-loop-envelope l =
    (l.total ≡ sum_by operation_count (take l.envelope-index l.set)) × (l.total ≤ l.envelope-index * 2 ^ 64)
