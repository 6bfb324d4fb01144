use Rattle.fee_rules.proofs.Prelude.{◌≡◌, ◌≤◌, ◌<◌, ◌^◌, drop, length}
use Rattle.std.specs.Option.{ForSome}
use Rattle.fee_rules.specs.Fees as spec
use Rattle.fee_rules.proofs.fees.least_bid.Given as goal

-- the least bid of the transactions from here on
abbrev pub invariant-loop-i : goal.invariant-loop-i
invariant-loop-i l =
    (l.least ≡ spec.least_bid (drop l.i l.set)) × ForSome l.least (λ bid. bid < 2 ^ 63) × (l.i ≤ length l.set)

abbrev pub decreases-loop-i : goal.decreases-loop-i
decreases-loop-i l = l.i
