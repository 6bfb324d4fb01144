use Rattle.replay.proofs.Prelude.{◌≡◌, ◌-◌, ◌≤◌, length, take, blocks, AreClosedIn}
use Rattle.replay.proofs.again.close_again.Given as goal

abbrev pub invariant-loop-i : goal.invariant-loop-i
invariant-loop-i g l = record {
  le : l.i ≤ length l.closes;
  closed : AreClosedIn l.format l.initial.ledger.state (take l.i l.closes) l.ledger.state;
  at : l.at ≡ length (blocks (take l.i l.closes));
}

abbrev pub decreases-loop-i : goal.decreases-loop-i
decreases-loop-i g l = length l.closes - l.i
