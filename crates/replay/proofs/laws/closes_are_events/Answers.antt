use Rattle.replay.proofs.LedgerMoves as moves
use Rattle.replay.proofs.laws.closes_are_events.Goals as goal

pub returns : goal.returns
returns c = moves.closes_are_events
