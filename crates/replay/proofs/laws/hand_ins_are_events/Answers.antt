use Rattle.replay.proofs.LedgerMoves as moves
use Rattle.replay.proofs.laws.hand_ins_are_events.Goals as goal

pub returns : goal.returns
returns c = moves.hand_ins_are_events
