use Rattle.merge_board.proofs.OutSteps.{collects, accounts}
use Rattle.merge_board.proofs.parts.Room.drain.Goals as goal

pub pop-requires-clause-rule : goal.pop-requires-clause-rule
pop-requires-clause-rule g c = collects _ _ c.loop.invariant.collects

pub pop-requires-clause-lesson : goal.pop-requires-clause-lesson
pop-requires-clause-lesson g c = accounts _ _ c.loop.invariant.collects
