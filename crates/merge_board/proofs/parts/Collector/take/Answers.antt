use Rattle.merge_board.proofs.Prelude.{rules}
use Rattle.merge_board.proofs.OutSteps.{collects, accounts}
use Rattle.merge_board.proofs.parts.Collector.take.Goals as goal

pub pop-requires-clause-rule : goal.pop-requires-clause-rule
pop-requires-clause-rule g c = collects _ _ (search rules)

pub pop-requires-clause-lesson : goal.pop-requires-clause-lesson
pop-requires-clause-lesson g c = accounts _ _ (search rules)
