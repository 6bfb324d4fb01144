use Rattle.merge_board.proofs.Prelude.{rules, arith}
use Rattle.merge_board.proofs.JobSteps.{posts, waits}
use Rattle.merge_board.proofs.parts.Board.post.Goals as goal

pub push-requires-clause-rule : goal.push-requires-clause-rule
push-requires-clause-rule g c = posts _ _ _ _ (search rules) (search rules) (omega arith)

pub push-requires-clause-lesson : goal.push-requires-clause-lesson
push-requires-clause-lesson g c = waits _ _ (search rules)
