use Rattle.merge_board.proofs.JobSteps.{takes}
use Rattle.merge_board.proofs.desk.look_for_job.Goals as goal

pub pop_after-requires-clause-rule : goal.pop_after-requires-clause-rule
pop_after-requires-clause-rule g c = takes _ _ c.requires.part

pub pop-requires-clause-rule : goal.pop-requires-clause-rule
pop-requires-clause-rule g c = takes _ _ c.requires.part
