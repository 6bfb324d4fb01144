use Rattle.replay.proofs.Agreeing.{catchups_agree}
use Rattle.replay.proofs.laws.catchups_agree.Goals as goal

pub returns : goal.returns
returns c = catchups_agree
