use Rattle.worker_merges.proofs.Handing.{handed}
use Rattle.worker_merges.proofs.adopting.hand_in.Goals as goal

pub returns-clause-handed_in : goal.returns-clause-handed_in
returns-clause-handed_in c =
    let it = c.hand_in-refused in
    handed it.result c.args.out _ _ it.ensures.taken it.ensures.state it.ensures.kept it.ensures.refused
