use Rattle.worker_merges.proofs.Gathering.{left_of}
use Rattle.worker_merges.proofs.slots.end_of.Goals as goal

pub returns : goal.returns
returns c room ended = left_of room c.args.slot c.in-Some.end c.in-Some.is ended
