use Rattle.gate_journal.proofs.Blocks.{encoded_by}
use Rattle.gate_journal.proofs.reading.number.Goals as goal

pub returns-clause-encoded : goal.returns-clause-encoded
returns-clause-encoded c = encoded_by c.args.head.now c.read_u32.result c.told-head c.fits-head c.read_u32.ensures
