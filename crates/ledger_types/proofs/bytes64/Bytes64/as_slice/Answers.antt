use Rattle.ledger_types.proofs.Padded.{prefix_is_bytes}
use Rattle.ledger_types.proofs.bytes64.Bytes64.as_slice.Goals as goal

pub returns-clause-bytes : goal.returns-clause-bytes
returns-clause-bytes c =
    rw (← c.self.view_is) (prefix_is_bytes c.self.inside.len c.self.inside.bytes c.self.invariant.bytes)
