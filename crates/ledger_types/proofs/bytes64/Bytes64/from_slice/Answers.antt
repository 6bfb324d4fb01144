use Rattle.std.proofs.Common.{w8, arith}
use Rattle.std.proofs.Math.Facts.{Fits-lt-pow}
use Rattle.ledger_types.proofs.Padded.{written_over_zeros}
use Rattle.ledger_types.proofs.bytes64.Bytes64.from_slice.Goals as goal

pub invariant_of-result : goal.invariant_of-result
invariant_of-result c =
    rw c.copy_from_slice.ensures.after
    (written_over_zeros c.args.slice.now (omega arith) (λ i. Fits-lt-pow {w = w8} (c.type_inv.slice i)))
