use Rattle.tx_apply.proofs.Prelude.{◌≡◌, drop, missing_among}
use Rattle.tx_apply.proofs.set.missing_among.Given as goal

-- none of the indices so far
abbrev pub invariant-loop-index : goal.invariant-loop-index
invariant-loop-index g l =
    missing_among l.entries.current l.envelopes l.indices
    ≡ missing_among l.entries.current l.envelopes (drop l.index-index l.indices)
