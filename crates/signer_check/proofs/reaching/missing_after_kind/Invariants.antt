use Rattle.signer_check.proofs.Prelude.{counted_by_signatures, missing_after, until_reached, used_for, left_of}
use Rattle.signer_check.proofs.Turns.{Holds}
use Rattle.signer_check.proofs.reaching.missing_after_kind.Given as goal

abbrev pub invariant-loop-signature : goal.invariant-loop-signature
invariant-loop-signature l =
    let all = counted_by_signatures l.kind 0 l.fn.signatures l.signers in
    Holds l.kind (missing_after l.needed all) (used_for (until_reached l.needed 0 all) l.fn.signatures) l.missing
    l.signature-items l.signature-index (left_of l.counted l.signers)
