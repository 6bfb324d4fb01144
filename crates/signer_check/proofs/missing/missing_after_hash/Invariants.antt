use Rattle.signer_check.proofs.Prelude.{◌≡◌, drop, counted_by_hash, missing_after}
use Rattle.signer_check.proofs.missing.missing_after_hash.Given as goal

abbrev pub invariant-loop-signer : goal.invariant-loop-signer
invariant-loop-signer l =
    missing_after l.missing (counted_by_hash l.hash (drop l.signer-index l.signers))
    ≡ missing_after l.needed (counted_by_hash l.hash l.signers)
