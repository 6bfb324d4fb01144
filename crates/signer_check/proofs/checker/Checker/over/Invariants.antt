use Rattle.signer_check.proofs.Prelude.{◌≡◌, map, take, held}
use Rattle.signer_check.proofs.checker.Checker.over.Given as goal

abbrev pub invariant-loop-signature : goal.invariant-loop-signature
invariant-loop-signature l = l.all ≡ map (held l.hash l.vouches) (take l.signature-index l.signatures)
