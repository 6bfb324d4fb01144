use Rattle.sample_ledger.proofs.Prelude.{◌≡◌, map, take, signature}
use Rattle.sample_ledger.proofs.envelope.signatures.Given as goal

abbrev pub invariant-loop-signer : goal.invariant-loop-signer
invariant-loop-signer l = l.signatures ≡ map (signature l.accounts) (take l.signer-index l.signers)
