use Rattle.image_rules.proofs.Prelude.{All, take}
use Rattle.close_rules.specs.legal_rules.Dated.{IsKeyDated}
use Rattle.ledger_types.specs.declared.signer.Signer.{Signer}
use Rattle.image_rules.proofs.dated.are_signers_dated.Given as goal

abbrev pub invariant-loop-signer : goal.invariant-loop-signer
invariant-loop-signer l = All (λ (s : Signer). IsKeyDated l.version s.key) (take l.signer-index l.signers)
