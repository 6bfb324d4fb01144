use Rattle.image_rules.proofs.Prelude.{subst, All, refl, arith, take_all, All-more}
use Rattle.close_rules.specs.legal_rules.Dated.{IsKeyDated}
use Rattle.ledger_types.specs.declared.signer.Signer.{Signer}
use Rattle.image_rules.proofs.dated.are_signers_dated.Goals as goal

pub loop-signer-preserved : goal.loop-signer-preserved
loop-signer-preserved c =
    All-more (λ (s : Signer). IsKeyDated c.args.version s.key) c.args.signers.now c.loop-signer.signer-index
    c.signer-item.result (omega arith) c.loop-signer.invariant
    (subst (λ (s : Signer). IsKeyDated c.args.version s.key) c.signer-item.is
    (c.is_key_dated.ensures.0 c.if-not-is_key_dated.false))

pub returns : goal.returns
returns c = (
  λ _. subst (All (λ (s : Signer). IsKeyDated c.args.version s.key))
      (take_all c.loop-signer.signer-index c.args.signers.now (omega arith)) c.loop-signer.invariant,
  λ _. refl,
)
