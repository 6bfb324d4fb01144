use Rattle.image_rules.proofs.Prelude.{subst, All, refl, arith, take_all, All-more, IsSignerInRange}
use Rattle.image_rules.proofs.signers.is_each_in_range.Goals as goal

pub loop-signer-preserved : goal.loop-signer-preserved
loop-signer-preserved c =
    All-more (λ s. IsSignerInRange c.args.account_id.now s) c.args.signers.now c.loop-signer.signer-index
    c.signer-item.result (omega arith) c.loop-signer.invariant
    (subst (IsSignerInRange c.args.account_id.now) c.signer-item.is
    (c.is_signer_in_range.ensures.0 c.if-not-is_signer_in_range.false))

pub returns : goal.returns
returns c = (
  λ _. subst (All (λ s. IsSignerInRange c.args.account_id.now s))
      (take_all c.loop-signer.signer-index c.args.signers.now (omega arith)) c.loop-signer.invariant,
  λ _. refl,
)
