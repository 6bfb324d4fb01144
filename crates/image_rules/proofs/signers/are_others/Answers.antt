use Rattle.image_rules.proofs.Prelude.{◌≢◌, subst, All, Some, refl, arith, take_all, All-more}
use Rattle.image_rules.proofs.signers.are_others.Goals as goal

pub loop-sponsor-preserved : goal.loop-sponsor-preserved
loop-sponsor-preserved c =
    All-more (λ s. s ≢ Some c.args.account_id.now) c.args.sponsors.now c.loop-sponsor.sponsor-index _
    (omega arith) c.loop-sponsor.invariant (c.is_other.ensures.0 c.if-not-is_other.false)

pub returns : goal.returns
returns c = (
  λ _. subst (All (λ s. s ≢ Some c.args.account_id.now))
      (take_all c.loop-sponsor.sponsor-index c.args.sponsors.now (omega arith)) c.loop-sponsor.invariant,
  λ _. refl,
)
