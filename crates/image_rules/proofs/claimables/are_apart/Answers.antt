use Rattle.image_rules.proofs.Prelude.{◌≢◌, refl, subst, arith, take_all, AllPairs}
use Rattle.ledger_types.specs.declared.claimable_balance.Claimant.{Claimant}
use Rattle.image_rules.proofs.Apart.{pairs_more, pairs_at}
use Rattle.image_rules.proofs.claimables.are_apart.Goals as goal

abbrev AreApart : Claimant → Claimant → Type 0
AreApart x y = x.destination ≢ y.destination

pub returns-then-not-is_new : goal.returns-then-not-is_new
returns-then-not-is_new c = (
  λ no. absurd (cc),
  λ apart.
      let new = c.is_new.ensures.1 (pairs_at AreApart c.args.claimants.now c.loop-index.index
      c.index-claimants-index.result c.loop-index-test.true apart) in cc,
)

pub loop-index-preserved : goal.loop-index-preserved
loop-index-preserved c =
    pairs_more AreApart c.args.claimants.now c.loop-index.index c.index-claimants-index.result c.loop-index-test.true
    c.loop-index.invariant (c.is_new.ensures.0 c.if-not-is_new.false)

pub returns : goal.returns
returns c = (
  λ _. subst (AllPairs AreApart) (take_all c.loop-index.index c.args.claimants.now (omega arith))
      c.loop-index.invariant,
  λ _. refl,
)
