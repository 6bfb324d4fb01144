use Rattle.image_rules.proofs.Prelude.{arith, rules, agrees_in, tally_in}
use Rattle.image_rules.proofs.Aggregated.{IsRightKeyed}
use Rattle.image_rules.proofs.Agreeing.{agreed_next, agreed_all}
use Rattle.image_rules.proofs.Surveying.{tested_none}
use Rattle.image_rules.proofs.agreement.agreement_of.Goals as goal

pub loop-index-init : goal.loop-index-init
loop-index-init c = λ which. tested_none (IsRightKeyed which c.args.entries.now) c.args.entries.now
    (agrees_in c.whole_agreement-agreement.result which) (c.whole_agreement-agreement.ensures which)

pub loop-index-preserved : goal.loop-index-preserved
loop-index-preserved c = λ which.
    agreed_next which c.args.entries.now (tally_in c.args.tallies.now which) c.loop-index.index
    (agrees_in c.loop-index.agreement which) (agrees_in c.in_ok-agreement.agreement which) (c.requires.counted which)
    c.len-index-end.ensures.keyed (search rules) (c.in_ok-agreement.ensures which) (c.loop-index.invariant which)

pub returns : goal.returns
returns c = record {
  each = λ which. agreed_all which c.args.entries.now c.loop-index.index (agrees_in c.loop-index.agreement which)
      (omega arith) c.requires.owned c.len-index-end.ensures.keyed (c.loop-index.invariant which);
}
