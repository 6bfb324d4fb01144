use Rattle.image_rules.specs.declared.aggregates.Aggregate.TheVariants as aggregate
use Rattle.image_rules.proofs.liabilities.are_liable.Goals as goal

pub returns : goal.returns
returns c m agreed = (
  λ said.
      let parts = c.both.ensures.0 said in
      record {
        selling = (agreed.each aggregate.Selling).0 parts.0;
        buying = (agreed.each aggregate.Buying).0 parts.1;
      },
  λ kept. c.both.ensures.1
      ((agreed.each aggregate.Selling).1 kept.selling, (agreed.each aggregate.Buying).1 kept.buying),
)
