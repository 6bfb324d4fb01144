use Rattle.image_rules.specs.declared.aggregates.Aggregate.TheVariants as aggregate
use Rattle.image_rules.proofs.subentries.are_subentries_counted.Goals as goal

pub returns : goal.returns
returns c m few agreed = (
  λ said.
      let parts = c.both.ensures.0 said in
      record { aggregated = (agreed.each aggregate.Subentries).0 parts.1; few = few.0 parts.0 },
  λ kept. c.both.ensures.1 (few.1 kept.few, (agreed.each aggregate.Subentries).1 kept.aggregated),
)
