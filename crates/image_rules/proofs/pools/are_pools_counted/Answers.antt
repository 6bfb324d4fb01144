use Rattle.image_rules.specs.declared.aggregates.Aggregate.TheVariants as aggregate
use Rattle.image_rules.proofs.pools.are_pools_counted.Goals as goal

pub returns : goal.returns
returns c m filled agreed = (
  λ said.
      let parts = c.both.ensures.0 said in
      let counted = c.both-counted.ensures.0 parts.1 in
      let shares = c.both-shares.ensures.0 counted.0 in
      record {
        shares = (agreed.each aggregate.Shares).0 shares.0;
        share_lines = (agreed.each aggregate.ShareLines).0 shares.1;
        uses = (agreed.each aggregate.Uses).0 counted.1;
        filled = filled.0 parts.0;
      },
  λ kept. c.both.ensures.1 (
    filled.1 kept.filled,
    c.both-counted.ensures.1 (
      c.both-shares.ensures.1
          ((agreed.each aggregate.Shares).1 kept.shares, (agreed.each aggregate.ShareLines).1 kept.share_lines),
      (agreed.each aggregate.Uses).1 kept.uses,
    ),
  ),
)
