use Rattle.image_rules.specs.declared.aggregates.Aggregate.TheVariants as aggregate
use Rattle.image_rules.proofs.sponsorship.are_sponsors_counted.Goals as goal

pub returns : goal.returns
returns c m fit agreed = (
  λ said.
      let parts = c.both.ensures.0 said in
      let sponsors = c.both-sponsors.ensures.0 parts.1 in
      record {
        sponsoring = (agreed.each aggregate.Sponsoring).0 sponsors.0;
        sponsored = (agreed.each aggregate.Sponsored).0 sponsors.1;
        fits = fit.0 parts.0;
      },
  λ kept. c.both.ensures.1 (
    fit.1 kept.fits,
    c.both-sponsors.ensures.1
        ((agreed.each aggregate.Sponsoring).1 kept.sponsoring, (agreed.each aggregate.Sponsored).1 kept.sponsored),
  ),
)
