use Rattle.std.proofs.Common.{inl, inr}
use Rattle.image_rules.proofs.Ids.{joined, parted, named}
use Rattle.image_rules.proofs.survey.is_alone_in_range.Goals as goal

pub returns-then-dated : goal.returns-then-dated
returns-then-dated c =
    let id_pool = c.args.header.now.id_pool in
    let e = c.args.entry.now in (
      λ said. record {
        range = joined id_pool e (c.is_entry_in_range-range.ensures.0 c.if-dated.true.0) (c.in_ok-named.ensures.0 said);
        dated = c.is_body_dated-dated.ensures.0 c.if-dated.true.1;
      },
      λ alone. c.in_ok-named.ensures.1 (named id_pool e alone.range),
    )

pub returns-else-dated : goal.returns-else-dated
returns-else-dated c = (
  λ no. absurd (cc),
  λ alone.
      let range = c.is_entry_in_range-range.ensures.1 (parted c.args.header.now.id_pool c.args.entry.now alone.range) in
      let dated = c.is_body_dated-dated.ensures.1 alone.dated in
      elim c.if-dated.either [ inl first ↦ cc | inr both ↦ cc ],
)
