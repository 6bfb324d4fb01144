use Rattle.image_rules.proofs.survey.keeps_ranges.Goals as goal

pub returns : goal.returns
returns c m authorized = (
  λ said.
      let parts = c.both.ensures.0 said in
      let alone = c.in_ok-alone.ensures.0 parts.0 in
      record { range = alone.range; dated = alone.dated; authorized = authorized.0 parts.1 },
  λ kept. c.both.ensures.1 (
    c.in_ok-alone.ensures.1 (record { range = kept.range; dated = kept.dated }),
    authorized.1 kept.authorized,
  ),
)
