use Rattle.op_offers.proofs.Prelude.{sym, subst, ◌≤◌, unlimited, most_given, IsInRangeAt, asked_in}
use Rattle.op_offers.proofs.Ready.{gives_range, given_within}
use Rattle.op_offers.proofs.source.source_gives.Goals as goal

pub most_given-requires-clause-range : goal.most_given-requires-clause-range
most_given-requires-clause-range g c =
    subst (IsInRangeAt c.args.entries.now.current) (sym c.gives_at.ensures)
    (gives_range (asked_in c.args.asked.now) c.args.entries.now.current c.requires)

pub most_given-requires-clause-fits : goal.most_given-requires-clause-fits
most_given-requires-clause-fits g c =
    subst (λ k. most_given c.args.base_reserve c.args.entries.now.current k ≤ unlimited) (sym c.gives_at.ensures)
    (given_within (asked_in c.args.asked.now) c.args.entries.now.current c.requires c.args.base_reserve)
