use Rattle.op_offers.proofs.Prelude.{sym, subst, ◌≤◌, unlimited, most_taken, IsInRangeAt, asked_in}
use Rattle.op_offers.proofs.Ready.{takes_range, taken_within}
use Rattle.op_offers.proofs.source.source_takes.Goals as goal

pub most_taken-requires-clause-range : goal.most_taken-requires-clause-range
most_taken-requires-clause-range g c =
    subst (IsInRangeAt c.args.entries.now.current) (sym c.takes_at.ensures)
    (takes_range (asked_in c.args.asked.now) c.args.entries.now.current c.requires)

pub most_taken-requires-clause-fits : goal.most_taken-requires-clause-fits
most_taken-requires-clause-fits g c =
    subst (λ k. most_taken c.args.entries.now.current k ≤ unlimited) (sym c.takes_at.ensures)
    (taken_within (asked_in c.args.asked.now) c.args.entries.now.current c.requires)
