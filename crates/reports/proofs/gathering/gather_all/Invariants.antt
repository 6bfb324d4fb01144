use Rattle.reports.proofs.Prelude.{◌-◌, Reached, seen}
use Rattle.reports.proofs.gathering.gather_all.Given as goal

abbrev pub invariant-loop-stop : goal.invariant-loop-stop
invariant-loop-stop g l =
    Reached g.G.Gather.kind (g.G.Gather.gathers l.gathered)
    (record { state = l.initial.ledger.state; at = l.initial.at; ahead = l.initial.ahead.items })
    (record { state = l.ledger.state; at = l.at; ahead = l.ahead.items })
    (seen g.I.Source.left g.I.Source.faults l.initial.input l.input)

abbrev pub decreases-loop-stop : goal.decreases-loop-stop
decreases-loop-stop g l = 2147483648 - l.ledger.state.header.ledger_seq
