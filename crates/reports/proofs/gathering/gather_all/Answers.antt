use Rattle.reports.proofs.Prelude.{RunPosition, seen}
use Rattle.reports.proofs.Reaching.{goes_smaller, nothing_reached, reached_on, stopped}
use Rattle.reports.proofs.gathering.gather_all.Goals as goal

pub loop-stop-init : goal.loop-stop-init
loop-stop-init g c =
    nothing_reached g.G.Gather.kind (g.G.Gather.gathers c.args.gathered.now)
    (record { state = c.args.ledger.now.state; at = c.args.start; ahead = c.args.ahead.now.items })
    (g.I.Source.left c.args.input.now) (g.I.Source.faults c.args.input.now) c.requires.small c.requires.nothing
    c.requires.offset

pub loop-stop-smaller : goal.loop-stop-smaller
loop-stop-smaller g c = goes_smaller _ _ _ _ _ _ c.in-None.ensures.turned

pub loop-stop-preserved : goal.loop-stop-preserved
loop-stop-preserved g c =
    reached_on g.G.Gather.kind (g.G.Gather.gathers c.loop-stop.gathered) (g.G.Gather.gathers c.turn.new.gathered)
    (record { state = c.args.ledger.now.state; at = c.args.start; ahead = c.args.ahead.now.items })
    (record { state = c.loop-stop.ledger.state; at = c.loop-stop.at; ahead = c.loop-stop.ahead.items })
    (record { state = c.turn.new.ledger.state; at = c.turn.new.at; ahead = c.turn.new.ahead.items })
    (g.I.Source.left c.args.input.now) (g.I.Source.left c.loop-stop.input) (g.I.Source.left c.turn.new.input)
    (g.I.Source.faults c.args.input.now) (g.I.Source.faults c.loop-stop.input) (g.I.Source.faults c.turn.new.input)
    c.loop-stop.invariant c.in-None.ensures.turned

pub returns-in-Some : goal.returns-in-Some
returns-in-Some g c =
    stopped g.G.Gather.kind (g.G.Gather.gathers c.loop-stop.gathered) (g.G.Gather.gathers c.turn.new.gathered)
    (record { state = c.args.ledger.now.state; at = c.args.start; ahead = c.args.ahead.now.items })
    (record { state = c.loop-stop.ledger.state; at = c.loop-stop.at; ahead = c.loop-stop.ahead.items })
    c.turn.new.ledger.state
    (g.I.Source.left c.args.input.now) (g.I.Source.left c.loop-stop.input) (g.I.Source.left c.turn.new.input)
    (g.I.Source.faults c.args.input.now) (g.I.Source.faults c.loop-stop.input) (g.I.Source.faults c.turn.new.input)
    c.in-Some.stop c.loop-stop.invariant c.in-Some.ensures.turned
