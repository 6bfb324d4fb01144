use Rattle.replay.proofs.Prelude.{ℕ, ◌≡◌, subst, arith, Seen, seen, ClosingState, Refuses, HasReached, Samples}
use Rattle.replay.proofs.SampleSteps.{refused_after, all_closed, reached_next}
use Rattle.replay.proofs.sample.sample.Goals as goal

pub returns-in-Err-close_next : goal.returns-in-Err-close_next
returns-in-Err-close_next g c =
    let was = c.loop-closed.sampled in
    let out : Seen = seen g.O.Sink.taken g.O.Sink.faults c.loop-closed.out c.refuse.new.out in
    let same : out ≡ seen g.O.Sink.taken g.O.Sink.faults c.args.out.now c.refuse.new.out =
    λ i. seen g.O.Sink.taken g.O.Sink.faults (c.loop-closed.invariant.out i) c.refuse.new.out in
    let fault = c.in-Err-close_next.fault in
    let why = c.in-Err-close_next.ensures in
    let refuses = subst (λ (s : ClosingState). Refuses s.header out fault c.refuse.result) why.0
    c.refuse.ensures.refuses in
    subst (λ (o : Seen). Samples c.args.seed c.args.ledgers o c.refuse.result) same
    (refused_after c.args.seed c.loop-closed.closed c.args.ledgers was.ledger.state was.transactions was.successes
    fault out c.refuse.result c.loop-closed-test.true c.loop-closed.invariant.reached why.1 refuses)

pub loop-closed-preserved : goal.loop-closed-preserved
loop-closed-preserved g c =
    let now = c.close_next.new.sampled in
    record {
      reached = reached_next c.args.seed c.loop-closed.closed now.ledger.state now.transactions now.successes
          c.in-Ok-close_next.ensures;
      out = c.loop-closed.invariant.out;
    }

pub returns : goal.returns
returns g c =
    let last = c.loop-closed.sampled in
    let out : Seen = seen g.O.Sink.taken g.O.Sink.faults c.loop-closed.out c.write_sample.new.out in
    let same : out ≡ seen g.O.Sink.taken g.O.Sink.faults c.args.out.now c.write_sample.new.out =
    λ i. seen g.O.Sink.taken g.O.Sink.faults (c.loop-closed.invariant.out i) c.write_sample.new.out in
    let all : c.loop-closed.closed ≡ c.args.ledgers =
    omega (arith, c.loop-closed-test.false, c.loop-closed.auto.closed-end) in
    let reached = subst (λ (k : ℕ). HasReached c.args.seed k last.ledger.state last.transactions last.successes) all
    c.loop-closed.invariant.reached in
    subst (λ (o : Seen). Samples c.args.seed c.args.ledgers o c.write_sample.result) same
    (all_closed c.args.seed c.args.ledgers last.ledger.state last.transactions last.successes out c.write_sample.result
    reached c.write_sample.ensures)
