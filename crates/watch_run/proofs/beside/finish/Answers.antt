use Rattle.watch_run.proofs.Prelude.{◌∙◌, length, subst, Stop, StopsWatch, seen}
use Rattle.ledger_types.specs.declared.key.LedgerKey.TheVariants as key
use Rattle.watch_run.proofs.Stopping.{at_end}
use Rattle.watch_run.proofs.beside.finish.Goals as goal

pub returns-in-Ok : goal.returns-in-Ok
returns-in-Ok g c = λ id states p input stops each.
    let reads = c.args.reads.now in
    at_end (length reads) id states (key.Account id) p c.args.ledger.now.state input
    (seen g.O.Sink.taken g.O.Sink.faults c.args.out.now c.write_last.new.out) reads c.as_slice.result.now
    c.write_last.result (λ s all. c.as_slice.ensures.value ∙ c.in-Ok.ensures s id all) c.write_last.ensures.wrote
    (subst (λ (w : Stop). StopsWatch (length reads) id states p c.args.ledger.now.state input w) c.in-AtEnd.is stops)
    each
