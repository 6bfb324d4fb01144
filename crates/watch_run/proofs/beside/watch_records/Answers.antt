use Rattle.watch_run.proofs.Prelude.{ℕ, ◌≡◌, ◌∙◌, List, length, ap, subst, sym, All, AccountId, ClosingState, EndsWatch}
use Rattle.watch_run.proofs.Prelude.{IsReadOfLast, IsWatchRun, LedgerEntry, Read, RunPosition, Seen, StopsWatch, seen}
use Rattle.ledger_readers.specs.Published.{published}
use Rattle.ledger_types.specs.declared.key.LedgerKey.TheVariants as key
use Rattle.watch_run.proofs.beside.watch_records.Goals as goal

pub returns-in-Ok-reads : goal.returns-in-Ok-reads
returns-in-Ok-reads g c =
    let it = c.close_beside-stop in
    let id = c.args.account in
    let reads = c.as_slice.result.now in
    let states : List ClosingState = published it.new.gathered.publisher in
    let p : RunPosition =
    record { state = c.args.ledger.now.state; at = c.args.start; ahead = c.args.ahead.now.items } in
    let input : Seen = seen g.I.Source.left g.I.Source.faults c.args.input.now it.new.input in
    let out : Seen = seen g.O.Sink.taken g.O.Sink.faults c.args.out.now c.finish.new.out in
    let count : length reads ≡ g.W.Asked.readers =
    ap length c.as_slice.ensures.value ∙ c.in-Ok-reads.ensures.count ∙ it.new.gathered.count in
    let stops : StopsWatch (length reads) id states p it.new.ledger.state input it.result =
    subst (λ (n : ℕ). StopsWatch n id states p it.new.ledger.state input it.result) (sym count)
    (subst (λ (a : AccountId). StopsWatch g.W.Asked.readers a states p it.new.ledger.state input it.result)
    (sym c.requires.account) it.ensures.stopped) in
    let each : All (λ (r : Read LedgerEntry). IsReadOfLast states (key.Account id) r.number r.seq r.entry) reads =
    subst (All (λ (r : Read LedgerEntry). IsReadOfLast states (key.Account id) r.number r.seq r.entry))
    (sym c.as_slice.ensures.value) c.in-Ok-reads.ensures.answers in
    subst (λ (n : ℕ). EndsWatch (IsWatchRun n id p) input out c.finish.result) (count ∙ sym c.requires.readers)
    (c.finish.ensures id states p input stops each)
