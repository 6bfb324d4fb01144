use Rattle.replay.proofs.Prelude.{Disk, Result, Ok, Err}
use Rattle.std.specs.Prelude.{OnOk}
use Rattle.std.proofs.lemmas.Result.{on_ok_weaker}
use Rattle.replay.proofs.Yields.{stored_second}
use Rattle.replay.proofs.closer.migrate.Goals as goal

both_on_ok : {E : Type 0} (W P reports : Type 0) (r : Result (Unit {0}) E) → OnOk r W → (reports → OnOk r P)
    → OnOk r (W × (reports → P))
both_on_ok W P reports (Ok done) works kept = (works, kept)
both_on_ok W P reports (Err fault) works kept = tt

pub returns-then-opened-ne1-clause-going : goal.returns-then-opened-ne1-clause-going
returns-then-opened-ne1-clause-going g c =
    let o = c.args.opened.now in
    let disk : Disk = g.V.Volume.disk c.args.vol.now in
    record {
      works = c.requires.works;
      ready = λ st te. stored_second o.format o.closing.keeper.store disk o.closing.ledger.state
          c.if-opened-ne1.true (c.requires.ready te).kept;
    }

pub returns-clause-going : goal.returns-clause-going
returns-clause-going g c =
    on_ok_weaker c.renew.result (λ both. record { works = both.0; ready = λ st te. both.1 te })
    (both_on_ok _ _ g.V.Volume.reports c.renew.result c.renew.ensures.works c.renew.ensures.kept)
