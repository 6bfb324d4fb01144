use Rattle.replay.proofs.Prelude.{Disk}
use Rattle.replay.proofs.Yields.{stored_rolled, stored_rolled_runs}
use Rattle.replay.proofs.stored.Stored.renew.Goals as goal

pub returns-in-Ok-roll-clause-kept : goal.returns-in-Ok-roll-clause-kept
returns-in-Ok-roll-clause-kept g c te =
    let old : Disk = g.V.Volume.disk c.args.vol.now in
    let new : Disk = g.V.Volume.disk c.roll.new.vol in
    let r = c.requires.ready te in
    let i = r.1.kept in
    stored_rolled r.0 c.args.self.now.store c.roll.new.self old new c.args.ledger.now.state c.in-Ok.image i
    c.in-Ok.ensures.judged (c.in-Ok-roll.ensures.ok te i.kept i.settled)

pub returns-in-Ok-roll-clause-runs : goal.returns-in-Ok-roll-clause-runs
returns-in-Ok-roll-clause-runs g c te =
    let old : Disk = g.V.Volume.disk c.args.vol.now in
    let new : Disk = g.V.Volume.disk c.roll.new.vol in
    let r = c.requires.ready te in
    let i = r.1.kept in
    stored_rolled_runs r.0 c.args.self.now.store old new c.args.ledger.now.state c.in-Ok.image i
    c.in-Ok.ensures.judged (c.roll.ensures.runs te i.kept i.settled)

pub returns-clause-runs : goal.returns-clause-runs
returns-clause-runs g c te =
    let old : Disk = g.V.Volume.disk c.args.vol.now in
    let new : Disk = g.V.Volume.disk c.roll.new.vol in
    let r = c.requires.ready te in
    let i = r.1.kept in
    stored_rolled_runs r.0 c.args.self.now.store old new c.args.ledger.now.state c.in-Ok.image i
    c.in-Ok.ensures.judged (c.roll.ensures.runs te i.kept i.settled)
