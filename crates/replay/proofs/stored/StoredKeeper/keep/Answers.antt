use Rattle.replay.proofs.Prelude.{Disk}
use Rattle.replay.proofs.Yields.{stored_more, stored_more_runs}
use Rattle.replay.proofs.stored.StoredKeeper.keep.Goals as goal

pub returns-in-Ok-clause-kept : goal.returns-in-Ok-clause-kept
returns-in-Ok-clause-kept g c u te s closed r closes =
    let old : Disk = g.V.Volume.disk c.args.vol.now in
    let new : Disk = g.V.Volume.disk c.append.new.vol in
    let i = r.kept in
    stored_more c.args.self.now.store c.append.new.self old new s
    c.args.piece closed i closes (c.in-Ok.ensures.ok te i.kept i.settled)

pub returns-in-Ok-clause-runs : goal.returns-in-Ok-clause-runs
returns-in-Ok-clause-runs g c u te s closed r closes =
    let old : Disk = g.V.Volume.disk c.args.vol.now in
    let new : Disk = g.V.Volume.disk c.append.new.vol in
    let i = r.kept in
    stored_more_runs c.args.self.now.store old new s c.args.piece closed i closes
    (c.append.ensures.runs te i.kept i.settled)

pub returns-in-Err-clause-runs : goal.returns-in-Err-clause-runs
returns-in-Err-clause-runs g c u te s closed r closes =
    let old : Disk = g.V.Volume.disk c.args.vol.now in
    let new : Disk = g.V.Volume.disk c.append.new.vol in
    let i = r.kept in
    stored_more_runs c.args.self.now.store old new s c.args.piece closed i closes
    (c.append.ensures.runs te i.kept i.settled)
