use Rattle.gate_journal.proofs.Prelude.{length, drop, ◌+◌, framed}
use Rattle.gate_journal.proofs.Crash.{one_more}
use Rattle.gate_journal.proofs.Moments.{first_write, both_writes, reach, reach_staged, staged_by, appended_by, on_ok}
use Rattle.gate_journal.proofs.journal.append_at.Goals as goal

pub returns-in-Err-clause-runs : goal.returns-in-Err-clause-runs
returns-in-Err-clause-runs g c = λ reported records holds_records.
    first_write (g.V.Volume.disk c.args.vol.now) (g.V.Volume.disk c.write_and_sync.new.vol) c.args.file c.args.end
    (length c.piece.result.now)
    records c.args.buf.now holds_records c.write_and_sync.ensures.runs

pub returns-clause-ok : goal.returns-clause-ok
returns-clause-ok g c = λ reported records holds_records.
    let old = g.V.Volume.disk c.args.vol.now in
    let mid = g.V.Volume.disk c.write_and_sync.new.vol in
    let file = c.args.file in
    let end = c.args.end in
    let bytes = c.args.buf.now in
    let following = drop (end + 1 + length (framed bytes)) (old.reads file) in
    let wrote = c.in-Ok.ensures.written reported
    (reach (old.reads file) records end holds_records.offset holds_records.holds) in
    let stage = staged_by old mid file end records bytes c.piece.result.now c.piece.ensures.piece holds_records wrote in
    on_ok c.write_and_sync-2.result
    (c.write_and_sync-2.ensures.written reported
    (reach_staged records bytes following (mid.reads file) end holds_records.offset stage))
    (λ gate. one_more records bytes following end
    (mid.reads file) _ c.piece.ensures.short holds_records.offset stage gate.here)

pub returns-clause-written : goal.returns-clause-written
returns-clause-written g c = λ reported records holds_records.
    let old = g.V.Volume.disk c.args.vol.now in
    let mid = g.V.Volume.disk c.write_and_sync.new.vol in
    let new = g.V.Volume.disk c.write_and_sync-2.new.vol in
    let file = c.args.file in
    let end = c.args.end in
    let bytes = c.args.buf.now in
    let following = drop (end + 1 + length (framed bytes)) (old.reads file) in
    let wrote = c.in-Ok.ensures.written reported
    (reach (old.reads file) records end holds_records.offset holds_records.holds) in
    let stage = staged_by old mid file end records bytes c.piece.result.now c.piece.ensures.piece holds_records wrote in
    on_ok c.write_and_sync-2.result
    (c.write_and_sync-2.ensures.written reported
    (reach_staged records bytes following (mid.reads file) end holds_records.offset stage))
    (λ gate. appended_by old mid new file end records bytes c.piece.result.now holds_records stage wrote gate)

pub returns-clause-runs : goal.returns-clause-runs
returns-clause-runs g c = λ reported records holds_records.
    let old = g.V.Volume.disk c.args.vol.now in
    let mid = g.V.Volume.disk c.write_and_sync.new.vol in
    let new = g.V.Volume.disk c.write_and_sync-2.new.vol in
    let file = c.args.file in
    let end = c.args.end in
    let bytes = c.args.buf.now in
    let following = drop (end + 1 + length (framed bytes)) (old.reads file) in
    let wrote = c.in-Ok.ensures.written reported
    (reach (old.reads file) records end holds_records.offset holds_records.holds) in
    let stage = staged_by old mid file end records bytes c.piece.result.now c.piece.ensures.piece holds_records wrote in
    both_writes old mid new file end records bytes following c.piece.ensures.short holds_records.offset stage
    c.in-Ok.ensures.safe
    (first_write old mid file end (length c.piece.result.now) records bytes holds_records c.write_and_sync.ensures.runs)
    c.write_and_sync-2.ensures.runs
