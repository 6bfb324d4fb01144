use Rattle.outside.proofs.Crashed.{crashed_reads}
use Rattle.outside.proofs.mem_disk.MemDisk.crashed.Goals as goal

pub returns-clause-reads : goal.returns-clause-reads
returns-clause-reads c =
    crashed_reads c.args.fill c.args.self.now (record { start = _; log = c.self.inside.log.items }) c.new.result.items
    c.self.view_is c.self.invariant.0
    c.file_left.ensures.files c.new.ensures.items _ _ _ _
    c.in_ok-file_left.ensures.left c.in_ok-file_left-2.ensures.left c.in_ok-file_left-3.ensures.left
    c.in_ok-file_left-4.ensures.left
