use Rattle.reports.proofs.Prelude.{List, length, subst, ℕ, Appends}
use Rattle.xdr_core.specs.Leaves.{u64}
use Rattle.reports.proofs.Pieces.{written, written_on}
use Rattle.reports.proofs.Streams.{over}
use Rattle.reports.proofs.history.write_stated_file.Goals as goal

pub returns : goal.returns
returns g c =
    let before = g.O.Sink.taken c.args.out.now in
    let mid = g.O.Sink.taken c.write_all.new.sink in
    let now = g.O.Sink.taken c.write_all-2.new.sink in
    let faults_mid = g.O.Sink.faults c.write_all.new.sink in
    let faults_now = g.O.Sink.faults c.write_all-2.new.sink in
    written_on (u64.encoding (length c.args.bytes.now)) c.args.bytes.now before mid now
    (g.O.Sink.faults c.args.out.now) faults_mid faults_now c.write_all-2.result
    (subst (λ (t : List ℕ). Appends before mid t) c.file_length.ensures c.in_ok-write_all.ensures.entire)
    c.in_ok-write_all.ensures.cause.later
    (written c.args.bytes.now (over mid now faults_mid faults_now) c.write_all-2.result c.write_all-2.ensures.entire
    c.write_all-2.ensures.prefix c.write_all-2.ensures.cause)
