use Rattle.reports.proofs.Prelude.{List, ◌++◌, subst, ℕ, Appends, Err}
use Rattle.std.proofs.lemmas.Result.{err_from_is_err_and}
use Rattle.archive_files.specs.Stating.{stated_file}
use Rattle.reports.specs.Files.{IsWritten}
use Rattle.reports.proofs.Pieces.{written_off, written_on}
use Rattle.reports.proofs.Streams.{over}
use Rattle.reports.proofs.history.write_stated_files.Goals as goal

pub returns-in_err-write_stated_file-2 : goal.returns-in_err-write_stated_file-2
returns-in_err-write_stated_file-2 g c =
    let before = g.O.Sink.taken c.args.out.now in
    let mid = g.O.Sink.taken c.write_stated_file.new.out in
    let now = g.O.Sink.taken c.write_stated_file-2.new.out in
    let faults_mid = g.O.Sink.faults c.write_stated_file.new.out in
    let faults_now = g.O.Sink.faults c.write_stated_file-2.new.out in
    let it = c.from_residual-in_err-write_stated_file-2 in
    let h = c.args.history.now in
    let p = err_from_is_err_and it.result it.ensures.1 in
    rw p.1
    (written_on (stated_file h.headers) (stated_file h.sets ++ stated_file h.results) before mid now
    (g.O.Sink.faults c.args.out.now) faults_mid faults_now (Err p.0)
    (subst (λ (t : List ℕ). Appends before mid (stated_file t)) c.as_slice.ensures c.in_ok-write_stated_file.ensures.0)
    c.in_ok-write_stated_file.ensures.1
    (written_off (stated_file h.sets) (stated_file h.results) (over mid now faults_mid faults_now) p.0
    (subst (λ (t : List ℕ). IsWritten (stated_file t) (over mid now faults_mid faults_now) (Err p.0))
    c.as_slice-2.ensures c.in_err-write_stated_file-2.ensures)))

pub returns : goal.returns
returns g c =
    let before = g.O.Sink.taken c.args.out.now in
    let mid = g.O.Sink.taken c.write_stated_file.new.out in
    let later = g.O.Sink.taken c.write_stated_file-2.new.out in
    let now = g.O.Sink.taken c.write_stated_file-3.new.out in
    let faults_mid = g.O.Sink.faults c.write_stated_file.new.out in
    let faults_later = g.O.Sink.faults c.write_stated_file-2.new.out in
    let faults_now = g.O.Sink.faults c.write_stated_file-3.new.out in
    let h = c.args.history.now in
    let r = c.write_stated_file-3.result in
    written_on (stated_file h.headers) (stated_file h.sets ++ stated_file h.results) before mid now
    (g.O.Sink.faults c.args.out.now) faults_mid faults_now r
    (subst (λ (t : List ℕ). Appends before mid (stated_file t)) c.as_slice.ensures c.in_ok-write_stated_file.ensures.0)
    c.in_ok-write_stated_file.ensures.1
    (written_on (stated_file h.sets) (stated_file h.results) mid later now faults_mid faults_later faults_now r
    (subst (λ (t : List ℕ). Appends mid later (stated_file t)) c.as_slice-2.ensures
    c.in_ok-write_stated_file-2.ensures.0)
    c.in_ok-write_stated_file-2.ensures.1
    (subst (λ (t : List ℕ). IsWritten (stated_file t) (over later now faults_later faults_now) r) c.as_slice-3.ensures
    c.write_stated_file-3.ensures))
