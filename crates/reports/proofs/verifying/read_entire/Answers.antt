use Rattle.std.proofs.Common.{◌≡◌, ℕ, List, drop, subst, sym}
use Rattle.std.proofs.lemmas.Result.{err_from_is_err_and}
use Rattle.run_outcome.specs.run_streams.Seen.{Seen, seen}
use Rattle.xdr_core.specs.Format.{IsBytes}
use Rattle.reports.specs.EndOfInput.{IsEnded, IsUnended}
use Rattle.reports.specs.HistoryInput.{IsEntire}
use Rattle.reports.proofs.HistoryPrefix.{entire, unended}
use Rattle.reports.proofs.verifying.read_entire.Goals as goal

pub returns-in_err-at : goal.returns-in_err-at
returns-in_err-at g c =
    let p = err_from_is_err_and c.from_residual.result c.from_residual.ensures.1 in
    rw (p.1, p.2) c.in_err-at.ensures

pub after_history-rest-requires : goal.after_history-rest-requires
after_history-rest-requires g c = rw c.as_slice.ensures.value c.in_ok-at.ensures.ends

pub returns-in-Ok : goal.returns-in-Ok
returns-in-Ok g c =
    let text : List ℕ = c.read_prefix.new.ahead.items in
    let after : Seen = seen g.I.Source.left g.I.Source.faults c.read_prefix.new.input c.end_input.new.input in
    let rest : c.after_history-rest.result.now ≡ drop c.in_ok-at.at text =
    rw c.as_slice.ensures.value at c.after_history-rest.ensures.rest in
    subst (λ (t : List ℕ). IsEntire t (seen g.I.Source.left g.I.Source.faults c.args.input.now c.end_input.new.input))
    (sym c.shrink_to_fit.ensures.items)
    (entire (g.I.Source.left c.args.input.now) after.before after.now (g.I.Source.faults c.args.input.now)
    after.faults_before after.faults_now text c.in_ok-at.at
    (subst IsBytes c.as_slice.ensures.value c.after_history-rest.ensures.fits) c.in_ok-at.ensures
    (subst (λ (t : List ℕ). IsEnded t after) rest c.in-Ok.ensures))

pub returns-in-Err : goal.returns-in-Err
returns-in-Err g c =
    let text : List ℕ = c.read_prefix.new.ahead.items in
    let after : Seen = seen g.I.Source.left g.I.Source.faults c.read_prefix.new.input c.end_input.new.input in
    let rest : c.after_history-rest.result.now ≡ drop c.in_ok-at.at text =
    rw c.as_slice.ensures.value at c.after_history-rest.ensures.rest in
    unended (g.I.Source.left c.args.input.now) after.before after.now (g.I.Source.faults c.args.input.now)
    after.faults_before after.faults_now text c.in_ok-at.at
    (subst IsBytes c.as_slice.ensures.value c.after_history-rest.ensures.fits) c.in_ok-at.ensures c.in-Err.end
    (subst (λ (t : List ℕ). IsUnended c.in_ok-at.at t after c.in-Err.end) rest c.in-Err.ensures)
