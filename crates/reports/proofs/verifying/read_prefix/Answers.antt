use Rattle.std.proofs.Common.{ℕ, List, subst, sym}
use Rattle.run_outcome.specs.run_streams.Seen.{Seen, seen}
use Rattle.record_stream.specs.Filling.{Grown}
use Rattle.xdr_core.specs.Format.{IsBytes}
use Rattle.reports.specs.HistoryInput.{IsUnread}
use Rattle.reports.proofs.HistoryPrefix.{found, unread_bad}
use Rattle.reports.proofs.verifying.read_prefix.Goals as goal

pub returns-in-Ok : goal.returns-in-Ok
returns-in-Ok g c =
    let new : List ℕ = c.read_piece.new.ahead.items in
    found (seen g.I.Source.left g.I.Source.faults c.args.input.now c.read_piece.new.source) new c.in-Ok.end
    (subst (λ (o : List ℕ). Grown (g.I.Source.left c.args.input.now) (g.I.Source.left c.read_piece.new.source) o new)
    c.requires c.in-Ok.ensures.piece.0)
    c.in-Ok.ensures.piece.1 c.in-Ok.ensures.later

pub returns-in-Err-Xdr : goal.returns-in-Err-Xdr
returns-in-Err-Xdr g c =
    let p = rw c.in-Err-Xdr.field-0-is at c.in-Err-Xdr.ensures.piece in
    let input : Seen = seen g.I.Source.left g.I.Source.faults c.args.input.now c.read_piece.new.source in
    let new : List ℕ = c.read_piece.new.ahead.items in
    subst (IsUnread input) (sym c.bad_history.ensures.end)
    (unread_bad input new c.in-Err-Xdr.fault
    (subst (λ (o : List ℕ). Grown (g.I.Source.left c.args.input.now) (g.I.Source.left c.read_piece.new.source) o new)
    c.requires p.0)
    (subst IsBytes c.as_slice.ensures.value c.bad_history.ensures.fits) p.1 p.2)

pub returns-in-Err-Failed : goal.returns-in-Err-Failed
returns-in-Err-Failed g c =
    let p = rw c.in-Err-Failed.field-0-is at c.in-Err-Failed.ensures.piece in
    p.2
