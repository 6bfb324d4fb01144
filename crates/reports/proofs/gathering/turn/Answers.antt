use Rattle.reports.proofs.Prelude.{◌≤◌, List, ℕ, subst, LedgerHeader, IsBytes, IsUnread, last_seq, seen}
use Rattle.reports.proofs.Turns.{turned_at, turned_off}
use Rattle.reports.proofs.gathering.turn.Goals as goal

pub returns-in-Ok-clause-turned : goal.returns-in-Ok-clause-turned
returns-in-Ok-clause-turned g c =
    let p = c.pass_record-stopped in
    turned_at g.G.Gather.kind (g.G.Gather.gathers c.args.gathered.now) (g.G.Gather.gathers p.new.gathered)
    c.args.ledger.now.state c.args.at.now c.args.ahead.now.items c.read_piece.new.ahead.items c.in-Ok.end
    p.new.ledger.state p.new.ahead.items
    (seen g.I.Source.left g.I.Source.faults c.args.input.now c.read_piece.new.source) p.result p.ensures.fits
    c.in-Ok.ensures.piece.0 c.in-Ok.ensures.piece.1 p.ensures.passes p.ensures.rest c.in-Ok.ensures.later
    (subst (λ (h : LedgerHeader). h.ledger_seq ≤ last_seq) c.header.ensures.header c.header.ensures.seq)

pub returns-in-Err-clause-turned : goal.returns-in-Err-clause-turned
returns-in-Err-clause-turned g c =
    let value = c.as_slice.ensures.value in
    turned_off g.G.Gather.kind (g.G.Gather.gathers c.args.gathered.now) c.args.ledger.now.state c.args.at.now
    c.args.ahead.now.items c.read_piece.new.ahead.items
    (seen g.I.Source.left g.I.Source.faults c.args.input.now c.read_piece.new.source) c.in-Err.fault c.stop_of.result
    (subst IsBytes value c.stop_of.ensures.fits) c.in-Err.ensures.piece
    (subst (λ (t : List ℕ). IsUnread c.args.at.now t c.in-Err.fault c.stop_of.result) value c.stop_of.ensures.stops)
