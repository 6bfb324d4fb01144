use Rattle.replay.proofs.Prelude.{ℕ, ◌<◌, List, subst, sym, rules, Seen, seen, Grown, IsBytes, IsUncut}
use Rattle.replay.proofs.Starts.{image_taken, uncut_bad, uncut_failed}
use Rattle.replay.proofs.starting.read_image.Goals as goal

pub returns-in-Err-Xdr : goal.returns-in-Err-Xdr
returns-in-Err-Xdr g c =
    let p = rw c.in-Err-Xdr.field-0-is at c.in-Err-Xdr.ensures.piece in
    let input : Seen = seen g.I.Source.left g.I.Source.faults c.args.input.now c.read_piece.new.source in
    let ends = rw c.in-Err-Xdr.field-0-is at c.bad_image.ensures.end in
    subst (IsUncut input) (sym ends)
    (uncut_bad input c.read_piece.new.ahead.items c.in-Err-Xdr.fault
    (subst (λ (o : List ℕ). Grown (g.I.Source.left c.args.input.now) (g.I.Source.left c.read_piece.new.source) o
    c.read_piece.new.ahead.items) c.requires p.0)
    (subst IsBytes c.as_slice.ensures.value c.bad_image.ensures.fits) p.1 p.2)

pub returns-in-Err-Failed : goal.returns-in-Err-Failed
returns-in-Err-Failed g c =
    let p = rw c.in-Err-Failed.field-0-is at c.in-Err-Failed.ensures.piece in
    let input : Seen = seen g.I.Source.left g.I.Source.faults c.args.input.now c.read_piece.new.source in
    uncut_failed input c.read_piece.new.ahead.items
    (subst (λ (o : List ℕ). Grown (g.I.Source.left c.args.input.now) (g.I.Source.left c.read_piece.new.source) o
    c.read_piece.new.ahead.items) c.requires p.0) p.1 p.2

pub take_image-requires : goal.take_image-requires
take_image-requires g c = (c.in-Ok.end, c.in-Ok.ensures.piece.1)

pub returns : goal.returns
returns g c =
    let input : Seen = seen g.I.Source.left g.I.Source.faults c.args.input.now c.read_piece.new.source in
    let new : List ℕ = c.read_piece.new.ahead.items in
    let low : c.in-Ok.end < 18446744073709551616 = search rules in
    image_taken input new c.take_image.new.ahead.items c.in-Ok.end c.in-Ok-take_image.image
    c.in-Ok-take_image.ensures.taken
    (subst (λ (o : List ℕ). Grown (g.I.Source.left c.args.input.now) (g.I.Source.left c.read_piece.new.source) o new)
    c.requires c.in-Ok.ensures.piece.0)
    c.in-Ok-take_image.ensures.fits c.in-Ok.ensures.piece.1 low c.in-Ok.ensures.later
