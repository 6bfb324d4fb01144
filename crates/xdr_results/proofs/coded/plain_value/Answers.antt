use Rattle.std.proofs.Common.{◌∙◌, ap, sym, Err, FitsSigned, w32, arith}
use Rattle.std.proofs.lemmas.Int.{to_z-of_z}
use Rattle.xdr_results.proofs.Plain.{found_at, pick_plain}
use Rattle.xdr_results.proofs.coded.plain_value.Goals as goal

pub returns-in-Some : goal.returns-in-Some
returns-in-Some g c =
    let fits : FitsSigned w32 c.args.code = search arith in
    λ p. pick_plain g.C.Coded.number g.C.Coded.values c.args.start.now p c.args.code
    ∙ ap (λ found. found_at found c.args.start.now p) (sym (simp to_z-of_z at c.in-Some.ensures))

pub returns-in-None : goal.returns-in-None
returns-in-None g c =
    let fits : FitsSigned w32 c.args.code = search arith in
    λ p. pick_plain g.C.Coded.number g.C.Coded.values c.args.start.now p c.args.code
    ∙ ap (λ found. found_at found c.args.start.now p) (sym (simp to_z-of_z at c.in-None.ensures))
    ∙ ap Err (sym c.fault.ensures)
