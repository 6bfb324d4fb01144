use Rattle.replay.proofs.Prelude.{List, ℕ, subst, err_from_is_err_and, Seen, seen, IsEnded, IsUnended}
use Rattle.replay.proofs.Initing.{input_is, input_unended, uncut_unread}
use Rattle.replay.proofs.init.read_complete.Goals as goal

pub returns-in_err-image : goal.returns-in_err-image
returns-in_err-image g c =
    let p = err_from_is_err_and c.from_residual.result c.from_residual.ensures.1 in
    rw (p.1, p.2) (uncut_unread (seen g.I.Source.left g.I.Source.faults c.args.input.now c.read_image.new.input)
    c.in_err-image.field-0.0 c.in_err-image.ensures)

pub returns-in-Ok : goal.returns-in-Ok
returns-in-Ok g c =
    let after : Seen = seen g.I.Source.left g.I.Source.faults c.read_image.new.input c.end_input.new.input in
    input_is (g.I.Source.left c.args.input.now) after.before after.now (g.I.Source.faults c.args.input.now)
    after.faults_before after.faults_now c.in_ok-image.field-0.image c.in_ok-image.field-0.at
    c.read_image.new.ahead.items c.in_ok-image.ensures
    (subst (λ (t : List ℕ). IsEnded t after) c.as_slice.ensures.value c.in-Ok.ensures)

pub returns : goal.returns
returns g c =
    let after : Seen = seen g.I.Source.left g.I.Source.faults c.read_image.new.input c.end_input.new.input in
    input_unended (g.I.Source.left c.args.input.now) after.before after.now (g.I.Source.faults c.args.input.now)
    after.faults_before after.faults_now c.in_ok-image.field-0.image c.in_ok-image.field-0.at
    c.read_image.new.ahead.items c.in-Err.end c.in_ok-image.ensures
    (subst (λ (t : List ℕ). IsUnended c.in_ok-image.field-0.at t after c.in-Err.end) c.as_slice.ensures.value
    c.in-Err.ensures)
