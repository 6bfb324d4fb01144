use Rattle.replay.proofs.Prelude.{err_from_is_err_and, inl, inr}
use Rattle.replay.proofs.starting.start.Goals as goal

pub returns-in_err-image : goal.returns-in_err-image
returns-in_err-image g c =
    let p = err_from_is_err_and c.from_residual.result c.from_residual.ensures.1 in
    rw (p.1, p.2) (inl c.in_err-image.ensures)

pub returns-in-Err : goal.returns-in-Err
returns-in-Err g c = inr (
  c.in_ok-image.field-0.image,
  c.in_ok-image.field-0.at,
  c.read_image.new.ahead.items,
  c.in_ok-image.ensures,
  c.in-Err.ensures,
)
