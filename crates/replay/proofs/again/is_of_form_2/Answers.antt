use Rattle.replay.proofs.Prelude.{sym, ap, ◌∙◌}
use Rattle.xdr_core.specs.Leaves.{u32}
use Rattle.replay.proofs.Forms.{by_word}
use Rattle.replay.proofs.again.is_of_form_2.Goals as goal

pub returns-in-Ok : goal.returns-in-Ok
returns-in-Ok c =
    by_word c.args.bytes.now c.in-Ok.word c.u32.new.self (ap u32.read (sym c.new.ensures) ∙ c.in-Ok.ensures)
