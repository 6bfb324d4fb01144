use Rattle.command_words.proofs.Prelude.{sym, subst, IsOption}
use Rattle.command_words.proofs.Judging.{parts_of}
use Rattle.command_words.proofs.watch_judge.option_of_len.Goals as goal

pub returns-in_err-value : goal.returns-in_err-value
returns-in_err-value c =
    let cut = c.split_at in
    let parts = parts_of c.args.words.now cut.result.0.now cut.result.1.now c.args.len cut.ensures.front
    cut.ensures.back in
    rw c.from_residual.ensures (λ value short is.
    c.in_err-value.ensures value (subst (IsOption c.args.name.now value) (sym parts.0) is))
