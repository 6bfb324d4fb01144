use Rattle.replay.proofs.Prelude.{refl, ◌∙◌, inr}
use Rattle.replay.proofs.stored_run.restore.Goals as goal

pub returns-in-Ok-close_again : goal.returns-in-Ok-close_again
returns-in-Ok-close_again g c =
    let again = c.in-Ok-close_again.ensures in
    record {
      start = c.in-Ok.ledger.state;
      judged = c.in-Ok.ensures.judges;
      held = again.held;
      lines = again.lines;
      closed = again.closed;
    }

pub returns : goal.returns
returns g c =
    let refused = rw c.in-Err-Refused.field-0-is at c.in-Err-Refused.ensures in
    inr (record {
      start = c.in-Ok.ledger.state;
      judged = c.in-Ok.ensures.judges;
      prefix = refused.prefix;
      bytes = refused.bytes;
      others = refused.others;
      records = refused.cut;
      held = refused.closed.held;
      lines = refused.closed.lines;
      state = refused.state;
      closed = refused.closed.closed;
      refused = refused.refused;
      in_file = refl;
      at = c.in-Err-Refused.offset-is ∙ refused.at;
    })
