use Rattle.archive_files.proofs.Prelude.{ap, sym, ◌∙◌}
use Rattle.archive_files.specs.Form.{stated_history}
use Rattle.archive_files.specs.Stated.{stated_in}
use Rattle.archive_files.proofs.form.stated_history_length.Goals as goal

pub returns : goal.returns
returns c = record {
  stated = stated_in c.in_ok-read_pieces.field-0;
  after = c.read_pieces.new.cursor;
  reads = ap (λ p. stated_history.read p) (sym c.new-ahead.ensures) ∙ c.in_ok-read_pieces.ensures;
  is = c.at.ensures;
}
