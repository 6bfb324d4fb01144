-- What readers read that were told of all that was published.
use Rattle.std.specs.Prelude.{ℕ, List, Option}
use mathlib.Core.List.{IsPrefix}
use Rattle.ledger_readers.specs.declared.lookup.Read.{Read}
use Rattle.ledger_readers.specs.Views.{IsAnswerOf}

-- A reader that knows these views, which begin with all that was published, read the last of them.
pub record IsToldRead {S K E : Type 0} (seq_of : S → ℕ) (finds : S → K → Option E → Type 0) (all : List S) (key : K)
    (known : List S) (r : Read E) : Type 0 where
  pub told : IsPrefix all known
  pub answer : IsAnswerOf seq_of finds known key r.number r.seq r.entry
