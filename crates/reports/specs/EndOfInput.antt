-- Whether an input ends after what was read of it.
use Rattle.std.specs.Prelude.{◌≡◌, ℕ, ◌<◌, List, [], ◌++◌, length}
use Rattle.std.specs.Io.KnownBytes.{IsAtEnd}
use Rattle.run_outcome.specs.run_streams.Seen.{Seen, Failed, Gave}
use Rattle.run_outcome.specs.declared.status.Status.{Status}
use Rattle.run_outcome.specs.declared.status.Status.TheVariants as status

-- nothing followed what is ahead, and nothing is ahead
pub record IsEnded (ahead : List ℕ) (input : Seen) : Type 0 where
  pub none : ahead ≡ []
  pub gave : Gave input []
  pub ended : IsAtEnd input.now

-- some bytes follow
pub record IsFollowed (ahead : List ℕ) (input : Seen) : Type 0 where
  pub more : List ℕ
  pub gave : Gave input more
  pub some : 0 < length (ahead ++ more)

-- why it isn't known that an input ends at an offset
abbrev pub IsUnended : (at : ℕ) → (ahead : List ℕ) → Seen → (end : Status) → Type 0
IsUnended at ahead input (status.BadInput offset) = (offset ≡ at) × IsFollowed ahead input
IsUnended at ahead input status.ReadFault = Failed input
IsUnended at ahead input other = ⊥
