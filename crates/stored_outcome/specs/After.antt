-- The states after the records at the start of a text, and how many of them what is printed acknowledges.
use Rattle.std.specs.Prelude.{◌≡◌, ℕ, ◌+◌, List, [], ◌∷◌, ◌++◌, length, take, codes, nat_eq, count_by, Bool}
use Rattle.std.specs.Prelude.{if◌then◌else◌}
use Rattle.std.specs.Str.{bytes_eq}
use Rattle.sample_ledger.specs.xdr_core.Position.{start_of}
use Rattle.run_outcome.specs.close_rules.State.{ClosingState}
use Rattle.run_outcome.specs.Outcome.{AreClosedAhead, IsPrefix}
use Rattle.image_store.specs.outside.Disk.{Image}
use Rattle.stored_outcome.specs.Opening.{OpensTo}

-- the first k records of a text close ledgers after s: their lines, and the state after the last
pub record IsAfter (s : ClosingState) (text : List ℕ) (k : ℕ) (lines : List ℕ) (state : ClosingState) : Type 0 where
  pub ahead : AreClosedAhead s (start_of text) lines
  pub count : length ahead.records ≡ k
  pub is : ahead.state ≡ state

-- a content opens to the state after the first k records
abbrev pub OpensAfter : ClosingState → (text : List ℕ) → (k : ℕ) → Image → Type 0
OpensAfter s text k c = (lines : List ℕ) × (state : ClosingState) × IsAfter s text k lines state × OpensTo c state

-- the same, after some of them
abbrev pub OpensWithin : ClosingState → (text : List ℕ) → Image → Type 0
OpensWithin s text c = (k : ℕ) × OpensAfter s text k c

-- So many ledgers are acknowledged by what is printed of the records at the start of a text: it begins with all lines
-- of these, down to the last byte of the last line, and not with all of one more.
pub record AreAcknowledged (s : ClosingState) (text printed : List ℕ) (count : ℕ) : Type 0 where
  pub lines : List ℕ
  pub state : ClosingState
  pub after : IsAfter s text count lines state
  pub entire : IsPrefix lines printed
  pub no_more : (more : List ℕ) (next : ClosingState) → IsAfter s text (count + 1) more next → IsPrefix more printed
      → ⊥

-- ---- counting lines

-- the lines of a text that end, of which the first one goes on from these bytes
unfoldable pub complete_lines : (begun text : List ℕ) → List (List ℕ)
complete_lines begun [] = []
complete_lines begun (byte ∷ rest) =
    if nat_eq byte 10 then begun ∷ complete_lines [] rest else complete_lines (begun ++ byte ∷ []) rest

abbrev pub is_closed_line : List ℕ → Bool
is_closed_line line = bytes_eq (take 7 line) (codes "closed ")

-- how many complete `closed` lines a text has
abbrev pub closed_count : List ℕ → ℕ
closed_count text = count_by is_closed_line (complete_lines [] text)
