-- The pieces of a history in one text.
use Rattle.std.specs.Prelude.{◌≡◌, ℕ, pos, List, ◌++◌, length}
use Rattle.xdr_core.specs.Leaves.{u32, u64}
use Rattle.xdr_core.specs.Xdr.{tag}
use Rattle.ledger_types.specs.declared.ids.Hash.{Hash}
use Rattle.xdr_entries.specs.Basic.{hash}
use Rattle.archive_files.specs.declared.form.StatedHistory.{StatedHistory}
use Rattle.archive_files.specs.Form.{stated_history}

-- what stands before the files
abbrev pub stated_head : Hash → (first : ℕ) → List ℕ
stated_head before first = ((tag (pos 0x534C4831)).encoding tt ++ hash.encoding before) ++ u32.encoding first

-- a file after its length
abbrev pub stated_file : List ℕ → List ℕ
stated_file bytes = u64.encoding (length bytes) ++ bytes

abbrev pub stated_pieces : StatedHistory → List ℕ
stated_pieces h =
    stated_head h.before h.first
    ++ (stated_file h.history.headers ++ (stated_file h.history.sets ++ stated_file h.history.results))

-- a history in one text is its pieces one after another
abbrev pub PiecesAreStated : Type 0
PiecesAreStated = (h : StatedHistory) → stated_history.encoding h ≡ stated_pieces h
