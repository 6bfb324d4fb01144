-- The state after a closed ledger, from which the next one closes.
use Rattle.std.specs.Prelude.{◌≡◌, ℕ, ◌≤◌, List, length}
use Rattle.ledger_types.specs.declared.ids.Hash.{Hash}
use Rattle.ledger_types.specs.declared.header.LedgerHeader.{LedgerHeader}
use Rattle.header_chain.specs.xdr_header.Header.{ledger_header}
use Rattle.bucket_levels.specs.entry_map.EntryMap.{EntryMap}
use Rattle.tx_apply.specs.legal_rules.Dated.{AreDated}
use Rattle.tx_apply.specs.legal_rules.Legal.{IsLegal}
pub use Rattle.bucket_levels.specs.bucket_core.Encoded.{IsEncoded}
use Rattle.bucket_levels.specs.Spills.{level_count}
use Rattle.bucket_levels.specs.Pairs.{Pair}
use Rattle.bucket_levels.specs.Size.{file_total}
use Rattle.bucket_levels.specs.Meaning.{Represent, AreWellMarked}
use Rattle.bucket_levels.specs.Hash.{list_hash}
use Rattle.entry_changes.specs.Encodable.{AreEncodable}

-- the network, the header of the ledger, its entries, and the files of its levels
pub record ClosingState : Type 0 where
  pub network : Hash
  pub header : LedgerHeader
  pub entries : EntryMap
  pub levels : List Pair

-- the most bytes that the files of a ledger's levels have
abbrev pub max_file_total : ℕ
max_file_total = 536870912

-- a legal state, and levels that represent its entries and whose hash its header has
pub record IsClosingState (s : ClosingState) : Type 0 where
  pub legal : IsLegal s.header s.entries
  pub dated : AreDated s.header s.entries
  pub count : length s.levels ≡ level_count
  pub marked : AreWellMarked s.levels
  pub existing : Represent s.levels s.entries
  pub hash : list_hash s.levels ≡ s.header.bucket_list_hash
  -- all of it can be written
  pub header : IsEncoded ledger_header s.header
  pub entries : AreEncodable s.entries
  pub files : file_total s.levels ≤ max_file_total
