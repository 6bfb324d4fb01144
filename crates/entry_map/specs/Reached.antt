-- The entry that a walk comes to.
use Rattle.std.specs.Prelude.{◌||◌, List, Option, Some, None}
use Rattle.std.specs.Option.{option_copied}
use Rattle.std.specs.FinMap.{contains_key}
use Rattle.ledger_types.specs.declared.key.LedgerKey.{LedgerKey}
use Rattle.ledger_types.specs.Keys.{key_of}
use Rattle.entry_map.specs.declared.walk.Reached.{Reached}
use Rattle.entry_map.specs.EntryMap.{EntryMap, IsLeastAbove, IsNextUpTo}
use Rattle.entry_map.specs.Layers.{LayerMap, under, under_one, is_changed, IsNextKey}

-- it is the next entry above a key, as far as a last one, with the next key above its own that the layers changed
abbrev pub IsReached : EntryMap → List LayerMap → LayerMap → LedgerKey → Option LedgerKey → Option Reached → Type 0
IsReached m ls top k last None = IsNextUpTo (under_one (under m ls) top) k last None
IsReached m ls top k last (Some r) =
    IsLeastAbove (under_one (under m ls) top) k r.entry
    × IsNextKey (λ q. contains_key top q || is_changed ls q) (key_of r.entry) (option_copied r.ahead)
