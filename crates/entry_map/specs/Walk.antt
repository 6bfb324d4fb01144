-- The next key that a base has or that layers over it changed, and where a walk is.
use Rattle.std.specs.Prelude.{◌≡◌, false, cond, ◌||◌, List, Option, Some, None, refl}
use Rattle.std.specs.Coded.{Coded, code_by, coded×}
use Rattle.std.specs.FinMap.{get, contains_key}
use Rattle.ledger_types.specs.declared.key.LedgerKey.{LedgerKey}
use Rattle.std.specs.Ordering.{is_gt}
use Rattle.std.specs.declared.cmp.Ordering.TheVariants.{Less}
use Rattle.ledger_types.specs.KeyOrder.{key_cmp}
use Rattle.ledger_types.specs.Keys.{key_of}
use Rattle.ledger_types.specs.contracts.key.LedgerKey as keys
use Rattle.entry_map.specs.declared.walk.Known.{Known}
use Rattle.entry_map.specs.declared.walk.Known.TheVariants.{Kept, Changed}
use Rattle.entry_map.specs.EntryMap.{EntryMap, IsUpTo}
use Rattle.entry_map.specs.Layers.{LayerMap, under, under_one, is_changed, is_known, IsNextKey}
use Rattle.entry_map.specs.Undo.{map_code}

-- a key that is at most a last one
abbrev pub up_to : Option LedgerKey → Option LedgerKey → Option LedgerKey
up_to None last = None
up_to (Some k) None = Some k
up_to (Some k) (Some last) = cond (is_gt (key_cmp k last)) None (Some k)

-- what is next, as far as a last key, is an entry that no layer changed, or a changed key, or nothing
abbrev pub IsNextKnown : EntryMap → List LayerMap → LayerMap → LedgerKey → Option LedgerKey → Option Known → Type 0
IsNextKnown m ls top k last None =
    (q : LedgerKey) → key_cmp k q ≡ Less → IsUpTo last q → is_known m ls top q ≡ false
IsNextKnown m ls top k last (Some (Changed least)) = IsNextKey (is_known m ls top) k (Some least)
IsNextKnown m ls top k last (Some (Kept e)) =
    IsNextKey (is_known m ls top) k (Some (key_of e)) × (get (under_one (under m ls) top) (key_of e) ≡ Some e)
    × ((contains_key top (key_of e) || is_changed ls (key_of e)) ≡ false)

-- where a walk over entries is: the map, the key that it came to, and the last one
pub record WalkAt : Type 0 where
  pub entries : EntryMap
  pub at : LedgerKey
  pub last : LedgerKey

abbrev pub walk_code : Coded WalkAt
walk_code = code_by (EntryMap × (LedgerKey × LedgerKey))
    (coded× map_code (coded× keys.the_row.coded keys.the_row.coded)) (λ w. (w.entries, (w.at, w.last)))
    (λ (m, keys). record { entries = m; at = keys.0; last = keys.1 }) (λ _. refl)
