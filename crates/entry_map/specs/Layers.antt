-- Layers of changes over a map.
use Rattle.std.specs.Prelude.{◌≡◌, ◌≢◌, Bool, true, false, cond, ◌||◌, Option, Some, None, List, [], ◌∷◌}
use Rattle.std.specs.Option.{option_or}
use Rattle.std.specs.Ordering.{is_lt}
use Rattle.std.specs.declared.cmp.Ordering.TheVariants.{Less, Greater}
use Rattle.std.specs.FinMap.{FinMap, get, insert, remove, contains_key, entries}
use Rattle.ledger_types.specs.declared.key.LedgerKey.{LedgerKey}
use Rattle.ledger_types.specs.declared.entry.LedgerEntry.{LedgerEntry}
use Rattle.ledger_types.specs.Keys.{key_of}
use Rattle.ledger_types.specs.KeyOrder.{key_cmp}
use Rattle.entry_map.specs.EntryMap.{EntryMap}
use Rattle.entry_map.specs.Undo.{Undo}

-- what keys were changed to: an entry, or none where it was erased
abbrev pub LayerMap : Type 0
LayerMap = FinMap key_cmp (Option LedgerEntry)

-- each entry is under its own key
abbrev pub IsKeyedLayer : LayerMap → Type 0
IsKeyedLayer l = (k : LedgerKey) (e : LedgerEntry) → get l k ≡ Some (Some e) → key_of e ≡ k

-- ---- maps under layers

abbrev pub with_changes : EntryMap → List (LedgerKey × Option LedgerEntry) → EntryMap
with_changes m [] = m
with_changes m ((k, Some e) ∷ cs) = insert (with_changes m cs) k e
with_changes m ((k, None) ∷ cs) = remove (with_changes m cs) k

-- the map with a layer's changes
abbrev pub under_one : EntryMap → LayerMap → EntryMap
under_one m l = with_changes m (entries l)

-- the map with the changes of layers, the oldest first
abbrev pub under : EntryMap → List LayerMap → EntryMap
under m [] = m
under m (l ∷ ls) = under (under_one m l) ls

-- the maps under each of the layers, the newest first, before some earlier ones
abbrev pub each_under : EntryMap → List EntryMap → List LayerMap → List EntryMap
each_under m earlier [] = earlier
each_under m earlier (l ∷ ls) = each_under (under_one m l) (under_one m l ∷ earlier) ls

-- what a base under layers is, of which the last is open
abbrev pub undo_of : EntryMap → List LayerMap → LayerMap → Undo
undo_of m ls top = record { current = under_one (under m ls) top; saved = each_under m [] ls; base = m }

-- what the newest of the layers that changed a key changed it to
abbrev pub change_of : List LayerMap → LedgerKey → Option (Option LedgerEntry)
change_of [] q = None
change_of (l ∷ ls) q = option_or (change_of ls q) (get l q)

-- what a key was changed to, the open layer first
abbrev pub newest_change : List LayerMap → LayerMap → LedgerKey → Option (Option LedgerEntry)
newest_change ls top q = option_or (get top q) (change_of ls q)

-- whether one of the layers changed a key
abbrev pub is_changed : List LayerMap → LedgerKey → Bool
is_changed [] q = false
is_changed (l ∷ ls) q = contains_key l q || is_changed ls q

-- whether the base has a key, or one of the layers changed it
abbrev pub is_known : EntryMap → List LayerMap → LayerMap → LedgerKey → Bool
is_known m ls top q = contains_key m q || (contains_key top q || is_changed ls q)

-- ---- the next key that passes a test

pub record IsLeastKey (passes : LedgerKey → Bool) (k least : LedgerKey) : Type 0 where
  pub there : passes least ≡ true
  pub above : key_cmp k least ≡ Less
  pub least_of : (q : LedgerKey) → key_cmp k q ≡ Less → passes q ≡ true → key_cmp least q ≢ Greater

-- the least key above k that passes, or none where no key above k does
abbrev pub IsNextKey : (LedgerKey → Bool) → LedgerKey → Option LedgerKey → Type 0
IsNextKey passes k None = (q : LedgerKey) → key_cmp k q ≡ Less → passes q ≡ false
IsNextKey passes k (Some least) = IsLeastKey passes k least

abbrev pub lesser_of : Option LedgerKey → Option LedgerKey → Option LedgerKey
lesser_of None other = other
lesser_of (Some a) None = Some a
lesser_of (Some a) (Some b) = cond (is_lt (key_cmp b a)) (Some b) (Some a)
