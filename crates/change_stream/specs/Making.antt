-- The changes of a batch before they are put in the order of their keys.
use Rattle.std.specs.Prelude.{◌≡◌, ◌⊎◌, List, [], ◌++◌, map, option_map, Option}
use Rattle.std.specs.FinMap.{get}
use Rattle.std.specs.List.{filter_map}
use Rattle.std.specs.List.Sorted.{IsPermutation, IsSortedBy}
use Rattle.std.specs.Ordering.{is_lt}
use Rattle.ledger_types.specs.declared.key.LedgerKey.{LedgerKey}
use Rattle.ledger_types.specs.declared.entry.LedgerEntry.{LedgerEntry}
use Rattle.ledger_types.specs.Keys.{key_of}
use Rattle.ledger_types.specs.KeyOrder.{key_cmp}
use Rattle.entry_map.specs.declared.batch.Batch.{Batch}
use Rattle.entry_map.specs.EntryMap.{EntryMap, IsKeyed}
use Rattle.change_stream.specs.declared.change.Change.{Change}
use Rattle.change_stream.specs.declared.change.Change.TheVariants.{Created, Updated, Removed}
use Rattle.change_stream.specs.declared.sorting.KeyedChange.{KeyedChange}
use Rattle.change_stream.specs.Changes.{key_in}

abbrev pub keyed : Change → KeyedChange
keyed c = record { key = key_in c; change = c }

abbrev pub creation : LedgerEntry → KeyedChange
creation a = keyed (Created a)

-- the update of a base's entry to an entry
abbrev pub update_in : EntryMap → LedgerEntry → Option KeyedChange
update_in base a = option_map (λ b. keyed (Updated b a)) (get base (key_of a))

-- the removal of a base's entry
abbrev pub removal_in : EntryMap → LedgerKey → Option KeyedChange
removal_in base k = option_map (λ b. keyed (Removed b)) (get base k)

-- all changes of a batch
abbrev pub unsorted : EntryMap → Batch → List KeyedChange
unsorted base batch =
    (map creation batch.init ++ filter_map (update_in base) batch.live) ++ filter_map (removal_in base) batch.dead

-- each entry of the base is under its own key, where the base was asked for any
abbrev pub IsKeyedFor : {X : Type 0} → EntryMap → List X → Type 0
IsKeyedFor base xs = (xs ≡ []) ⊎ IsKeyed base

-- the same changes in the order of the keys beside them
pub record AreSorted (all : List KeyedChange) (changes : List Change) : Type 0 where
  pub keyed : List KeyedChange
  pub same : IsPermutation all keyed
  pub sorted : IsSortedBy (λ a b. is_lt (key_cmp a.key b.key)) keyed
  pub without : changes ≡ map (λ k. k.change) keyed
