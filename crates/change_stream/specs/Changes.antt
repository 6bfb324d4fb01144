-- Changes of a ledger's entries, and what it is to apply them.
use Rattle.std.specs.Prelude.{◌≡◌, ◌↔◌, ℕ, List, [], ◌∷◌, ◌++◌, zero, suc, map, Contains, Option, Some, None}
use Rattle.std.specs.FinMap.{get}
use Rattle.ledger_types.specs.declared.key.LedgerKey.{LedgerKey}
use Rattle.ledger_types.specs.declared.entry.LedgerEntry.{LedgerEntry}
use Rattle.ledger_types.specs.Keys.{key_of}
use Rattle.entry_map.specs.declared.batch.Batch.{Batch}
use Rattle.entry_map.specs.Batch.{IsBatch}
use Rattle.entry_map.specs.EntryMap.{EntryMap, put, erase}
use Rattle.entry_map.specs.KeyMaps.{AreRising}
use Rattle.change_stream.specs.declared.change.Change.{Change}
use Rattle.change_stream.specs.declared.change.Change.TheVariants.{Created, Updated, Removed}

-- the key that a change is of
abbrev pub key_in : Change → LedgerKey
key_in (Created a) = key_of a
key_in (Updated b a) = key_of b
key_in (Removed b) = key_of b

-- what there is under it after the change
abbrev pub result_of : Change → Option LedgerEntry
result_of (Created a) = Some a
result_of (Updated b a) = Some a
result_of (Removed b) = None

-- ---- one change

-- What there is under the key is the entry before, and none where one is created. The two of an update have one key.
abbrev pub Fits : EntryMap → Change → Type 0
Fits m (Created a) = get m (key_of a) ≡ None
Fits m (Updated b a) = (key_of a ≡ key_of b) × (get m (key_of b) ≡ Some b)
Fits m (Removed b) = get m (key_of b) ≡ Some b

-- the map after it
abbrev pub changed : EntryMap → Change → EntryMap
changed m (Created a) = put m a
changed m (Updated b a) = put m a
changed m (Removed b) = erase m (key_of b)

-- ---- a list of changes

-- each one fits the map that those before it made, and the last map is n
abbrev pub Applies : EntryMap → List Change → EntryMap → Type 0
Applies m [] n = m ≡ n
Applies m (c ∷ cs) n = Fits m c × Applies (changed m c) cs n

-- the change at this index is the first that doesn't fit
abbrev pub Misfits : EntryMap → List Change → ℕ → Type 0
Misfits m [] i = ⊥
Misfits m (c ∷ cs) zero = Fits m c → ⊥
Misfits m (c ∷ cs) (suc i) = Fits m c × Misfits (changed m c) cs i

-- ---- the other way round

abbrev pub inverse : Change → Change
inverse (Created a) = Removed a
inverse (Updated b a) = Updated a b
inverse (Removed b) = Created b

-- the inverse of each change, that of the last one first
abbrev pub reversed : List Change → List Change
reversed [] = []
reversed (c ∷ cs) = reversed cs ++ inverse c ∷ []

-- ---- the changes of a batch

-- a batch between this map and another one
abbrev pub IsBatchOver : EntryMap → Batch → Type 0
IsBatchOver base batch = (after : EntryMap) × IsBatch base after batch

-- a change of a batch over a base
abbrev pub IsChangeOf : EntryMap → Batch → Change → Type 0
IsChangeOf base batch (Created a) = Contains batch.init a
IsChangeOf base batch (Updated b a) =
    Contains batch.live a × (key_of a ≡ key_of b) × (get base (key_of b) ≡ Some b)
IsChangeOf base batch (Removed b) = Contains batch.dead (key_of b) × (get base (key_of b) ≡ Some b)

-- the changes of a batch, each once, in the order of keys
pub record AreChangesOf (base : EntryMap) (batch : Batch) (cs : List Change) : Type 0 where
  pub rise : AreRising (map key_in cs)
  pub each : (c : Change) → Contains cs c ↔ IsChangeOf base batch c
