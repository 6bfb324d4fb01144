-- What the levels represent: of each key, what the newest file says that says something of it.
use Rattle.std.specs.Prelude.{◌≡◌, List, [], ◌∷◌, Option, Some, None}
use Rattle.std.specs.List.{flat_map}
use Rattle.std.specs.FinMap.{empty, entries, get, insert, remove}
use Rattle.ledger_types.specs.declared.entry.LedgerEntry.{LedgerEntry}
use Rattle.ledger_types.specs.declared.key.LedgerKey.{LedgerKey}
use Rattle.entry_map.specs.EntryMap.{EntryMap}
use Rattle.bucket_core.specs.Bucket.{Change, Init, Live, Dead, Contents, change_at}
use Rattle.bucket_levels.specs.Pairs.{Pair, pair_at}

-- all files, from the newest to the oldest
abbrev pub files_of : List Pair → List Contents
files_of pairs = flat_map (λ pair. pair.curr ∷ pair.snap ∷ []) pairs

-- what a file says of a key, before what older ones say
abbrev pub prepended : Option Change → List Change → List Change
prepended None older = older
prepended (Some change) older = change ∷ older

-- what files say of a key, the newest first
unfoldable pub changes_of : List Contents → LedgerKey → List Change
changes_of [] k = []
changes_of (contents ∷ older) k = prepended (change_at contents k) (changes_of older k)

-- ---- the map

-- the entry that a change leaves, if it leaves one
abbrev pub entry_after : Change → Option LedgerEntry
entry_after (Init entry) = Some entry
entry_after (Live entry) = Some entry
entry_after Dead = None

abbrev pub entry_by : List Change → Option LedgerEntry
entry_by [] = None
entry_by (newest ∷ older) = entry_after newest

-- the entry under each key is that of the newest change
abbrev pub Represent : List Pair → EntryMap → Type 0
Represent pairs m = (k : LedgerKey) → get m k ≡ entry_by (changes_of (files_of pairs) k)

-- the map that files represent, made of it: the entries of the older files, with what the newest says of its keys

abbrev pub changed : EntryMap → LedgerKey × Change → EntryMap
changed m (k, Init entry) = insert m k entry
changed m (k, Live entry) = insert m k entry
changed m (k, Dead) = remove m k

abbrev pub all_changed : EntryMap → List (LedgerKey × Change) → EntryMap
all_changed m [] = m
all_changed m (x ∷ xs) = changed (all_changed m xs) x

unfoldable pub entries_in : List Contents → EntryMap
entries_in [] = empty
entries_in (None ∷ older) = entries_in older
entries_in (Some filled ∷ older) = all_changed (entries_in older) (entries filled.changes)

abbrev pub entries_of : List Pair → EntryMap
entries_of pairs = entries_in (files_of pairs)

-- ---- what may follow what

-- INIT may follow DEAD or nothing, LIVE anything but DEAD, and DEAD anything but DEAD; the list has the newest first.
abbrev pub MayFollow : Change → List Change → Type 0
MayFollow (Init entry) [] = Unit {0}
MayFollow (Init entry) (Dead ∷ older) = Unit {0}
MayFollow (Init entry) (other ∷ older) = ⊥
MayFollow (Live entry) (Dead ∷ older) = ⊥
MayFollow (Live entry) other = Unit {0}
MayFollow Dead (Dead ∷ older) = ⊥
MayFollow Dead other = Unit {0}

unfoldable pub AreMarkedWell : List Change → Type 0
AreMarkedWell [] = Unit {0}
AreMarkedWell (change ∷ older) = MayFollow change older × AreMarkedWell older

-- of each key, and the deepest level has no snap
pub record AreWellMarked (pairs : List Pair) : Type 0 where
  pub marks : (k : LedgerKey) → AreMarkedWell (changes_of (files_of pairs) k)
  pub deepest : (pair_at pairs 10).snap ≡ None
