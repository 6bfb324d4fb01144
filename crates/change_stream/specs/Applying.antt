-- What a caller that applies changes learns.
use Rattle.std.specs.Prelude.{◌≡◌, ℕ, List, take, Result, Ok, Err, Some, None}
use Rattle.std.specs.FinMap.{get}
use Rattle.ledger_types.specs.declared.entry.LedgerEntry.{LedgerEntry}
use Rattle.ledger_types.specs.Keys.{key_of}
use Rattle.entry_map.specs.EntryMap.{EntryMap}
use Rattle.entry_map.specs.Undo.{Undo, with_current}
use Rattle.change_stream.specs.declared.change.Change.{Change}
use Rattle.change_stream.specs.declared.fault.StreamFault.{StreamFault}
use Rattle.change_stream.specs.declared.fault.StreamFault.TheVariants as fault
use Rattle.change_stream.specs.Changes.{changed, Applies, Misfits}

abbrev pub Exists : EntryMap → LedgerEntry → Type 0
Exists m e = get m (key_of e) ≡ Some e

abbrev pub IsFree : EntryMap → LedgerEntry → Type 0
IsFree m e = get m (key_of e) ≡ None

abbrev pub HaveOneKey : LedgerEntry → LedgerEntry → Type 0
HaveOneKey a b = key_of a ≡ key_of b

abbrev pub IsMade : Undo → Change → Undo → Type 0
IsMade old c new = new ≡ with_current old (changed old.current c)

-- all changes were applied
pub record IsApplied (old : Undo) (cs : List Change) (new : Undo) : Type 0 where
  pub map : EntryMap
  pub applied : Applies old.current cs map
  pub current : new ≡ with_current old map

-- those before the first that doesn't fit were applied
pub record IsStopped (old : Undo) (cs : List Change) (i : ℕ) (new : Undo) : Type 0 where
  pub map : EntryMap
  pub misfits : Misfits old.current cs i
  pub current : new ≡ with_current old map

abbrev pub AreMade : Undo → List Change → Result (Unit {0}) StreamFault → Undo → Type 0
AreMade old cs (Ok x) new = IsApplied old cs new
AreMade old cs (Err (fault.Mismatch i)) new = IsStopped old cs i new
AreMade old cs (Err fault.NoMemory) new = Unit {0}

-- All were applied; or the first that doesn't fit is named, and the map is as it was. Want of memory says nothing.
abbrev pub AreApplied : Undo → List Change → Result (Unit {0}) StreamFault → Undo → Type 0
AreApplied old cs (Ok x) new = IsApplied old cs new
AreApplied old cs (Err (fault.Mismatch i)) new = Misfits old.current cs i × (new ≡ old)
AreApplied old cs (Err fault.NoMemory) new = Unit {0}

-- this many of the changes were made
pub record AreMadeSoFar (old : Undo) (cs : List Change) (done counted : ℕ) (now : Undo) : Type 0 where
  pub index : counted ≡ done
  pub applied : Applies old.current (take done cs) now.current
  pub current : now ≡ with_current old now.current
