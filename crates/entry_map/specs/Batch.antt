-- What changed between two maps.
use Rattle.std.specs.Prelude.{◌≡◌, ◌≢◌, ◌↔◌, Option, Some, None, Contains, map}
use Rattle.std.specs.FinMap.{get}
use Rattle.ledger_types.specs.declared.key.LedgerKey.{LedgerKey}
use Rattle.ledger_types.specs.declared.entry.LedgerEntry.{LedgerEntry}
use Rattle.ledger_types.specs.declared.entry.LedgerEntryBody.{LedgerEntryBody}
use Rattle.ledger_types.specs.declared.entry.LedgerEntryExtensionV1.{LedgerEntryExtensionV1}
use Rattle.ledger_types.specs.Keys.{key_of}
use Rattle.entry_map.specs.declared.batch.Batch.{Batch}
use Rattle.entry_map.specs.EntryMap.{EntryMap}
pub use Rattle.entry_map.specs.KeyMaps.{AreRising}

-- what of an entry counts as its state: not the ledger of its last change
abbrev pub parts_of : LedgerEntry → LedgerEntryBody × Option LedgerEntryExtensionV1
parts_of e = (e.body, e.ext)

-- an entry that was not there
abbrev pub IsNew : EntryMap → EntryMap → LedgerEntry → Type 0
IsNew before after e = (get after (key_of e) ≡ Some e) × (get before (key_of e) ≡ None)

-- an entry whose body or extension is another than it was
abbrev pub IsChanged : EntryMap → EntryMap → LedgerEntry → Type 0
IsChanged before after e =
    (get after (key_of e) ≡ Some e) × ((old : LedgerEntry) × (get before (key_of e) ≡ Some old)
    × (parts_of old ≢ parts_of e))

-- a key that has no entry any more
abbrev pub IsGone : EntryMap → EntryMap → LedgerKey → Type 0
IsGone before after k = (get before k ≢ None) × (get after k ≡ None)

-- Exactly the new entries, the changed ones and the keys that are gone, each in the order of keys. An entry that was
-- put back as it was, but for the ledger of its last change, is in none of them.
pub record IsBatch (before after : EntryMap) (batch : Batch) : Type 0 where
  pub init_rises : AreRising (map key_of batch.init)
  pub init : (e : LedgerEntry) → Contains batch.init e ↔ IsNew before after e
  pub live_rises : AreRising (map key_of batch.live)
  pub live : (e : LedgerEntry) → Contains batch.live e ↔ IsChanged before after e
  pub dead_rises : AreRising batch.dead
  pub dead : (k : LedgerKey) → Contains batch.dead k ↔ IsGone before after k
