-- The entries of a ledger as one finite map, from keys in their order to entries.
use Rattle.std.specs.Prelude.{◌≡◌, ◌≢◌, ⊤, Option, Some, None, IfSome}
use Rattle.std.specs.declared.cmp.Ordering.TheVariants.{Less, Greater}
use Rattle.std.specs.FinMap.{FinMap, get, insert, remove}
use Rattle.ledger_types.specs.declared.key.LedgerKey.{LedgerKey}
use Rattle.ledger_types.specs.declared.entry.LedgerEntry.{LedgerEntry}
use Rattle.ledger_types.specs.KeyOrder.{key_cmp}
use Rattle.ledger_types.specs.Keys.{key_of}

abbrev pub EntryMap : Type 0
EntryMap = FinMap key_cmp LedgerEntry

-- each entry is under its own key
abbrev pub IsKeyed : EntryMap → Type 0
IsKeyed m = (k : LedgerKey) → IfSome (get m k) (λ e. key_of e ≡ k)

-- the map with an entry under its key
abbrev pub put : EntryMap → LedgerEntry → EntryMap
put m e = insert m (key_of e) e

-- the map without what is under a key
abbrev pub erase : EntryMap → LedgerKey → EntryMap
erase m k = remove m k

-- the entry with the least key above k
pub record IsLeastAbove (m : EntryMap) (k : LedgerKey) (e : LedgerEntry) : Type 0 where
  pub there : get m (key_of e) ≡ Some e
  pub above : key_cmp k (key_of e) ≡ Less
  pub least : (q : LedgerKey) → key_cmp k q ≡ Less → get m q ≢ None → key_cmp (key_of e) q ≢ Greater

-- what comes next in the order of keys: none where no key above k has an entry
abbrev pub IsNextAfter : EntryMap → LedgerKey → Option LedgerEntry → Type 0
IsNextAfter m k None = (q : LedgerKey) → key_cmp k q ≡ Less → get m q ≡ None
IsNextAfter m k (Some e) = IsLeastAbove m k e

-- a key is at most a last one, if there is a last one
abbrev pub IsUpTo : Option LedgerKey → LedgerKey → Type 0
IsUpTo None q = ⊤
IsUpTo (Some last) q = key_cmp q last ≢ Greater

-- what comes next in the order of keys, as far as a last key: none where no key above k and up to that has an entry
abbrev pub IsNextUpTo : EntryMap → LedgerKey → Option LedgerKey → Option LedgerEntry → Type 0
IsNextUpTo m k last None = (q : LedgerKey) → key_cmp k q ≡ Less → IsUpTo last q → get m q ≡ None
IsNextUpTo m k last (Some e) = IsLeastAbove m k e
