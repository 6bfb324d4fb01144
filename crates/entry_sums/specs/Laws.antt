-- How sums over entries, and what holds of each, change with one entry.
use Rattle.std.specs.Prelude.{◌≡◌, ◌≢◌, pos, ◌+ℤ◌, ◌≤ℤ◌, Some}
use Rattle.std.specs.FinMap.{get}
use Rattle.entry_map.specs.ledger_types.declared.entry.LedgerEntry.{LedgerEntry}
use Rattle.entry_map.specs.ledger_types.declared.key.LedgerKey.{LedgerKey}
use Rattle.entry_map.specs.ledger_types.Keys.{key_of}
use Rattle.entry_map.specs.EntryMap.{EntryMap, put, erase}
use Rattle.entry_sums.specs.Sums.{Weight, total, part, EachEntry}

abbrev pub PutAdds : Type 0
PutAdds = (f : Weight) (m : EntryMap) (e : LedgerEntry) → (total f (put m e) +ℤ part f (get m (key_of e)))
    ≡ (total f m +ℤ f e)

abbrev pub EraseTakes : Type 0
EraseTakes = (f : Weight) (m : EntryMap) (k : LedgerKey) → (total f (erase m k) +ℤ part f (get m k)) ≡ total f m

-- a weight that only one key's entry has
abbrev pub OnlyAtCounts : Type 0
OnlyAtCounts = (f : Weight) (m : EntryMap) (k : LedgerKey) → EachEntry (λ q e. q ≢ k → f e ≡ pos 0) m
    → total f m ≡ part f (get m k)

abbrev pub PartIsAtMost : Type 0
PartIsAtMost = (f : Weight) (m : EntryMap) (k : LedgerKey) (e : LedgerEntry) → EachEntry (λ q x. pos 0 ≤ℤ f x) m
    → get m k ≡ Some e → f e ≤ℤ total f m
