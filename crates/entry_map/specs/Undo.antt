-- A map with undo: a stack of earlier maps.
use Rattle.std.specs.Prelude.{◌≢◌, List, [], ◌∷◌, refl}
use Rattle.std.specs.Coded.{Coded, code_by, coded×, coded_list}
use Rattle.std.specs.FinMap.{code}
use Rattle.ledger_types.specs.contracts.key.LedgerKey as keys
use Rattle.ledger_types.specs.contracts.entry.LedgerEntry as entry
use Rattle.entry_map.specs.EntryMap.{EntryMap}

pub record Undo : Type 0 where
  -- what the map is now
  pub current : EntryMap
  -- what it was at each opened child, the newest first
  pub saved : List EntryMap
  -- what it was at first
  pub base : EntryMap

abbrev pub started : EntryMap → Undo
started m = record { current = m; saved = []; base = m }

abbrev pub with_current : Undo → EntryMap → Undo
with_current u m = record { current = m; saved = u.saved; base = u.base }

-- a child is open
abbrev pub IsOpen : Undo → Type 0
IsOpen u = u.saved ≢ []

-- a child is opened: the present map is what undoing it gives back
abbrev pub opened : Undo → Undo
opened u = record { current = u.current; saved = u.current ∷ u.saved; base = u.base }

-- the newest child is given up, and the map is what it was when the child was opened
abbrev pub undone : Undo → Undo
undone u = elim u.saved [ [] ↦ u | m ∷ ms ↦ record { current = m; saved = ms; base = u.base } ]

-- the newest child is kept, and the map stays
abbrev pub kept : Undo → Undo
kept u = elim u.saved [ [] ↦ u | m ∷ ms ↦ record { current = u.current; saved = ms; base = u.base } ]

-- a map is stored as its entries, and a map with undo as its parts
abbrev pub map_code : Coded EntryMap
map_code = code keys.the_row.coded entry.the_row.coded

abbrev pub undo_code : Coded Undo
undo_code =
    code_by (EntryMap × (List EntryMap × EntryMap)) (coded× map_code (coded× (coded_list map_code) map_code)) (λ u.
    (u.current, (u.saved, u.base)))
    (λ p. record { current = p.0; saved = p.1.0; base = p.1.1 }) (λ _. refl)
