use Rattle.level_entries.proofs.Prelude.{◌∙◌, ap, subst, length, EntryMap}
use Rattle.std.specs.FinMap.{entries}
use Rattle.entry_map.specs.EntryMap.{IsKeyed}
use Rattle.level_entries.proofs.Placing.{counted, placed_keyed}
use Rattle.level_entries.proofs.placed.PlacedEntries.len.Goals as goal

pub returns-clause-count : goal.returns-clause-count
returns-clause-count c =
    ap length c.as_slice.ensures.value
    ∙ counted _ c.self.inside.items.items c.self.invariant ∙ ap (λ (m : EntryMap). length (entries m)) c.self.view_is

pub returns-clause-keyed : goal.returns-clause-keyed
returns-clause-keyed c = subst IsKeyed c.self.view_is (placed_keyed _ c.self.inside.items.items c.self.invariant)
