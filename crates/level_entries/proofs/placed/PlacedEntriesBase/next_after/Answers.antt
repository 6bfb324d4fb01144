use Rattle.level_entries.proofs.Prelude.{refl, subst}
use Rattle.entry_map.specs.EntryMap.{IsKeyed}
use Rattle.bucket_levels.proofs.Represented.{represents_view}
use Rattle.level_entries.proofs.Placing.{placed_keyed}
use Rattle.level_entries.proofs.placed.PlacedEntriesBase.next_after.Goals as goal

pub returns-clause-next : goal.returns-clause-next
returns-clause-next c =
    c.next_entry.ensures c.args.self.now
    (represents_view c.self.inside.pairs.now c.self.inside.pairs.now c.args.self.now refl c.self.view_is)

pub returns-clause-keyed : goal.returns-clause-keyed
returns-clause-keyed c = subst IsKeyed c.self.view_is (placed_keyed _ c.self.inside.items.items c.self.invariant)
