use Rattle.std.proofs.Common.{subst}
use Rattle.entry_map.specs.EntryMap.{IsKeyed}
use Rattle.bucket_levels.proofs.Represented.{represents_view}
use Rattle.level_pages.proofs.stored_entries.StoredEntriesBase.find.Goals as goal

pub returns-clause-found : goal.returns-clause-found
returns-clause-found c =
    c.find_entry.ensures c.args.self.now
    (represents_view c.as_slice.result.now c.self.inside.pairs.items c.args.self.now c.as_slice.ensures.value
    c.self.view_is)

pub returns-clause-keyed : goal.returns-clause-keyed
returns-clause-keyed c = subst IsKeyed c.self.view_is c.self.invariant.index.keyed
