use Rattle.std.proofs.Common.{map, sym, subst}
use Rattle.entry_map.specs.EntryMap.{EntryMap}
use Rattle.bucket_levels.specs.Levels.{pair_of}
use Rattle.level_pages.specs.Represented.{AreCounted}
use Rattle.bucket_levels.proofs.Represented.{one_map}
use Rattle.level_pages.proofs.stored_entries.StoredEntries.new.Goals as goal

pub invariant_of-result : goal.invariant_of-result
invariant_of-result c =
    subst (λ (m : EntryMap). AreCounted m c.args.offers c.args.len)
    (sym (one_map (map pair_of c.args.pairs.items) c.requires.0 c.requires.1)) c.requires.2

pub returns : goal.returns
returns c = λ m represent. one_map (map pair_of c.args.pairs.items) m represent
