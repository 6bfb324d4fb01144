use Rattle.level_entries.proofs.Prelude.{map, sym, subst, from_entries, with_key, pair_of, files_of, entries_in}
use Rattle.level_entries.proofs.Prelude.{ArePlaced}
use Rattle.bucket_levels.specs.Meaning.{entries_of}
use Rattle.bucket_levels.proofs.Represented.{one_map}
use Rattle.level_entries.proofs.LeftEntries.{represents}
use Rattle.level_entries.proofs.Placing.{placed_of}
use Rattle.level_entries.proofs.placed.PlacedEntries.new.Goals as goal

pub invariant_of-result : goal.invariant_of-result
invariant_of-result c =
    let levels = map pair_of c.args.pairs.now in
    let row = c.args.row.now in
    subst (ArePlaced (entries_of levels)) (sym c.in_ok-items.ensures)
    (placed_of (files_of levels) row (entries_of levels) c.requires
    (one_map levels (from_entries (map with_key (entries_in row))) (represents levels row c.requires)))
