use Rattle.entry_table.proofs.Prelude.{ap, sym, ◌∙◌, slice_set, stamped}
use Rattle.std.proofs.lemmas.List.Edits.{map_over_more}
use Rattle.entry_table.proofs.next.stamp.Goals as goal

pub loop-entry-preserved : goal.loop-entry-preserved
loop-entry-preserved c =
    ap (λ y. slice_set c.loop-entry.entry-items c.loop-entry.entry-index (stamped c.args.seq y)) (sym c.entry-item.is)
    ∙ map_over_more (stamped c.args.seq) c.args.entries.now c.loop-entry.entry-items c.loop-entry.entry-index
    c.entry-item.result c.loop-entry-test.true c.loop-entry.invariant c.entry-item.is
