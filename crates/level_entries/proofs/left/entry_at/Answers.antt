use Rattle.level_entries.proofs.Prelude.{IfOk-weaker}
use Rattle.level_entries.proofs.Placing.{leaves_at, entry_of}
use Rattle.level_entries.proofs.left.entry_at.Goals as goal

pub left_entry-requires : goal.left_entry-requires
left_entry-requires c =
    leaves_at c.args.row.now c.args.index c.index-row-index.result c.requires.each c.requires.within
    c.index-row-index.is

pub returns : goal.returns
returns c = IfOk-weaker c.left_entry.result _ _ (λ e left.
    entry_of c.args.row.now c.args.index c.index-row-index.result e c.requires.each c.requires.within
    c.index-row-index.is left) c.left_entry.ensures
