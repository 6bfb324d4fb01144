use Rattle.entry_table.proofs.Prelude.{ap, ◌∙◌, map, stamped}
use Rattle.entry_table.proofs.Tables.{prefix_is}
use Rattle.entry_table.proofs.next.stamp_list.Goals as goal

pub returns : goal.returns
returns c = prefix_is (stamped c.args.seq) c.args.entries.now c.stamp.new.entries
    (c.stamp.ensures ∙ ap (map (stamped c.args.seq)) c.as_mut_slice.ensures.value)
