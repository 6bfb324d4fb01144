use Rattle.level_entries.proofs.Prelude.{arith, ◌∙◌}
use Rattle.std.proofs.lemmas.List.{take_all}
use Rattle.bucket_core.specs.Index.{rows}
use Rattle.level_entries.proofs.FileRows.{one_more, file_row_is}
use Rattle.level_entries.proofs.file_row.file_row.Goals as goal

pub loop-index-preserved : goal.loop-index-preserved
loop-index-preserved c =
    one_more (rows c.args.bucket.now) c.loop-index.index c.item.result c.loop-index.row.items c.push.new.self.items
    c.in_ok-push.ensures.items c.loop-index.invariant c.item.ensures

pub returns : goal.returns
returns c =
    let all = rows c.args.bucket.now in
    file_row_is c.args.bucket.now c.loop-index.row.items c.has_file.ensures
    (c.loop-index.invariant ∙ take_all c.loop-index.index all (omega (arith, c.len-index-end.ensures)))
