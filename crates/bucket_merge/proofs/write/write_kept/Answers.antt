use Rattle.bucket_merge.proofs.Prelude.{sym, ◌∙◌, item_of, kept}
use Rattle.bucket_merge.proofs.Writing.{dropped_is, kept_is, grew_by_none, grew_by_change}
use Rattle.bucket_merge.proofs.write.write_kept.Goals as goal

pub put_item-requires : goal.put_item-requires
put_item-requires c =
    let t = c.requires.2 in
    (item_of (c.requires.0, c.requires.1), t.shown, t.encoded)

pub returns-then-is_dropped : goal.returns-then-is_dropped
returns-then-is_dropped c = λ k d t.
    grew_by_none k (kept c.args.level d) c.args.file.now.items
    (dropped_is c.args.level c.args.item.now k d t (sym c.is_dropped.ensures ∙ c.if-is_dropped.true))

pub returns : goal.returns
returns c = λ k d t.
    grew_by_change c.put_item.result c.put_item.new.file.items c.args.file.now.items k (kept c.args.level d) d
    (kept_is c.args.level c.args.item.now k d t (sym c.is_dropped.ensures ∙ c.if-is_dropped.false))
    (c.put_item.ensures (item_of (k, d)) t.shown)
