use Rattle.bucket_items.proofs.Prelude.{sym}
use Rattle.bucket_items.proofs.Marking.{marked_same, item_is_read, shown_itself}
use Rattle.bucket_items.proofs.marked_item.read_marked_item.Goals as goal

pub returns : goal.returns
returns c =
    let inner = c.in_ok-inner.inner in
    let text = c.in_ok-text.text.now in
    let same = marked_same c.args.cursor.now c.fork-ahead.result c.fork.result _ _ text inner
    c.fork-ahead.ensures c.fork.ensures c.in_ok-text.ensures c.in_ok-inner.ensures.reads in (
      c.in_ok-entry.entry,
      item_is_read c.args.cursor.now c.fork-ahead.result c.fork.result _ _ text inner c.in_ok-entry.entry
          c.fork-ahead.ensures c.fork.ensures c.in_ok-text.ensures c.in_ok-inner.ensures.reads
          c.in_ok-inner.ensures.inserted c.in_ok-entry.ensures,
      shown_itself c.item_of.result text c.in_ok-entry.entry
          (c.item_of.ensures inner c.in_ok-entry.entry same c.in_ok-entry.ensures (sym c.type_of.ensures)),
    )
