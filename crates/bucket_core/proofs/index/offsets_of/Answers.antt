use Rattle.std.proofs.Common.{◌∙◌, sym, ap}
use Rattle.bucket_core.proofs.Indexing.{starts, goes_on, ends, IsOnWay}
use Rattle.std.proofs.Common.{subst, ◌++◌}
use Rattle.bucket_core.specs.Index.{offsets_by}
use Rattle.bucket_core.proofs.index.offsets_of.Goals as goal

pub loop-item-init : goal.loop-item-init
loop-item-init c = (
  starts c.args.file.now c.new-ahead.result c.new-offsets.result.items c.requires c.new-ahead.ensures
      c.new-offsets.ensures.items,
  c.at-at.ensures,
)

pub loop-item-smaller : goal.loop-item-smaller
loop-item-smaller c =
    (goes_on c.args.file.now c.loop-item.ahead c.next_item.new.cursor c.loop-item.offsets.items c.in-Some.item
    c.loop-item.invariant.0 c.in-Some.ensures.item c.in-Some.ensures.end).shorter

pub loop-item-preserved : goal.loop-item-preserved
loop-item-preserved c = (
  subst (IsOnWay c.args.file.now c.next_item.new.cursor)
      (ap (λ at. c.loop-item.offsets.items ++ offsets_by c.in-Some.item.mark at) (sym c.loop-item.invariant.1)
      ∙ sym c.in_ok-push_offset.ensures)
      (goes_on c.args.file.now c.loop-item.ahead c.next_item.new.cursor c.loop-item.offsets.items c.in-Some.item
      c.loop-item.invariant.0 c.in-Some.ensures.item c.in-Some.ensures.end).goes,
  c.at-at-in-Some.ensures,
)

pub returns : goal.returns
returns c =
    ends c.args.file.now c.loop-item.ahead c.next_item.new.cursor c.loop-item.offsets.items c.next_item.result
    c.loop-item.invariant.0 c.next_item.ensures.item c.next_item.ensures.end c.in_default.is
