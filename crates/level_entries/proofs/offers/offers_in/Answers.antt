use Rattle.level_entries.proofs.Prelude.{◌≡◌, ◌-◌, ◌<◌, arith}
use Rattle.level_entries.proofs.Placing.{item_leaves, indexed_more, indexed_all}
use Rattle.level_entries.proofs.offers.offers_in.Goals as goal

pub with_item-requires : goal.with_item-requires
with_item-requires c =
    let row = c.args.row.now in
    let ahead = c.loop-ahead.ahead in
    let less : 0 < ahead = c.loop-ahead-test.true in
    item_leaves c.requires.0 row (ahead - 1) ahead c.index-row-ahead.result c.requires.1 (omega arith)
    (omega (arith, c.loop-ahead.invariant.within)) c.index-row-ahead.is

pub loop-ahead-preserved : goal.loop-ahead-preserved
loop-ahead-preserved c =
    let row = c.args.row.now in
    let ahead = c.loop-ahead.ahead in
    let less : 0 < ahead = c.loop-ahead-test.true in
    indexed_more c.requires.0 row (ahead - 1) ahead c.index-row-ahead.result c.requires.1 (omega arith)
    (omega (arith, c.loop-ahead.invariant.within)) c.index-row-ahead.is c.loop-ahead.index c.in_ok-index.index
    c.loop-ahead.invariant c.in_ok-index.ensures

pub returns : goal.returns
returns c m h =
    let none : c.loop-ahead.ahead ≡ 0 = omega (arith, c.loop-ahead-test.false) in
    indexed_all m c.args.row.now c.loop-ahead.index c.loop-ahead.ahead h none c.loop-ahead.invariant
