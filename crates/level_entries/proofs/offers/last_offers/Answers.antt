use Rattle.level_entries.proofs.Prelude.{◌-◌, ◌<◌, sym, ap, subst, ◌∙◌, arith}
use Rattle.entry_map.specs.Indexes.{PositionMap, index_of}
use Rattle.entry_map.proofs.Building.{index_of_none}
use Rattle.level_entries.specs.Placed.{IsIndexFrom}
use Rattle.level_entries.proofs.Placing.{item_leaves, indexed_none, indexed_more}
use Rattle.level_entries.proofs.offers.last_offers.Goals as goal

pub loop-ahead-init : goal.loop-ahead-init
loop-ahead-init c =
    indexed_none c.args.row.now (index_of c.new-offers.result.items)
    (index_of_none c.new-offers.result.items c.new-offers.ensures.items)

pub push_offer_in-requires : goal.push_offer_in-requires
push_offer_in-requires c =
    let row = c.args.row.now in
    let ahead = c.loop-ahead.ahead in
    let less : 0 < ahead = c.loop-ahead-test.true in
    item_leaves c.requires.0 row (ahead - 1) ahead c.index-row-ahead.result c.requires.1 (omega arith)
    (omega (arith, c.loop-ahead.invariant.within)) c.index-row-ahead.is

pub loop-ahead-preserved : goal.loop-ahead-preserved
loop-ahead-preserved c =
    let row = c.args.row.now in
    let ahead = c.loop-ahead.ahead in
    let less : 0 < ahead = c.loop-ahead-test.true in
    indexed_more c.requires.0 row (ahead - 1) ahead c.index-row-ahead.result c.requires.1 (omega arith)
    (omega (arith, c.loop-ahead.invariant.within)) c.index-row-ahead.is (index_of c.loop-ahead.offers.items)
    (index_of c.push_offer_in.new.offers.items) c.loop-ahead.invariant c.in_ok-push_offer_in.ensures

pub returns : goal.returns
returns c =
    subst (λ (offers : PositionMap). IsIndexFrom c.args.row.now offers c.loop-ahead.ahead)
    (sym (c.in_ok-index.ensures ∙ ap index_of c.as_slice.ensures.value)) c.loop-ahead.invariant
