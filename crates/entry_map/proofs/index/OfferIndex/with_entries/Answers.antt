use Rattle.entry_map.proofs.Building.{more_entries, all_entries_in, no_offers_in}
use Rattle.entry_map.proofs.index.OfferIndex.with_entries.Goals as goal

pub loop-entry-init : goal.loop-entry-init
loop-entry-init c = no_offers_in c.args.self.now c.in_ok-index.index c.in_ok-index.ensures

pub loop-entry-preserved : goal.loop-entry-preserved
loop-entry-preserved c = more_entries c.args.entries.now c.loop-entry.entry-index c.entry-item.result c.args.self.now
    c.loop-entry.index c.in_ok-index-2.index c.loop-entry-test.true c.entry-item.is c.in_ok-index-2.ensures.value
    c.loop-entry.invariant

pub returns : goal.returns
returns c = all_entries_in c.args.entries.now c.loop-entry.entry-index c.args.self.now c.loop-entry.index
    c.loop-entry-test.false c.loop-entry.invariant
