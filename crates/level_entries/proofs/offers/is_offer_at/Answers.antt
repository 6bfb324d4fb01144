use Rattle.level_entries.proofs.Prelude.{◌∙◌, sym}
use Rattle.level_entries.proofs.Placing.{leaves_at, entry_of}
use Rattle.level_entries.proofs.Offered.{leaves_offer}
use Rattle.level_entries.proofs.offers.is_offer_at.Goals as goal

pub returns : goal.returns
returns c e at =
    let row = c.args.row.now in
    let item = c.index-row-index.result in
    let leaves = leaves_at row c.args.index item c.requires.each c.requires.within c.index-row-index.is in
    let left = entry_of row c.args.index item leaves.entry c.requires.each c.requires.within c.index-row-index.is
    leaves.left in
    c.is_of_offer.ensures ∙ leaves_offer item e leaves (cc (leaves.left, left, at))
