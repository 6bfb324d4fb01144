use Rattle.level_entries.proofs.Prelude.{ap, ◌∙◌}
use Rattle.bucket_items.proofs.RefOrder.{begins, seen_key, no_fault}
use Rattle.entry_map.specs.Indexes.{is_of_offer}
use Rattle.level_entries.proofs.offers.is_of_offer.Goals as goal

pub returns-in-Ok : goal.returns-in-Ok
returns-in-Ok c =
    let k = c.args.item.now.0 in
    c.is_offer_key.ensures
    ∙ ap is_of_offer (seen_key _ k c.in-Ok.key _ _ (begins _ k c.key.ensures) c.new-ahead.ensures c.in-Ok.ensures)

pub returns-in-Err : goal.returns-in-Err
returns-in-Err c =
    let k = c.args.item.now.0 in
    no_fault _ k _ _ (begins _ k c.key.ensures) c.new-ahead.ensures c.in-Err.ensures.0
