use Rattle.image_rules.proofs.Prelude.{on_ok_weaker, pos, for_key, buys}
use Rattle.image_rules.proofs.Counting.{added_as}
use Rattle.image_rules.proofs.Naming.{bought_at}
use Rattle.image_rules.proofs.aggregates.add_bought.Goals as goal

pub returns-in-Offer : goal.returns-in-Offer
returns-in-Offer c =
    let named = c.holder-named.result in
    on_ok_weaker c.add_at.result
    (added_as c.args.tally.now c.add_at.new.tally (λ k. for_key k named (pos c.sheep_of.result))
    (λ k. buys k c.args.body.now)
    (λ k. bought_at k c.args.body.now c.in-Offer.offer named c.sheep_of.result c.in-Offer.is c.holder-named.ensures
    c.sheep_of.ensures)) c.add_at.ensures
