use Rattle.entry_map.proofs.Prelude.{sym, ap, ◌∙◌, option_copied, index_of}
use Rattle.entry_map.proofs.Aggregates.{index_kept}
use Rattle.entry_map.proofs.Building.{index_new, index_push}
use Rattle.entry_map.proofs.index.push_offer.Goals as goal

pub returns-in_ok-push : goal.returns-in_ok-push
returns-in_ok-push c m is none =
    index_new m (index_of c.args.offers.now.items) (index_of c.push.new.self.items) c.args.entry.now
    c.in-Some.offer.now is none (sym c.offer_in.ensures ∙ ap option_copied c.in-Some.is)
    c.prices_are_narrow.ensures
    (ap index_of c.in_ok-push.ensures.items ∙ index_push c.args.offers.now.items c.in-Some.offer.now)

pub returns-in_default : goal.returns-in_default
returns-in_default c m is none =
    index_kept m (index_of c.args.offers.now.items) c.args.entry.now is
    (sym c.offer_in.ensures ∙ ap option_copied c.in_default.is)
