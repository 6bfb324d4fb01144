use Rattle.entry_map.proofs.Prelude.{sym, subst, ◌∙◌, IfOk-weaker, erase, IsIndexOf}
use Rattle.entry_map.proofs.Aggregates.{index_left, erase_made}
use Rattle.entry_map.proofs.entries.index_without.Goals as goal

pub returns-then-not-is_of_offer : goal.returns-then-not-is_of_offer
returns-then-not-is_of_offer g c is = IfOk-weaker c.share.result _ _
    (λ index same. subst (IsIndexOf (erase c.args.layered.now.current c.args.key.now)) (sym same)
    (index_left c.args.layered.now.current c.args.offers.now c.args.key.now is
    (sym c.is_of_offer.ensures ∙ c.if-not-is_of_offer.true))) c.share.ensures

pub returns : goal.returns
returns g c is = IfOk-weaker c.without_entry.result _ _
    (λ index made. erase_made c.args.layered.now.current c.args.offers.now index c.args.key.now c.in_ok-old.old is
    c.in_ok-old.ensures.found made) c.without_entry.ensures
