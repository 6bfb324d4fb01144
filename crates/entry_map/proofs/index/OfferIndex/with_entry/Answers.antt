use Rattle.entry_map.proofs.Prelude.{sym, ap, subst, ◌∙◌, option_copied, IfOk-weaker, put, IsIndexOf}
use Rattle.entry_map.proofs.Aggregates.{index_kept}
use Rattle.entry_map.proofs.Building.{index_new, none_put, one_put}
use Rattle.entry_map.proofs.index.OfferIndex.with_entry.Goals as goal

pub returns-in-None-clause-value : goal.returns-in-None-clause-value
returns-in-None-clause-value c = IfOk-weaker c.share.result _ _
    (λ index same. same ∙ sym (none_put c.args.entry.now c.args.self.now
    (sym c.offer_in.ensures ∙ ap option_copied c.in-None.is))) c.share.ensures

pub returns-in-None-clause-map : goal.returns-in-None-clause-map
returns-in-None-clause-map c m is none = IfOk-weaker c.share.result _ _
    (λ index same. subst (IsIndexOf (put m c.args.entry.now)) (sym same)
    (index_kept m c.args.self.now c.args.entry.now is (sym c.offer_in.ensures ∙ ap option_copied c.in-None.is)))
    c.share.ensures

pub returns-in-Some-clause-value : goal.returns-in-Some-clause-value
returns-in-Some-clause-value c = IfOk-weaker c.with_offer.result _ _
    (λ index made. made ∙ sym (one_put c.args.entry.now c.in-Some.offer.now c.args.self.now
    (sym c.offer_in.ensures ∙ ap option_copied c.in-Some.is))) c.with_offer.ensures.value

pub returns-in-Some-clause-map : goal.returns-in-Some-clause-map
returns-in-Some-clause-map c m is none = IfOk-weaker c.with_offer.result _ _
    (λ index made. index_new m c.args.self.now index c.args.entry.now c.in-Some.offer.now is none
    (sym c.offer_in.ensures ∙ ap option_copied c.in-Some.is) c.with_offer.ensures.narrow made)
    c.with_offer.ensures.value
