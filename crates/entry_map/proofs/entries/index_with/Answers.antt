use Rattle.entry_map.proofs.Prelude.{sym, ap, subst, ◌∙◌, option_copied, IfOk-weaker, get, put, IsIndexOf}
use Rattle.entry_map.proofs.Aggregates.{index_kept, put_made}
use Rattle.entry_map.proofs.entries.index_with.Goals as goal

pub returns-in_default : goal.returns-in_default
returns-in_default g c is = IfOk-weaker c.share.result _ _
    (λ index same. subst (IsIndexOf (put c.args.layered.now.current c.args.entry.now)) (sym same)
    (index_kept c.args.layered.now.current c.args.offers.now c.args.entry.now is
    (sym c.offer_in.ensures ∙ ap option_copied c.in_default.is))) c.share.ensures

pub returns : goal.returns
returns g c is = IfOk-weaker c.with_offer.result _ _
    (λ index made. put_made c.args.layered.now.current c.args.offers.now c.in_ok-left.left index c.args.entry.now
    c.in-Some.offer.now c.in_ok-old.old is (sym c.offer_in.ensures ∙ ap option_copied c.in-Some.is)
    c.with_offer.ensures.narrow
    (c.in_ok-old.ensures.found ∙ ap (get c.args.layered.now.current) c.in_ok-key.ensures) c.in_ok-left.ensures made)
    c.with_offer.ensures.value
