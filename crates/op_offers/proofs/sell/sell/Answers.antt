use Rattle.op_offers.proofs.Prelude.{◌≡◌, sym, subst, ap, Ok, None, rules, ℤ, pos, EntryMap, Undo, first_fault}
use Rattle.op_offers.proofs.Prelude.{DoPaymentsFit, IsSale, IsSellable, asked_in, end_fault, map_after_settling}
use Rattle.op_offers.proofs.Prelude.{crossed_by, wanted_tests}
use Rattle.op_offers.proofs.Ready.{payments_fit, then_sellable, sale_is, sold_after}
use Rattle.op_offers.proofs.sell.sell.Goals as goal

pub keep_rest-requires-clause-fits : goal.keep_rest-requires-clause-fits
keep_rest-requires-clause-fits g c =
    let asked = asked_in c.args.asked.now in
    let m = c.args.entries.now.current in
    let base = c.args.ctx.now.base_reserve in
    let is = c.in_ok-crossed.ensures.crossed in
    let entries = ap (λ (u : Undo). u.current) c.in_ok-crossed.ensures.entries in
    subst (λ (n : EntryMap). DoPaymentsFit asked c.in_ok-crossed.crossed.sheep c.in_ok-crossed.crossed.wheat n)
    (sym entries)
    (subst (λ (w : ℤ). DoPaymentsFit asked c.in_ok-crossed.crossed.sheep w (crossed_by base asked m).entries)
    (sym is.wheat)
    (subst (λ (s : ℤ). DoPaymentsFit asked s (pos (crossed_by base asked m).wheat) (crossed_by base asked m).entries)
    (sym is.sheep) (payments_fit asked m c.requires.sellable base)))

pub keep_rest-requires-clause-sellable : goal.keep_rest-requires-clause-sellable
keep_rest-requires-clause-sellable g c =
    let asked = asked_in c.args.asked.now in
    let m = c.args.entries.now.current in
    let base = c.args.ctx.now.base_reserve in
    let is = c.in_ok-crossed.ensures.crossed in
    let entries = ap (λ (u : Undo). u.current) c.in_ok-crossed.ensures.entries in
    subst (IsSellable asked) (λ i. map_after_settling asked (sym is.sheep i) (sym is.wheat i) (sym entries i))
    (then_sellable asked m c.requires.sellable base)

pub returns : goal.returns
returns g c =
    let asked = asked_in c.args.asked.now in
    let m = c.args.entries.now.current in
    let base = c.args.ctx.now.base_reserve in
    let is = c.in_ok-crossed.ensures.crossed in
    let entries = ap (λ (u : Undo). u.current) c.in_ok-crossed.ensures.entries in
    let passed : first_fault (wanted_tests base asked m) ≡ None = search rules in
    let ended : end_fault (crossed_by base asked m).end ≡ None = search rules in
    subst (IsSale (Ok c.in_ok-keep_rest.field-0) c.args.entries.now c.keep_rest.new.entries)
    (sym (sale_is base asked m passed ended))
    (sold_after c.in_ok-keep_rest.field-0 c.args.entries.now c.cross.new.entries c.keep_rest.new.entries _ _
    c.in_ok-crossed.ensures.entries (c.in_ok-keep_rest.ensures (crossed_by base asked m) is entries))
