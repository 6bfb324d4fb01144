use Rattle.entry_map.proofs.Prelude.{sym, ap, ◌∙◌, unwrap_or, get, IfOk-weaker}
use Rattle.entry_map.proofs.Under.{get-current}
use Rattle.entry_map.proofs.lookup.entry_at.Goals as goal

pub returns-in-Some-clause-found : goal.returns-in-Some-clause-found
returns-in-Some-clause-found g c =
    IfOk-weaker c.copied.result _ _ (λ o is. is
    ∙ sym (get-current (g.B.Base.entries c.args.base.now) c.args.lower.now c.args.top.now c.args.key.now
    ∙ ap (λ o. unwrap_or o (get (g.B.Base.entries c.args.base.now) c.args.key.now))
    (sym c.in-Some.ensures.found))) c.copied.ensures

pub returns-in-None-clause-found : goal.returns-in-None-clause-found
returns-in-None-clause-found g c =
    IfOk-weaker c.find.result _ _ (λ o is. is
    ∙ sym (get-current (g.B.Base.entries c.args.base.now) c.args.lower.now c.args.top.now c.args.key.now
    ∙ ap (λ o. unwrap_or o (get (g.B.Base.entries c.args.base.now) c.args.key.now))
    (sym c.in-None.ensures.found))) c.find.ensures.found
