use Rattle.op_form.proofs.Prelude.{sym, subst, Some, on_ok_weaker, ChangesAtMost, stored_others}
use Rattle.op_form.proofs.lumens.store_beside.Goals as goal

pub returns-clause-others : goal.returns-clause-others
returns-clause-others g c = on_ok_weaker c.store_account.result
    (λ is. subst (λ u. ChangesAtMost (Some c.args.id.now) c.args.entries.now.current u.current) (sym is)
    (stored_others c.args.entries.now.current c.args.id.now c.args.slot c.requires))
    c.store_account.ensures
