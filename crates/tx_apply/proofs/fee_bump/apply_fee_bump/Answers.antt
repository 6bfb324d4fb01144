use Rattle.tx_apply.proofs.Prelude.{sym, ap, subst, Undo, IsSettled}
use Rattle.tx_apply.proofs.fee_bump.apply_fee_bump.Goals as goal

pub check_account-requires : goal.check_account-requires
check_account-requires g c = c.transaction_laws.ensures.few _ _ c.requires.settled

pub apply_after_auth-requires-clause-settled : goal.apply_after_auth-requires-clause-settled
apply_after_auth-requires-clause-settled g c =
    subst (IsSettled c.args.ctx.now.id_pool)
    (ap (λ (u : Undo). u.current) (sym c.in_ok-remove_preauth.ensures.removed))
    (c.transaction_laws.ensures.preauths c.args.ctx.now.id_pool c.args.entries.now.current c.account_id-payer.result
    c.args.hash.now c.requires.settled).settled
