use Rattle.tx_apply.proofs.Prelude.{sym, ap, subst, EntryMap, Undo, AreSignersFew}
use Rattle.tx_apply.proofs.Judging.{settled_after_seq_num}
use Rattle.tx_apply.proofs.checks.judge_after_seq_num.Goals as goal

pub late_fault-requires-clause-few : goal.late_fault-requires-clause-few
late_fault-requires-clause-few g c =
    subst (λ (m : EntryMap). AreSignersFew m) (ap (λ (u : Undo). u.current) (sym c.in_ok-use_up_seq_num.ensures))
    (c.transaction_laws.ensures.few _ _ (settled_after_seq_num c.transaction_laws.ensures.seq_nums c.args.pays
    c.args.base_fee c.args.ctx.now.id_pool c.args.ctx.now c.args.tx.now c.args.entries.now.current c.requires.settled
    c.requires.early).settled)
