use Rattle.tx_apply.proofs.Prelude.{sym, ap, subst, Undo, IsSettled}
use Rattle.tx_apply.proofs.Judging.{without_used, settled_judged}
use Rattle.tx_apply.proofs.Lawful.{none_open}
use Rattle.tx_apply.proofs.transaction.apply_transaction.Goals as goal

pub apply_operations-requires-clause-underway : goal.apply_operations-requires-clause-underway
apply_operations-requires-clause-underway g c =
    let judged : IsSettled c.args.ctx.now.id_pool c.judge.new.entries.current =
    subst (IsSettled c.args.ctx.now.id_pool) (ap (λ (u : Undo). u.current) (sym c.in_ok-outcome.ensures.entries))
    (settled_judged c.transaction_laws.ensures.seq_nums c.args.pays c.args.base_fee c.args.ctx.now.id_pool
    c.args.ctx.now c.args.checker.now.hash c.args.checker.now.signatures c.args.tx.now c.args.entries.now.current
    c.requires.settled).settled in
    record {
      settled = subst (IsSettled c.args.ctx.now.id_pool)
          (ap (λ (u : Undo). u.current) (sym c.in_ok-remove_used.ensures))
          (without_used c.transaction_laws.ensures.preauths c.args.ctx.now.id_pool c.args.hash.now
          c.account_id-source.result c.as_slice.result.now c.judge.new.entries.current judged).settled;
      sponsorships = none_open c.args.ctx.now c.remove_used.new.entries.current c.requires.closed;
      seq = c.requires.seq;
    }
