use Rattle.worker_merges.proofs.Prelude.{◌≡◌, ◌≤◌, ◌∙◌, sym, subst, arith, map, drawn, LedgerAt, levels_at, posted_by}
use Rattle.worker_merges.proofs.Drawing.{one_more}
use Rattle.worker_merges.proofs.posting.post_due.Goals as goal
use Rattle.worker_merges.proofs.Drawing.{none_wait_drawn}

pub loop-job-preserved : goal.loop-job-preserved
loop-job-preserved g c =
    let it = c.loop-job.invariant in
    let posted = c.post_one-back in
    record {
      room = posted.ensures.room;
      parts = posted.ensures.parts ∙ it.parts;
      state = c.next_job.ensures.state ∙ it.state;
      caches = c.next_job.ensures.caches ∙ it.caches;
      returned = (let so_far = it.returned in let one = posted.ensures.returned in omega (arith, so_far, one));
      so_far = one_more (posted_by c.args.board.now) c.args.ledger.now.pending (levels_at c.loop-job.ledger)
          c.in-Some.job (levels_at c.next_job.new.self) (posted_by c.loop-job.board) (posted_by posted.new.board)
          c.loop-job.back posted.result it.so_far c.in-Some.ensures.drawn
          (subst (λ n. n ≤ 10) c.level-is_of_a_level.ensures.level c.level-is_of_a_level.ensures.high)
          posted.ensures.became;
    }

pub returns-clause-drawn : goal.returns-clause-drawn
returns-clause-drawn g c =
    let pending = c.loop-job.ledger.pending in
    subst (λ (l : LedgerAt). l.pending ≡ map drawn c.args.ledger.now.pending) (sym c.in_default.ensures.kept)
    (sym (none_wait_drawn pending c.in_default.ensures.none).0 ∙ c.loop-job.invariant.so_far.drawn_are)

pub returns-clause-count : goal.returns-clause-count
returns-clause-count g c =
    let none = (none_wait_drawn c.loop-job.ledger.pending c.in_default.ensures.none).1 in
    let count = c.loop-job.invariant.so_far.count in
    omega (arith, none, count)
