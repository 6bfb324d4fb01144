use Rattle.bucket_levels.proofs.Prelude.{◌+◌, List, map, sym, subst, Pair, empty_pair, IsPairAfter, pair_of, ArePlanned}
use Rattle.bucket_levels.proofs.Planning.{one_more_level, pushed, work_follows, work_stays_within}
use Rattle.bucket_levels.proofs.levels.Levels.plan_batch.Goals as goal

pub returns-in_err-pair_after-clause-most : goal.returns-in_err-pair_after-clause-most
returns-in_err-pair_after-clause-most g c =
    work_stays_within c.args.seq c.args.fresh.value c.args.self.now c.loop-level.level c.args.steps.now
    c.loop-level.steps c.pair_after.new.steps c.loop-level-test.true c.loop-level.invariant.most
    c.pair_after.ensures.most

pub returns-in_err-push-clause-most : goal.returns-in_err-push-clause-most
returns-in_err-push-clause-most g c =
    work_stays_within c.args.seq c.args.fresh.value c.args.self.now c.loop-level.level c.args.steps.now
    c.loop-level.steps c.pair_after.new.steps c.loop-level-test.true c.loop-level.invariant.most
    c.pair_after.ensures.most

pub loop-level-preserved : goal.loop-level-preserved
loop-level-preserved g c =
    let seq = c.args.seq in
    let old = c.args.self.now.pairs in
    let level = c.loop-level.level in
    let pair = c.in_ok-pair_after.field-0 in
    let items = pushed c.loop-level.pairs.items c.push.new.self.items pair c.in_ok-push.ensures.items in
    record {
      planned = subst (λ (pairs : List Pair). ArePlanned seq c.args.fresh.value old (level + 1) pairs) (sym items)
          (one_more_level empty_pair (IsPairAfter seq c.args.fresh.value old) level
          (map pair_of c.loop-level.pairs.items) (pair_of pair) c.loop-level.invariant.planned
          c.in_ok-pair_after.ensures.pair);
      most = work_follows seq c.args.fresh.value c.args.self.now level c.args.steps.now c.loop-level.steps
          c.pair_after.new.steps c.loop-level.invariant.most c.pair_after.ensures.most;
    }
