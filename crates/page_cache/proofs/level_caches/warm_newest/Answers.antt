use Rattle.std.proofs.Common.{◌≡◌, ◌≢◌, ◌∙◌, None, Bool, Ok, get_or, sym, subst, arith}
use Rattle.std.proofs.lemmas.List.{take_all}
use Rattle.std.specs.Prelude.{MatchBool}
use Rattle.bucket_core.specs.Bucket.{change_at}
use Rattle.bucket_core.specs.Index.{rows, index_of}
use Rattle.page_cache.specs.Pages.{IsWarmed}
use Rattle.page_cache.proofs.Warmings.{AreSilent, on_err, same_set, warmed_at, marked_at, silent_at, one_silent}
use Rattle.page_cache.proofs.Warmings.{none_warmed, not_marked}
use Rattle.page_cache.proofs.level_caches.warm_newest.Goals as goal

pub warm_sought-requires : goal.warm_sought-requires
warm_sought-requires c = c.requires

pub returns-in_err-warm_sought-clause-err : goal.returns-in_err-warm_sought-clause-err
returns-in_err-warm_sought-clause-err c =
    on_err c.from_residual.result _
    (same_set c.loop-i.caches c.loop-i.i c.index-caches-i.result c.warm_sought.new.self
    (c.in_err-warm_sought.ensures.pages c.requires.0 c.requires.1) ∙ c.loop-i.invariant.same)

pub returns-then-branch-clause-ok : goal.returns-then-branch-clause-ok
returns-then-branch-clause-ok c = λ k sought.
    warmed_at k c.args.caches.now c.loop-i.caches c.loop-i.i c.index-caches-i.result c.warm_sought.new.self
    c.loop-i.invariant.same (omega (arith, c.loop-i-test.true)) (c.loop-i.invariant.silent k sought)
    (subst (λ (b : Bool). IsWarmed k (get_or c.loop-i.caches c.loop-i.i c.index-caches-i.result) (Ok b)
    c.warm_sought.new.self) c.if-branch.true
    (c.in_ok-warm_sought.ensures.pages k sought))

pub returns-then-branch-clause-marked : goal.returns-then-branch-clause-marked
returns-then-branch-clause-marked c = λ k sought.
    let at = get_or c.loop-i.caches c.loop-i.i c.index-caches-i.result in
    marked_at k c.args.caches.now c.loop-i.caches c.loop-i.i c.index-caches-i.result c.loop-i.invariant.same
    (omega (arith, c.loop-i-test.true))
    (subst (λ (b : Bool). MatchBool b (change_at at.contents k ≢ None) (change_at at.contents k ≡ None))
    c.if-branch.true (c.in_ok-warm_sought.ensures.marked k sought))

pub loop-i-preserved : goal.loop-i-preserved
loop-i-preserved c =
    let at = get_or c.loop-i.caches c.loop-i.i c.index-caches-i.result in
    record {
      same =
          same_set c.loop-i.caches c.loop-i.i c.index-caches-i.result c.warm_sought.new.self
          (subst (λ (b : Bool). IsWarmed c.requires.0 at (Ok b) c.warm_sought.new.self) c.if-branch.false
          (c.in_ok-warm_sought.ensures.pages c.requires.0 c.requires.1)) ∙ c.loop-i.invariant.same;
      silent = λ k sought.
          one_silent k c.args.caches.now c.loop-i.i (omega (arith, c.loop-i-test.true))
          (c.loop-i.invariant.silent k sought)
          (silent_at k c.args.caches.now c.loop-i.caches c.loop-i.i c.index-caches-i.result c.loop-i.invariant.same
          (omega (arith, c.loop-i-test.true)) (record {
            index = subst (λ (b : Bool). MatchBool b (Unit {0}) (index_of k (rows at.contents) ≡ None))
                c.if-branch.false
                (c.in_ok-warm_sought.ensures.none k sought);
            change = subst (λ (b : Bool).
                MatchBool b (change_at at.contents k ≢ None) (change_at at.contents k ≡ None)) c.if-branch.false
                (c.in_ok-warm_sought.ensures.marked k sought);
          }));
    }

pub returns-clause-ok : goal.returns-clause-ok
returns-clause-ok c = λ k sought.
    c.loop-i.invariant.same ∙ sym (none_warmed k c.args.caches.now
    (subst (AreSilent k) (take_all c.loop-i.i c.args.caches.now (omega (arith, c.loop-i-test.false)))
    (c.loop-i.invariant.silent k sought)))

pub returns-clause-marked : goal.returns-clause-marked
returns-clause-marked c = λ k sought.
    sym (not_marked k c.args.caches.now
    (subst (AreSilent k) (take_all c.loop-i.i c.args.caches.now (omega (arith, c.loop-i-test.false)))
    (c.loop-i.invariant.silent k sought)))
