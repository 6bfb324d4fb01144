use Rattle.bucket_levels.proofs.Prelude.{List, IfSome, map, length, sym, subst, ◌∙◌, arith, LevelsAt, pair_of, Draws}
use Rattle.bucket_levels.proofs.Prelude.{NoneWaits, pending_of, AreHeld, IsFirstWaiting, NoneWaitsAbove, PendingMerge}
use Rattle.bucket_levels.proofs.Drawing.{held_without_job, none_waits, draws_taken}
use Rattle.bucket_levels.proofs.levels.Levels.next_job.Goals as goal

pub invariant_of-self : goal.invariant_of-self
invariant_of-self c =
    let merges = c.self.inside.pending.items in
    let level = c.in-Some.level in
    let first = subst (λ (items : List PendingMerge). IsFirstWaiting items level) c.as_slice.ensures.value
    c.in-Some.ensures.found in (
      c.self.invariant.0,
      c.self.invariant.1,
      subst (AreHeld (map pair_of c.self.inside.pairs.items) c.self.inside.seq) (sym c.take_job.ensures.left)
          (held_without_job (map pair_of c.self.inside.pairs.items) c.self.inside.seq merges level c.self.invariant.2
          (omega (arith, first.within, c.self.invariant.2.count))),
    )

pub returns-in-Some-clause-drawn : goal.returns-in-Some-clause-drawn
returns-in-Some-clause-drawn c =
    let merges = c.self.inside.pending.items in
    let pairs = map pair_of c.self.inside.pairs.items in
    let seq = c.self.inside.seq in
    let level = c.in-Some.level in
    let first = subst (λ (items : List PendingMerge). IsFirstWaiting items level) c.as_slice.ensures.value
    c.in-Some.ensures.found in
    subst (λ (l : LevelsAt). IfSome c.take_job.result (λ job. Draws l job (record {
      pairs = pairs;
      seq = seq;
      pending = map pending_of c.take_job.new.merges.items;
    }))) c.self.view_is
    (subst (λ (items : List PendingMerge). IfSome c.take_job.result (λ job. Draws (record {
      pairs = pairs;
      seq = seq;
      pending = map pending_of merges;
    }) job (record { pairs = pairs; seq = seq; pending = map pending_of items }))) (sym c.take_job.ensures.left)
    (draws_taken pairs seq merges level c.take_job.result c.self.invariant.2 first c.take_job.ensures.job))

pub returns-in-None-clause-none : goal.returns-in-None-clause-none
returns-in-None-clause-none c = subst NoneWaits c.self.view_is
    (none_waits (map pair_of c.self.inside.pairs.items) c.self.inside.seq c.self.inside.pending.items
    (subst (λ (items : List PendingMerge). NoneWaitsAbove items (length items)) c.as_slice.ensures.value
    c.in-None.ensures.none))
