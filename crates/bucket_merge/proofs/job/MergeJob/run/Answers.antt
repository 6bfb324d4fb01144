use Rattle.bucket_merge.proofs.Prelude.{sym, subst, ◌∙◌, IsMerge, merge_of}
use Rattle.bucket_merge.specs.Job.{Job}
use Rattle.bucket_merge.proofs.Merging.{pass_is_merge}
use Rattle.bucket_merge.proofs.job.MergeJob.run.Goals as goal

pub new-requires : goal.new-requires
new-requires g c =
    let job = c.self.inside in
    let merged = c.in-Ok.ensures.merge ∙ (λ i. merge_of job.level (c.deref.ensures i) (c.deref-2.ensures i)) in
    subst (λ (j : Job). IsMerge j.level j.curr j.snap c.in-Ok.bucket.value) c.self.view_is
    (subst (IsMerge job.level job.curr.value job.snap.value) (sym merged)
    (pass_is_merge job.level job.curr.value job.snap.value))
