use Rattle.worker_merges.proofs.Prelude.{◌∙◌, subst, Job, IsHandedIn}
use Rattle.worker_merges.proofs.Handing.{one_more}
use Rattle.worker_merges.proofs.adopting.adopt.Goals as goal

pub loop-preserved : goal.loop-preserved
loop-preserved g c =
    record {
      room = c.take.ensures.room;
      parts = c.take.ensures.parts ∙ c.loop.invariant.parts;
      looks = c.in-Some-take.ensures.kept ∙ c.loop.invariant.looks;
      state = c.hand_in.ensures.state ∙ c.loop.invariant.state;
      caches = c.hand_in.ensures.caches ∙ c.loop.invariant.caches;
      adopts = one_more _ _ _ c.in-Some-take.posted _ _ _ c.loop.invariant.adopts c.in-Some-take.ensures.out
          (subst (λ (out : Job). IsHandedIn out c.loop.ledger c.hand_in.new.ledger) c.into_out.ensures
          c.hand_in.ensures.handed_in);
    }
