use Rattle.merge_board.proofs.Prelude.{◌∷◌, [], List, length, length-append, ap, sym, subst, arith, view, Has}
use Rattle.merge_board.proofs.Prelude.{AreDealt, Hand, PostedJob}
use Rattle.merge_board.proofs.Lists.{has_last}
use Rattle.merge_board.proofs.Working.{hand_grown, below_all, took}
use Rattle.merge_board.proofs.desk.Desk.take_job.Goals as goal

pub look_for_job-requires-clause-part : goal.look_for_job-requires-clause-part
look_for_job-requires-clause-part g c =
    let some_part = ap (λ (v : Hand). v.parts) c.requires.at_work.hand in omega arith

pub returns-clause-some : goal.returns-clause-some
returns-clause-some g c =
    let at = c.requires.at_work in
    let is = c.in_ok-job.ensures.job.0 in
    let old = (view c.args.self.now.seats.jobs).taken in record {
      jobs = c.in_ok-job.ensures.seat;
      outs = at.outs;
      hand = hand_grown _ _ _ at.hand is;
      log = at.log;
      taken = (let so_far = at.taken in
          omega (arith, length-append old (c.in_ok-job.job ∷ []), ap (λ (v : Hand). length v.taken) is));
      pushed = at.pushed;
      accounted = (let so_far = at.accounted in omega arith);
      left = at.left;
      slots = at.slots;
    }

pub returns-clause-in_hand : goal.returns-clause-in_hand
returns-clause-in_hand g c =
    let desk = c.args.self.now in
    let dealt = c.requires.dealt in
    let job = c.in_ok-job.job in
    let above = c.in_ok-job.ensures.job.1 in
    let old = (view desk.seats.jobs).taken in
    let pushed = (view desk.seats.outs).pushed in
    let left = desk.left.items in
    let given_up = desk.seats.given_up in
    let more = sym (ap (λ (v : Hand). v.taken) c.in_ok-job.ensures.job.0) in record {
      dealt = subst (λ (xs : List PostedJob). AreDealt xs pushed left given_up) more
          (took job old pushed left given_up dealt above);
      taken = subst (λ (xs : List PostedJob). Has xs job) more (has_last old job);
      above_pushed = below_all job.number old pushed above dealt.pushed_taken;
      above_left = below_all job.number old left above dealt.left_taken;
      above_given_up = below_all job.number old given_up above dealt.given_up_taken;
    }
