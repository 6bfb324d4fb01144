use Rattle.merge_board.proofs.Prelude.{◌++◌, ◌∷◌, [], List, ap, sym, subst, ◌∙◌, arith, view, AreDealt, PostedJob}
use Rattle.merge_board.proofs.Prelude.{Sent, Log}
use Rattle.merge_board.proofs.OutSteps.{pushes}
use Rattle.merge_board.proofs.Working.{pushed_one, left_one}
use Rattle.merge_board.proofs.desk.Desk.push_out.Goals as goal

pub push-requires-clause-rule : goal.push-requires-clause-rule
push-requires-clause-rule g c =
    let shape = c.requires.at_work.log in
    let may = ap (λ (v : Log). v.pushes) shape in
    pushes _ _ _ _ (let some_part = ap (λ (v : Log). v.parts) shape in omega arith) may
    (sym (ap (λ (v : Log). v.worker) shape))

pub returns-in-Ok-clause-dealt : goal.returns-in-Ok-clause-dealt
returns-in-Ok-clause-dealt g c =
    let desk = c.args.self.now in
    let hand = c.requires.in_hand in
    let taken = (view desk.seats.jobs).taken in
    let given_up = desk.seats.given_up in
    subst (λ (xs : List PostedJob). AreDealt taken xs desk.left.items given_up)
    (sym (ap (λ (v : Log). v.pushed) c.in-Ok.ensures.pushed))
    (pushed_one c.args.out taken (view desk.seats.outs).pushed desk.left.items given_up hand.dealt hand.taken
    hand.above_pushed hand.above_left hand.above_given_up)

pub returns-in-Err-clause-dealt : goal.returns-in-Err-clause-dealt
returns-in-Err-clause-dealt g c =
    let desk = c.args.self.now in
    let hand = c.requires.in_hand in
    let taken = (view desk.seats.jobs).taken in
    let pushed = (view desk.seats.outs).pushed in
    let given_up = desk.seats.given_up in
    let more = c.push_reserved.ensures.items
    ∙ ap (λ (s : Sent). desk.left.items ++ s.out ∷ []) c.in-Err.ensures.back in
    subst (λ (x : List PostedJob × List PostedJob). AreDealt taken x.0 x.1 given_up)
    (λ i. (sym (ap (λ (v : Log). v.pushed) c.in-Err.ensures.kept) i, sym more i))
    (left_one c.args.out taken pushed desk.left.items given_up hand.dealt hand.taken hand.above_pushed
    hand.above_left hand.above_given_up)
