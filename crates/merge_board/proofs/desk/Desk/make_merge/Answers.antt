use Rattle.merge_board.proofs.Prelude.{List, sym, subst, view, PostedJob, AreDealt}
use Rattle.merge_board.proofs.Working.{gave_up_one}
use Rattle.merge_board.proofs.desk.Desk.make_merge.Goals as goal

pub returns-in-None-clause-dealt : goal.returns-in-None-clause-dealt
returns-in-None-clause-dealt g c =
    let desk = c.args.self.now in
    let hand = c.requires.in_hand in
    let taken = (view desk.seats.jobs).taken in
    let pushed = (view desk.seats.outs).pushed in
    let given_up = desk.seats.given_up in
    subst (λ (xs : List PostedJob). AreDealt taken pushed desk.left.items xs) (sym c.in-None.ensures.given_up)
    (gave_up_one c.args.posted taken pushed desk.left.items given_up hand.dealt hand.taken hand.above_pushed
    hand.above_left hand.above_given_up)
