use Rattle.bucket_merge.proofs.Stepping.{both_in_hand}
use Rattle.bucket_merge.proofs.take.first_in_hand.Goals as goal

pub returns-in-Some-hand : goal.returns-in-Some-hand
returns-in-Some-hand c = λ old new has_old has_new.
    both_in_hand c.args.older.now c.args.newer.now c.in-Some.a c.in-Some-hand.b c.order.result old new c.in-Some.is
    c.in-Some-hand.is c.order.ensures has_old has_new
