use Rattle.bucket_merge.proofs.Sides.{side_begins}
use Rattle.bucket_merge.proofs.side.side_of.Goals as goal

pub returns-clause-items : goal.returns-clause-items
returns-clause-items g c = λ contents h is.
    side_begins contents c.args.ahead c.next-meta.new.self c.next-meta.result
    (record { hand = c.next-hand.result; ahead = c.next-hand.new.self }) h is c.next-meta.ensures.items
    c.next-hand.ensures.items
