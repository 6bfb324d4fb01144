use Rattle.bucket_merge.proofs.Sides.{some_old_left, new_left, by_not}
use Rattle.bucket_merge.proofs.merge.are_empty.Goals as goal

pub returns-in-Some : goal.returns-in-Some
returns-in-Some c = λ old new h k. some_old_left c.args.older.now c.in-Some.field-0 old new h c.in-Some.is

pub returns-in-None : goal.returns-in-None
returns-in-None c = λ old new h k.
    new_left c.args.older.now c.args.newer.now old new c.is_none.result h k c.in-None.is
    (by_not c.is_none.result _ c.is_none.ensures)
