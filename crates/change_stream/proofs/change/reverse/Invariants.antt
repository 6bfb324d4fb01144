use Rattle.change_stream.proofs.Prelude.{length, reversed, ◌++◌, ◌≡◌}
use Rattle.change_stream.proofs.change.reverse.Given as goal

-- the inverses of the changes that were passed, and those ahead
abbrev pub invariant-loop-last : goal.invariant-loop-last
invariant-loop-last l = reversed l.list ≡ l.back.items ++ reversed l.ahead

abbrev pub decreases-loop-last : goal.decreases-loop-last
decreases-loop-last l = length l.ahead
