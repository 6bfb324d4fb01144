use Rattle.xdr_entries.proofs.Prelude.{◌≡◌, ◌*◌, ◌+◌, ◌-◌, many_at, with_prefix, predicate_below}
use Rattle.xdr_entries.proofs.predicate.+predicate.Given as goal

-- a predicate has fewer levels below it, and its parts are read after its discriminant
abbrev pub decreases-read_below : goal.decreases-read_below
decreases-read_below l = 4 * l.levels

abbrev pub decreases-read_inner : goal.decreases-read_inner
decreases-read_inner l = 4 * l.levels + 1

abbrev pub decreases-read_many : goal.decreases-read_many
decreases-read_many l = 4 * l.levels + 1

abbrev pub decreases-read_parts : goal.decreases-read_parts
decreases-read_parts l = 4 * l.levels + 2

-- the parts read so far, and those that follow, are what is read from the start
abbrev pub invariant-read_many-loop : goal.invariant-read_many-loop
invariant-read_many-loop l = with_prefix l.parts (many_at (predicate_below l.levels) (l.len - l.counter) l.ahead)
    ≡ many_at (predicate_below l.levels) l.len l.fn.cursor

abbrev pub decreases-read_level : goal.decreases-read_level
decreases-read_level l = 4 * l.below + 3
