use Rattle.entry_map.proofs.Prelude.{◌||◌, option_copied, contains_key, is_changed, under, under_one, IsNextKey}
use Rattle.entry_map.proofs.KnownKeys.{IsSeenTo, known_above}
use Rattle.entry_map.proofs.walk.reach.Given as goal

-- nothing exists above the key as far as the walk has come, and what the layers change next is known
abbrev pub invariant-loop-at : goal.invariant-loop-at
invariant-loop-at g l = record {
  seen : IsSeenTo (under_one (under (g.B.Base.entries l.base) l.lower) l.top) l.key l.at;
  ahead : IsNextKey (λ q. contains_key l.top q || is_changed l.lower q) l.at (option_copied l.ahead);
}

abbrev pub decreases-loop-at : goal.decreases-loop-at
decreases-loop-at g l = known_above (g.B.Base.entries l.base) l.lower l.top l.at
