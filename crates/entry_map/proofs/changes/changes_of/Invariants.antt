use Rattle.entry_map.proofs.Prelude.{◌++◌, into_iter_items, key_of, under, under_one, IsNew, IsChanged, IsGone}
use Rattle.entry_map.proofs.Prelude.{AreChangedKeys}
use Rattle.entry_map.proofs.Batches.{Picks}
use Rattle.entry_map.proofs.changes.changes_of.Given as goal

-- what changed at the keys so far, which the others follow
abbrev pub invariant-loop-key : goal.invariant-loop-key
invariant-loop-key g l = let before = g.B.Base.entries l.base in let after = under_one (under before l.lower) l.top in
    record {
      keys : AreChangedKeys l.lower l.top (l.yielded ++ into_iter_items l.key-iterator);
      init : Picks key_of (IsNew before after) l.yielded l.batch.init;
      live : Picks key_of (IsChanged before after) l.yielded l.batch.live;
      dead : Picks (λ q. q) (IsGone before after) l.yielded l.batch.dead;
    }
