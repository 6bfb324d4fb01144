use Rattle.change_stream.proofs.Prelude.{IsKeyed, filter_map, removal_in, take, ◌++◌, ◌≡◌, ◌⊎◌}
use Rattle.change_stream.proofs.making.add_removals.Given as goal

abbrev pub invariant-loop-key : goal.invariant-loop-key
invariant-loop-key g l = record {
  items : l.keyed.items
      ≡ l.fn.keyed.items ++ filter_map (removal_in (g.B.Base.entries l.base)) (take l.key-index l.dead);
  keyed : (l.key-index ≡ 0) ⊎ IsKeyed (g.B.Base.entries l.base);
}
