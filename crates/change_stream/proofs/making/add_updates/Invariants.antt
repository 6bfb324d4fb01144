use Rattle.change_stream.proofs.Prelude.{IsKeyed, filter_map, take, update_in, ◌++◌, ◌≡◌, ◌⊎◌}
use Rattle.change_stream.proofs.making.add_updates.Given as goal

abbrev pub invariant-loop-after : goal.invariant-loop-after
invariant-loop-after g l = record {
  items : l.keyed.items
      ≡ l.fn.keyed.items ++ filter_map (update_in (g.B.Base.entries l.base)) (take l.after-index l.live);
  keyed : (l.after-index ≡ 0) ⊎ IsKeyed (g.B.Base.entries l.base);
}
