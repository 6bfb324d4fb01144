use Rattle.entry_map.proofs.Prelude.{subst, MatchOption, NoneAbove, IsLeastAt}
use Rattle.entry_map.proofs.KeyMaps.{next_seen}
use Rattle.entry_map.proofs.key_map.KeyMap.next_after.Goals as goal

pub returns : goal.returns
returns g c =
    subst (λ m. MatchOption c.next.result (NoneAbove m c.args.key.now)
    (λ p. IsLeastAt m c.args.key.now p.0.now p.1.now)) c.self.view_is
    (next_seen c.self.inside.tree c.args.key.now _ _ c.next.result (c.range.ensures.in_range tt) c.next.ensures.steps)
