use Rattle.entry_map.proofs.Prelude.{sym, subst, IsLeastPosition}
use Rattle.entry_map.proofs.Pairs.{other_pair}
use Rattle.entry_map.proofs.index.OfferIndex.next_position.Goals as goal
use Rattle.entry_map.proofs.index.OfferIndex.next_position.Goals.{else-is_same-via-then-is_same+else-is_same-2}
use Rattle.entry_map.proofs.index.OfferIndex.next_position.Goals.{else-is_same-via-else-is_same}

pub returns-else-is_same : goal.returns-else-is_same
returns-else-is_same c =
    other_pair c.args.self.now c.args.start.now c.key-position.result.now c.in_ok-next.next.now.1
    (subst (λ position. IsLeastPosition c.args.self.now c.args.start.now position c.in_ok-next.next.now.1)
    (sym c.key-position.ensures) c.in_ok-next.ensures) (λ selling buying.
    elim c.else-is_same.branch [
      | else-is_same-via-then-is_same+else-is_same-2 w ↦
          absurd (cc (w.if-is_same-2.false, w.is_same-then-is_same.ensures.tied, buying))
      | else-is_same-via-else-is_same w ↦ absurd (cc (w.if-is_same.false, c.is_same.ensures.tied, selling))
    ])
