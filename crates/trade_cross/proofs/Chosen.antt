-- The book is tried on a child of the map, and kept or undone.
use Rattle.trade_cross.proofs.Prelude.{◌≡◌, refl, sym, ap, subst, ◌∙◌, true, false, ◌&&◌, Some, Undo, with_current}
use Rattle.trade_cross.proofs.Prelude.{opened, undone, kept, Ctx, Crossed, Swap, Trade, Crossing, converted, swap_of}
use Rattle.trade_cross.proofs.Prelude.{swapped, hop, amounts_of, is_served_by, is_cheaper_by, IsCrossing}
use Rattle.trade_cross.proofs.PoolSwaps.{by_book, by_pool_then}

module _ (ctx : Ctx) (trade : Trade) (old child tried : Undo) (book : Crossed) (swap : Swap)
    (moves : swap_of ctx trade old.current ≡ Some (amounts_of swap)) (opens : child ≡ opened old)
    (crosses : IsCrossing book (converted ctx.base_reserve trade child.current))
    (tries : tried ≡ with_current child (converted ctx.base_reserve trade child.current).entries) where
  abbrev done : Crossing
  done = converted ctx.base_reserve trade old.current

  here : IsCrossing book done
  here = subst (λ (u : Undo). IsCrossing book (converted ctx.base_reserve trade u.current)) opens crosses

  tries_here : tried ≡ with_current (opened old) done.entries
  tries_here = tries ∙ ap (λ (u : Undo). with_current u (converted ctx.base_reserve trade u.current).entries) opens

  module _ (better : (is_served_by trade book && is_cheaper_by trade.rounding book swap) ≡ true) where
    by_it : hop ctx trade old.current ≡ done
    by_it = by_book trade book done here swap ctx old.current refl moves better

    pub book_crossed : IsCrossing book (hop ctx trade old.current)
    book_crossed = subst (IsCrossing book) (sym by_it) here

    pub book_kept : (after : Undo) → after ≡ kept tried
        → after ≡ with_current old (hop ctx trade old.current).entries
    book_kept after is =
        is ∙ ap kept tries_here ∙ ap (λ (x : Crossing). with_current old x.entries) (sym by_it)

  module _ (worse : (is_served_by trade book && is_cheaper_by trade.rounding book swap) ≡ false) (back : Undo)
      (undoes : back ≡ undone tried) where
    back_is : back ≡ old
    back_is = undoes ∙ ap undone tries_here

    pub pool_crossed : swapped trade (amounts_of swap) back.current ≡ hop ctx trade old.current
    pool_crossed =
        ap (λ (u : Undo). swapped trade (amounts_of swap) u.current) back_is
        ∙ sym (by_pool_then trade book done here swap ctx old.current refl moves worse)

    pub pool_left_so : with_current back (swapped trade (amounts_of swap) back.current).entries
        ≡ with_current old (hop ctx trade old.current).entries
    pool_left_so = λ i. with_current (back_is i) (pool_crossed i).entries
