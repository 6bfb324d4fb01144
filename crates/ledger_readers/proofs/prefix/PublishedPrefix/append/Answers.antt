use Rattle.std.proofs.Common.{◌≡◌, ◌+◌, sym, ◌∙◌, ap, arith}
use Rattle.ledger_readers.proofs.Appending.{appends_moves}
use Rattle.ledger_readers.proofs.prefix.PublishedPrefix.append.Goals as goal

pub compare_exchange-found-requires : goal.compare_exchange-found-requires
compare_exchange-found-requires g c =
    let own = c.self.inside in
    let h = c.args.count.now.count_is in
    let offer = c.plain-offer.ensures in
    let pen = c.no_pen-pen.ensures in
    let next : c.in-Some.next ≡ own.views + 1 = grind (arith, c.in-Some.ensures) in (
      ap (λ w. w.tracked) h,
      c.self.invariant.1 ∙ sym (ap (λ w. w.book) h),
      pen.0 ∙ (c.self.invariant.1 ∙ sym (ap (λ w. w.book) h)),
      offer.0,
      rw (ap (λ w. w.key) h, pen.1, offer.1, offer.3)
          (appends_moves own.seen.log c.args.view.now own.views c.in-Some.next (sym c.self.invariant.0) next),
    )
