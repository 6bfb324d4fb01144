use Rattle.op_offers.proofs.Prelude.{◌≡◌, sym, subst, rules, neg_ℤ, EntryMap, DoesPaymentFit, paying, asked_in}
use Rattle.op_offers.proofs.Prelude.{source_gives_at, source_takes_at}
use Rattle.op_offers.proofs.keep.settle_source.Goals as goal

pub pay-requires : goal.pay-requires
pay-requires g c =
    let taken : c.take.new.entries.current
    ≡ paying (source_gives_at (asked_in c.args.asked.now)) (neg_ℤ c.args.sheep) c.args.entries.now.current =
    search rules in
    let fits = subst (λ k. DoesPaymentFit c.take.new.entries.current k c.args.wheat) (sym c.takes_at.ensures)
    (subst (λ (m : EntryMap). DoesPaymentFit m (source_takes_at (asked_in c.args.asked.now)) c.args.wheat) (sym taken)
    c.requires.fits.takes) in
    search (rules, fits)
