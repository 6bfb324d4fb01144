use Rattle.level_entries.proofs.Prelude.{sym, subst, EntryMap, ArePlaced}
use Rattle.level_entries.proofs.placed.PlacedEntriesBase.offers.Goals as goal

pub offers_in-requires : goal.offers_in-requires
offers_in-requires c = (_, subst (ArePlaced _) (sym c.as_slice.ensures.value) c.self.invariant)

pub returns : goal.returns
returns c =
    c.offers_in.ensures c.args.self.now (subst (ArePlaced c.args.self.now) (sym c.as_slice.ensures.value)
    (subst (λ (m : EntryMap). ArePlaced m c.self.inside.items.items) c.self.view_is c.self.invariant))
