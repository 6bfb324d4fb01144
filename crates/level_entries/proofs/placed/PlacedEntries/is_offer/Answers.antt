use Rattle.level_entries.proofs.Prelude.{◌∙◌, ap, sym, subst, arith, length, EntryMap, ArePlaced}
use Rattle.std.specs.FinMap.{entries}
use Rattle.level_entries.proofs.Placing.{counted, value_of}
use Rattle.level_entries.proofs.placed.PlacedEntries.is_offer.Goals as goal

pub is_offer_at-requires : goal.is_offer_at-requires
is_offer_at-requires c =
    let items = c.as_slice.result.now in
    let placed = subst (ArePlaced _) (sym c.as_slice.ensures.value) c.self.invariant in
    let same = counted _ items placed ∙ ap (λ (m : EntryMap). length (entries m)) c.self.view_is in
    record { within = omega (arith, same, c.requires); each = placed.each }

pub returns : goal.returns
returns c e at =
    let items = c.as_slice.result.now in
    let m = c.args.self.now in
    let placed = subst (λ (n : EntryMap). ArePlaced n items) c.self.view_is
    (subst (ArePlaced _) (sym c.as_slice.ensures.value) c.self.invariant) in
    c.is_offer_at.ensures e (sym (value_of m items placed c.args.index) ∙ at)
