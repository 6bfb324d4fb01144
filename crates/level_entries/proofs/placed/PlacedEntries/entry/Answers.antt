use Rattle.level_entries.proofs.Prelude.{◌∙◌, ap, sym, subst, arith, length, IfOk-weaker, EntryMap, ArePlaced}
use Rattle.std.specs.FinMap.{entries}
use Rattle.entry_map.specs.EntryMap.{IsKeyed}
use Rattle.level_entries.proofs.Placing.{counted, value_of, placed_keyed}
use Rattle.level_entries.proofs.placed.PlacedEntries.entry.Goals as goal

pub entry_at-requires : goal.entry_at-requires
entry_at-requires c =
    let items = c.as_slice.result.now in
    let placed = subst (ArePlaced _) (sym c.as_slice.ensures.value) c.self.invariant in
    let same = counted _ items placed ∙ ap (λ (m : EntryMap). length (entries m)) c.self.view_is in
    record { within = omega (arith, same, c.requires); each = placed.each }

pub returns-clause-entry : goal.returns-clause-entry
returns-clause-entry c =
    let items = c.as_slice.result.now in
    let m = c.args.self.now in
    let placed = subst (λ (n : EntryMap). ArePlaced n items) c.self.view_is
    (subst (ArePlaced _) (sym c.as_slice.ensures.value) c.self.invariant) in
    IfOk-weaker c.entry_at.result _ _ (λ e is. value_of m items placed c.args.index ∙ is) c.entry_at.ensures

pub returns-clause-keyed : goal.returns-clause-keyed
returns-clause-keyed c = subst IsKeyed c.self.view_is (placed_keyed _ c.self.inside.items.items c.self.invariant)
