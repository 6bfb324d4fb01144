use Rattle.entry_map.proofs.Prelude.{arith, ◌≡◌, [], ◌∷◌, ◌++◌, ap, sym, subst, ◌∙◌, append_assoc, append-nil, map}
use Rattle.entry_map.proofs.Prelude.{IsDistinct, eq_by_cmp, common_steps, from_entries, into_iter_items, key_cmp}
use Rattle.entry_map.proofs.Prelude.{IsIndexOf}
use Rattle.entry_map.proofs.Layers.{with_key}
use Rattle.entry_map.proofs.Lists.{map_push, all_keys}
use Rattle.entry_map.proofs.map_base.MapBase.from_entries.Goals as goal

pub loop-entry-preserved : goal.loop-entry-preserved
loop-entry-preserved c =
    let split : c.loop-entry.yielded ++ c.in-Some.entry ∷ into_iter_items c.next.new.self ≡ c.args.entries.items =
    ap (λ es. c.loop-entry.yielded ++ es) (sym c.in-Some.ensures.steps.0) ∙ c.loop-entry.invariant.left in
    record {
      made = c.in_ok-push_pair.ensures ∙ ap (λ ps. ps ++ with_key c.in-Some.entry ∷ []) c.loop-entry.invariant.made
          ∙ sym (map_push with_key c.loop-entry.yielded c.in-Some.entry);
      left = append_assoc c.loop-entry.yielded (c.in-Some.entry ∷ []) (into_iter_items c.next.new.self) ∙ split;
    }

pub from_pairs-requires : goal.from_pairs-requires
from_pairs-requires c =
    let none : into_iter_items c.loop-entry.entry-iterator ≡ [] =
    grind (arith, common_steps, c.in-None.ensures.steps) in
    subst (λ es. IsDistinct (eq_by_cmp key_cmp) es)
    (all_keys c.loop-entry.yielded _ c.loop-entry.pairs.items c.args.entries.items c.loop-entry.invariant.made
    c.loop-entry.invariant.left none) c.requires

pub invariant_of-result : goal.invariant_of-result
invariant_of-result c =
    let none : into_iter_items c.loop-entry.entry-iterator ≡ [] =
    grind (arith, common_steps, c.in-None.ensures.steps) in
    let all : c.loop-entry.yielded ≡ c.args.entries.items =
    sym (ap (λ es. c.loop-entry.yielded ++ es) none ∙ append-nil c.loop-entry.yielded) ∙ c.loop-entry.invariant.left in
    subst (λ m. IsIndexOf m c.in_ok-offers.offers)
    (sym (c.in_ok-from_pairs.ensures ∙ ap from_entries (c.loop-entry.invariant.made ∙ ap (map with_key) all)))
    (subst (λ es. IsIndexOf (from_entries (map with_key es)) c.in_ok-offers.offers) c.as_slice.ensures.value
    c.in_ok-offers.ensures)
