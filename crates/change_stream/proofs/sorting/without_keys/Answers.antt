use Rattle.change_stream.proofs.Prelude.{KeyedChange, List, [], ap, append-nil, append_assoc, arith, into_iter_items}
use Rattle.change_stream.proofs.Prelude.{map, map_push, sym, ◌++◌, ◌∙◌, ◌∷◌, ◌≡◌}
use Rattle.std.proofs.lemmas.Grind.{common_steps}
use Rattle.change_stream.proofs.sorting.without_keys.Goals as goal

pub loop-item-preserved : goal.loop-item-preserved
loop-item-preserved c =
    let done : List KeyedChange = c.loop-item.yielded in
    let item = c.in-Some.item in
    let split : done ++ item ∷ into_iter_items c.next.new.self ≡ c.args.keyed.items =
    ap (λ l. done ++ l) (sym c.in-Some.ensures.steps.0) ∙ c.loop-item.invariant.left in
    record {
      made = c.in_ok-push.ensures.items ∙ ap (λ x. c.loop-item.changes.items ++ x ∷ []) c.into_change.ensures
          ∙ ap (λ l. l ++ item.change ∷ []) c.loop-item.invariant.made
          ∙ sym (map_push (λ (k : KeyedChange). k.change) done item);
      left = append_assoc done (item ∷ []) (into_iter_items c.next.new.self) ∙ split;
    }

pub returns : goal.returns
returns c =
    let done = c.loop-item.yielded in
    let none : into_iter_items c.loop-item.item-iterator ≡ [] = grind (arith, common_steps, c.in-None.ensures.steps) in
    let all : done ≡ c.args.keyed.items =
    sym (ap (λ l. done ++ l) none ∙ append-nil done) ∙ c.loop-item.invariant.left in
    c.loop-item.invariant.made ∙ ap (map (λ (k : KeyedChange). k.change)) all
