use Rattle.std.proofs.Common.{map, ℕ, List, sym, subst, Some}
use Rattle.std.proofs.lemmas.Result.{IfOk-weaker}
use Rattle.bucket_items.specs.KeyText.{IsKeyText}
use Rattle.bucket_levels.specs.Levels.{pair_of}
use Rattle.level_pages.proofs.Unencoded.{next_up_to_bound}
use Rattle.level_pages.proofs.after.next_entry_up_to.Goals as goal

pub entry_after-requires : goal.entry_after-requires
entry_after-requires c =
    let is = c.in_ok-bound.ensures in
    (is.bound, subst (λ (t : List ℕ). IsKeyText t is.bound) (sym c.as_slice.ensures.value) is.is)

pub returns : goal.returns
returns c = λ m represent.
    let is = c.in_ok-bound.ensures in
    let ends = c.in_ok-end.ensures in
    IfOk-weaker c.entry_after.result _ _
    (λ r. next_up_to_bound (map pair_of c.args.pairs.now) m represent c.keys_are_encoded.ensures
    c.args.key.now is.bound c.args.last.now ends.bound r is.same ends.same)
    (c.entry_after.ensures m is.bound (Some ends.bound) represent
    (subst (λ (t : List ℕ). IsKeyText t is.bound) (sym c.as_slice.ensures.value) is.is)
    (subst (λ (t : List ℕ). IsKeyText t ends.bound) (sym c.as_slice-2.ensures.value) ends.is))
