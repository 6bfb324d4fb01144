use Rattle.std.proofs.Common.{map, ℕ, List, sym, subst, None}
use Rattle.std.proofs.lemmas.Result.{IfOk-weaker}
use Rattle.entry_map.proofs.KnownKeys.{with_no_last}
use Rattle.bucket_items.specs.KeyText.{IsKeyText}
use Rattle.bucket_levels.specs.Levels.{pair_of}
use Rattle.level_pages.proofs.Unencoded.{next_of_bound}
use Rattle.level_pages.proofs.after.next_entry.Goals as goal

pub entry_after-requires : goal.entry_after-requires
entry_after-requires c =
    let is = c.in_ok-bound.ensures in
    (is.bound, subst (λ (t : List ℕ). IsKeyText t is.bound) (sym c.as_slice.ensures.value) is.is)

pub returns : goal.returns
returns c = λ m represent.
    let is = c.in_ok-bound.ensures in
    IfOk-weaker c.entry_after.result _ _
    (λ r next. next_of_bound (map pair_of c.args.pairs.now) m represent c.keys_are_encoded.ensures
    c.args.key.now is.bound r is.same (with_no_last m is.bound r next))
    (c.entry_after.ensures m is.bound None represent
    (subst (λ (t : List ℕ). IsKeyText t is.bound) (sym c.as_slice.ensures.value) is.is) tt)
