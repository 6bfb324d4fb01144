use Rattle.entry_map.proofs.Prelude.{◌||◌, sym, ap, subst, ◌∙◌, Some, IfOk-weaker, option_copied}
use Rattle.entry_map.proofs.Prelude.{contains_key, key_cmp, keys_compared, is_changed, IsNextKey}
use Rattle.entry_map.specs.EntryMap.{IsNextUpTo}
use Rattle.entry_map.specs.Walk.{up_to}
use Rattle.std.proofs.Common.{option_map}
use Rattle.entry_map.specs.declared.walk.Known.TheVariants.{Changed}
use Rattle.entry_map.proofs.KnownKeys.{none_kept, none_changed, kept_first, changed_first, next_is}
use Rattle.entry_map.proofs.walk.next_known.Goals as goal

pub returns-in_default : goal.returns-in_default
returns-in_default g c = λ ls top next.
    let m = g.B.Base.entries c.args.base.now in
    let key = c.args.key.now in
    let last = option_copied c.args.last in
    IfOk-weaker c.changed.result _ _ (λ known is. next_is m ls top key last
    (option_map Changed (up_to (option_copied c.args.ahead) last)) known
    (sym (is ∙ ap (option_map Changed) c.up_to.ensures))
    (none_kept m ls top key last (option_copied c.args.ahead)
    (subst (IsNextUpTo m key last) c.in_default.is c.in_ok-entry.ensures) next))
    c.changed.ensures

pub returns-in_default-ahead : goal.returns-in_default-ahead
returns-in_default-ahead g c = λ ls top next.
    let m = g.B.Base.entries c.args.base.now in
    let last = option_copied c.args.last in
    none_changed m ls top c.args.key.now last c.in-Some.entry
    (subst (IsNextUpTo m c.args.key.now last) c.in-Some.is c.in_ok-entry.ensures)
    (subst (IsNextKey (λ q. contains_key top q || is_changed ls q) c.args.key.now)
    (ap option_copied c.in_default-ahead.is) next)

pub returns-in-Less : goal.returns-in-Less
returns-in-Less g c = λ ls top next.
    let m = g.B.Base.entries c.args.base.now in
    let least = c.in-Some-ahead.least.now in
    let last = option_copied c.args.last in
    kept_first m ls top c.args.key.now last c.in-Some.entry least
    (subst (IsNextUpTo m c.args.key.now last) c.in-Some.is c.in_ok-entry.ensures)
    (subst (IsNextKey (λ q. contains_key top q || is_changed ls q) c.args.key.now)
    (ap option_copied c.in-Some-ahead.is) next)
    (ap (λ k. key_cmp k least) (sym c.in_ok-key.ensures) ∙ sym (keys_compared c.in_ok-key.field-0 least)
    ∙ sym c.cmp.ensures ∙ c.in-Less.is)

pub returns-in_default-cmp : goal.returns-in_default-cmp
returns-in_default-cmp g c = λ ls top next.
    let m = g.B.Base.entries c.args.base.now in
    let least = c.in-Some-ahead.least.now in
    let last = option_copied c.args.last in
    let layers = subst (IsNextKey (λ q. contains_key top q || is_changed ls q) c.args.key.now)
    (ap option_copied c.in-Some-ahead.is) next in
    IfOk-weaker c.changed-in_default-cmp.result _ _ (λ known is. next_is m ls top c.args.key.now last
    (Some (Changed least))
    known (sym (is ∙ ap (λ o. option_map Changed (option_copied o)) c.in-Some-ahead.is))
    (changed_first m ls top c.args.key.now last c.in-Some.entry least
    (subst (IsNextUpTo m c.args.key.now last) c.in-Some.is c.in_ok-entry.ensures) layers
    (λ less. c.in_default-cmp.not-Less (c.cmp.ensures ∙ keys_compared c.in_ok-key.field-0 least
    ∙ ap (λ k. key_cmp k least) c.in_ok-key.ensures ∙ less))))
    c.changed-in_default-cmp.ensures
