use Rattle.entry_map.proofs.Prelude.{◌≡◌, ◌||◌, refl, sym, ap, subst, ◌∙◌, Some, None, LedgerKey, key_of, if_some_at}
use Rattle.entry_map.proofs.Prelude.{option_copied, contains_key, is_changed, IsNextKey}
use Rattle.entry_map.specs.declared.walk.Known.TheVariants.{Kept, Changed}
use Rattle.entry_map.proofs.KnownKeys.{seen_first, seen_next, found_next, ended, known_falls, next_is, still_ahead}
use Rattle.entry_map.proofs.walk.reach.Goals as goal

pub loop-at-init : goal.loop-at-init
loop-at-init g c =
    let top = c.args.top.now in
    let ls = c.args.lower.now in
    record {
      seen = seen_first _ c.args.key.now c.in_ok-at.at c.in_ok-at.ensures;
      ahead = subst
          (λ (k : LedgerKey). IsNextKey (λ q. contains_key top q || is_changed ls q) k (option_copied c.args.ahead))
          (sym c.in_ok-at.ensures) c.requires;
    }

pub returns-in-Kept : goal.returns-in-Kept
returns-in-Kept g c =
    let m = g.B.Base.entries c.args.base.now in
    let ls = c.args.lower.now in
    let top = c.args.top.now in
    let at = c.loop-at.at in
    let e = c.in-Kept.entry in
    let it = c.loop-at.invariant in
    let last = option_copied c.args.last in
    let known = next_is m ls top at last c.in_ok-known.field-0 (Some (Kept e)) (c.in-Some.is ∙ ap Some c.in-Kept.is)
    (c.in_ok-known.ensures ls top it.ahead) in (
      found_next m ls top c.args.key.now at (key_of e) e it.seen known.0 known.1 refl,
      still_ahead m ls top at (option_copied c.args.last) e (option_copied c.loop-at.ahead) known it.ahead,
    )

pub returns-in-Some-2 : goal.returns-in-Some-2
returns-in-Some-2 g c =
    let m = g.B.Base.entries c.args.base.now in
    let ls = c.args.lower.now in
    let top = c.args.top.now in
    let at = c.loop-at.at in
    let next = c.in-Changed.next in
    let e = c.in-Some-2.entry in
    let it = c.loop-at.invariant in
    let own = if_some_at (λ x. key_of x ≡ next) c.in_ok-entry.field-0 e c.in_ok-entry.ensures.keyed c.in-Some-2.is in (
      found_next m ls top c.args.key.now at next e it.seen
          (next_is m ls top at (option_copied c.args.last) c.in_ok-known.field-0 (Some (Changed next))
          (c.in-Some.is ∙ ap Some c.in-Changed.is)
          (c.in_ok-known.ensures ls top it.ahead))
          (sym c.in_ok-entry.ensures.found ∙ c.in-Some-2.is) own,
      subst (λ (k : LedgerKey). IsNextKey (λ q. contains_key top q || is_changed ls q) k
          (option_copied c.next_in_layers-ahead.result)) (sym own) c.next_in_layers-ahead.ensures,
    )

pub loop-at-smaller : goal.loop-at-smaller
loop-at-smaller g c =
    let m = g.B.Base.entries c.args.base.now in
    known_falls m c.args.lower.now c.args.top.now c.loop-at.at c.in-Changed.next
    (next_is m c.args.lower.now c.args.top.now c.loop-at.at (option_copied c.args.last) c.in_ok-known.field-0
    (Some (Changed c.in-Changed.next)) (c.in-Some.is ∙ ap Some c.in-Changed.is)
    (c.in_ok-known.ensures c.args.lower.now c.args.top.now c.loop-at.invariant.ahead))

pub loop-at-preserved : goal.loop-at-preserved
loop-at-preserved g c =
    let m = g.B.Base.entries c.args.base.now in
    record {
      seen = seen_next m c.args.lower.now c.args.top.now c.args.key.now c.loop-at.at
          c.in-Changed.next c.loop-at.invariant.seen
          (next_is m c.args.lower.now c.args.top.now c.loop-at.at (option_copied c.args.last) c.in_ok-known.field-0
          (Some (Changed c.in-Changed.next)) (c.in-Some.is ∙ ap Some c.in-Changed.is)
          (c.in_ok-known.ensures c.args.lower.now c.args.top.now c.loop-at.invariant.ahead))
          (sym c.in_ok-entry.ensures.found ∙ c.in_default-2.is);
      ahead = c.next_in_layers-ahead.ensures;
    }

pub returns : goal.returns
returns g c =
    let m = g.B.Base.entries c.args.base.now in
    ended m c.args.lower.now c.args.top.now c.args.key.now c.loop-at.at (option_copied c.args.last)
    c.loop-at.invariant.seen
    (next_is m c.args.lower.now c.args.top.now c.loop-at.at (option_copied c.args.last) c.in_ok-known.field-0
    None c.in_default.is (c.in_ok-known.ensures c.args.lower.now c.args.top.now c.loop-at.invariant.ahead))
