use Rattle.bucket_levels.proofs.Prelude.{◌≡◌, ℕ, ◌<◌, List, Some, map, set, get_or, sym, ap, subst, ◌∙◌, arith, Job}
use Rattle.bucket_levels.proofs.Prelude.{level_count, LevelsAt, pair_of, TakesIn, IsPending, nothing_pending}
use Rattle.bucket_levels.proofs.Prelude.{pending_of, AreHeld, PendingMerge}
use Rattle.bucket_levels.proofs.Drawing.{held_with_ready, takes_in}
use Rattle.bucket_levels.proofs.levels.Levels.hand_in.Goals as goal

-- the outcome in the slot of its level
abbrev with_ready : List PendingMerge → (out : Job) → ℕ → List PendingMerge
with_ready merges out level = set merges level (record (get_or merges level nothing_pending) { ready = Some out })

pub invariant_of-self : goal.invariant_of-self
invariant_of-self c =
    let out = c.args.out in
    let merges = c.self.inside.pending.items in
    let pairs = map pair_of c.self.inside.pairs.items in
    let is = subst (λ (l : LevelsAt). IsPending l.pairs l.seq out.level out) (sym c.self.view_is)
    c.in_default.ensures.due in
    let lt : out.level < level_count = omega (arith, c.level.ensures.level, c.level.ensures.high) in (
      c.self.invariant.0,
      c.self.invariant.1,
      subst (AreHeld pairs c.self.inside.seq)
          (sym (c.put_ready.ensures ∙ ap (with_ready merges out) c.level.ensures.level))
          (held_with_ready pairs c.self.inside.seq merges out.level out c.self.invariant.2 lt is),
    )

pub returns-clause-taken : goal.returns-clause-taken
returns-clause-taken c =
    let out = c.args.out in
    let merges = c.self.inside.pending.items in
    let pairs = map pair_of c.self.inside.pairs.items in
    let seq = c.self.inside.seq in
    let is = subst (λ (l : LevelsAt). IsPending l.pairs l.seq out.level out) (sym c.self.view_is)
    c.in_default.ensures.due in
    let lt : out.level < level_count = omega (arith, c.level.ensures.level, c.level.ensures.high) in
    let left = c.put_ready.ensures ∙ ap (with_ready merges out) c.level.ensures.level in
    subst (λ (l : LevelsAt). TakesIn l out (record {
      pairs = pairs;
      seq = seq;
      pending = map pending_of c.put_ready.new.merges.items;
    })) c.self.view_is
    (subst (λ (items : List PendingMerge). TakesIn (record {
      pairs = pairs;
      seq = seq;
      pending = map pending_of merges;
    }) out (record { pairs = pairs; seq = seq; pending = map pending_of items })) (sym left)
    (takes_in pairs seq merges out c.self.invariant.2 lt is))
