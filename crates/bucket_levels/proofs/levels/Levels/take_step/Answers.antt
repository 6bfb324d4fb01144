use Rattle.bucket_levels.proofs.Prelude.{◌≡◌, ℕ, ◌+◌, map, sym, ap, subst, ◌∙◌, length-map, level_count, LevelsAt}
use Rattle.bucket_levels.proofs.Prelude.{LevelsAfter, pair_of, IsStep, AreRenewed, pending_of, AreHeld, AreBegun}
use Rattle.bucket_levels.proofs.Renewing.{held_after, known_after}
use Rattle.bucket_levels.proofs.levels.Levels.take_step.Goals as goal

pub invariant_of-self : goal.invariant_of-self
invariant_of-self c =
    let seq = c.self.inside.seq in
    let next_seq = c.step.inside.seq in
    let old = map pair_of c.self.inside.pairs.items in
    let new = map pair_of c.step.inside.pairs.items in
    let fresh = c.requires.planned.0 in
    let planned : IsStep next_seq fresh old new =
    subst (λ (s : LevelsAfter). IsStep s.seq fresh old s.pairs) (sym c.step.view_is)
    (subst (λ (l : LevelsAt). IsStep c.args.step.seq fresh l.pairs c.args.step.pairs) (sym c.self.view_is)
    c.requires.planned.1) in
    let next : next_seq ≡ seq + 1 = ap (λ (s : LevelsAfter). s.seq) c.step.view_is ∙ c.requires.next
    ∙ ap (λ (l : LevelsAt). l.seq + 1) (sym c.self.view_is) in (
      sym (length-map c.step.inside.pairs.items pair_of) ∙ planned.count,
      c.self.invariant.1,
      subst (λ (n : ℕ). AreHeld new n c.renew.new.merges.items) (sym next)
          (held_after seq fresh old new c.step.inside.jobs.items c.self.inside.pending.items c.renew.new.merges.items
          (subst (λ (n : ℕ). IsStep n fresh old new) next planned)
          (subst (λ (n : ℕ). AreBegun new n level_count c.step.inside.jobs.items) next c.step.invariant)
          c.self.invariant.2 c.renew.ensures),
    )

pub returns-clause-pending : goal.returns-clause-pending
returns-clause-pending c =
    let new = c.renew.new.merges.items in
    subst (λ (l : LevelsAt). AreRenewed c.args.step.seq l.pending (map pending_of new)) c.self.view_is
    (subst (λ (s : LevelsAfter). AreRenewed s.seq (map pending_of c.self.inside.pending.items) (map pending_of new))
    c.step.view_is
    (known_after (map pair_of c.step.inside.pairs.items) c.step.inside.seq c.step.inside.jobs.items
    c.self.inside.pending.items new c.step.invariant c.self.invariant.2.count c.renew.ensures))
