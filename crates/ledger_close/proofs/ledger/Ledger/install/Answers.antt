use Rattle.ledger_close.proofs.Prelude.{◌≡◌, ℕ, ◌+◌, List, sym, ap, ◌∙◌, subst, Pair, IsStep, LedgerAt, IsKept}
use Rattle.page_cache.specs.Caches.{AreMoved}
use Rattle.ledger_close.specs.States.{PreparedAt, close_of}
use Rattle.ledger_close.proofs.Installs.{IsMade, installed_number, installed_step, installed_state, installed_files}
use Rattle.ledger_close.proofs.Installs.{caches_of_levels}
use Rattle.ledger_close.proofs.ledger.Ledger.install.Goals as goal

-- what is installed is a close of what is kept
kept_close : (own now : LedgerAt) (closed given : PreparedAt) → own ≡ now → closed ≡ given
    → IsMade now.state (close_of given) → IsMade own.state (close_of closed)
kept_close own now closed given is_own is_closed by =
    subst (λ (l : LedgerAt). IsMade l.state (close_of closed)) (sym is_own)
    (subst (λ (y : PreparedAt). IsMade now.state (close_of y)) (sym is_closed) by)

pub take_step-requires-clause-next : goal.take_step-requires-clause-next
take_step-requires-clause-next c =
    let by = kept_close _ c.args.self.now _ c.args.prepared c.self.view_is c.prepared.view_is c.requires in
    c.prepared.invariant.number ∙ installed_number _ _ by ∙ ap (λ (n : ℕ). n + 1) (sym c.self.invariant.number)

pub take_step-requires-clause-planned : goal.take_step-requires-clause-planned
take_step-requires-clause-planned c =
    let pairs = c.self.inside.levels.pairs in
    let by = kept_close _ c.args.self.now _ c.args.prepared c.self.view_is c.prepared.view_is c.requires in
    let step = installed_step _ _ by in (
      step.0,
      subst (λ (n : ℕ). IsStep n step.0 pairs c.prepared.inside.step.pairs)
          (sym (c.prepared.invariant.number ∙ installed_number _ _ by)) step.1,
    )

pub take-requires-clause-new : goal.take-requires-clause-new
take-requires-clause-new c = (
  c.prepared.inside.header.ledger_seq,
  c.prepared.inside.step.pairs,
  c.prepared.invariant.files,
)

pub take-requires-clause-levels : goal.take-requires-clause-levels
take-requires-clause-levels c = caches_of_levels _ c.self.inside.caches c.self.invariant.state c.self.invariant.files

pub invariant_of-self : goal.invariant_of-self
invariant_of-self c =
    let p = c.prepared.inside in
    let by = kept_close _ c.args.self.now _ c.args.prepared c.self.view_is c.prepared.view_is c.requires in
    subst (λ (pairs : List Pair).
    IsKept p.network p.digest p.header p.entries pairs c.take_step.new.self.seq c.take.new.self)
    (sym c.take_step.ensures.pairs) (record {
      state = installed_state c.taken_is_closable.ensures c.next_is_closing.ensures _ _ c.self.invariant.state by;
      hashed = c.prepared.invariant.hashed;
      number = c.take_step.ensures.seq ∙ c.prepared.invariant.number;
      files = installed_files _ _ c.self.inside.caches c.take.new.self c.self.invariant.state c.self.invariant.files by
          (c.take.ensures p.header.ledger_seq p.step.pairs c.prepared.invariant.files);
    })

pub returns-clause-caches : goal.returns-clause-caches
returns-clause-caches c =
    let p = c.prepared.inside in
    subst (λ (l : LedgerAt). AreMoved c.args.prepared.state.header.ledger_seq c.args.prepared.state.levels l.caches
    c.take.new.self) c.self.view_is
    (subst (λ (y : PreparedAt). AreMoved y.state.header.ledger_seq y.state.levels c.self.inside.caches c.take.new.self)
    c.prepared.view_is (c.take.ensures p.header.ledger_seq p.step.pairs c.prepared.invariant.files))
