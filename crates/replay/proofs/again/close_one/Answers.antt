use Rattle.replay.proofs.Prelude.{inl, inr}
use Rattle.replay.proofs.Forms.{may_hold_or, never_both}
use Rattle.worker_merges.specs.ledger_close.States.{close_of}
use Rattle.replay.proofs.again.close_one.Goals as goal

pub returns-then-not-may_hold : goal.returns-then-not-may_hold
returns-then-not-may_hold g c = elim (may_hold_or c.args.format c.args.bytes.now) [
  | inl held ↦ absurd (never_both c.may_hold.result c.if-not-may_hold.true (c.may_hold.ensures.1 held))
  | inr form ↦ inl form
]

pub returns-in-Ok : goal.returns-in-Ok
returns-in-Ok g c = record {
  held = c.may_hold.ensures.0 c.if-not-may_hold.false;
  close = close_of c.in-Ok.prepared;
  closes = c.in-Ok.ensures.answers;
  next = c.install.ensures.state;
}
