-- The derived orders are the stated ones, and total.
use Rattle.fee_rules.proofs.Prelude.{◌≡◌, refl, subst, IsTotalOrder, Hashed, Queued, Turn, hashed_cmp, queued_cmp}
use Rattle.fee_rules.proofs.Prelude.{turn_cmp}
use Rattle.fee_rules.specs.contracts.hashed.HashedOrd.TheImpl as hashed
use Rattle.fee_rules.specs.contracts.hashed.HashedOrd.TheImpl.Laws as hashed_ord
use Rattle.fee_rules.specs.contracts.queued.QueuedOrd.TheImpl as queued
use Rattle.fee_rules.specs.contracts.queued.QueuedOrd.TheImpl.Laws as queued_ord
use Rattle.fee_rules.specs.contracts.turn.TurnOrd.TheImpl as turns
use Rattle.fee_rules.specs.contracts.turn.TurnOrd.TheImpl.Laws as turn_ord

hashed_compared : (a b : Hashed) → (hashed.cmp-value).it a b ≡ hashed_cmp a b
hashed_compared a b = refl

pub hashed_total : IsTotalOrder hashed_cmp
hashed_total = subst IsTotalOrder (λ i a b. hashed_compared a b i) hashed_ord.total-law

queued_compared : (a b : Queued) → (queued.cmp-value).it a b ≡ queued_cmp a b
queued_compared a b = refl

pub queued_total : IsTotalOrder queued_cmp
queued_total = subst IsTotalOrder (λ i a b. queued_compared a b i) queued_ord.total-law

turns_compared : (a b : Turn) → (turns.cmp-value).it a b ≡ turn_cmp a b
turns_compared a b = refl

pub turns_total : IsTotalOrder turn_cmp
turns_total = subst IsTotalOrder (λ i a b. turns_compared a b i) turn_ord.total-law
