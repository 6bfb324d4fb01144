use Rattle.fee_rules.proofs.Prelude.{◌≤◌, ◌<◌, ◌-◌, ◌+◌, ℕ, List, [], ◌∷◌, ◌++◌, length, refl, sym, subst, arith, Hash}
use Rattle.fee_rules.proofs.Prelude.{Turn, account_cmp, at, mixed_hash}
use Rattle.fee_rules.proofs.Ranks.{SoFar, next_low, step}
use Rattle.fee_rules.proofs.turn.turns_of.Goals as goal

pub overflow_sub-i : goal.overflow_sub-i
overflow_sub-i c =
    subst (λ (n : ℕ). n ≤ c.loop-i.i) (sym c.run_start-start.ensures) (next_low _ _ _ c.loop-i.invariant.low)

pub loop-i-preserved : goal.loop-i-preserved
loop-i-preserved c =
    let txs = c.args.queued.now in
    let set_hash = c.args.set_hash.now in
    let i = c.loop-i.i in
    let within : i < length txs = omega arith in
    let made =
    step set_hash txs c.loop-i.turns.items c.loop-i.start i (at txs c.loop-i.start) (at txs i)
    (account_cmp (at txs c.loop-i.start).source (at txs i).source) c.requires.sorted c.requires.apart within refl
    refl c.loop-i.invariant refl in
    subst (λ (ts : List Turn). SoFar set_hash txs ts c.run_start-start.result (i + 1)) (sym c.in_ok-push.ensures.items)
    (subst (λ (h : Hash). SoFar set_hash txs
    (c.loop-i.turns.items
    ++ record { queue_rank = i - c.run_start-start.result; mixed = h; index = (at txs i).index } ∷ [])
    c.run_start-start.result (i + 1))
    (sym c.mixed_hash.ensures)
    (subst (λ (n : ℕ). SoFar set_hash txs
    (c.loop-i.turns.items
    ++ record { queue_rank = i - n; mixed = mixed_hash (at txs i).full_hash set_hash; index = (at txs i).index } ∷ [])
    n (i + 1))
    (sym c.run_start-start.ensures) made))
