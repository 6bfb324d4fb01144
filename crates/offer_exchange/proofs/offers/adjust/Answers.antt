use Rattle.offer_exchange.proofs.Prelude.{sym, subst, ℤ, unsigned_abs, arith, rules, adjusted, IsBound, StaysAdjusted}
use Rattle.std.proofs.lemmas.Int.{ints}
use Rattle.offer_exchange.proofs.Adjusting.{adjusted_bound, adjusted_again}
use Rattle.offer_exchange.proofs.offers.adjust.Goals as goal

pub returns-clause-value : goal.returns-clause-value
unfolding adjusted
returns-clause-value c = search rules

pub returns-clause-bound : goal.returns-clause-bound
returns-clause-bound c =
    let n = unsigned_abs c.args.price.n in
    let d = unsigned_abs c.args.price.d in
    let send = unsigned_abs c.args.send in
    let receive = unsigned_abs c.args.receive in
    let bound = adjusted_bound n d send receive (omega (arith, ints)) (omega (arith, ints)) (omega (arith, ints))
    (omega (arith, ints)) in
    subst (λ (amount : ℤ). IsBound n d send receive (unsigned_abs amount)) (sym (returns-clause-value c)) bound

pub returns-clause-again : goal.returns-clause-again
returns-clause-again c =
    let n = unsigned_abs c.args.price.n in
    let d = unsigned_abs c.args.price.d in
    let send = unsigned_abs c.args.send in
    let receive = unsigned_abs c.args.receive in
    let again = adjusted_again n d send receive (omega (arith, ints)) (omega (arith, ints)) (omega (arith, ints))
    (omega (arith, ints)) in
    subst (λ (amount : ℤ). StaysAdjusted n d receive (unsigned_abs amount)) (sym (returns-clause-value c)) again
