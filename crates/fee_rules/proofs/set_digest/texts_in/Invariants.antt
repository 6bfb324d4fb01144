use Rattle.fee_rules.proofs.Prelude.{◌≡◌, map, take, text_at}
use Rattle.fee_rules.proofs.set_digest.texts_in.Given as goal

abbrev pub invariant-loop-hashed : goal.invariant-loop-hashed
invariant-loop-hashed l =
    map (λ text. text.now) l.found.items
    ≡ map (λ hashed. text_at (map (λ text. text.items) l.texts) hashed.index) (take l.hashed-index l.order)
