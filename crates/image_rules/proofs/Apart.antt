-- What holds of any two items of a list, as far as the list was gone through.
use Rattle.image_rules.proofs.Prelude.{sym, subst, ℕ, ◌+◌, ◌<◌, ◌≡◌, List, length, take, get_or, All, arith, take_more}
use Rattle.image_rules.proofs.Prelude.{get_or-take, length-take-le, All-from_get_or, AllPairs}
use Rattle.std.proofs.lemmas.List.Quantifiers.{all_pairs_push}

module _ {X : Type 0} (R : X → X → Type 0) (xs : List X) (index : ℕ) (d : X) (lt : index < length xs) where
  -- what holds between those before an index and the one at it
  abbrev HoldsAt : Type 0
  HoldsAt = All (λ x. R x (get_or xs index d)) (take index xs)

  pub pairs_more : AllPairs R (take index xs) → HoldsAt → AllPairs R (take (index + 1) xs)
  pairs_more before here =
      subst (AllPairs R) (sym (take_more xs index d lt))
      (all_pairs_push R (take index xs) (get_or xs index d) before here)

  pub pairs_at : AllPairs R xs → HoldsAt
  pairs_at pairs = All-from_get_or (λ x. R x (get_or xs index d)) (take index xs) d (λ k within.
      let few : length (take index xs) ≡ index = length-take-le index xs (omega arith) in
      subst (λ x. R x (get_or xs index d)) (sym (get_or-take index xs k d (omega arith)))
      (pairs k index d (omega arith) lt))
