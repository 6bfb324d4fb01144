use Rattle.sample_ledger.proofs.Prelude.{◌≡◌, ◌∷◌, ◌++◌, take, codes, flat_map, decimal}
use Rattle.sample_ledger.proofs.text.sample_text.Given as goal

abbrev pub invariant-loop-number : goal.invariant-loop-number
invariant-loop-number l = l.text.items
    ≡ codes "sample " ++ l.kind ++ flat_map (λ number. 32 ∷ decimal number) (take l.number-index l.numbers)
