use Rattle.sample_ledger.proofs.Prelude.{◌≡◌, [], ◌∷◌, replicate}
use Rattle.sample_ledger.proofs.first_image.files_with.Given as goal

abbrev pub invariant-loop-index : goal.invariant-loop-index
invariant-loop-index l = l.files ≡ l.file ∷ replicate l._index []
