-- Envelopes at indices of a list.
use Rattle.std.specs.Prelude.{ℕ, List, [], ◌∷◌, ◌++◌, slice_get}
use Rattle.op_types.specs.declared.transaction.TransactionEnvelope.{TransactionEnvelope}
use Rattle.fee_rules.specs.Ranking.{at_most_one}

-- the envelopes at these indices, in the order of the indices
unfoldable pub envelopes_at : List TransactionEnvelope → List ℕ → List TransactionEnvelope
envelopes_at envelopes [] = []
envelopes_at envelopes (index ∷ indices) = at_most_one (slice_get envelopes index) ++ envelopes_at envelopes indices
