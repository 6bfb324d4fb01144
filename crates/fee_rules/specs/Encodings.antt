-- The encodings of envelopes, beside their indices in queues.
use Rattle.std.specs.Prelude.{ℕ, List, [], map, Option, Some, None}
use Rattle.std.specs.List.{slice_get}
use Rattle.fee_rules.specs.declared.queued.Queued.{Queued}
use Rattle.fee_rules.specs.declared.encoding.Encoded.{Encoded}
use Rattle.fee_rules.specs.Ranking.{ranked}
use Rattle.fee_rules.specs.SetHash.{hashed_of, hashed_cmp}

abbrev pub texts_of : Encoded → List (List ℕ)
texts_of encoded = map (λ text. text.items) encoded.texts.items

abbrev pub text_if : Option (List ℕ) → List ℕ
text_if None = []
text_if (Some text) = text

-- the text at an index of a list, or nothing
abbrev pub text_at : List (List ℕ) → ℕ → List ℕ
text_at texts index = text_if (slice_get texts index)

-- texts in the order of their hashes
abbrev pub texts_by_hash : List (List ℕ) → List Queued → List (List ℕ)
texts_by_hash texts queued = map (λ hashed. text_at texts hashed.index) (ranked hashed_cmp (map hashed_of queued))
