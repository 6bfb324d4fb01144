-- The encodings of a set's envelopes in the order of their hashes.
use Rattle.fee_rules.proofs.Prelude.{◌≡◌, ℕ, List, map, Option, Some, None, option_map, refl, ap, ◌∙◌}
use Rattle.fee_rules.proofs.Prelude.{TransactionEnvelope, transaction_envelope, Queued, ranked, hashed_of, hashed_cmp}
use Rattle.fee_rules.proofs.Prelude.{encoding_if, encoding_at, encodings_by_hash, text_if, text_at, texts_by_hash}
use Rattle.std.proofs.lemmas.Option.{slice_get-map}

if_encoded : (found : Option TransactionEnvelope)
    → text_if (option_map (λ e. transaction_envelope.encoding e) found) ≡ encoding_if found
if_encoded None = refl
if_encoded (Some envelope) = refl

at_index : (envelopes : List TransactionEnvelope) (index : ℕ)
    → text_at (map (λ e. transaction_envelope.encoding e) envelopes) index ≡ encoding_at envelopes index
at_index envelopes index =
    ap text_if (slice_get-map (λ e. transaction_envelope.encoding e) envelopes index) ∙ if_encoded _

pub texts_encoded : (envelopes : List TransactionEnvelope) (queued : List Queued)
    → texts_by_hash (map (λ e. transaction_envelope.encoding e) envelopes) queued ≡ encodings_by_hash envelopes queued
texts_encoded envelopes queued =
    λ i. map (λ hashed. at_index envelopes hashed.index i) (ranked hashed_cmp (map hashed_of queued))
