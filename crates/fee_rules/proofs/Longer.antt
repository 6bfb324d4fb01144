-- One transaction more in a list, encoded or in its queue, and one byte more of a mixed hash.
use Rattle.fee_rules.proofs.Prelude.{◌≡◌, ℕ, ◌+◌, ◌<◌, suc, List, [], ◌∷◌, ◌++◌, length, get_or, take, ap, ◌∙◌, sym}
use Rattle.fee_rules.proofs.Prelude.{arith, take-suc, map, map-append, length-take-le, bit_xor, slice_index}
use Rattle.fee_rules.proofs.Prelude.{TransactionEnvelope, transaction_envelope, queued_of, all_queued_from, all_queued}
use Rattle.fee_rules.proofs.Prelude.{mixed_bytes}

queued_after : (index : ℕ) (envelopes : List TransactionEnvelope) (e : TransactionEnvelope)
    → all_queued_from index (envelopes ++ e ∷ [])
    ≡ all_queued_from index envelopes ++ queued_of (index + length envelopes) e ∷ []
queued_after index [] e = let same : index ≡ index + 0 = omega arith in ap (λ n. queued_of n e ∷ []) same
queued_after index (x ∷ xs) e =
    let same : index + 1 + length xs ≡ index + suc (length xs) = omega arith in
    ap (λ zs. queued_of index x ∷ zs)
    (queued_after (index + 1) xs e ∙ ap (λ n. all_queued_from (index + 1) xs ++ queued_of n e ∷ []) same)

pub queued_more : (envelopes : List TransactionEnvelope) (i : ℕ) (e : TransactionEnvelope) → i < length envelopes
    → e ≡ get_or envelopes i e
    → all_queued (take (i + 1) envelopes) ≡ all_queued (take i envelopes) ++ queued_of i e ∷ []
queued_more envelopes i e within at =
    let next : i + 1 ≡ suc i = omega arith in
    let long : length (take i envelopes) ≡ i = length-take-le i envelopes (omega arith) in
    let same : 0 + length (take i envelopes) ≡ i = omega (arith, long) in
    ap (λ n. all_queued (take n envelopes)) next
    ∙ ap all_queued (take-suc envelopes i e within ∙ ap (λ x. take i envelopes ++ x ∷ []) (sym at))
    ∙ queued_after 0 (take i envelopes) e
    ∙ ap (λ n. all_queued (take i envelopes) ++ queued_of n e ∷ []) same

pub encoded_more : (envelopes : List TransactionEnvelope) (i : ℕ) (e : TransactionEnvelope) → i < length envelopes
    → e ≡ get_or envelopes i e
    → map (λ x. transaction_envelope.encoding x) (take (i + 1) envelopes)
    ≡ map (λ x. transaction_envelope.encoding x) (take i envelopes) ++ transaction_envelope.encoding e ∷ []
encoded_more envelopes i e within at =
    let next : i + 1 ≡ suc i = omega arith in
    let encoded : List TransactionEnvelope → List (List ℕ) = map (λ x. transaction_envelope.encoding x) in
    ap (λ n. encoded (take n envelopes)) next
    ∙ ap encoded (take-suc envelopes i e within ∙ ap (λ x. take i envelopes ++ x ∷ []) (sym at))
    ∙ map-append (λ x. transaction_envelope.encoding x) (take i envelopes) (e ∷ [])

pub mixed_more : (a b : List ℕ) (n : ℕ)
    → mixed_bytes a b (n + 1) ≡ mixed_bytes a b n ++ bit_xor (slice_index a n) (slice_index b n) ∷ []
unfolding mixed_bytes
mixed_more a b n = let next : n + 1 ≡ suc n = omega arith in ap (mixed_bytes a b) next
