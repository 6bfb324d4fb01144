use Rattle.fee_rules.proofs.Prelude.{◌≡◌, map, take, transaction_envelope, all_queued, texts_of}
use Rattle.fee_rules.proofs.encoding.encode_all.Given as goal

abbrev pub invariant-loop-index : goal.invariant-loop-index
invariant-loop-index l =
    (texts_of l.encoded ≡ map (λ x. transaction_envelope.encoding x) (take l.index l.envelopes))
    × (l.encoded.queued.items ≡ all_queued (take l.index l.envelopes))
