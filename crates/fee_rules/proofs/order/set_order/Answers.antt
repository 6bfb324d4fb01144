use Rattle.fee_rules.proofs.Prelude.{◌≡◌, ◌<◌, List, length, map, sym, subst, ap, ◌∙◌, All, IsDistinct}
use Rattle.fee_rules.proofs.Prelude.{TransactionEnvelope, transaction_envelope, Queued, has_index_of, all_queued}
use Rattle.fee_rules.proofs.Prelude.{hash_of_set, encodings_by_hash, texts_by_hash, indices_in_order}
use Rattle.hash_ids.specs.Ids.{set_hash_of}
use Rattle.fee_rules.proofs.Indices.{apart_in_list}
use Rattle.fee_rules.proofs.Encoded.{envelopes_within, envelopes_few}
use Rattle.fee_rules.proofs.Texts.{texts_encoded}
use Rattle.fee_rules.proofs.order.set_order.Goals as goal
use Rattle.fee_rules.proofs.Indices.{all_queued_length}

pub encode_all-requires-clause-within : goal.encode_all-requires-clause-within
encode_all-requires-clause-within c =
    subst (λ (es : List TransactionEnvelope). All (λ envelope. transaction_envelope.within envelope) es)
    (sym c.as_slice.ensures) (envelopes_within c.args.set.now c.requires)

pub encode_all-requires-clause-few : goal.encode_all-requires-clause-few
encode_all-requires-clause-few c = rw c.as_slice.ensures (envelopes_few c.args.set.now c.requires)

pub hash_of_texts-requires : goal.hash_of_texts-requires
hash_of_texts-requires c =
    subst (λ (qs : List Queued). IsDistinct has_index_of qs)
    (sym (c.as_slice-3.ensures.value ∙ c.in_ok-texts.ensures.queued)) (apart_in_list c.as_slice.result.now)

pub indices_in_order-requires-clause-apart : goal.indices_in_order-requires-clause-apart
indices_in_order-requires-clause-apart c =
    subst (λ (qs : List Queued). IsDistinct has_index_of qs) (sym c.in_ok-texts.ensures.queued)
    (apart_in_list c.as_slice.result.now)

pub indices_in_order-requires-clause-few : goal.indices_in_order-requires-clause-few
indices_in_order-requires-clause-few c =
    subst (λ (qs : List Queued). length qs < 4294967296) (sym c.in_ok-texts.ensures.queued)
    (rw (all_queued_length 0 c.as_slice.result.now, c.as_slice.ensures) (envelopes_few c.args.set.now c.requires))

pub returns-clause-hash : goal.returns-clause-hash
unfolding hash_of_set
returns-clause-hash c =
    let txs = c.args.set.now.txs in
    let texts : map (λ text. text.items) c.as_slice-2.result.now ≡ map (λ e. transaction_envelope.encoding e) txs =
    ap (map (λ text. text.items)) c.as_slice-2.ensures.value ∙ c.in_ok-texts.ensures.texts
    ∙ ap (map (λ e. transaction_envelope.encoding e)) c.as_slice.ensures in
    let queued : c.as_slice-3.result.now ≡ all_queued txs =
    c.as_slice-3.ensures.value ∙ c.in_ok-texts.ensures.queued ∙ ap all_queued c.as_slice.ensures in
    let by_hash : texts_by_hash (map (λ text. text.items) c.as_slice-2.result.now) c.as_slice-3.result.now
    ≡ encodings_by_hash txs (all_queued txs) =
    (λ k. texts_by_hash (texts k) (queued k)) ∙ texts_encoded txs (all_queued txs) in
    c.in_ok-set_hash.ensures ∙ ap (set_hash_of c.args.set.now.previous_ledger_hash) by_hash

pub returns-clause-indices : goal.returns-clause-indices
returns-clause-indices c =
    let hash = returns-clause-hash c in
    let queued : c.in_ok-texts.field-0.queued.items ≡ all_queued c.args.set.now.txs =
    c.in_ok-texts.ensures.queued ∙ ap all_queued c.as_slice.ensures in
    c.in_ok-indices_in_order.ensures ∙ (λ k. indices_in_order (hash k) (queued k))
