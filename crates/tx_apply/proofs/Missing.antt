-- The indices that are left, as far as the fee sources there have accounts.
use Rattle.tx_apply.proofs.Prelude.{◌≡◌, ℕ, ◌+◌, ◌<◌, ◌≤◌, Bool, true, false, not, cond, List, length, get_or, drop}
use Rattle.tx_apply.proofs.Prelude.{Option, Some, None, is_some, sym, ap, ◌∙◌, drop_more, drop_all, slice_get-get_or}
use Rattle.tx_apply.proofs.Prelude.{find, slice_get, TransactionEnvelope, EntryMap, account_at, fee_source_of}
use Rattle.tx_apply.proofs.Prelude.{lacks_fee_source, missing_among}

-- the first index that is left, and the others
left : (m : EntryMap) (envelopes : List TransactionEnvelope) (indices : List ℕ) (i : ℕ) (envelope : TransactionEnvelope)
    → i < length indices → get_or indices i 0 < length envelopes
    → envelope ≡ get_or envelopes (get_or indices i 0) envelope
    → missing_among m envelopes (drop i indices)
    ≡ cond (not (is_some (account_at m (fee_source_of envelope)))) (Some (get_or indices i 0))
    (missing_among m envelopes (drop (i + 1) indices))
unfolding missing_among
left m envelopes indices i envelope within there e =
    let at = get_or indices i 0 in
    let lacks = λ (index : ℕ). lacks_fee_source m (slice_get envelopes index) in
    ap (find lacks) (drop_more indices i 0 within)
    ∙ ap (λ (found : Option TransactionEnvelope). cond (lacks_fee_source m found) (Some at)
    (find lacks (drop (i + 1) indices))) (slice_get-get_or envelopes at envelope there ∙ ap Some (sym e))

pub missing_here : (m : EntryMap) (envelopes : List TransactionEnvelope) (indices : List ℕ) (i : ℕ)
    (envelope : TransactionEnvelope) (exists : Bool) → i < length indices → get_or indices i 0 < length envelopes
    → envelope ≡ get_or envelopes (get_or indices i 0) envelope
    → exists ≡ is_some (account_at m (fee_source_of envelope)) → exists ≡ false
    → missing_among m envelopes (drop i indices) ≡ Some (get_or indices i 0)
missing_here m envelopes indices i envelope exists within there e is none =
    left m envelopes indices i envelope within there e
    ∙ ap (λ b. cond (not b) (Some (get_or indices i 0)) (missing_among m envelopes (drop (i + 1) indices)))
    (sym is ∙ none)

pub missing_next : (m : EntryMap) (envelopes : List TransactionEnvelope) (indices : List ℕ) (i : ℕ)
    (envelope : TransactionEnvelope) (exists : Bool) → i < length indices → get_or indices i 0 < length envelopes
    → envelope ≡ get_or envelopes (get_or indices i 0) envelope
    → exists ≡ is_some (account_at m (fee_source_of envelope)) → exists ≡ true
    → missing_among m envelopes (drop i indices) ≡ missing_among m envelopes (drop (i + 1) indices)
missing_next m envelopes indices i envelope exists within there e is some =
    left m envelopes indices i envelope within there e
    ∙ ap (λ b. cond (not b) (Some (get_or indices i 0)) (missing_among m envelopes (drop (i + 1) indices)))
    (sym is ∙ some)

pub none_missing : (m : EntryMap) (envelopes : List TransactionEnvelope) (indices : List ℕ) (i : ℕ) → length indices ≤ i
    → missing_among m envelopes (drop i indices) ≡ None
unfolding missing_among
none_missing m envelopes indices i past =
    ap (find (λ (index : ℕ). lacks_fee_source m (slice_get envelopes index))) (drop_all i indices past)
