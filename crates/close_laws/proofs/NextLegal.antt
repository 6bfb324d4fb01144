-- A close leaves a legal state.
use Rattle.close_laws.proofs.Prelude.{sym, ap, subst, ◌∙◌, ℕ, ◌+◌, ◌≤◌, arith, ℤ, ◌+ℤ◌, Hash, CloseRecord, EntryMap}
use Rattle.close_laws.proofs.Prelude.{total, held, SettledLegal, IsSettled, finished, operation_total, CanClose}
use Rattle.close_laws.proofs.Prelude.{IsConserved, SetsConserve, envelopes_in_order, ClosingState, setting_in}
use Rattle.close_laws.proofs.Prelude.{applied_in, filled_header, upgraded_header, IsClosable, AreClosed, NextIsLegal}
use Rattle.close_rules.specs.ledger_types.declared.asset.Asset.TheVariants as asset
use Rattle.close_laws.proofs.Unmarked.{next_alike, total_alike}
use Rattle.close_laws.proofs.AlikeLegal.{settled_alike}
use Rattle.close_laws.proofs.EncodedSets.{set_encoded, set_fit}
use Rattle.close_laws.proofs.FewDrawn.{set_draws}
use Rattle.close_laws.proofs.Unrefused.{seq_below}
use Rattle.close_laws.proofs.NextHeader.{IsUpgradedFrom, next_range}

pub can_close : (s : ClosingState) (closing : CloseRecord) → IsClosable s closing
    → CanClose (setting_in s closing) closing.tx_set s.entries
can_close s closing can = record {
  legal = can.state.legal;
  seq = seq_below s closing can.unrefused can.state.legal.header.seq_high;
  fit = set_fit closing.tx_set (set_encoded closing can.encoded);
}

drawn_few : (was total now : ℕ) → now ≤ was + total → total ≤ 1677721600 → now ≤ was + 1677721600
drawn_few was total now le few = omega arith

module _ (conserve : SetsConserve) (s : ClosingState) (closing : CloseRecord) (can : IsClosable s closing) where
  pub conserved : IsConserved (setting_in s closing) closing.tx_set s.entries
  conserved = conserve (setting_in s closing) closing.tx_set s.entries (can_close s closing can)

  few_drawn : (applied_in s closing).id_pool ≤ s.header.id_pool + 1677721600
  few_drawn =
      drawn_few s.header.id_pool (operation_total (envelopes_in_order closing.tx_set)) (applied_in s closing).id_pool
      conserved.ids.high (set_draws closing.tx_set (set_encoded closing can.encoded) can.few)

  pub upgraded_from : (list_hash : Hash)
      → IsUpgradedFrom (filled_header s closing) (finished (upgraded_header s closing) list_hash)
  upgraded_from list_hash =
      next_range s closing list_hash can.state.legal.header can.unrefused
      (seq_below s closing can.unrefused can.state.legal.header.seq_high) few_drawn

  -- what the set leaves is settled
  pub applied_settled : IsSettled (applied_in s closing).id_pool (applied_in s closing).entries
  applied_settled = conserved.settled

  -- what exists after the close is settled
  pub next_settled : (after : EntryMap) → AreClosed s closing after → IsSettled (applied_in s closing).id_pool after
  next_settled after closed =
      settled_alike (applied_in s closing).id_pool (applied_in s closing).entries after
      (next_alike _ s.entries (applied_in s closing).entries after closed) conserved.settled

pub next_is_legal : SettledLegal → SetsConserve → NextIsLegal
next_is_legal legal conserve s closing after list_hash can closed =
    let worked = (applied_in s closing).entries in
    let next = finished (upgraded_header s closing) list_hash in
    let from = upgraded_from conserve s closing can list_hash in
    let same = total_alike (held asset.Native) worked after (next_alike _ s.entries worked after closed)
    (λ e i. held asset.Native e) in
    legal next after from.range
    (subst (λ n. IsSettled n after) (sym from.counts.id_pool) (next_settled conserve s closing can after closed))
    (ap (λ (n : ℤ). n +ℤ next.fee_pool) (sym same)
    ∙ ap (λ (n : ℤ). total (held asset.Native) worked +ℤ n) from.counts.fee_pool
    ∙ (conserved conserve s closing can).lumens ∙ sym from.counts.total_coins)
