-- A record that closes a ledger conserves lumens, the supply of each other asset but for what is issued and redeemed,
-- and what each holder has but for what is moved.
use Rattle.close_laws.proofs.Prelude as prelude
use prelude.{◌≡◌, ℕ, ℤ, pos, ◌+ℤ◌, refl, sym, ap, subst, ◌∙◌, List, [], ◌∷◌, Asset, LedgerHeader, CloseRecord}
use prelude.{TransactionEnvelope, EntryMap, total, held, list_hash, SetsConserve, fees_taken, map_after_fee}
use prelude.{fees_taken_of, ClosingState, PreparedClose, IsClosed, setting_in, applied_in, IsClosable}
use Rattle.std.specs.Prelude.{◌≢◌}
use Rattle.close_rules.specs.ledger_types.declared.asset.Asset.TheVariants as asset
use Rattle.close_rules.specs.op_laws.Moves.{issued, issued_in}
use Rattle.close_rules.specs.tx_apply.EachTransaction.{EachConserves, lumens_with}
use Rattle.close_rules.specs.tx_apply.Fees.{fee_of, fee_move}
use Rattle.close_rules.specs.tx_apply.Laws.{AreAllDescribed}
use Rattle.close_rules.specs.tx_apply.Set.{fee_pool_after}
use Rattle.close_laws.specs.ClosedRecords.{IsConservedBetween, moves_in}
use Rattle.close_rules.proofs.ledger_types_proofs.Arithmetic.{zero_add, zeros_add_to_zero}
use Rattle.op_laws.proofs.Issued.{issued_after}
use Rattle.close_laws.proofs.Unmarked.{AreMapsAlike, next_alike, total_alike}
use Rattle.close_laws.proofs.AlikeHoldings.{holding_alike}
use Rattle.close_laws.proofs.NextHeader.{next_counts}
use Rattle.close_laws.proofs.NextLegal.{can_close, conserved}

-- ---- fees are moved in lumens, which nobody issues

fee_issues_nothing : (x : Asset) (entire : TransactionEnvelope) (fee : ℤ) → issued_in x (fee_move entire fee) ≡ pos 0
fee_issues_nothing asset.Native entire fee = refl
fee_issues_nothing (asset.Alphanum4 code issuer) entire fee = refl
fee_issues_nothing (asset.Alphanum12 code issuer) entire fee = refl

fees_issue_nothing : (x : Asset) (base : ℕ) (envelopes : List TransactionEnvelope) (m : EntryMap)
    → issued x (fees_taken base envelopes m).moves ≡ pos 0
unfolding fees_taken issued
fees_issue_nothing x base [] m = refl
fees_issue_nothing x base (entire ∷ others) m =
    let fee = fee_of base entire m in
    let after = map_after_fee base entire m in
    zeros_add_to_zero (issued_in x (fee_move entire fee)) (issued x (fees_taken base others after).moves)
    (fee_issues_nothing x entire fee) (fees_issue_nothing x base others after)

-- ---- the close

module _ (conserve : SetsConserve) (s : ClosingState) (closing : CloseRecord) (closed : PreparedClose)
    (can : IsClosable s closing) (by : IsClosed s closing closed) where
  abbrev worked : EntryMap
  worked = (applied_in s closing).entries

  abbrev after : EntryMap
  after = closed.state.entries

  abbrev pool : ℤ
  pool = fee_pool_after (setting_in s closing) closing.tx_set s.entries

  alike : AreMapsAlike worked after
  alike = next_alike _ s.entries worked after by.entries

  same_total : (x : Asset) → total (held x) after ≡ total (held x) worked
  same_total x = sym (total_alike (held x) worked after alike (λ e. refl))

  same_pool : closed.state.header.fee_pool ≡ pool
  same_pool =
      ap (λ (h : LedgerHeader). h.fee_pool) by.header ∙ (next_counts s closing (list_hash closed.state.levels)).fee_pool

  same_lumens : lumens_with closed.state.header.fee_pool after ≡ lumens_with s.header.fee_pool s.entries
  same_lumens =
      ap (λ (p : ℤ). total (held asset.Native) after +ℤ p) same_pool
      ∙ ap (λ (n : ℤ). n +ℤ pool) (same_total asset.Native)
      ∙ (conserved conserve s closing can).lumens ∙ sym can.state.legal.lumens

  same_supply : (x : Asset) → x ≢ asset.Native
      → total (held x) after ≡ total (held x) s.entries +ℤ issued x (moves_in s closing)
  same_supply x apart =
      let fees = fees_taken_of (setting_in s closing) closing.tx_set s.entries in
      let done = applied_in s closing in
      let all : issued x (moves_in s closing) ≡ issued x done.moves =
      issued_after x fees.moves done.moves
      ∙ ap (λ (n : ℤ). n +ℤ issued x done.moves) (fees_issue_nothing x _ _ s.entries)
      ∙ zero_add (issued x done.moves) in
      same_total x ∙ (conserved conserve s closing can).supply x apart
      ∙ ap (λ (n : ℤ). total (held x) s.entries +ℤ n) (sym all)

  all_described : AreAllDescribed s.header.fee_pool s.entries closed.state.header.fee_pool after (moves_in s closing)
  all_described =
      subst (λ (p : ℤ). AreAllDescribed s.header.fee_pool s.entries p after (moves_in s closing)) (sym same_pool)
      (λ x holder other. sym (holding_alike pool worked after alike x holder)
      ∙ (conserved conserve s closing can).described x holder other)

  pub close_conserved : EachConserves → IsConservedBetween s closing closed.state
  close_conserved each = record {
    each = each (setting_in s closing) closing.tx_set s.entries (can_close s closing can);
    lumens = same_lumens;
    supply = same_supply;
    described = all_described;
  }
