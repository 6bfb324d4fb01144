-- What an old offer leaves that is out of its book, or removed.
use Rattle.op_offers.proofs.Prelude as prelude
use prelude.{◌≡◌, ap, ◌∙◌, ℕ, Option, Some, ℤ, pos, neg_ℤ, get, OfferEntry, LedgerEntry, LedgerKey, EntryMap, offer_of}
use prelude.{offer_at, part, releasing, View, none_more, trade_aggregates, bound_of, nothing_owed, plus, IsLegalOwing}
use prelude.{held, holder, erased_kept, Leaves, keeps_both, with_offer_body, still_there, IsHeld, map_after_cancelling}
use prelude.{offer_key, held_bound, cancelled_keeps, removing_left, IsOpen, settled_then, lets, still_held}
use prelude.{release_open, map_without_offer, nothing_right}
use Rattle.ledger_types.specs.declared.entry.LedgerEntryBody.TheVariants as body
use Rattle.trade_cross.proofs.StepLeft.{release_left}
use Rattle.op_offers.proofs.OutOfBook.{erased_held}

module _ (v : View) (id_pool : ℕ) (sum : ℤ) (old : OfferEntry) (e : LedgerEntry) (m : EntryMap)
    (legal : IsLegalOwing v id_pool nothing_owed sum m) (there : get m (offer_key old) ≡ Some e)
    (is : e.body ≡ body.Offer old) where
  abbrev its_entry : LedgerEntry
  its_entry = with_offer_body e old

  existed : get m (offer_key old) ≡ Some its_entry
  existed = there ∙ ap Some (λ i. record e { body = is i })

  exists : offer_at m old.seller_id old.offer_id ≡ Some old
  unfolding offer_at
  exists = ap offer_of existed

  -- what it binds is released
  open_ : IsOpen v id_pool nothing_owed sum (releasing old m) old
  open_ = release_open v id_pool 0 nothing_owed nothing_right old sum m legal exists

  still : get (releasing old m) (offer_key old) ≡ Some its_entry
  still = still_there v id_pool nothing_owed sum old m legal nothing_right.trades e existed

  released : (base : ℕ) → Leaves base none_more m (releasing old m)
  released base = release_left v id_pool base nothing_owed nothing_right old sum m legal exists

  -- Out of its book it leaves to all accounts what they have.
  pub out_left : (base : ℕ) → Leaves base none_more m (map_without_offer old m)
  out_left base = keeps_both base m (releasing old m) (map_without_offer old m) (released base)
      (erased_kept base (releasing old m) (offer_key old) open_.legal.keyed (λ id same. absurd (cc))
      (λ x. ap (part (held x)) still))

  -- Whoever held an asset holds it.
  pub out_held : (k : Option LedgerKey) → IsHeld m k → IsHeld (map_without_offer old m) k
  out_held k has = erased_held (releasing old m) old k
      (still_held v id_pool 0 nothing_owed nothing_right old sum m legal exists k
      (held_bound m legal.keyed (holder old.seller_id old.selling) (neg_ℤ (pos (bound_of old).wheat)) (pos 0)
      (lets v id_pool 0 nothing_owed nothing_right old sum m legal exists).0 k has))

  -- Removed it leaves a legal state.
  pub cancelled_legal : IsLegalOwing v id_pool nothing_owed sum (map_after_cancelling old m)
  cancelled_legal = cancelled_keeps v id_pool 0 nothing_owed sum old m legal nothing_right exists

  -- So it does to all accounts what they have.
  pub cancelled_left : (base : ℕ) → Leaves base none_more m (map_after_cancelling old m)
  cancelled_left base = keeps_both base m (releasing old m) (map_after_cancelling old m) (released base)
      (removing_left v id_pool base (plus nothing_owed (trade_aggregates old)) sum (releasing old m) open_.legal
      (settled_then v id_pool base nothing_owed nothing_right old) old e still)
