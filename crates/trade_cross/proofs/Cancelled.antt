-- That an offer which is removed without a trade leaves a legal state, and that the removal can be worked out.
use Rattle.trade_cross.proofs.Prelude.{◌≡◌, ℕ, Some, ℤ, pos, neg_ℤ, OfferEntry, EntryMap, offer_at, binding, releasing}
use Rattle.trade_cross.proofs.Prelude.{View, bound_of, IsOwedRightly, Owed, IsLegalOwing, DoesReleaseFit}
use Rattle.trade_cross.proofs.Prelude.{CancelledOffersKeep, map_after_cancelling, IsCrossable, seller_gives_at}
use Rattle.trade_cross.proofs.Prelude.{◌∙◌, ap, sym, seller_takes_at, offer_key, get, LedgerEntry}
use Rattle.ledger_types.specs.Keys.{key_of, key_of_body}
use Rattle.ledger_types.specs.declared.entry.LedgerEntryBody.{LedgerEntryBody}
use Rattle.ledger_types.specs.declared.entry.LedgerEntryBody.TheVariants as body
use Rattle.entry_map.specs.Book.{offer_in, offer_of}
use Rattle.trade_cross.proofs.Bonds.{bond_fits, released_within, bought_within}
use Rattle.trade_cross.proofs.StepLegal.{lets, legal_unsold, offer_gone, release_open}

pub cancelled_keeps : CancelledOffersKeep
cancelled_keeps v id_pool base owed sum o m legal right exists =
    offer_gone v id_pool base owed right o sum (releasing o m)
    (release_open v id_pool base owed right o sum m legal exists)

pub release_fits : (v : View) (id_pool base : ℕ) (owed : Owed) (right : IsOwedRightly owed) (o : OfferEntry) (sum : ℤ)
    (m : EntryMap) → IsLegalOwing v id_pool owed sum m → offer_at m o.seller_id o.offer_id ≡ Some o
    → DoesReleaseFit o m
release_fits v id_pool base owed right o sum m legal exists =
    let can = lets v id_pool base owed right o sum m legal exists in
    let unsold = binding (seller_gives_at o) (neg_ℤ (pos (bound_of o).wheat)) (pos 0) m in
    let legal_then = legal_unsold v id_pool base owed right o sum m legal exists in
    record {
      gives = bond_fits v id_pool owed sum m legal (seller_gives_at o) _ (pos 0) can.0
          (released_within v id_pool owed sum m legal (seller_gives_at o) (bound_of o).wheat);
      takes = bond_fits v id_pool _ sum unsold legal_then (seller_takes_at o) (pos 0) _ can.1
          (bought_within v id_pool _ sum unsold legal_then (seller_takes_at o));
    }

pub still_crossable : (o : OfferEntry) (m : EntryMap) → IsCrossable m → offer_at m o.seller_id o.offer_id ≡ Some o
    → IsCrossable (map_after_cancelling o m)
still_crossable o m k exists = record {
  view = k.view;
  id_pool = k.id_pool;
  owed = k.owed;
  sum = k.sum;
  legal = cancelled_keeps k.view k.id_pool 0 k.owed k.sum o m k.legal k.right exists;
  right = k.right;
}

-- ---- an offer that was found as an entry

offer_key_of : (b : LedgerEntryBody) (o : OfferEntry) → offer_in b ≡ Some o → key_of_body b ≡ offer_key o
offer_key_of (body.Offer x) o is = let same : x ≡ o = cc in ap offer_key same
offer_key_of (body.Account a) o is = absurd (cc)
offer_key_of (body.TrustLine a) o is = absurd (cc)
offer_key_of (body.Data a) o is = absurd (cc)
offer_key_of (body.ClaimableBalance a) o is = absurd (cc)
offer_key_of (body.LiquidityPool a) o is = absurd (cc)

pub found_key : (e : LedgerEntry) (o : OfferEntry) → offer_in e.body ≡ Some o → key_of e ≡ offer_key o
found_key e o is = offer_key_of e.body o is

pub found_offer : (m : EntryMap) (e : LedgerEntry) (o : OfferEntry) → get m (key_of e) ≡ Some e
    → offer_in e.body ≡ Some o → offer_at m o.seller_id o.offer_id ≡ Some o
unfolding offer_at
found_offer m e o there is = ap (λ k. offer_of (get m k)) (sym (found_key e o is)) ∙ ap offer_of there ∙ is
