-- What an offer that is removed without a trade leaves: to all accounts what they have, and the other offers.
use Rattle.trade_cross.proofs.Prelude as prelude
use prelude.{◌≡◌, ◌≢◌, refl, ap, ◌∙◌, ℕ, Option, Some, None, ℤ, pos, neg_ℤ, get, AccountId, AccountEntry, OfferEntry}
use prelude.{LedgerEntry, LedgerKey, EntryMap, erase, account_at, with_account, sponsor_of, offer_at, with_less}
use prelude.{map_after_releasing, without_subentry, map_after_discounting, map_after_removing_entry, releasing, binding}
use prelude.{View, IsKeyed, none_more, trade_aggregates, bound_of, IsOwedRightly, Owed, plus, IsLegalOwing}
use prelude.{releasing_kept, Leaves, keeps_both, no_account_changed, with_offer_body, kept_elsewhere, pays_less}
use prelude.{no_subentry_core, map_after_cancelling, seller_gives_at, seller_takes_at, offer_key, erase_elsewhere}
use prelude.{erase_there}
use Rattle.ledger_types.specs.declared.key.LedgerKey.TheVariants as key
use Rattle.sponsor_rules.specs.declared.count.Count.TheVariants as count
use Rattle.trade_cross.proofs.Altering.{opt_elsewhere}
use Rattle.trade_cross.proofs.Changing.{bound_altered, bound_entry, bound_keeps}
use Rattle.trade_cross.proofs.HoldersApart.{not_an_offer}
use Rattle.trade_cross.proofs.Left.{removing_left}
use Rattle.trade_cross.proofs.Passing.{holder_own}
use Rattle.trade_cross.proofs.StepLeft.{release_left}
use Rattle.trade_cross.proofs.StepLegal.{IsOpen, its_entry, there, settled_then, legal_unsold, release_open}

-- ---- what is under the key of no account

module _ (m : EntryMap) (keyed : IsKeyed m) (q : LedgerKey) (beside : (x : AccountId) → q ≢ key.Account x) where
  -- an account is changed, if it exists
  account_beside : (id : AccountId) (f : AccountEntry → AccountEntry)
      → ((a : AccountEntry) → (f a).account_id ≡ a.account_id) → get (with_account m id f) q ≡ get m q
  account_beside id f named = by (account_at m id) refl
    where
      by : (o : Option AccountEntry) → account_at m id ≡ o → get (with_account m id f) q ≡ get m q
      by None none = ap (λ n. get n q) (no_account_changed m id f none)
      by (Some a) exists = kept_elsewhere m id f a keyed exists (named a) q (beside id)

  payer_beside : (k : ℕ) (s : Option AccountId) → get (map_after_releasing k s m) q ≡ get m q
  payer_beside k None = refl
  payer_beside k (Some x) =
      account_beside x (with_less count.Sponsoring k) (λ a. (pays_less k a).core.id)

discounted_beside : (m : EntryMap) → IsKeyed m → (q : LedgerKey) → ((x : AccountId) → q ≢ key.Account x)
    → (owner : AccountId) (k : ℕ) (s : Option AccountId) → get (map_after_discounting owner k s m) q ≡ get m q
discounted_beside m keyed q beside owner k s =
    account_beside (map_after_releasing k s m) (releasing_kept 0 k s m keyed).keyed q beside owner
    (without_subentry k s) (λ a. (no_subentry_core k s a).id)
    ∙ payer_beside m keyed q beside k s

-- ---- an offer that goes

module _ (v : View) (id_pool : ℕ) (owed : Owed) (sum : ℤ) (o : OfferEntry) (m : EntryMap)
    (legal : IsLegalOwing v id_pool owed sum m) (right : IsOwedRightly owed)
    (exists : offer_at m o.seller_id o.offer_id ≡ Some o) where
  abbrev r : EntryMap
  r = releasing o m

  open_ : IsOpen v id_pool owed sum r o
  open_ = release_open v id_pool 0 owed right o sum m legal exists

  abbrev e : LedgerEntry
  e = (its_entry v id_pool 0 owed right o sum r open_).0

  here : get r (offer_key o) ≡ Some (with_offer_body e o)
  here = there v id_pool 0 owed right o sum r open_

  pub cancelling_left : (base : ℕ) → Leaves base none_more m (map_after_cancelling o m)
  cancelling_left base = keeps_both base m r (map_after_cancelling o m)
      (release_left v id_pool base owed right o sum m legal exists)
      (removing_left v id_pool base (plus owed (trade_aggregates o)) sum r open_.legal
      (settled_then v id_pool base owed right o) o e here)

  -- ---- the others

  abbrev less_wheat : ℤ
  less_wheat = neg_ℤ (pos (bound_of o).wheat)

  abbrev less_sheep : ℤ
  less_sheep = neg_ℤ (pos (bound_of o).sheep)

  abbrev unsold : EntryMap
  unsold = binding (seller_gives_at o) less_wheat (pos 0) m

  unsold_keyed : IsKeyed unsold
  unsold_keyed = (legal_unsold v id_pool 0 owed right o sum m legal exists).keyed

  -- what it binds is released, and it is there as it was
  pub released_beside : (x : OfferEntry) → get r (offer_key x) ≡ get m (offer_key x)
  released_beside x =
      ap (λ n. get n (offer_key x)) (bound_altered unsold unsold_keyed o.seller_id (seller_takes_at o)
      (holder_own o.seller_id o.buying) (pos 0) less_sheep)
      ∙ opt_elsewhere unsold unsold_keyed (seller_takes_at o) (bound_entry (pos 0) less_sheep)
      (bound_keeps (pos 0) less_sheep) (offer_key x) (not_an_offer o.seller_id o.buying x)
      ∙ ap (λ n. get n (offer_key x)) (bound_altered m legal.keyed o.seller_id (seller_gives_at o)
      (holder_own o.seller_id o.selling) less_wheat (pos 0))
      ∙ opt_elsewhere m legal.keyed (seller_gives_at o) (bound_entry less_wheat (pos 0))
      (bound_keeps less_wheat (pos 0)) (offer_key x) (not_an_offer o.seller_id o.selling x)

  abbrev discounted : EntryMap
  discounted = map_after_discounting o.seller_id 1 (sponsor_of e) r

  removed_at : (q : LedgerKey) → get (map_after_cancelling o m) q ≡ get (erase discounted (offer_key o)) q
  removed_at q = ap (λ n. get n q) (ap (map_after_removing_entry (offer_key o) r) here)

  -- It doesn't exist any more.
  pub cancelling_takes : get (map_after_cancelling o m) (offer_key o) ≡ None
  cancelling_takes = removed_at (offer_key o) ∙ erase_there discounted (offer_key o)

  -- Another offer is as it was.
  pub cancelling_beside : (x : OfferEntry) → offer_key x ≢ offer_key o
      → get (map_after_cancelling o m) (offer_key x) ≡ get m (offer_key x)
  cancelling_beside x apart =
      removed_at (offer_key x) ∙ erase_elsewhere discounted (offer_key o) (offer_key x) apart
      ∙ discounted_beside r open_.legal.keyed (offer_key x) (λ id same. absurd (cc)) o.seller_id 1 (sponsor_of e)
      ∙ released_beside x
