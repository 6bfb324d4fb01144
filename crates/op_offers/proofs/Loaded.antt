-- The entry of an offer of the source that was loaded, and that it can be sold once it is out of its book.
use Rattle.op_offers.proofs.Prelude.{◌≡◌, refl, sym, ap, ◌∙◌, Bool, true, false, Option, Some, None, Ok, arith, ints, ℤ}
use Rattle.op_offers.proofs.Prelude.{pos, ◌≤ℤ◌, Result, if◌then◌else◌, get, int_eq, IsPriced, AccountId, OfferEntry}
use Rattle.op_offers.proofs.Prelude.{LedgerEntry, EntryMap, offer_of, offer_at, offer_slot_at, entry_of_offer, Ctx}
use Rattle.op_offers.proofs.Prelude.{nothing_owed, IsOfferInRange, holder, DoesReleaseFit, map_after_cancelling}
use Rattle.op_offers.proofs.Prelude.{offer_key, release_fits, Ask, OfferFault, IsManageable, IsSellable, IsSound}
use Rattle.op_offers.proofs.Prelude.{sell_fault, buy_fault, old_asked, changed, managed_at, Managed, Removed}
use Rattle.op_offers.proofs.Prelude.{map_without_offer, nothing_right, offer_slot, offers_exact, slot_entry}
use Rattle.ledger_types.specs.declared.key.LedgerKey.TheVariants as key
use Rattle.entry_slots.specs.declared.offers.OfferSlot.{OfferSlot}
use Rattle.op_offers.proofs.OldOffers.{old_counted, old_rightly}
use Rattle.op_offers.proofs.Tested.{valid_ask}

-- ---- the entry of an offer that was loaded

loaded_entry : (m : EntryMap) (seller : AccountId) (id : ℤ) (slot : OfferSlot) → Some slot ≡ offer_slot_at m seller id
    → get m (key.Offer seller id) ≡ Some (entry_of_offer slot)
loaded_entry m seller id slot loaded =
    let found = slot_entry offers_exact offer_slot slot m (key.Offer seller id) loaded in
    found.2.there ∙ ap Some (λ i. record found.0 { body = found.2.is i })
    ∙ ap (λ s. Some (entry_of_offer s)) (sym found.3)

managed_by : (ctx : Ctx) (ask : Ask) (slot : OfferSlot) (m : EntryMap) (o : Option LedgerEntry)
    → o ≡ Some (entry_of_offer slot)
    → managed_at ctx ask o m
    ≡ (if int_eq ask.amount (pos 0) then Ok (Removed (map_after_cancelling slot.offer m))
    else changed ctx ask slot.offer (entry_of_offer slot) m)
managed_by ctx ask slot m o is = ap (λ x. managed_at ctx ask x m) is

either_way : (b c : Bool) (x y : Result Managed OfferFault) → b ≡ c → (if b then x else y) ≡ (if c then x else y)
either_way b c x y same = ap (λ t. if t then x else y) same

pub removed_is : (ctx : Ctx) (ask : Ask) (slot : OfferSlot) (m : EntryMap)
    → Some slot ≡ offer_slot_at m ctx.op_source ask.offer_id → int_eq ask.amount (pos 0) ≡ true
    → managed_at ctx ask (get m (key.Offer ctx.op_source ask.offer_id)) m
    ≡ Ok (Removed (map_after_cancelling slot.offer m))
removed_is ctx ask slot m found is =
    managed_by ctx ask slot m _ (loaded_entry m ctx.op_source ask.offer_id slot found) ∙ either_way _ true _ _ is

pub changed_is : (ctx : Ctx) (ask : Ask) (slot : OfferSlot) (m : EntryMap)
    → Some slot ≡ offer_slot_at m ctx.op_source ask.offer_id → int_eq ask.amount (pos 0) ≡ false
    → managed_at ctx ask (get m (key.Offer ctx.op_source ask.offer_id)) m
    ≡ changed ctx ask slot.offer (entry_of_offer slot) m
changed_is ctx ask slot m found is =
    managed_by ctx ask slot m _ (loaded_entry m ctx.op_source ask.offer_id slot found) ∙ either_way _ false _ _ is

-- ---- out of its book

module _ (ctx : Ctx) (ask : Ask) (m : EntryMap) (k : IsManageable ctx m) (slot : OfferSlot)
    (found : Some slot ≡ offer_slot_at m ctx.op_source ask.offer_id) where
  abbrev old : OfferEntry
  old = slot.offer

  abbrev e : LedgerEntry
  e = entry_of_offer slot

  there : get m (key.Offer ctx.op_source ask.offer_id) ≡ Some e
  there = loaded_entry m ctx.op_source ask.offer_id slot found

  keyed : offer_key old ≡ key.Offer ctx.op_source ask.offer_id
  keyed = k.legal.keyed (key.Offer ctx.op_source ask.offer_id) e there

  same_seller : old.seller_id ≡ ctx.op_source
  same_seller = sellers keyed
    where
      sellers : {a b : AccountId} {i j : ℤ} → key.Offer a i ≡ key.Offer b j → a ≡ b
      sellers same = cc

  at_own : get m (offer_key old) ≡ Some e
  at_own = ap (get m) keyed ∙ there

  exists : offer_at m old.seller_id old.offer_id ≡ Some old
  unfolding offer_at
  exists = ap offer_of at_own

  range : IsOfferInRange ctx.id_pool old
  range = (k.legal.entries (key.Offer ctx.op_source ask.offer_id) e there).range.body

  pub old_priced : IsPriced old.price
  old_priced = record { n = range.n; d = range.d }

  pub old_amount : pos 0 ≤ℤ old.amount
  old_amount = let some = range.amount in omega (arith, ints)

  pub old_fits : DoesReleaseFit old m
  old_fits = release_fits k.view ctx.id_pool 0 nothing_owed nothing_right old k.sum m k.legal exists

  -- It can be sold once it is out of its book.
  pub changed_sellable : IsSound ask → sell_fault m (holder ctx.op_source ask.selling) ≡ None
      → buy_fault m (holder ctx.op_source ask.buying) ≡ None
      → IsSellable (old_asked ctx ask old e) (map_without_offer old m)
  changed_sellable sound sell_passed buy_passed = record {
    view = k.view;
    id_pool = ctx.id_pool;
    next = ctx.id_pool;
    sum = k.sum;
    legal = old_counted ctx ask m k.view k.sum k.legal old e at_own refl same_seller;
    wide = omega arith;
    right = old_rightly ctx ask m k.view k.sum k.legal old e at_own refl same_seller k.source
        (valid_ask ask sound.valid) sell_passed buy_passed;
  }
