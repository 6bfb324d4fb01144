-- An offer that is made, changed or removed, in a map of which an invariant holds.
use Rattle.entry_map.specs.EntryMap.{EntryMap}
use Rattle.ledger_types.proofs.Booleans.{if_either}
use Rattle.ledger_types.specs.Keys.{key_of_body}
use Rattle.ledger_types.specs.declared.entry.LedgerEntry.{LedgerEntry}
use Rattle.ledger_types.specs.declared.entry.LedgerEntryBody.{LedgerEntryBody}
use Rattle.ledger_types.specs.declared.ids.AccountId.{AccountId}
use Rattle.ledger_types.specs.declared.offer.OfferEntry.{OfferEntry}
use Rattle.legal_rules.specs.Binding.{releasing}
use Rattle.legal_rules.specs.Trades.{holder}
use Rattle.op_offers.proofs.Begun.{made_sellable}
use Rattle.op_offers.proofs.OldOffers.{old_counted, old_rightly}
use Rattle.op_offers.proofs.Tested.{valid_ask}
use Rattle.op_offers.specs.Asked.{is_malformed}
use Rattle.op_offers.specs.Calls.{IsFormed, IsManageable, IsSellable, IsSound}
use Rattle.op_offers.specs.Managing.{Changed, Effect, Made, Managed, Removed, Traded, buy_fault, changed, made}
use Rattle.op_offers.specs.Managing.{managed, managed_at, managed_old, new_asked, of_sold, offer_asked, old_asked}
use Rattle.op_offers.specs.Managing.{sell_fault, unless_lines, unless_some, with_reserve}
use Rattle.op_offers.specs.Selling.{Asked, Sold, map_without_offer, sold}
use Rattle.op_offers.specs.declared.ask.Ask.{Ask}
use Rattle.op_offers.specs.declared.fault.OfferFault.{OfferFault}
use Rattle.reserve_rules.specs.Reserve.{greatest_i64}
use Rattle.sponsor_rules.specs.Adding.{map_after_counting_subentry}
use Rattle.sponsor_rules.specs.Payers.{open_sponsor}
use Rattle.sponsor_rules.specs.declared.context.Ctx.{Ctx}
use Rattle.sponsor_rules.specs.declared.fault.AddFault.{AddFault}
use Rattle.std.proofs.Common.{ap, arith, refl, sym, ◌∙◌}
use Rattle.std.specs.FinMap.{get}
use Rattle.std.specs.Ordering.{int_eq}
use Rattle.std.specs.Prelude.{Bool, Err, None, Ok, Option, Result, Some, false, if◌then◌else◌, pos, true, ℕ, ℤ, ◌+◌}
use Rattle.std.specs.Prelude.{◌≡◌, ◌≤ℤ◌, ◌≤◌}
use Rattle.sponsor_rules.proofs.Changes.{HoldsIf}
use Rattle.sponsor_rules.proofs.Charges.{counting_subentry, sponsored_entry_fits}
use Rattle.sponsor_rules.proofs.Entries.{Fits, FitsBody, Invariant}
use Rattle.trade_cross.specs.Cancelling.{map_after_cancelling}
use Rattle.trade_cross.specs.Crossing.{offer_key}
use Rattle.trade_cross.proofs.BoundHold.{cancelling_holds, releasing_holds}
use Rattle.op_offers.proofs.SoldHold.{AreSold, Gives, IsAskedFit, sold_holds}
use Rattle.ledger_types.specs.declared.entry.LedgerEntryBody.TheVariants as body
use Rattle.ledger_types.specs.declared.key.LedgerKey.TheVariants as key
use Rattle.op_offers.specs.declared.fault.OfferFault.TheVariants as fault

-- what becomes of an offer
abbrev pub IsManaged : Invariant → Managed → Type 0
IsManaged g (Removed m) = g.Holds m
IsManaged g (Traded what asked done ids) = AreSold g done × IsAskedFit g asked × (g.Asks → asked.offer.flags ≤ 1)

-- what an operation asks for fits: a new offer, where its id can be written, and an old one
pub record DoesAskFit (g : Invariant) (ctx : Ctx) (ask : Ask) : Type 0 where
  pub new : (g.Asks → pos (ctx.id_pool + 1) ≤ℤ greatest_i64)
      → g.of.Offer (offer_asked ctx.op_source ask (pos (ctx.id_pool + 1)) ask.flags)
  pub old : (was : OfferEntry) → g.of.Offer was
      → g.of.Offer (offer_asked ctx.op_source ask was.offer_id was.flags)

same_or_more : (n : ℕ) → n ≤ n
same_or_more n = omega arith

ids : {i j : ℤ} {p q : AccountId} → key.Offer p i ≡ key.Offer q j → p ≡ q
ids same = cc

-- ---- an old offer, once it is out of its book

module _ (ctx : Ctx) (ask : Ask) (m : EntryMap) (k : IsManageable ctx m) (sound : IsSound ask) (old : OfferEntry)
    (e : LedgerEntry) (there : get m (key.Offer ctx.op_source ask.offer_id) ≡ Some e) (is : e.body ≡ body.Offer old)
  where
    keyed : offer_key old ≡ key.Offer ctx.op_source ask.offer_id
    keyed = sym (ap key_of_body is) ∙ k.legal.keyed (key.Offer ctx.op_source ask.offer_id) e there

    old_sellable : sell_fault m (holder ctx.op_source ask.selling) ≡ None
        → buy_fault m (holder ctx.op_source ask.buying) ≡ None
        → IsSellable (old_asked ctx ask old e) (map_without_offer old m)
    old_sellable gives takes = record {
      view = k.view;
      id_pool = ctx.id_pool;
      next = ctx.id_pool;
      sum = k.sum;
      legal = old_counted ctx ask m k.view k.sum k.legal old e (ap (get m) keyed ∙ there) is (ids keyed);
      wide = same_or_more ctx.id_pool;
      right = old_rightly ctx ask m k.view k.sum k.legal old e (ap (get m) keyed ∙ there) is (ids keyed) k.source
          (valid_ask ask sound.valid) gives takes;
    }

-- ---- what becomes of it

module _ (g : Invariant) (ctx : Ctx) (ask : Ask) (m : EntryMap) (can : g.Asks → IsManageable ctx m)
    (formed : IsFormed ask) (fits : DoesAskFit g ctx ask) (named : g.of.Sponsor (open_sponsor ctx ctx.op_source))
    (holds : g.Holds m) where
  by_sale : (what : Effect) (next : ℕ) (asked : Asked) (now : EntryMap) → (g.Asks → IsSellable asked now)
      → IsAskedFit g asked → (r : Result Sold OfferFault) → Gives (AreSold g) r
      → Gives (IsManaged g) (of_sold what asked ctx.id_pool next r)
  by_sale what next asked now can_sell its_fits (Err other) sells = record { gives = tt }
  by_sale what next asked now can_sell its_fits (Ok done) sells =
      record { gives = (sells.gives, its_fits, λ asks. (can_sell asks).right.flags) }

  -- the lines pass their tests
  by_lines : (next : Result Managed OfferFault) → (sell_fault m (holder ctx.op_source ask.selling) ≡ None
      → buy_fault m (holder ctx.op_source ask.buying) ≡ None → Gives (IsManaged g) next)
      → Gives (IsManaged g) (unless_lines m ctx.op_source ask next)
  by_lines next then_ = by (sell_fault m (holder ctx.op_source ask.selling))
      (buy_fault m (holder ctx.op_source ask.buying)) then_
    where
      by : (o p : Option OfferFault) → (o ≡ None → p ≡ None → Gives (IsManaged g) next)
          → Gives (IsManaged g) (unless_some o (unless_some p next))
      by None None go = go refl refl
      by None (Some other) go = record { gives = tt }
      by (Some other) p go = record { gives = tt }

  module _ (valid : is_malformed ask ≡ false) where
    abbrev sound : IsSound ask
    sound = record { formed = formed; valid = valid }

    by_reserve : sell_fault m (holder ctx.op_source ask.selling) ≡ None
        → buy_fault m (holder ctx.op_source ask.buying) ≡ None → (r : Result EntryMap AddFault)
        → map_after_counting_subentry ctx ctx.op_source 1 m ≡ r → HoldsIf g r
        → Gives (IsManaged g) (with_reserve ctx ask r)
    by_reserve gives takes (Err other) counted each = record { gives = tt }
    by_reserve gives takes (Ok now) counted each =
        let asked = new_asked ctx ask in
        let offer = fits.new (λ asks. (can asks).ids) in
        let sellable : g.Asks → IsSellable asked now =
        λ asks. made_sellable ctx m (can asks) ask sound gives takes now counted in
        let its_fits : IsAskedFit g asked = record {
          offer = offer;
          sponsor = (sponsored_entry_fits g (open_sponsor ctx ctx.op_source)
              (record { last_modified_ledger_seq = ctx.seq + 1; body = body.Offer asked.offer; ext = None })
              (record { body = offer; sponsor = g.nobody }) named).sponsor;
        } in
        by_sale Made (ctx.id_pool + 1) asked now sellable its_fits _
        (sold_holds g ctx.base_reserve asked now sellable its_fits each.holds)

    its_made : Gives (IsManaged g) (made ctx ask m)
    its_made = by_lines (with_reserve ctx ask (map_after_counting_subentry ctx ctx.op_source 1 m))
        (λ gives takes. by_reserve gives takes (map_after_counting_subentry ctx ctx.op_source 1 m) refl
        (counting_subentry g ctx ctx.op_source 1 m holds))

    its_changed : (old : OfferEntry) (e : LedgerEntry) → get m (key.Offer ctx.op_source ask.offer_id) ≡ Some e
        → e.body ≡ body.Offer old → Fits g.of e → g.of.Offer old → Gives (IsManaged g) (changed ctx ask old e m)
    its_changed old e there is entry offer =
        let asked = old_asked ctx ask old e in
        let now = map_without_offer old m in
        let its_fits : IsAskedFit g asked = record { offer = fits.old old offer; sponsor = entry.sponsor } in
        by_lines (of_sold Changed asked ctx.id_pool ctx.id_pool (sold ctx.base_reserve asked now))
        (λ gives takes.
        let sellable : g.Asks → IsSellable asked now =
        λ asks. old_sellable ctx ask m (can asks) sound old e there is gives takes in
        by_sale Changed ctx.id_pool asked now sellable its_fits _
        (sold_holds g ctx.base_reserve asked now sellable its_fits
        (g.erasing (releasing old m) (offer_key old) (releasing_holds g old m holds) (g.others (offer_key old) tt))))

    by_body : (e : LedgerEntry) (b : LedgerEntryBody) → e.body ≡ b
        → get m (key.Offer ctx.op_source ask.offer_id) ≡ Some e → Fits g.of e → FitsBody g.of b
        → Gives (IsManaged g) (managed_old ctx ask e b m)
    by_body e (body.Offer old) is there entry offer =
        if_either (Gives (IsManaged g)) (int_eq ask.amount (pos 0)) (Ok (Removed (map_after_cancelling old m)))
        (changed ctx ask old e m) (record { gives = cancelling_holds g old m holds })
        (its_changed old e there is entry offer)
    by_body e other is there entry offer = record { gives = tt }

    by_entry : (o : Option LedgerEntry) → get m (key.Offer ctx.op_source ask.offer_id) ≡ o
        → Gives (IsManaged g) (managed_at ctx ask o m)
    by_entry None there = record { gives = tt }
    by_entry (Some e) there =
        let entry = g.found m (key.Offer ctx.op_source ask.offer_id) e holds there in
        by_body e e.body refl there entry entry.body

  by_fields : (b : Bool) → is_malformed ask ≡ b → Gives (IsManaged g) (if b then Err fault.Malformed
      else (if int_eq ask.offer_id (pos 0) then made ctx ask m
      else managed_at ctx ask (get m (key.Offer ctx.op_source ask.offer_id)) m))
  by_fields true test = record { gives = tt }
  by_fields false test =
      if_either (Gives (IsManaged g)) (int_eq ask.offer_id (pos 0)) (made ctx ask m)
      (managed_at ctx ask (get m (key.Offer ctx.op_source ask.offer_id)) m) (its_made test)
      (by_entry test (get m (key.Offer ctx.op_source ask.offer_id)) refl)

  pub managed_holds : Gives (IsManaged g) (managed ctx ask m)
  managed_holds = by_fields (is_malformed ask) refl
