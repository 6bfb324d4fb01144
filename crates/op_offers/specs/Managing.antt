-- An offer that is made, changed or removed, step by step (ManageOfferOpFrameBase in stellar-core; CAP-0003).
use Rattle.std.specs.Prelude.{ℕ, ◌+◌, zero, suc, ℤ, pos, unsigned_abs, not, [], ◌∷◌, Option, Some, None, if◌then◌else◌}
use Rattle.std.specs.Prelude.{Result, Ok, Err}
use Rattle.std.specs.FinMap.{get}
use Rattle.std.specs.Ordering.{int_eq}
use Rattle.ledger_types.specs.declared.ids.AccountId.{AccountId}
use Rattle.ledger_types.specs.declared.trust_line.TrustLineEntry.{TrustLineEntry}
use Rattle.ledger_types.specs.declared.offer.OfferEntry.{OfferEntry}
use Rattle.ledger_types.specs.declared.entry.LedgerEntry.{LedgerEntry}
use Rattle.ledger_types.specs.declared.entry.LedgerEntryBody.{LedgerEntryBody}
use Rattle.ledger_types.specs.declared.entry.LedgerEntryBody.TheVariants as body
use Rattle.ledger_types.specs.declared.key.LedgerKey.{LedgerKey}
use Rattle.ledger_types.specs.declared.key.LedgerKey.TheVariants as key
use Rattle.entry_map.specs.EntryMap.{EntryMap}
use Rattle.entry_slots.specs.Lines.{line_at}
use Rattle.entry_slots.specs.Tests.{first_fault}
use Rattle.sponsor_rules.specs.declared.context.Ctx.{Ctx}
use Rattle.sponsor_rules.specs.declared.fault.AddFault.{AddFault}
use Rattle.sponsor_rules.specs.Adding.{sponsored_entry, map_after_counting_subentry}
use Rattle.sponsor_rules.specs.Payers.{open_sponsor}
use Rattle.op_form.specs.Flags.{is_authorized}
use Rattle.trade_cross.specs.legal_rules.Trades.{holder}
use Rattle.trade_cross.specs.Cancelling.{map_after_cancelling}
use Rattle.op_offers.specs.declared.fault.OfferFault.{OfferFault}
use Rattle.op_offers.specs.declared.fault.OfferFault.TheVariants as fault
use Rattle.op_offers.specs.declared.ask.Ask.{Ask}
use Rattle.op_offers.specs.Asked.{is_malformed}
use Rattle.op_offers.specs.Selling.{Asked, Sold, sold, map_without_offer}

-- ---- the lines

abbrev pub sell_line_fault : Option TrustLineEntry → Option OfferFault
sell_line_fault None = Some fault.SellNoTrust
sell_line_fault (Some line) = first_fault ((int_eq line.balance (pos 0), fault.NothingToSell)
    ∷ (not (is_authorized line), fault.SellNotAuthorized) ∷ [])

-- lumens and what the source issues need no line
abbrev pub sell_fault : EntryMap → Option LedgerKey → Option OfferFault
sell_fault m (Some (key.TrustLine id held)) = sell_line_fault (line_at m id held)
sell_fault m other = None

abbrev pub buy_line_fault : Option TrustLineEntry → Option OfferFault
buy_line_fault None = Some fault.BuyNoTrust
buy_line_fault (Some line) = first_fault ((not (is_authorized line), fault.BuyNotAuthorized) ∷ [])

abbrev pub buy_fault : EntryMap → Option LedgerKey → Option OfferFault
buy_fault m (Some (key.TrustLine id held)) = buy_line_fault (line_at m id held)
buy_fault m other = None

abbrev pub unless_some : {A : Type 0} → Option OfferFault → Result A OfferFault → Result A OfferFault
unless_some None next = next
unless_some (Some other) next = Err other

abbrev pub unless_lines : {A : Type 0} → EntryMap → AccountId → Ask → Result A OfferFault → Result A OfferFault
unless_lines m source ask next =
    unless_some (sell_fault m (holder source ask.selling)) (unless_some (buy_fault m (holder source ask.buying)) next)

-- ---- what is done

-- what became of the offer
pub data Effect : Type 0 where
  Made : Effect
  Changed : Effect

pub data Managed : Type 0 where
  -- made or changed, and crossed; so is the greatest id
  Traded : Effect → Asked → Sold → ℕ → Managed
  -- removed, without a trade
  Removed : EntryMap → Managed

-- an id is drawn where a new offer is kept
abbrev pub drawn : (id_pool next amount : ℕ) → ℕ
drawn id_pool next zero = id_pool
drawn id_pool next (suc n) = next

abbrev pub offer_asked : AccountId → Ask → (id : ℤ) (flags : ℕ) → OfferEntry
offer_asked source ask id flags =
    record {
      seller_id = source;
      offer_id = id;
      selling = ask.selling;
      buying = ask.buying;
      amount = pos 0;
      price = ask.price;
      flags = flags;
    }

abbrev pub of_sold : Effect → Asked → (id_pool next : ℕ) → Result Sold OfferFault → Result Managed OfferFault
of_sold effect asked id_pool next (Err other) = Err other
of_sold effect asked id_pool next (Ok done) = Ok (Traded effect asked done (drawn id_pool next done.amount))

-- ---- a new offer

-- a limit that is no less than nothing
abbrev pub limit : Option ℤ → Option ℕ
limit None = None
limit (Some n) = Some (unsigned_abs n)

-- a new offer has the next id
abbrev pub new_asked : Ctx → Ask → Asked
new_asked ctx ask =
    let offer = offer_asked ctx.op_source ask (pos (ctx.id_pool + 1)) ask.flags in
    record {
      offer = offer;
      entry = sponsored_entry (open_sponsor ctx ctx.op_source)
          (record { last_modified_ledger_seq = ctx.seq + 1; body = body.Offer offer; ext = None });
      sells = limit ask.sells;
      buys = limit ask.buys;
    }

abbrev pub with_reserve : Ctx → Ask → Result EntryMap AddFault → Result Managed OfferFault
with_reserve ctx ask (Err other) = Err (fault.Reserve other)
with_reserve ctx ask (Ok m) =
    of_sold Made (new_asked ctx ask) ctx.id_pool (ctx.id_pool + 1) (sold ctx.base_reserve (new_asked ctx ask) m)

abbrev pub made : Ctx → Ask → EntryMap → Result Managed OfferFault
made ctx ask m = unless_lines m ctx.op_source ask (with_reserve ctx ask
    (map_after_counting_subentry ctx ctx.op_source 1 m))

-- ---- an old offer

abbrev pub old_asked : Ctx → Ask → OfferEntry → LedgerEntry → Asked
old_asked ctx ask old e =
    let offer = offer_asked ctx.op_source ask old.offer_id old.flags in
    record {
      offer = offer;
      entry = record e { body = body.Offer offer };
      sells = limit ask.sells;
      buys = limit ask.buys;
    }

abbrev pub changed : Ctx → Ask → OfferEntry → LedgerEntry → EntryMap → Result Managed OfferFault
changed ctx ask old e m =
    unless_lines m ctx.op_source ask
    (of_sold Changed (old_asked ctx ask old e) ctx.id_pool ctx.id_pool
    (sold ctx.base_reserve (old_asked ctx ask old e) (map_without_offer old m)))

abbrev pub managed_old : Ctx → Ask → LedgerEntry → LedgerEntryBody → EntryMap → Result Managed OfferFault
managed_old ctx ask e (body.Offer old) m =
    if int_eq ask.amount (pos 0) then Ok (Removed (map_after_cancelling old m)) else changed ctx ask old e m
managed_old ctx ask e other m = Err fault.NotFound

abbrev pub managed_at : Ctx → Ask → Option LedgerEntry → EntryMap → Result Managed OfferFault
managed_at ctx ask None m = Err fault.NotFound
managed_at ctx ask (Some e) m = managed_old ctx ask e e.body m

-- ---- all steps

abbrev pub managed : Ctx → Ask → EntryMap → Result Managed OfferFault
managed ctx ask m =
    if is_malformed ask then Err fault.Malformed
    else if int_eq ask.offer_id (pos 0) then made ctx ask m
    else managed_at ctx ask (get m (key.Offer ctx.op_source ask.offer_id)) m
