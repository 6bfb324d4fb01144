-- What the calls of this crate need of a state, and what they yield.
use Rattle.std.specs.Prelude.{◌≡◌, false, ℕ, ◌+◌, ◌≤◌, zero, suc, ℤ, pos, neg_ℤ, ◌≤ℤ◌, List, [], Option, Some, None}
use Rattle.std.specs.Prelude.{Result, Ok, Err}
use Rattle.ledger_types.specs.declared.ids.AccountId.{AccountId}
use Rattle.ledger_types.specs.declared.claim_atom.ClaimAtom.{ClaimAtom}
use Rattle.ledger_types.specs.declared.entry.LedgerEntryBody.TheVariants as body
use Rattle.op_types.specs.declared.offer_results.ManageOfferEffect.{ManageOfferEffect}
use Rattle.op_types.specs.declared.offer_results.ManageOfferEffect.TheVariants as effect
use Rattle.entry_map.specs.EntryMap.{EntryMap, put}
use Rattle.entry_map.specs.Undo.{Undo, with_current}
use Rattle.entry_slots.specs.Accounts.{HasAccount}
use Rattle.entry_slots.specs.EntrySponsor.{sponsor_of}
use Rattle.entry_slots.specs.Offers.{entry_of_offer}
use Rattle.sponsor_rules.specs.reserve_rules.Reserve.{greatest_i64}
use Rattle.sponsor_rules.specs.declared.context.Ctx.{Ctx}
use Rattle.sponsor_rules.specs.declared.fault.AddFault.{AddFault}
use Rattle.trade_cross.specs.legal_rules.Aggregates.{View}
use Rattle.trade_cross.specs.legal_rules.OneMore.{one_more}
use Rattle.trade_cross.specs.legal_rules.Owing.{nothing_owed, IsLegalOwing}
use Rattle.trade_cross.specs.legal_rules.Sponsorships.{IsSponsorReady}
use Rattle.trade_cross.specs.legal_rules.Trades.{holder}
use Rattle.op_form.specs.Premises.{AccountsAreReady}
use Rattle.trade_cross.specs.declared.crossed.CrossEnd.{CrossEnd}
use Rattle.trade_cross.specs.declared.crossed.CrossEnd.TheVariants.{CrossSelf, TooMany}
use Rattle.trade_cross.specs.Amounts.{DoesPaymentFit, DoesAcquireFit}
use Rattle.trade_cross.specs.Holdings.{paying}
use Rattle.op_offers.specs.declared.ask.Ask.{Ask}
use Rattle.op_offers.specs.declared.asked.Asked.{Asked as AskedOfCall}
use Rattle.op_offers.specs.declared.fault.OfferFault.{OfferFault}
use Rattle.op_offers.specs.declared.fault.OfferFault.TheVariants as fault
use Rattle.op_offers.specs.declared.manage.Managed.{Managed as ManagedOfCall}
use Rattle.op_offers.specs.declared.sell.Sold.{Sold as SoldOfCall}
use Rattle.op_offers.specs.Asked.{is_malformed}
use Rattle.op_offers.specs.Managing.{limit, sell_fault, buy_fault, unless_lines, Managed, Traded, Removed}
use Rattle.op_offers.specs.Operations.{effect_of}
use Rattle.op_offers.specs.Selling.{Asked, source_gives_at, source_takes_at, Sold, offer_left}
use Rattle.op_offers.specs.SellingLaws.{IsAskedRightly}

-- ---- what is needed

abbrev pub IsLimitOf : ℤ → Option ℤ → Type 0
IsLimitOf amount None = Unit {0}
IsLimitOf amount (Some n) = n ≡ amount

-- What the operations of this crate ask of the state in which they begin: it is legal, an id can be drawn, the source
-- exists, and so does its open sponsor, which is another account.
pub record IsManageable (ctx : Ctx) (m : EntryMap) : Type 0 where
  pub view : View
  pub sum : ℤ
  pub legal : IsLegalOwing view ctx.id_pool nothing_owed sum m
  pub ids : pos (ctx.id_pool + 1) ≤ℤ greatest_i64
  pub ready : AccountsAreReady m
  pub source : HasAccount m ctx.op_source
  pub sponsor : IsSponsorReady ctx ctx.op_source m

-- the limits of what is asked for are its amount, and its flags those of an offer; so each operation asks
pub record IsFormed (ask : Ask) : Type 0 where
  pub sells : IsLimitOf ask.amount ask.sells
  pub buys : IsLimitOf ask.amount ask.buys
  pub flags : ask.flags ≤ 1

-- what is asked for isn't malformed
pub record IsSound (ask : Ask) : Type 0 where
  pub formed : IsFormed ask
  pub valid : is_malformed ask ≡ false

-- a state in which an offer is counted and doesn't exist, and can be sold
pub record IsSellable (asked : Asked) (m : EntryMap) : Type 0 where
  pub view : View
  pub id_pool : ℕ
  pub next : ℕ
  pub sum : ℤ
  pub legal : IsLegalOwing view id_pool (one_more asked.offer.seller_id (sponsor_of asked.entry)) sum m
  pub wide : id_pool ≤ next
  pub right : IsAskedRightly next asked m

-- a limit isn't below 0
abbrev pub IsLimitLow : Option ℤ → Type 0
IsLimitLow None = Unit {0}
IsLimitLow (Some n) = pos 0 ≤ℤ n

pub record AreLimitsLow (asked : AskedOfCall) : Type 0 where
  pub sells : IsLimitLow asked.sells
  pub buys : IsLimitLow asked.buys

-- ---- the source's side of a trade

abbrev pub map_after_settling : Asked → (sheep wheat : ℤ) → EntryMap → EntryMap
map_after_settling asked sheep wheat m =
    paying (source_takes_at asked) wheat (paying (source_gives_at asked) (neg_ℤ sheep) m)

pub record DoPaymentsFit (asked : Asked) (sheep wheat : ℤ) (m : EntryMap) : Type 0 where
  pub gives : DoesPaymentFit m (source_gives_at asked) (neg_ℤ sheep)
  pub takes : DoesPaymentFit (paying (source_gives_at asked) (neg_ℤ sheep) m) (source_takes_at asked) wheat

-- what is left of an offer, if anything is, can be bound
abbrev pub DoesRestFit : Asked → ℕ → EntryMap → Type 0
DoesRestFit asked zero m = Unit {0}
DoesRestFit asked (suc n) m =
    let offer = offer_left asked (suc n) in
    DoesAcquireFit offer (put m (record asked.entry { body = body.Offer offer }))

-- why an operation fails whose trade ended so
abbrev pub end_fault : CrossEnd → Option OfferFault
end_fault CrossSelf = Some fault.CrossSelf
end_fault TooMany = Some fault.TooMany
end_fault other = None

-- ---- what calls answer

abbrev pub asked_in : AskedOfCall → Asked
asked_in asked =
    record {
      offer = asked.slot.offer;
      entry = entry_of_offer asked.slot;
      sells = limit asked.sells;
      buys = limit asked.buys;
    }

pub record IsSold (answer : SoldOfCall) (old new : Undo) (done : Sold) : Type 0 where
  pub atoms : answer.atoms ≡ done.crossed.atoms
  pub amount : answer.amount ≡ pos done.amount
  pub entries : new ≡ with_current old done.entries

-- The call yielded this, or it answered the fault that ends it; the map has to be undone then. Nothing is said of an
-- allocation failure.
abbrev pub IsSale : Result SoldOfCall OfferFault → Undo → Undo → Result Sold OfferFault → Type 0
IsSale (Ok answer) old new (Ok done) = IsSold answer old new done
IsSale (Ok answer) old new (Err other) = ⊥
IsSale (Err fault.NoMemory) old new sale = Unit {0}
IsSale (Err other) old new sale = (sale ≡ Err other) × (new ≡ with_current old new.current)

-- the source's lines passed their tests, or the fault is that of the first which didn't
abbrev pub IsTested : Result (Unit {0}) OfferFault → EntryMap → AccountId → Ask → Type 0
IsTested (Ok done) m source ask =
    (sell_fault m (holder source ask.selling) ≡ None) × (buy_fault m (holder source ask.buying) ≡ None)
IsTested (Err fault.NoMemory) m source ask = Unit {0}
IsTested (Err other) m source ask =
    (next : Result Managed OfferFault) → unless_lines m source ask next ≡ Err other

-- the reserve of an offer is counted, or it can't be paid
abbrev pub IsCounted : Result (Unit {0}) OfferFault → Undo → Undo → Result EntryMap AddFault → Type 0
IsCounted (Ok done) old new counted = (counted ≡ Ok new.current) × (new ≡ with_current old new.current)
IsCounted (Err fault.NoMemory) old new counted = Unit {0}
IsCounted (Err (fault.Reserve other)) old new counted =
    (counted ≡ Err other) × (new ≡ with_current old new.current)
IsCounted (Err other) old new counted = ⊥

-- what an operation on an offer yields, with the greatest id after it
pub record Outcome : Type 0 where
  pub atoms : List ClaimAtom
  pub effect : ManageOfferEffect
  pub id_pool : ℕ
  pub entries : EntryMap

abbrev pub outcome_of : Ctx → Managed → Outcome
outcome_of ctx (Removed m) =
    record { atoms = []; effect = effect.Deleted; id_pool = ctx.id_pool; entries = m }
outcome_of ctx (Traded kind asked done id_pool) =
    record {
      atoms = done.crossed.atoms;
      effect = effect_of kind asked done.amount;
      id_pool = id_pool;
      entries = done.entries;
    }

pub record IsManaged (answer : ManagedOfCall) (old new : Undo) (done : Outcome) : Type 0 where
  pub atoms : answer.atoms ≡ done.atoms
  pub effect : answer.effect ≡ done.effect
  pub id_pool : answer.id_pool ≡ done.id_pool
  pub entries : new ≡ with_current old done.entries

-- the same of a call that makes, changes or removes an offer
abbrev pub IsManaging : Ctx → Result ManagedOfCall OfferFault → Undo → Undo → Result Managed OfferFault → Type 0
IsManaging ctx (Ok answer) old new (Ok done) = IsManaged answer old new (outcome_of ctx done)
IsManaging ctx (Ok answer) old new (Err other) = ⊥
IsManaging ctx (Err fault.NoMemory) old new managed = Unit {0}
IsManaging ctx (Err other) old new managed = (managed ≡ Err other) × (new ≡ with_current old new.current)
