-- An offer that is made or changed, once its fields and lines have passed their tests and while it is out of the book
-- (ManageOfferOpFrameBase in stellar-core; CAP-0003). Its reserve is counted meanwhile.
use Rattle.std.specs.Prelude.{ℕ, ◌-◌, zero, suc, pos, neg_ℤ, unsigned_abs, nat_eq, nat_lt, min}
use Rattle.std.specs.Prelude.{◌||◌, [], ◌∷◌, Option, Some, None, Result, Ok, Err}
use Rattle.ledger_types.specs.declared.offer.OfferEntry.{OfferEntry}
use Rattle.ledger_types.specs.declared.entry.LedgerEntry.{LedgerEntry}
use Rattle.ledger_types.specs.declared.entry.LedgerEntryBody.TheVariants as body
use Rattle.ledger_types.specs.declared.key.LedgerKey.{LedgerKey}
use Rattle.entry_map.specs.EntryMap.{EntryMap, put, erase}
use Rattle.entry_slots.specs.EntrySponsor.{sponsor_of}
use Rattle.entry_slots.specs.Tests.{Tests, unless_first}
use Rattle.sponsor_rules.specs.Removing.{map_after_discounting}
use Rattle.offer_exchange.specs.declared.rounding.Rounding.TheVariants.{Normal}
use Rattle.offer_exchange.specs.Exchange.{unlimited, wanted, adjusted}
use Rattle.trade_cross.specs.legal_rules.Trades.{holder}
use Rattle.trade_cross.specs.legal_rules.Binding.{acquiring, releasing}
use Rattle.trade_cross.specs.declared.crossed.CrossEnd.{CrossEnd}
use Rattle.trade_cross.specs.declared.crossed.CrossEnd.TheVariants.{Converted, CrossSelf, TooMany}
use Rattle.trade_cross.specs.declared.trade.Trade.{Trade}
use Rattle.trade_cross.specs.Holdings.{most_given, most_taken, has_at, is_short_of, paying}
use Rattle.trade_cross.specs.Crossing.{Crossing, most_crossings, converted, offer_key}
use Rattle.op_offers.specs.declared.fault.OfferFault.{OfferFault}
use Rattle.op_offers.specs.declared.fault.OfferFault.TheVariants as fault
use Rattle.op_offers.specs.Asked.{inverse}

-- the offer that is asked for, whose amount is still open
pub record Asked : Type 0 where
  pub offer : OfferEntry
  -- its entry, but for the offer: an old one's extension, or a new one's sponsor
  pub entry : LedgerEntry
  -- at most so much is sold, or bought, where a number is given
  pub sells : Option ℕ
  pub buys : Option ℕ

abbrev pub limit_of : Option ℕ → ℕ
limit_of None = unlimited
limit_of (Some n) = n

-- what is there, up to what is left of a limit
abbrev pub capped : Option ℕ → (used there : ℕ) → ℕ
capped None used there = there
capped (Some n) used there = min (n - used) there

abbrev pub source_gives_at : Asked → Option LedgerKey
source_gives_at asked = holder asked.offer.seller_id asked.offer.selling

abbrev pub source_takes_at : Asked → Option LedgerKey
source_takes_at asked = holder asked.offer.seller_id asked.offer.buying

-- an old offer lets go of what it binds, and of its entry; its reserve stays counted
abbrev pub map_without_offer : OfferEntry → EntryMap → EntryMap
map_without_offer old m = erase (releasing old m) (offer_key old)

-- ---- the tests of what is wanted

abbrev pub wanted_tests : ℕ → Asked → EntryMap → Tests OfferFault
wanted_tests base asked m =
    let all = wanted (unsigned_abs asked.offer.price.n) (unsigned_abs asked.offer.price.d)
    (limit_of asked.sells) (limit_of asked.buys) in
    let room = most_taken m (source_takes_at asked) in
    (nat_eq room 0 || nat_lt room all.sheep, fault.LineFull)
    ∷ (is_short_of (pos all.wheat) (has_at base m (source_gives_at asked)), fault.Underfunded)
    ∷ []

-- ---- crossing

-- the source sends what it sells and receives what it buys, of which it can give and take so much at most
abbrev pub trade_within : Asked → (gives takes : ℕ) → Trade
trade_within asked gives takes =
    record {
      sheep = asked.offer.selling;
      wheat = asked.offer.buying;
      sheep_send = pos (capped asked.sells 0 gives);
      wheat_receive = pos (capped asked.buys 0 takes);
      rounding = Normal;
      greatest = Some (inverse asked.offer.price);
      passive = nat_eq asked.offer.flags 1;
      crossings = most_crossings;
      taker = asked.offer.seller_id;
    }

abbrev pub trade_of : ℕ → Asked → EntryMap → Trade
trade_of base asked m =
    trade_within asked (most_given base m (source_gives_at asked)) (most_taken m (source_takes_at asked))

-- the offers of the other side are crossed
abbrev pub crossed_by : ℕ → Asked → EntryMap → Crossing
crossed_by base asked m = converted base (trade_of base asked m) m

-- what the source gave goes, and what it took comes
abbrev pub settled : Asked → Crossing → EntryMap
settled asked done =
    paying (source_takes_at asked) (pos done.wheat) (paying (source_gives_at asked) (neg_ℤ
    (pos done.sheep)) done.entries)

-- ---- what is left of it

-- what is still offered after a trade that moved so much, of which its owner can give and take so much at most
abbrev pub left_within : Asked → (sheep wheat gives takes : ℕ) → ℕ
left_within asked sheep wheat gives takes =
    adjusted (unsigned_abs asked.offer.price.n) (unsigned_abs asked.offer.price.d) (capped asked.sells sheep gives)
    (capped asked.buys wheat takes)

abbrev pub amount_left : ℕ → Asked → (sheep wheat : ℕ) → CrossEnd → EntryMap → ℕ
amount_left base asked sheep wheat Converted m = 0
amount_left base asked sheep wheat other m =
    left_within asked sheep wheat (most_given base m (source_gives_at asked)) (most_taken m (source_takes_at asked))

abbrev pub left_of : ℕ → Asked → Crossing → CrossEnd → EntryMap → ℕ
left_of base asked done end m = amount_left base asked done.sheep done.wheat end m

abbrev pub offer_left : Asked → ℕ → OfferEntry
offer_left asked amount = record asked.offer { amount = pos amount }

-- an offer of nothing isn't kept, and its reserve isn't counted any more; another one is put and binds what it has
abbrev pub map_after_keeping : Asked → ℕ → EntryMap → EntryMap
map_after_keeping asked zero m = map_after_discounting asked.offer.seller_id 1 (sponsor_of asked.entry) m
map_after_keeping asked (suc n) m =
    acquiring (offer_left asked (suc n)) (put m (record asked.entry { body = body.Offer (offer_left asked (suc n)) }))

pub record Sold : Type 0 where
  pub crossed : Crossing
  -- how much is still offered
  pub amount : ℕ
  pub entries : EntryMap

abbrev pub kept : ℕ → Asked → Crossing → EntryMap → Sold
kept base asked done m =
    let amount = left_of base asked done done.end m in
    record { crossed = done; amount = amount; entries = map_after_keeping asked amount m }

abbrev pub by_end : ℕ → Asked → Crossing → CrossEnd → Result Sold OfferFault
by_end base asked done CrossSelf = Err fault.CrossSelf
by_end base asked done TooMany = Err fault.TooMany
by_end base asked done end = Ok (kept base asked done (settled asked done))

abbrev pub after_tests : Result EntryMap OfferFault → (EntryMap → Result Sold OfferFault) → Result Sold OfferFault
after_tests (Err other) next = Err other
after_tests (Ok m) next = next m

-- An offer that is out of the book crosses the other side's, and what is left of it is kept.
unfoldable pub sold : ℕ → Asked → EntryMap → Result Sold OfferFault
sold base asked m =
    after_tests (unless_first (wanted_tests base asked m) m) (λ m.
    let done = crossed_by base asked m in by_end base asked done done.end)
