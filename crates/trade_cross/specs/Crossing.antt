-- A taker crosses the book of a pair: it sends sheep and receives wheat, offer by offer (convertWithOffers and
-- crossOfferV10 in stellar-core; CAP-0003).
use Rattle.std.specs.Prelude.{ℕ, ◌+◌, ◌-◌, zero, suc, pos, neg_ℤ, unsigned_abs, nat_eq, Bool, true, false, ◌||◌, ◌&&◌}
use Rattle.std.specs.Prelude.{min}
use Rattle.std.specs.Prelude.{List, [], ◌∷◌, Option, Some, None, if◌then◌else◌}
use Rattle.std.specs.Ordering.{is_lt, is_eq}
use Rattle.ledger_types.specs.declared.price.Price.{Price}
use Rattle.ledger_types.specs.declared.claim_atom.ClaimAtom.{ClaimAtom}
use Rattle.ledger_types.specs.declared.claim_atom.ClaimAtom.TheVariants as atom
use Rattle.ledger_types.specs.declared.offer.OfferEntry.{OfferEntry}
use Rattle.ledger_types.specs.declared.key.LedgerKey.{LedgerKey}
use Rattle.ledger_types.specs.declared.key.LedgerKey.TheVariants as key
use Rattle.entry_map.specs.EntryMap.{EntryMap}
use Rattle.entry_slots.specs.Offers.{with_offer}
use Rattle.sponsor_rules.specs.Payers.{is_same_account}
use Rattle.sponsor_rules.specs.Removing.{map_after_removing}
use Rattle.offer_exchange.specs.declared.rounding.Rounding.{Rounding}
use Rattle.offer_exchange.specs.Exchange.{Bounds, Amounts, adjusted, exchanged, wheat_stays}
use Rattle.entry_map.specs.Book.{price_cmp}
use Rattle.offer_book.specs.Book.{best}
use Rattle.legal_rules.specs.Trades.{holder}
use Rattle.legal_rules.specs.Binding.{acquiring, releasing}
use Rattle.trade_cross.specs.declared.crossed.CrossEnd.{CrossEnd}
use Rattle.trade_cross.specs.declared.crossed.CrossEnd.TheVariants.{Converted, Partial, BadPrice, CrossSelf, TooMany}
use Rattle.trade_cross.specs.declared.trade.Trade.{Trade}
use Rattle.trade_cross.specs.declared.turn.Turn.{Turn}
use Rattle.trade_cross.specs.declared.turn.Turn.TheVariants.{Ends, Meets}
use Rattle.trade_cross.specs.Holdings.{most_given, most_taken, paying}

-- how many offers an operation may cross (MAX_OFFERS_TO_CROSS in stellar-core)
abbrev pub most_crossings : ℕ
most_crossings = 1000

-- what is left of a taker's two bounds
pub record Left : Type 0 where
  pub sheep_send : ℕ
  pub wheat_receive : ℕ

-- ---- one offer

abbrev pub seller_gives_at : OfferEntry → Option LedgerKey
seller_gives_at o = holder o.seller_id o.selling

abbrev pub seller_takes_at : OfferEntry → Option LedgerKey
seller_takes_at o = holder o.seller_id o.buying

-- what an offer of so much wheat really gives, where what it binds is released
abbrev pub amount_at : ℕ → EntryMap → OfferEntry → ℕ → ℕ
amount_at base m o amount =
    adjusted (unsigned_abs o.price.n) (unsigned_abs o.price.d) (min amount (most_given base m (seller_gives_at o)))
    (most_taken m (seller_takes_at o))

-- the bounds within which an offer meets a taker
abbrev pub meeting : ℕ → EntryMap → OfferEntry → Left → Bounds
meeting base m o left =
    record {
      wheat_send = amount_at base m o (unsigned_abs o.amount);
      wheat_receive = left.wheat_receive;
      sheep_send = left.sheep_send;
      sheep_receive = most_taken m (seller_takes_at o);
    }

-- the seller gives wheat and takes sheep
abbrev pub map_after_trade : OfferEntry → Amounts → EntryMap → EntryMap
map_after_trade o a m = paying (seller_takes_at o) (pos a.sheep) (paying (seller_gives_at o) (neg_ℤ (pos a.wheat)) m)

abbrev pub with_amount : ℕ → OfferEntry → OfferEntry
with_amount amount o = record o { amount = pos amount }

abbrev pub offer_key : OfferEntry → LedgerKey
offer_key o = key.Offer o.seller_id o.offer_id

-- an offer of nothing is removed, with its reserve; another one binds what it has
abbrev pub map_after_rest : OfferEntry → ℕ → EntryMap → EntryMap
map_after_rest o zero m = map_after_removing (offer_key o) m
map_after_rest o (suc n) m =
    acquiring (with_amount (suc n) o) (with_offer m o.seller_id o.offer_id (λ was. with_amount (suc n) o))

-- what one crossed offer yields
pub record Step : Type 0 where
  pub amounts : Amounts
  pub stays : Bool
  pub entries : EntryMap

abbrev pub step_by : ℕ → OfferEntry → Bounds → Amounts → Bool → EntryMap → Step
step_by base o b a true m =
    record { amounts = a; stays = true; entries = map_after_rest o (amount_at base m o (b.wheat_send - a.wheat)) m }
step_by base o b a false m = record { amounts = a; stays = false; entries = map_after_removing (offer_key o) m }

-- the same of an offer whose liabilities are released in the map at hand
abbrev pub step_within : ℕ → Rounding → OfferEntry → Bounds → EntryMap → Step
step_within base rounding o b m =
    let n = unsigned_abs o.price.n in
    let d = unsigned_abs o.price.d in
    let a = exchanged rounding n d b in
    step_by base o b a (wheat_stays n d b) (map_after_trade o a m)

unfoldable pub step : ℕ → Rounding → Left → OfferEntry → EntryMap → Step
step base rounding left o m = step_within base rounding o (meeting base (releasing o m) o left) (releasing o m)

-- ---- the book

abbrev pub is_too_dear : Trade → OfferEntry → Option Price → Bool
is_too_dear trade o None = false
is_too_dear trade o (Some greatest) =
    is_lt (price_cmp greatest o.price) || (trade.passive && is_eq (price_cmp greatest o.price))

-- what comes next where this offer is the best one
abbrev pub turn_with : Trade → OfferEntry → Turn
turn_with trade o =
    if is_too_dear trade o trade.greatest then Ends BadPrice
    else if is_same_account o.seller_id trade.taker then Ends CrossSelf else Meets o

abbrev pub turn_at : Trade → Option OfferEntry → Turn
turn_at trade None = Ends Partial
turn_at trade (Some o) = turn_with trade o

abbrev pub is_used_up : Left → Bool
is_used_up left = nat_eq left.sheep_send 0 || nat_eq left.wheat_receive 0

unfoldable pub turn : Trade → Left → EntryMap → Turn
turn trade left m = if is_used_up left then Ends Converted else turn_at trade (best m trade.wheat trade.sheep)

-- what a trade yields: what was sent and received, each offer that was crossed, the end, and the map, in which the
-- taker's own entries are as they were
pub record Crossing : Type 0 where
  pub sheep : ℕ
  pub wheat : ℕ
  pub atoms : List ClaimAtom
  pub end : CrossEnd
  pub entries : EntryMap

abbrev pub ended : EntryMap → CrossEnd → Crossing
ended m end = record { sheep = 0; wheat = 0; atoms = []; end = end; entries = m }

abbrev pub atom_of : OfferEntry → Amounts → ClaimAtom
atom_of o a = atom.OrderBook o.seller_id o.offer_id o.selling (pos a.wheat) o.buying (pos a.sheep)

abbrev pub left_after : Left → Amounts → Left
left_after left a =
    record { sheep_send = left.sheep_send - a.sheep; wheat_receive = left.wheat_receive - a.wheat }

abbrev pub joined : OfferEntry → Amounts → Crossing → Crossing
joined o a rest =
    record {
      sheep = a.sheep + rest.sheep;
      wheat = a.wheat + rest.wheat;
      atoms = atom_of o a ∷ rest.atoms;
      end = rest.end;
      entries = rest.entries;
    }

-- no offer can be crossed any more
abbrev pub at_limit : EntryMap → Turn → Crossing
at_limit m (Ends end) = ended m end
at_limit m (Meets o) = ended m TooMany

-- The taker goes on until a bound is used up, an offer stays, or no offer can be crossed; it crosses at most so many.
unfoldable pub crossed : ℕ → Trade → ℕ → Left → EntryMap → Crossing
crossed base trade zero left m = at_limit m (turn trade left m)
crossed base trade (suc k) left m = elim (turn trade left m) [
  | Ends end ↦ ended m end
  | Meets o ↦
      let x = step base trade.rounding left o m in
      joined o x.amounts (if x.stays then ended x.entries Converted
      else crossed base trade k (left_after left x.amounts) x.entries)
]

-- what a taker's bounds leave it at first
abbrev pub left_of : Trade → Left
left_of trade = record { sheep_send = unsigned_abs trade.sheep_send; wheat_receive = unsigned_abs trade.wheat_receive }

-- the trade, under a base reserve
abbrev pub converted : ℕ → Trade → EntryMap → Crossing
converted base trade m = crossed base trade trade.crossings (left_of trade) m
