-- That hops keep a state legal, what they move, and how they end.
use Rattle.std.specs.Prelude.{◌≡◌, ◌≢◌, ℕ, ◌≤◌, suc, All, ℤ, pos, ◌+ℤ◌, ◌≤ℤ◌, length, List, [], ◌∷◌, Some, true}
use Rattle.ledger_types.specs.declared.ids.AccountId.{AccountId}
use Rattle.ledger_types.specs.declared.claim_atom.ClaimAtom.{ClaimAtom}
use Rattle.ledger_types.specs.declared.claim_atom.ClaimAtom.TheVariants as atom
use Rattle.ledger_types.specs.declared.liquidity_pool.LiquidityPoolEntry.{LiquidityPoolEntry}
use Rattle.entry_map.specs.EntryMap.{EntryMap}
use Rattle.entry_slots.specs.Accounts.{account_at, HasAccount}
use Rattle.entry_slots.specs.Pools.{pool_at}
use Rattle.offer_exchange.specs.declared.rounding.Rounding.{Rounding}
use Rattle.offer_exchange.specs.declared.rounding.Rounding.TheVariants.{StrictSend}
use Rattle.offer_exchange.specs.Exchange.{unlimited}
use Rattle.sponsor_rules.specs.declared.context.Ctx.{Ctx}
use Rattle.legal_rules.specs.Aggregates.{View}
use Rattle.legal_rules.specs.Holdings.{HoldsMore, IsAfter}
use Rattle.legal_rules.specs.OneMore.{IsOwedRightly}
use Rattle.legal_rules.specs.Owing.{Owed, IsLegalOwing}
use Rattle.trade_cross.specs.declared.crossed.CrossEnd.TheVariants.{Converted}
use Rattle.trade_cross.specs.declared.trade.Trade.{Trade}
use Rattle.trade_cross.specs.Crossing.{Crossing, left_of}
use Rattle.trade_cross.specs.CrossingLaws.{kept_in, more_in, sold_in, bought_in, IsOfTrade}
use Rattle.trade_cross.specs.Hop.{hop, pool_of_pair, is_served}
use Rattle.trade_cross.specs.Progressing.{AreTradeBounds}

-- how many of the atoms are offers that were crossed; a pool's is none
abbrev pub crossings_in : List ClaimAtom → ℕ
crossings_in [] = 0
crossings_in (atom.LiquidityPool pool sold amount_sold bought amount_bought ∷ atoms) = crossings_in atoms
crossings_in (other ∷ atoms) = suc (crossings_in atoms)

-- what is sent and received is bounded on one side alone
abbrev pub IsBoundedOnce : Rounding → Trade → Type 0
IsBoundedOnce StrictSend trade = trade.wheat_receive ≡ pos unlimited
IsBoundedOnce other trade = trade.sheep_send ≡ pos unlimited

-- a trade of a hop: of two assets, with one bound
pub record IsHopTrade (trade : Trade) : Type 0 where
  pub apart : trade.sheep ≢ trade.wheat
  pub bounds : AreTradeBounds trade
  pub once : IsBoundedOnce trade.rounding trade

-- the reserves of the pair's pool are of 64 bits with a sign; legality alone says nothing of how great they are
pub record DoPoolReservesFit (trade : Trade) (m : EntryMap) : Type 0 where
  pub a : (p : LiquidityPoolEntry) → pool_at m (pool_of_pair trade) ≡ Some p → p.reserve_a ≤ℤ pos unlimited
  pub b : (p : LiquidityPoolEntry) → pool_at m (pool_of_pair trade) ≡ Some p → p.reserve_b ≤ℤ pos unlimited

-- an offer that isn't the taker's, or the pair's pool, gave wheat for sheep
abbrev pub IsOfHop : Trade → ClaimAtom → Type 0
IsOfHop trade (atom.LiquidityPool pool sold amount_sold bought amount_bought) =
    (pool ≡ pool_of_pair trade) × (sold ≡ trade.wheat) × (bought ≡ trade.sheep) × (pos 0 ≤ℤ amount_sold)
    × (pos 0 ≤ℤ amount_bought)
IsOfHop trade other = IsOfTrade trade other

-- the atoms are of the hop, and add up to what it says
pub record AreHopped (trade : Trade) (done : Crossing) : Type 0 where
  pub sheep : bought_in done.atoms ≡ pos done.sheep
  pub wheat : sold_in done.atoms ≡ pos done.wheat
  pub each : All (IsOfHop trade) done.atoms
  -- so many offers were crossed at most, or one pool was traded with
  pub crossings : crossings_in done.atoms ≤ trade.crossings
  pub few : length done.atoms ≤ suc trade.crossings

pub record IsHopped (v : View) (id_pool base : ℕ) (owed : Owed) (sum : ℤ) (trade : Trade) (m : EntryMap)
    (done : Crossing) : Type 0 where
  -- as legal as before, with as much owed, and with as much held of each asset as the atoms say
  pub legal : IsLegalOwing v id_pool owed (sum +ℤ kept_in v.asset done.atoms) done.entries
  -- within the taker's bounds, of which one is the greatest number of 64 bits with a sign
  pub sheep : done.sheep ≤ (left_of trade).sheep_send
  pub wheat : DoPoolReservesFit trade m → done.wheat ≤ (left_of trade).wheat_receive
  -- what sellers and pools hold more and less
  pub holds : HoldsMore (more_in done.atoms) m done.entries
  -- each account has no less available than before, unless that is at least nothing, and who existed still exists
  pub accounts : (id : AccountId) → IsAfter base (account_at m id) (account_at done.entries id)
  pub exist : (id : AccountId) → HasAccount m id → HasAccount done.entries id
  pub atoms : AreHopped trade done
  -- it was served: no other end came before
  pub end : is_served trade done ≡ true → done.end ≡ Converted

-- for all that aggregates may owe
abbrev pub HopKeeps : Type 0
HopKeeps =
    (v : View) (id_pool : ℕ) (owed : Owed) (sum : ℤ) (ctx : Ctx) (trade : Trade) (m : EntryMap) → IsHopTrade trade
    → IsLegalOwing v id_pool owed sum m → IsOwedRightly owed
    → IsHopped v id_pool ctx.base_reserve owed sum trade m (hop ctx trade m)
