-- A hop of a path: it goes wholly through the book of its pair, or wholly through the pair's pool
-- (convertWithOffersAndPools, shouldConvertWithOffers and exchangeWithPool in stellar-core; CAP-0038).
use Rattle.std.specs.Prelude.{ℕ, ◌+◌, pos, neg_ℤ, ◌+ℤ◌, unsigned_abs, nat_eq, nat_le, nat_lt, Bool}
use Rattle.std.specs.Prelude.{ℤ, ◌%◌, ◌&&◌, [], ◌∷◌, Option, Some, None, if◌then◌else◌}
use Rattle.std.specs.Ordering.{is_lt, is_eq}
use Rattle.ledger_types.specs.declared.ids.Hash.{Hash}
use Rattle.ledger_types.specs.declared.asset.PoolParams.{PoolParams}
use Rattle.ledger_types.specs.declared.claim_atom.ClaimAtom.{ClaimAtom}
use Rattle.ledger_types.specs.declared.claim_atom.ClaimAtom.TheVariants as atom
use Rattle.ledger_types.specs.declared.liquidity_pool.LiquidityPoolEntry.{LiquidityPoolEntry}
use Rattle.ledger_types.specs.KeyOrder.{asset_cmp}
use Rattle.entry_map.specs.EntryMap.{EntryMap}
use Rattle.entry_slots.specs.Pools.{pool_at, with_pool}
use Rattle.hash_ids.specs.Ids.{pool_id_of}
use Rattle.sponsor_rules.specs.declared.context.Ctx.{Ctx}
use Rattle.offer_exchange.specs.declared.rounding.Rounding.{Rounding}
use Rattle.offer_exchange.specs.declared.rounding.Rounding.TheVariants.{StrictSend}
use Rattle.offer_exchange.specs.Exchange.{Amounts}
use Rattle.pool_math.specs.Pools.{greatest, given_for, taken_for}
use Rattle.trade_cross.specs.declared.crossed.CrossEnd.TheVariants.{Converted}
use Rattle.trade_cross.specs.declared.trade.Trade.{Trade}
use Rattle.trade_cross.specs.Crossing.{Left, Crossing, converted, left_of}

-- ---- the pool of a pair

abbrev pub is_sheep_first : Trade → Bool
is_sheep_first trade = is_lt (asset_cmp trade.sheep trade.wheat)

-- its two assets in their order
abbrev pub pair_of : Trade → PoolParams
pair_of trade =
    if is_sheep_first trade then record { asset_a = trade.sheep; asset_b = trade.wheat; fee = pos 30 }
    else record { asset_a = trade.wheat; asset_b = trade.sheep; fee = pos 30 }

abbrev pub pool_of_pair : Trade → Hash
pool_of_pair trade = pool_id_of (pair_of trade).asset_a (pair_of trade).asset_b

-- a pool of other assets could have the id where two hashes are equal
abbrev pub has_pair : Trade → LiquidityPoolEntry → Bool
has_pair trade pool =
    is_eq (asset_cmp pool.params.asset_a (pair_of trade).asset_a)
    && is_eq (asset_cmp pool.params.asset_b (pair_of trade).asset_b)

-- ---- what it would move

abbrev pub sheep_in : Trade → LiquidityPoolEntry → ℕ
sheep_in trade pool = unsigned_abs (if is_sheep_first trade then pool.reserve_a else pool.reserve_b)

abbrev pub wheat_in : Trade → LiquidityPoolEntry → ℕ
wheat_in trade pool = unsigned_abs (if is_sheep_first trade then pool.reserve_b else pool.reserve_a)

-- it isn't empty, what is put fits, and something is given
abbrev pub can_give : (x y put : ℕ) → Bool
can_give x y put = nat_le 1 x && nat_le 1 y && nat_le (x + put) greatest && nat_le 1 (given_for x y put)

-- it isn't empty, not all of the other is wanted, and what is taken fits
abbrev pub can_take : (x y want : ℕ) → Bool
can_take x y want = nat_le 1 x && nat_le 1 y && nat_lt want y && nat_le (x + taken_for x y want) greatest

-- All of what can be sent is sent, or all of what can be received is received.
abbrev pub swap_by : Rounding → (x y : ℕ) → Left → Option Amounts
swap_by StrictSend x y left =
    if can_give x y left.sheep_send
    then Some (record { wheat = given_for x y left.sheep_send; sheep = left.sheep_send }) else None
swap_by other x y left =
    if can_take x y left.wheat_receive
    then Some (record { wheat = left.wheat_receive; sheep = taken_for x y left.wheat_receive }) else None

abbrev pub swap_with : Trade → Option LiquidityPoolEntry → Option Amounts
swap_with trade None = None
swap_with trade (Some pool) =
    if has_pair trade pool then swap_by trade.rounding (sheep_in trade pool) (wheat_in trade pool) (left_of trade)
    else None

-- DISABLE_LIQUIDITY_POOL_TRADING_FLAG (1) of the header
abbrev pub is_trading_disabled : Ctx → Bool
is_trading_disabled ctx = nat_eq (ctx.flags % 2) 1

-- what the pair's pool would move, if it can serve
abbrev pub swap_of : Ctx → Trade → EntryMap → Option Amounts
swap_of ctx trade m =
    if is_trading_disabled ctx then None else swap_with trade (pool_at m (pool_of_pair trade))

-- ---- the pool serves

-- reserves that rise by these, which may be below 0
abbrev pub with_reserves : (a b : ℤ) → LiquidityPoolEntry → LiquidityPoolEntry
with_reserves a b pool = record pool { reserve_a = pool.reserve_a +ℤ a; reserve_b = pool.reserve_b +ℤ b }

abbrev pub with_swap : Trade → Amounts → LiquidityPoolEntry → LiquidityPoolEntry
with_swap trade a pool =
    if is_sheep_first trade then with_reserves (pos a.sheep) (neg_ℤ (pos a.wheat)) pool
    else with_reserves (neg_ℤ (pos a.wheat)) (pos a.sheep) pool

abbrev pub pool_atom : Trade → Amounts → ClaimAtom
pool_atom trade a = atom.LiquidityPool (pool_of_pair trade) trade.wheat (pos a.wheat) trade.sheep (pos a.sheep)

abbrev pub swapped : Trade → Amounts → EntryMap → Crossing
swapped trade a m =
    record {
      sheep = a.sheep;
      wheat = a.wheat;
      atoms = pool_atom trade a ∷ [];
      end = Converted;
      entries = with_pool m (pool_of_pair trade) (with_swap trade a);
    }

-- ---- which one serves

-- exactly all was sent, or exactly what was wanted was received
abbrev pub served_by : Rounding → Left → Crossing → Bool
served_by StrictSend left done = nat_eq done.sheep left.sheep_send
served_by other left done = nat_eq done.wheat left.wheat_receive

abbrev pub is_served : Trade → Crossing → Bool
is_served trade done = served_by trade.rounding (left_of trade) done

-- more is received by the book than by the pool, or less is sent
abbrev pub is_cheaper : Rounding → Crossing → Amounts → Bool
is_cheaper StrictSend book pool = nat_lt pool.wheat book.wheat
is_cheaper other book pool = nat_lt book.sheep pool.sheep

abbrev pub better_of : Trade → (book : Crossing) → (pool : Option Amounts) → EntryMap → Crossing
better_of trade book None m = book
better_of trade book (Some pool) m =
    if is_served trade book && is_cheaper trade.rounding book pool then book else swapped trade pool m

-- the pool, where it can serve, unless the book can and is strictly cheaper
unfoldable pub hop : Ctx → Trade → EntryMap → Crossing
hop ctx trade m = better_of trade (converted ctx.base_reserve trade m) (swap_of ctx trade m) m
