-- What the parts of a hop answer, by the numbers of 64 bits that they take and answer.
use Rattle.std.specs.Prelude.{◌≡◌, ℤ, pos, ◌+ℤ◌, ◌≤ℤ◌, ◌<ℤ◌, Bool, unsigned_abs, nat_eq, nat_lt}
use Rattle.std.specs.Prelude.{Option, Some, None, if◌then◌else◌}
use Rattle.ledger_types.specs.declared.liquidity_pool.LiquidityPoolEntry.{LiquidityPoolEntry}
use Rattle.entry_map.specs.EntryMap.{EntryMap}
use Rattle.entry_slots.specs.Pools.{pool_slot_at}
use Rattle.reserve_rules.specs.Reserve.{greatest_i64}
use Rattle.sponsor_rules.specs.declared.context.Ctx.{Ctx}
use Rattle.offer_exchange.specs.declared.rounding.Rounding.{Rounding}
use Rattle.offer_exchange.specs.declared.rounding.Rounding.TheVariants.{StrictSend, StrictReceive}
use Rattle.offer_exchange.specs.Exchange.{Amounts}
use Rattle.trade_cross.specs.declared.crossed.Crossed.{Crossed}
use Rattle.trade_cross.specs.declared.pool_swap.Serving.{Serving}
use Rattle.trade_cross.specs.declared.pool_swap.Swap.{Swap}
use Rattle.trade_cross.specs.declared.trade.Trade.{Trade}
use Rattle.trade_cross.specs.Crossing.{Crossing, left_of}
use Rattle.trade_cross.specs.Hop.{is_sheep_first, pool_of_pair, sheep_in, wheat_in, swap_by, swap_of, is_served}
use Rattle.trade_cross.specs.Progressing.{IsCrossing}

abbrev pub amounts_of : Swap → Amounts
amounts_of swap = record { wheat = unsigned_abs swap.wheat; sheep = unsigned_abs swap.sheep }

-- exactly all was sent, or exactly what was wanted was received
abbrev pub is_served_in : Rounding → Trade → Crossed → Bool
is_served_in StrictSend trade done = nat_eq (unsigned_abs done.sheep) (unsigned_abs trade.sheep_send)
is_served_in other trade done = nat_eq (unsigned_abs done.wheat) (unsigned_abs trade.wheat_receive)

abbrev pub is_served_by : Trade → Crossed → Bool
is_served_by trade done = is_served_in trade.rounding trade done

-- whether the trade was served by whatever it yielded
abbrev pub ShowsServed : Bool → Trade → Crossed → Type 0
ShowsServed served trade answer = (done : Crossing) → IsCrossing answer done → served ≡ is_served trade done

-- more is received by the book than by the pool, or less is sent
abbrev pub is_cheaper_by : Rounding → Crossed → Swap → Bool
is_cheaper_by StrictSend book pool = nat_lt (unsigned_abs pool.wheat) (unsigned_abs book.wheat)
is_cheaper_by other book pool = nat_lt (unsigned_abs book.sheep) (unsigned_abs pool.sheep)

-- the reserves of what is sent and of what is received
abbrev pub sheep_reserve : Trade → LiquidityPoolEntry → ℤ
sheep_reserve trade pool = if is_sheep_first trade then pool.reserve_a else pool.reserve_b

abbrev pub wheat_reserve : Trade → LiquidityPoolEntry → ℤ
wheat_reserve trade pool = if is_sheep_first trade then pool.reserve_b else pool.reserve_a

-- what is put fits beside so much of the one, and some of so much of the other is left
pub record DoesSwapFit (x y : ℤ) (swap : Swap) : Type 0 where
  pub sheep : pos 0 ≤ℤ swap.sheep
  pub wheat : pos 0 ≤ℤ swap.wheat
  pub filled : pos 1 ≤ℤ x
  pub fits : (x +ℤ swap.sheep) ≤ℤ greatest_i64
  pub left : swap.wheat <ℤ y

-- what a pool of such reserves would move, and that it fits; None where it can't serve
abbrev pub IsSwapOf : (x y : ℤ) → Option Swap → Option Amounts → Type 0
IsSwapOf x y None None = Unit {0}
IsSwapOf x y (Some swap) (Some a) =
    (swap.wheat ≡ pos a.wheat) × (swap.sheep ≡ pos a.sheep) × DoesSwapFit x y swap
IsSwapOf x y one other = ⊥

-- all that can be sent is sent
abbrev pub ShowsGiven : Option Swap → (x y put : ℤ) → Type 0
ShowsGiven swap x y put =
    IsSwapOf x y swap
    (swap_by StrictSend (unsigned_abs x) (unsigned_abs y)
    (record { sheep_send = unsigned_abs put; wheat_receive = 0 }))

-- all that can be received is received
abbrev pub ShowsTaken : Option Swap → (x y want : ℤ) → Type 0
ShowsTaken swap x y want =
    IsSwapOf x y swap
    (swap_by StrictReceive (unsigned_abs x) (unsigned_abs y)
    (record { sheep_send = 0; wheat_receive = unsigned_abs want }))

abbrev pub ShowsSwap : Option Swap → (x y : ℤ) → Trade → Type 0
ShowsSwap swap x y trade =
    IsSwapOf x y swap (swap_by trade.rounding (unsigned_abs x) (unsigned_abs y) (left_of trade))

-- the same by the reserves of a pool
abbrev pub ShowsPoolSwap : Option Swap → Trade → LiquidityPoolEntry → Type 0
ShowsPoolSwap swap trade pool =
    IsSwapOf (sheep_reserve trade pool) (wheat_reserve trade pool) swap
    (swap_by trade.rounding (sheep_in trade pool) (wheat_in trade pool) (left_of trade))

abbrev pub DoesPoolFit : Trade → Swap → LiquidityPoolEntry → Type 0
DoesPoolFit trade swap pool = DoesSwapFit (sheep_reserve trade pool) (wheat_reserve trade pool) swap

-- the pair's pool, as it was loaded, and what it would move
pub record IsServing (ctx : Ctx) (trade : Trade) (m : EntryMap) (serving : Serving) : Type 0 where
  pub slot : Some serving.slot ≡ pool_slot_at m (pool_of_pair trade)
  pub keyed : serving.slot.pool.pool_id ≡ pool_of_pair trade
  pub swap : swap_of ctx trade m ≡ Some (amounts_of serving.swap)
  pub fits : DoesPoolFit trade serving.swap serving.slot.pool

abbrev pub ShowsServing : Option Serving → Ctx → Trade → EntryMap → Type 0
ShowsServing None ctx trade m = swap_of ctx trade m ≡ None
ShowsServing (Some serving) ctx trade m = IsServing ctx trade m serving
