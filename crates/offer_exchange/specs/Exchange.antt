-- What a trade with a resting offer moves, in whole numbers without bounds (exchangeV10 in stellar-core; CAP-0003). The
-- offer sells wheat for sheep, at a price of n sheep for d wheat. Both parts of a price are at least 1.
use Rattle.std.specs.Prelude.{ℕ, ◌+◌, ◌-◌, ◌*◌, ◌/◌, min, Bool, nat_eq, nat_lt, ◌||◌, if◌then◌else◌}
use Rattle.offer_exchange.specs.declared.rounding.Rounding.{Rounding}
use Rattle.offer_exchange.specs.declared.rounding.Rounding.TheVariants.{Normal, StrictSend, StrictReceive}

-- the greatest number of 64 bits with a sign: no bound
abbrev pub unlimited : ℕ
unlimited = 9223372036854775807

-- how much wheat the offer can send and the taker receive, and how much sheep the taker can send and the offer receive
pub record Bounds : Type 0 where
  pub wheat_send : ℕ
  pub wheat_receive : ℕ
  pub sheep_send : ℕ
  pub sheep_receive : ℕ

-- how much of either moves
pub record Amounts : Type 0 where
  pub wheat : ℕ
  pub sheep : ℕ

abbrev pub nothing : Amounts
nothing = record { wheat = 0; sheep = 0 }

-- the quotient rounded up; the divisor is at least 1
abbrev pub ceil_div : ℕ → ℕ → ℕ
ceil_div a b = (a + (b - 1)) / b

-- the worth of what one side can send, or of what the other can receive for it, whichever is less
abbrev pub worth : (n d send receive : ℕ) → ℕ
worth n d send receive = min (send * n) (receive * d)

-- of the offer's side
abbrev pub wheat_worth : (n d : ℕ) → Bounds → ℕ
wheat_worth n d b = worth n d b.wheat_send b.sheep_receive

-- of the taker's side
abbrev pub sheep_worth : (n d : ℕ) → Bounds → ℕ
sheep_worth n d b = worth d n b.sheep_send b.wheat_receive

-- ---- the rows of the table: one side by what v is worth, and the other by it, rounded up or down

abbrev pub wheat_then_up : (n d v : ℕ) → Amounts
wheat_then_up n d v = record { wheat = v / n; sheep = ceil_div (v / n * n) d }

abbrev pub wheat_then_down : (n d v : ℕ) → Amounts
wheat_then_down n d v = record { wheat = v / n; sheep = v / n * n / d }

abbrev pub sheep_then_up : (n d v : ℕ) → Amounts
sheep_then_up n d v = record { wheat = ceil_div (v / d * d) n; sheep = v / d }

abbrev pub sheep_then_down : (n d v : ℕ) → Amounts
sheep_then_down n d v = record { wheat = v / d * d / n; sheep = v / d }

-- where wheat stays; `most` is the sheep that can go over
abbrev pub some_stays : Rounding → (n d v most : ℕ) → Amounts
some_stays StrictSend n d v most = record { wheat = v / n; sheep = most }
some_stays StrictReceive n d v most = wheat_then_up n d v
some_stays Normal n d v most = if nat_lt d n then wheat_then_up n d v else sheep_then_down n d v

-- where none stays
abbrev pub used_up : (n d v : ℕ) → Amounts
used_up n d v = if nat_lt d n then wheat_then_down n d v else sheep_then_up n d v

-- ---- the zero rules

-- one side gets nothing; who must send all may send it for no wheat
abbrev pub is_half : Rounding → Amounts → Bool
is_half StrictSend a = nat_eq a.sheep 0
is_half rounding a = nat_eq a.wheat 0 || nat_eq a.sheep 0

-- The price that results is off by more than a hundredth: the wheat costs less than its worth, or more. The latter is
-- borne by a taker who asked for a strict amount.
abbrev pub is_unfair : Rounding → (n d : ℕ) → Amounts → Bool
is_unfair Normal n d a =
    nat_lt (n * a.wheat + 100 * (d * a.sheep)) (100 * (n * a.wheat))
    || nat_lt (n * a.wheat + 100 * (n * a.wheat)) (100 * (d * a.sheep))
is_unfair strict n d a = nat_lt (n * a.wheat + 100 * (d * a.sheep)) (100 * (n * a.wheat))

abbrev pub unless_void : Rounding → (n d : ℕ) → Amounts → Amounts
unless_void rounding n d a = if is_half rounding a || is_unfair rounding n d a then nothing else a

-- ---- trades

-- Wheat stays where it is worth more than the sheep.
unfoldable pub wheat_stays : (n d : ℕ) → Bounds → Bool
wheat_stays n d b = nat_lt (sheep_worth n d b) (wheat_worth n d b)

-- what the table gives, before the zero rules
abbrev pub table : Rounding → (n d : ℕ) → Bounds → Amounts
table rounding n d b =
    if wheat_stays n d b then some_stays rounding n d (sheep_worth n d b) (min b.sheep_send b.sheep_receive)
    else used_up n d (wheat_worth n d b)

-- what an exchange moves
unfoldable pub exchanged : Rounding → (n d : ℕ) → Bounds → Amounts
exchanged rounding n d b = unless_void rounding n d (table rounding n d b)

-- ---- offers

-- the bounds of a trade that the offer's side alone bounds
abbrev pub offered : (send receive : ℕ) → Bounds
offered send receive = record
    { wheat_send = send; wheat_receive = unlimited; sheep_send = unlimited; sheep_receive = receive }

-- the wheat that an offer can really give for sheep that it can take
unfoldable pub adjusted : (n d send receive : ℕ) → ℕ
adjusted n d send receive = (exchanged Normal n d (offered send receive)).wheat

-- what an offer would bind that sends and receives so much at most
abbrev pub wanted : (n d send receive : ℕ) → Amounts
wanted n d send receive = table Normal n d (offered send receive)

-- what an offer of so much wheat binds
unfoldable pub liabilities : (n d amount : ℕ) → Amounts
liabilities n d amount = wanted n d amount unlimited
