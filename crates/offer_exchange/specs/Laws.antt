-- Laws of exchanges that crossing rests on.
use Rattle.std.specs.Prelude.{◌≡◌, ℕ, ◌≤◌}
use Rattle.offer_exchange.specs.Exchange.{Bounds, Amounts, adjusted, liabilities}

-- what moves is within what each side can send and receive
pub record AreWithin (b : Bounds) (a : Amounts) : Type 0 where
  pub wheat_send : a.wheat ≤ b.wheat_send
  pub wheat_receive : a.wheat ≤ b.wheat_receive
  pub sheep_send : a.sheep ≤ b.sheep_send
  pub sheep_receive : a.sheep ≤ b.sheep_receive

-- What an adjusted amount binds: no more than its owner can send and receive, and some of both where it is at least 1.
pub record IsBound (n d send receive amount : ℕ) : Type 0 where
  pub selling : (liabilities n d amount).wheat ≤ send
  pub buying : (liabilities n d amount).sheep ≤ receive
  pub all_selling : (liabilities n d amount).wheat ≡ amount
  pub some_buying : 1 ≤ amount → 1 ≤ (liabilities n d amount).sheep

-- an adjusted amount stays as it is when it is adjusted again, for as much room or more
abbrev pub StaysAdjusted : (n d receive amount : ℕ) → Type 0
StaysAdjusted n d receive amount = (more : ℕ) → receive ≤ more → adjusted n d amount more ≡ amount
