-- What the pool of a pair would move, and what its calls say of it.
use Rattle.trade_cross.proofs.Prelude as prelude
use prelude.{◌≡◌, refl, sym, ap, subst, ◌∙◌, ℕ, ◌+◌, ◌<◌, ◌≤◌, Bool, true, false, Option, Some, None, ◌&&◌, ◌⊎◌, inl}
use prelude.{inr, leb-true, ltb-true, ℤ, unsigned_abs, nat_eq, nat_le, nat_lt, if◌then◌else◌, LiquidityPoolEntry}
use prelude.{EntryMap, pool_at, Ctx, Rounding, Normal, StrictSend, StrictReceive, Amounts, greatest, given_for}
use prelude.{taken_for, Crossed, Swap, Trade, Left, Crossing, converted, left_of, pool_of_pair, has_pair, sheep_in}
use prelude.{wheat_in, can_give, can_take, swap_by, swap_with, is_trading_disabled, swap_of, swapped, served_by}
use prelude.{is_served, is_cheaper, better_of, hop, amounts_of, is_served_in, is_served_by, is_cheaper_by, DoesSwapFit}
use prelude.{IsSwapOf, IsCrossing, and_parts}
use Rattle.pool_math.proofs.SwapLaws.{given_left}

-- ---- what a pool would move

-- both reserves are some, what comes fits, and some of the other is left
pub record DoesSwap (x y : ℕ) (a : Amounts) : Type 0 where
  pub some_x : 1 ≤ x
  pub some_y : 1 ≤ y
  pub fits : x + a.sheep ≤ greatest
  pub left : a.wheat < y

-- one of the two bounds is met
abbrev pub IsMet : Rounding → Left → Amounts → Type 0
IsMet StrictSend left a = a.sheep ≡ left.sheep_send
IsMet other left a = a.wheat ≡ left.wheat_receive

module _ (x y put : ℕ) (a : Amounts) where
  given_so : (t : Bool) → can_give x y put ≡ t
      → (if t then Some (record { wheat = given_for x y put; sheep = put }) else None) ≡ Some a
      → DoesSwap x y a × (a.sheep ≡ put)
  given_so false can is = absurd (cc)
  given_so true can is =
      let same : record { wheat = given_for x y put; sheep = put } ≡ a = cc in
      let some = nat_le 1 (given_for x y put) in
      let last = and_parts (nat_le 1 x && nat_le 1 y && nat_le (x + put) greatest) some can in
      let more = and_parts (nat_le 1 x && nat_le 1 y) (nat_le (x + put) greatest) last.0 in
      let both = and_parts (nat_le 1 x) (nat_le 1 y) more.0 in (
        record {
          some_x = leb-true 1 x both.0;
          some_y = leb-true 1 y both.1;
          fits = subst (λ (b : Amounts). x + b.sheep ≤ greatest) same (leb-true (x + put) greatest more.1);
          left = subst (λ (b : Amounts). b.wheat < y) same
              (given_left x y put (leb-true 1 x both.0) (leb-true 1 y both.1));
        },
        sym (ap (λ (b : Amounts). b.sheep) same),
      )

module _ (x y want : ℕ) (a : Amounts) where
  taken_so : (t : Bool) → can_take x y want ≡ t
      → (if t then Some (record { wheat = want; sheep = taken_for x y want }) else None) ≡ Some a
      → DoesSwap x y a × (a.wheat ≡ want)
  taken_so false can is = absurd (cc)
  taken_so true can is =
      let same : record { wheat = want; sheep = taken_for x y want } ≡ a = cc in
      let fits = nat_le (x + taken_for x y want) greatest in
      let last = and_parts (nat_le 1 x && nat_le 1 y && nat_lt want y) fits can in
      let more = and_parts (nat_le 1 x && nat_le 1 y) (nat_lt want y) last.0 in
      let both = and_parts (nat_le 1 x) (nat_le 1 y) more.0 in (
        record {
          some_x = leb-true 1 x both.0;
          some_y = leb-true 1 y both.1;
          fits = subst (λ (b : Amounts). x + b.sheep ≤ greatest) same
              (leb-true (x + taken_for x y want) greatest last.1);
          left = subst (λ (b : Amounts). b.wheat < y) same (ltb-true want y more.1);
        },
        sym (ap (λ (b : Amounts). b.wheat) same),
      )

pub swaps : (r : Rounding) (x y : ℕ) (left : Left) (a : Amounts) → swap_by r x y left ≡ Some a
    → DoesSwap x y a × IsMet r left a
swaps StrictSend x y left a is = given_so x y left.sheep_send a (can_give x y left.sheep_send) refl is
swaps Normal x y left a is = taken_so x y left.wheat_receive a (can_take x y left.wheat_receive) refl is
swaps StrictReceive x y left a is = taken_so x y left.wheat_receive a (can_take x y left.wheat_receive) refl is

-- ---- the pool that would

-- the pair's pool, and that it would move so much
pub record IsSwapping (trade : Trade) (m : EntryMap) (a : Amounts) : Type 0 where
  pub pool : LiquidityPoolEntry
  pub exists : pool_at m (pool_of_pair trade) ≡ Some pool
  pub pair : has_pair trade pool ≡ true
  pub swap : swap_by trade.rounding (sheep_in trade pool) (wheat_in trade pool) (left_of trade) ≡ Some a

module _ (trade : Trade) (m : EntryMap) (a : Amounts) where
  by_pair : (p : LiquidityPoolEntry) → pool_at m (pool_of_pair trade) ≡ Some p → (t : Bool) → has_pair trade p ≡ t
      → (if t then swap_by trade.rounding (sheep_in trade p) (wheat_in trade p) (left_of trade) else None) ≡ Some a
      → IsSwapping trade m a
  by_pair p exists true pair is = record { pool = p; exists = exists; pair = pair; swap = is }
  by_pair p exists false pair is = absurd (cc)

  by_pool : (o : Option LiquidityPoolEntry) → pool_at m (pool_of_pair trade) ≡ o → swap_with trade o ≡ Some a
      → IsSwapping trade m a
  by_pool None exists is = absurd (cc)
  by_pool (Some p) exists is = by_pair p exists (has_pair trade p) refl is

  by_flag : (t : Bool) → (if t then None else swap_with trade (pool_at m (pool_of_pair trade))) ≡ Some a
      → IsSwapping trade m a
  by_flag true is = absurd (cc)
  by_flag false is = by_pool (pool_at m (pool_of_pair trade)) refl is

  pub swapping : (ctx : Ctx) → swap_of ctx trade m ≡ Some a → IsSwapping trade m a
  swapping ctx is = by_flag (is_trading_disabled ctx) is

-- ---- what the calls say

pub none_reported : (x y : ℤ) (o : Option Amounts) → IsSwapOf x y None o → o ≡ None
none_reported x y None shown = refl
none_reported x y (Some a) shown = absurd shown

pub some_shown : (x y : ℤ) (swap : Swap) (o : Option Amounts) → IsSwapOf x y (Some swap) o
    → (o ≡ Some (amounts_of swap)) × DoesSwapFit x y swap
some_shown x y swap None shown = absurd shown
some_shown x y swap (Some a) shown = (
  λ i. Some (record { wheat = sym (ap unsigned_abs shown.0) i; sheep = sym (ap unsigned_abs shown.1) i }),
  shown.2,
)

module _ (ctx : Ctx) (trade : Trade) (m : EntryMap) (enabled : is_trading_disabled ctx ≡ false)
    (p : LiquidityPoolEntry) (exists : pool_at m (pool_of_pair trade) ≡ Some p) where
  abbrev moved : Option Amounts
  moved = swap_by trade.rounding (sheep_in trade p) (wheat_in trade p) (left_of trade)

  by_its : swap_of ctx trade m ≡ (if has_pair trade p then moved else None)
  by_its =
      ap (λ t. if t then None else swap_with trade (pool_at m (pool_of_pair trade))) enabled
      ∙ ap (swap_with trade) exists

  pub no_pair : has_pair trade p ≡ false → swap_of ctx trade m ≡ None
  no_pair other = by_its ∙ ap (λ t. if t then moved else None) other

  pub of_pair : has_pair trade p ≡ true → swap_of ctx trade m ≡ moved
  of_pair its = by_its ∙ ap (λ t. if t then moved else None) its

-- ---- the book or the pool

hop_by : (ctx : Ctx) (trade : Trade) (m : EntryMap) (o : Option Amounts) → swap_of ctx trade m ≡ o
    → hop ctx trade m ≡ better_of trade (converted ctx.base_reserve trade m) o m
unfolding hop
hop_by ctx trade m o is = ap (λ o. better_of trade (converted ctx.base_reserve trade m) o m) is

-- by the book, or by the pool, which can serve
abbrev pub IsEither : Trade → EntryMap → (book done : Crossing) → Type 0
IsEither trade m book done =
    (done ≡ book) ⊎ ((a : Amounts) × IsSwapping trade m a × (done ≡ swapped trade a m))

module _ (ctx : Ctx) (trade : Trade) (m : EntryMap) where
  abbrev book : Crossing
  book = converted ctx.base_reserve trade m

  either_test : (a : Amounts) → IsSwapping trade m a → (t : Bool)
      → IsEither trade m book (if t then book else swapped trade a m)
  either_test a its true = inl refl
  either_test a its false = inr (a, its, refl)

  either_swap : (o : Option Amounts) → swap_of ctx trade m ≡ o → IsEither trade m book (better_of trade book o m)
  either_swap None is = inl refl
  either_swap (Some a) is = either_test a (swapping trade m a ctx is)
      (is_served trade book && is_cheaper trade.rounding book a)

  pub hop_is_either : IsEither trade m book (hop ctx trade m)
  hop_is_either = subst (IsEither trade m book) (sym (hop_by ctx trade m (swap_of ctx trade m) refl))
      (either_swap (swap_of ctx trade m) refl)

module _ (trade : Trade) (book : Crossed) (done : Crossing) (is : IsCrossing book done) where
  pub served_same : (r : Rounding) → is_served_in r trade book ≡ served_by r (left_of trade) done
  served_same StrictSend = ap (λ n. nat_eq (unsigned_abs n) (unsigned_abs trade.sheep_send)) is.sheep
  served_same Normal = ap (λ n. nat_eq (unsigned_abs n) (unsigned_abs trade.wheat_receive)) is.wheat
  served_same StrictReceive = ap (λ n. nat_eq (unsigned_abs n) (unsigned_abs trade.wheat_receive)) is.wheat

module _ (trade : Trade) (book : Crossed) (done : Crossing) (is : IsCrossing book done) (swap : Swap) where
  cheaper_same : (r : Rounding) → is_cheaper_by r book swap ≡ is_cheaper r done (amounts_of swap)
  cheaper_same StrictSend = ap (λ n. nat_lt (unsigned_abs swap.wheat) (unsigned_abs n)) is.wheat
  cheaper_same Normal = ap (λ n. nat_lt (unsigned_abs n) (unsigned_abs swap.sheep)) is.sheep
  cheaper_same StrictReceive = ap (λ n. nat_lt (unsigned_abs n) (unsigned_abs swap.sheep)) is.sheep

  better_same : (is_served_by trade book && is_cheaper_by trade.rounding book swap)
      ≡ (is_served trade done && is_cheaper trade.rounding done (amounts_of swap))
  better_same i = served_same trade book done is trade.rounding i && cheaper_same trade.rounding i

  module _ (ctx : Ctx) (m : EntryMap) (its : converted ctx.base_reserve trade m ≡ done)
      (moves : swap_of ctx trade m ≡ Some (amounts_of swap)) where
    by_test : (t : Bool) → (is_served_by trade book && is_cheaper_by trade.rounding book swap) ≡ t
        → hop ctx trade m ≡ (if t then done else swapped trade (amounts_of swap) m)
    by_test t test =
        hop_by ctx trade m (Some (amounts_of swap)) moves
        ∙ ap (λ (c : Crossing). better_of trade c (Some (amounts_of swap)) m) its
        ∙ ap (λ t. if t then done else swapped trade (amounts_of swap) m) (sym better_same ∙ test)

    pub by_book : (is_served_by trade book && is_cheaper_by trade.rounding book swap) ≡ true → hop ctx trade m ≡ done
    by_book test = by_test true test

    pub by_pool_then : (is_served_by trade book && is_cheaper_by trade.rounding book swap) ≡ false
        → hop ctx trade m ≡ swapped trade (amounts_of swap) m
    by_pool_then test = by_test false test
