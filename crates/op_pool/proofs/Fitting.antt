-- That the sums of deposits and withdrawals fit.
use Rattle.op_pool.proofs.Prelude.{◌≡◌, ◌⊎◌, inl, inr, refl, sym, ap, ◌∙◌, ℕ, ◌≤◌, false, Option, Some, None, arith}
use Rattle.op_pool.proofs.Prelude.{ints, ltb-false, ℤ, pos, neg_ℤ, ◌+ℤ◌, ◌-ℤ◌, ◌≤ℤ◌, nat_lt, TrustLineEntry, EntryMap}
use Rattle.op_pool.proofs.Prelude.{line_of, line_at, line_liabilities, greatest_i64, min_balance, available, room}
use Rattle.op_pool.proofs.Prelude.{line_available, line_room, holder, payment, DoesPaymentFit, at_least_nothing}
use Rattle.op_pool.proofs.Prelude.{is_short_of, account_has, line_has, has_at, account_takes, line_takes, most_taken}
use Rattle.op_pool.proofs.Prelude.{paying, DoesFit, DoSumsFit, share_key, with_change, map_with_shares}
use Rattle.op_pool.proofs.Prelude.{BalancesAreInRange, DoPaymentsFit, ArePoolsSound, int_lt_false}
use Rattle.std.specs.FinMap.{get}
use Rattle.ledger_types.specs.KeyOrder.{asset_cmp}
use Rattle.entry_slots.specs.Accounts.{account_of, account_at}
use Rattle.entry_slots.specs.AccountExtensions.{account_liabilities}
use Rattle.trade_cross.specs.offer_exchange.Exchange.{unlimited}
use Rattle.trade_cross.specs.legal_rules.Holdings.{IsKeyed}
use Rattle.trade_cross.specs.Sides.{IsInRangeAt}
use Rattle.std.specs.declared.cmp.Ordering.TheVariants.{Less}
use Rattle.ledger_types.specs.declared.ids.AccountId.{AccountId}
use Rattle.ledger_types.specs.declared.ids.Hash.{Hash}
use Rattle.ledger_types.specs.declared.asset.Asset.{Asset}
use Rattle.ledger_types.specs.declared.asset.PoolParams.{PoolParams}
use Rattle.ledger_types.specs.declared.asset.TrustLineAsset.{TrustLineAsset}
use Rattle.ledger_types.specs.declared.price.Liabilities.{Liabilities}
use Rattle.ledger_types.specs.declared.account.AccountEntry.{AccountEntry}
use Rattle.ledger_types.specs.declared.key.LedgerKey.{LedgerKey}
use Rattle.ledger_types.specs.declared.key.LedgerKey.TheVariants as key
use Rattle.trade_cross.proofs.HoldersApart.{holders_apart}
use Rattle.trade_cross.proofs.Paying.{within}
use Rattle.pool_shares.proofs.Beside.{paying_beside, paying_keyed, pool_beside, pool_keyed}
use Rattle.pool_shares.proofs.Sound.{assets_apart}
use Rattle.pool_shares.proofs.Uses.{no_pool, no_shares}
use Rattle.trade_cross.proofs.Bonds.{zero_fits}

-- ---- numbers

less_low : (b min s n : ℤ) → n ≤ℤ (b -ℤ min -ℤ s) → pos 0 ≤ℤ min → pos 0 ≤ℤ s → pos 0 ≤ℤ (b +ℤ neg_ℤ n)
less_low b min s n enough low also = omega (arith, ints)

line_low : (b s n : ℤ) → n ≤ℤ (b -ℤ s) → pos 0 ≤ℤ s → pos 0 ≤ℤ (b +ℤ neg_ℤ n)
line_low b s n enough low = omega (arith, ints)

-- a number that falls, and not below 0
pub falls : (b n : ℤ) → pos 0 ≤ℤ n → pos 0 ≤ℤ (b +ℤ neg_ℤ n) → DoesFit b (neg_ℤ n)
falls b n low there = record { low = there; high = λ more. absurd (past n low more) }
  where
    past : (n : ℤ) → pos 0 ≤ℤ n → pos 1 ≤ℤ neg_ℤ n → ⊥
    past n low more = omega (arith, ints)

-- a number that rises to what fits
pub rises : (b : ℤ) (n : ℕ) → pos 0 ≤ℤ b → (pos 1 ≤ℤ pos n → (b +ℤ pos n) ≤ℤ greatest_i64) → DoesFit b (pos n)
rises b n low high = record { low = more b n low; high = high }
  where
    more : (b : ℤ) (n : ℕ) → pos 0 ≤ℤ b → pos 0 ≤ℤ (b +ℤ pos n)
    more b n low = omega (arith, ints)

-- .. within a limit
within_limit : (b buying limit : ℤ) (n : ℕ) → (n ≡ 0) ⊎ (pos n ≤ℤ (limit -ℤ b -ℤ buying)) → pos 0 ≤ℤ buying
    → limit ≤ℤ greatest_i64 → pos 1 ≤ℤ pos n → (b +ℤ pos n) ≤ℤ greatest_i64
within_limit b buying limit n (inl none) low most some = absurd (past n none some)
  where
    past : (n : ℕ) → n ≡ 0 → pos 1 ≤ℤ pos n → ⊥
    past n none some = omega (arith, ints)
within_limit b buying limit n (inr le) low most some = fits b buying limit greatest_i64 n le low most
  where
    fits : (b buying limit g : ℤ) (n : ℕ) → pos n ≤ℤ (limit -ℤ b -ℤ buying) → pos 0 ≤ℤ buying → limit ≤ℤ g
        → (b +ℤ pos n) ≤ℤ g
    fits b buying limit g n le low most = omega (arith, ints)

sums : (held n : ℤ) (was : Liabilities) → DoesFit held n → pos 0 ≤ℤ was.selling → pos 0 ≤ℤ was.buying
    → DoSumsFit held was (payment n)
sums held n was fits selling buying = record {
  balance = fits;
  selling = zero_fits was.selling selling;
  buying = zero_fits was.buying buying;
}

pub at_most_greatest : (x : ℤ) → x ≤ℤ greatest_i64 → at_least_nothing x ≤ unlimited
at_most_greatest (pos n) le = omega (arith, ints)
at_most_greatest other le = omega arith

room_low : (b buying g : ℤ) → pos 0 ≤ℤ b → pos 0 ≤ℤ buying → (g -ℤ b -ℤ buying) ≤ℤ g
room_low b buying g low also = omega (arith, ints)

limit_low : (b buying limit g : ℤ) → pos 0 ≤ℤ b → pos 0 ≤ℤ buying → limit ≤ℤ g → (limit -ℤ b -ℤ buying) ≤ℤ g
limit_low b buying limit g low also most = omega (arith, ints)

-- ---- what is under a key

pub in_range_at : (m : EntryMap) (k : Option LedgerKey) → BalancesAreInRange m → IsInRangeAt m k
in_range_at m (Some (key.Account id)) range = λ a exists. range.accounts.in_range id a exists
in_range_at m (Some (key.TrustLine id held)) range = λ t exists. range.lines id held t exists
in_range_at m other range = tt

module _ (m : EntryMap) (range : BalancesAreInRange m) (sound : ArePoolsSound m) where
  account_most : (id : AccountId) (o : Option AccountEntry) → account_at m id ≡ o → account_takes o ≤ unlimited
  account_most id None there = omega arith
  account_most id (Some a) there =
      let its = range.accounts.in_range id a there in
      at_most_greatest (room a) (room_low a.balance (account_liabilities a).buying greatest_i64 its.balance its.buying)

  line_most : (id : AccountId) (held : TrustLineAsset) (o : Option TrustLineEntry) → line_at m id held ≡ o
      → line_takes o ≤ unlimited
  line_most id held None there = omega arith
  line_most id held (Some t) there =
      let its = range.lines id held t there in
      at_most_greatest (line_room t)
      (limit_low t.balance (line_liabilities t).buying t.limit greatest_i64 its.balance its.buying
      (sound.limits id held t there))

  -- what can be taken fits 64 bits
  pub most_within : (k : Option LedgerKey) → most_taken m k ≤ unlimited
  most_within (Some (key.Account id)) = account_most id (account_at m id) refl
  most_within (Some (key.TrustLine id held)) = line_most id held (line_at m id held) refl
  most_within None = omega arith
  most_within (Some other) = omega arith

  -- what isn't short can be given
  pub given_fits : (base : ℕ) (k : Option LedgerKey) (n : ℤ) → pos 0 ≤ℤ n → is_short_of n (has_at base m k) ≡ false
      → DoesPaymentFit m k (neg_ℤ n)
  given_fits base (Some (key.Account id)) n low enough = λ a exists.
      let its = range.accounts.in_range id a exists in
      let there : n ≤ℤ available a base = int_lt_false (available a base) n
      (sym (ap (λ o. is_short_of n (account_has base o)) exists) ∙ enough) in
      sums a.balance (neg_ℤ n) (account_liabilities a)
      (falls a.balance n low (less_low a.balance (min_balance a base) (account_liabilities a).selling n there
      (sound.minimums id a base exists) its.selling)) its.selling its.buying
  given_fits base (Some (key.TrustLine id held)) n low enough = λ t exists.
      let its = range.lines id held t exists in
      let there : n ≤ℤ line_available t = int_lt_false (line_available t) n
      (sym (ap (λ o. is_short_of n (line_has o)) exists) ∙ enough) in
      sums t.balance (neg_ℤ n) (line_liabilities t)
      (falls t.balance n low (line_low t.balance (line_liabilities t).selling n there its.selling))
      its.selling its.buying
  given_fits base other n low enough = tt

  -- what there is room for can be taken
  pub taken_fits : (k : Option LedgerKey) (n : ℕ) → nat_lt (most_taken m k) n ≡ false → DoesPaymentFit m k (pos n)
  taken_fits (Some (key.Account id)) n enough = λ a exists.
      let its = range.accounts.in_range id a exists in
      let there : n ≤ at_least_nothing (room a) = ltb-false (at_least_nothing (room a)) n
      (sym (ap (λ o. nat_lt (account_takes o) n) exists) ∙ enough) in
      sums a.balance (pos n) (account_liabilities a)
      (rises a.balance n its.balance
      (within_limit a.balance (account_liabilities a).buying greatest_i64 n (within (room a) n there) its.buying
      (itself greatest_i64))) its.selling its.buying
    where
      itself : (x : ℤ) → x ≤ℤ x
      itself x = omega (arith, ints)
  taken_fits (Some (key.TrustLine id held)) n enough = λ t exists.
      let its = range.lines id held t exists in
      let there : n ≤ at_least_nothing (line_room t) = ltb-false (at_least_nothing (line_room t)) n
      (sym (ap (λ o. nat_lt (line_takes o) n) exists) ∙ enough) in
      sums t.balance (pos n) (line_liabilities t)
      (rises t.balance n its.balance
      (within_limit t.balance (line_liabilities t).buying t.limit n (within (line_room t) n there) its.buying
      (sound.limits id held t exists))) its.selling its.buying
  taken_fits other n enough = tt

pub most_fits : (m : EntryMap) (k : Option LedgerKey) → BalancesAreInRange m → ArePoolsSound m
    → most_taken m k ≤ unlimited
most_fits m k range sound = most_within m range sound k

-- ---- what stays as it was

payment_still : (m new : EntryMap) (k : Option LedgerKey) (n : ℤ)
    → ((q : LedgerKey) → k ≡ Some q → get new q ≡ get m q) → DoesPaymentFit m k n → DoesPaymentFit new k n
unfolding account_at line_at
payment_still m new (Some (key.Account id)) n still fits =
    λ a exists. fits a (sym (ap account_of (still (key.Account id) refl)) ∙ exists)
payment_still m new (Some (key.TrustLine id held)) n still fits =
    λ t exists. fits t (sym (ap line_of (still (key.TrustLine id held) refl)) ∙ exists)
payment_still m new other n still fits = tt

-- both assets of a pool are paid, after a change of its shares
module _ (m : EntryMap) (keyed : IsKeyed m) (id : AccountId) (pool : Hash) (params : PoolParams)
    (below : asset_cmp params.asset_a params.asset_b ≡ Less) (a b shares x y : ℤ) where
  abbrev now : EntryMap
  now = map_with_shares id pool a b shares m

  abbrev line_changed : EntryMap
  line_changed = paying (share_key id pool) shares m

  now_keyed : IsKeyed now
  now_keyed = pool_keyed line_changed pool (with_change a b shares) (paying_keyed m keyed (share_key id pool) shares)

  -- what an account has of any asset stays as it was
  pub beside : (held : Asset) (q : LedgerKey) → holder id held ≡ Some q → get now q ≡ get m q
  beside held q is =
      pool_beside line_changed (paying_keyed m keyed (share_key id pool) shares) pool (with_change a b shares)
      (λ p. refl) q (λ same. no_pool id held pool (is ∙ ap Some same))
      ∙ paying_beside m keyed (share_key id pool) shares q (λ same. no_shares id id held pool (is ∙ sym same))

  -- and so does the second asset once the first is paid
  pub second_beside : (q : LedgerKey) → holder id params.asset_b ≡ Some q
      → get (paying (holder id params.asset_a) x now) q ≡ get m q
  second_beside q is =
      paying_beside now now_keyed (holder id params.asset_a) x q
      (λ same. holders_apart id params.asset_a params.asset_b (assets_apart params below) q same is)
      ∙ beside params.asset_b q is

  pub payments_fit : DoesPaymentFit m (holder id params.asset_a) x → DoesPaymentFit m (holder id params.asset_b) y
      → DoPaymentsFit id params x y now
  payments_fit first second = record {
    first = payment_still m now (holder id params.asset_a) x (beside params.asset_a) first;
    second = payment_still m (paying (holder id params.asset_a) x now) (holder id params.asset_b) y second_beside
        second;
  }
