-- Shares that are given back for their part of a pool leave it filled, or empty with the last of them.
use Rattle.pool_shares.proofs.Prelude.{◌≡◌, ◌⊎◌, inl, inr, refl, ap, ℕ, ◌<◌, ◌≤◌, true, false, arith, ints, ℤ, pos}
use Rattle.pool_shares.proofs.Prelude.{neg_ℤ, ◌+ℤ◌, ◌≤ℤ◌, ◌<ℤ◌, int_lt, unsigned_abs, AccountId, Hash, TrustLineEntry}
use Rattle.pool_shares.proofs.Prelude.{LiquidityPoolEntry, line_liabilities, IsFilledOrEmpty, IsLegalLine, Part}
use Rattle.pool_shares.proofs.Prelude.{part_of, with_change, sub_natural_positive, sub_nonnegative}
use Rattle.pool_shares.proofs.Prelude.{unsigned_abs_at_most}
use Rattle.ledger_types.specs.declared.asset.TrustLineAsset.TheVariants as line
use Rattle.ledger_types.specs.declared.entry.LedgerEntryBody.TheVariants as body
use Rattle.pool_math.specs.Laws.{IsFairWithdrawal}
use Rattle.pool_math.specs.Pools.{withdrawn}
use Rattle.pool_math.proofs.WithdrawalLaws.{withdrawn_fair}
use Rattle.pool_shares.proofs.Sharing.{CanShare}
use Rattle.pool_shares.proofs.Sound.{IsLegalPool}

-- ---- numbers

less_of : (x y : ℤ) → int_lt x y ≡ true → x <ℤ y
less_of x y h = grind (arith, ints)

same_of : (x y : ℤ) → int_lt x y ≡ false → x ≤ℤ y → x ≡ y
same_of x y h le = grind (arith, ints)

all_or_less : (x y : ℤ) → x ≤ℤ y → (x ≡ y) ⊎ (x <ℤ y)
all_or_less x y le = elim (int_lt x y) as (λ b. int_lt x y ≡ b → (x ≡ y) ⊎ (x <ℤ y)) [
  | true ↦ λ is. inr (less_of x y is)
  | false ↦ λ is. inl (same_of x y is le)
] refl

numbers_less : (x y : ℤ) → pos 0 ≤ℤ x → x <ℤ y → unsigned_abs x < unsigned_abs y
numbers_less x y low less = omega (arith, ints)

number_full : (x : ℤ) → pos 0 <ℤ x → 1 ≤ unsigned_abs x
number_full x full = omega (arith, ints)

number_all : (x y : ℤ) → x ≡ y → pos 0 <ℤ y → 1 ≤ unsigned_abs x
number_all x y is full = omega (arith, ints)

part_low : (b : ℤ) (n : ℕ) → pos 0 ≤ℤ b → n ≤ unsigned_abs b → pos 0 ≤ℤ (b +ℤ neg_ℤ (pos n))
part_low b n low le = omega (arith, ints)

part_all : (b : ℤ) (n : ℕ) → pos 0 ≤ℤ b → n ≡ unsigned_abs b → (b +ℤ neg_ℤ (pos n)) ≡ pos 0
part_all b n low all = omega (arith, ints)

part_none : (b : ℤ) (n : ℕ) → b ≡ pos 0 → n ≤ unsigned_abs b → (b +ℤ neg_ℤ (pos n)) ≡ pos 0
part_none b n none le = omega (arith, ints)

shares_all : (b n : ℤ) → n ≡ b → (b +ℤ neg_ℤ n) ≡ pos 0
shares_all b n all = omega (arith, ints)

shares_none : (b n : ℤ) → b ≡ pos 0 → pos 0 ≤ℤ n → n ≤ℤ b → (b +ℤ neg_ℤ n) ≡ pos 0
shares_none b n none low le = omega (arith, ints)

shares_less : (b n : ℤ) → n <ℤ b → pos 0 <ℤ (b +ℤ neg_ℤ n)
shares_less b n less = omega (arith, ints)

in_limit : (b buying limit n : ℤ) → (b +ℤ buying) ≤ℤ limit → pos 0 ≤ℤ buying → pos 0 ≤ℤ n → (b +ℤ neg_ℤ n) ≤ℤ limit
in_limit b buying limit n fits low more = omega (arith, ints)

-- ---- the part

-- so many shares of a pool, at most all, and what they give of it
module _ (p : LiquidityPoolEntry) (shares : ℤ) (low : pos 0 ≤ℤ shares) (within : shares ≤ℤ p.total_pool_shares)
    (low_a : pos 0 ≤ℤ p.reserve_a) (low_b : pos 0 ≤ℤ p.reserve_b) where
  abbrev part : Part
  part = part_of p shares

  abbrev n : ℕ
  n = unsigned_abs shares

  abbrev all : ℕ
  all = unsigned_abs p.total_pool_shares

  fair : (reserve : ℤ) → IsFairWithdrawal (unsigned_abs reserve) all n (withdrawn (unsigned_abs reserve) all n)
  fair reserve = withdrawn_fair (unsigned_abs reserve) all n
      (unsigned_abs_at_most shares p.total_pool_shares low within)

  abbrev left : LiquidityPoolEntry
  left = with_change (neg_ℤ (pos part.a)) (neg_ℤ (pos part.b)) (neg_ℤ shares) p

  -- all are given back, or fewer
  filled_by : (shares ≡ p.total_pool_shares) ⊎ (shares <ℤ p.total_pool_shares)
      → IsFilledOrEmpty (body.LiquidityPool p) → IsFilledOrEmpty (body.LiquidityPool left)
  filled_by (inl is) (inl full) =
      let some = number_all shares p.total_pool_shares is full.2 in
      inr (
        part_all p.reserve_a part.a low_a ((fair p.reserve_a).all some (ap unsigned_abs is)),
        part_all p.reserve_b part.b low_b ((fair p.reserve_b).all some (ap unsigned_abs is)),
        shares_all p.total_pool_shares shares is,
      )
  filled_by (inr less) (inl full) =
      let fewer = numbers_less shares p.total_pool_shares low less in
      inl (
        sub_natural_positive p.reserve_a part.a low_a
            ((fair p.reserve_a).some_left fewer (number_full p.reserve_a full.0)),
        sub_natural_positive p.reserve_b part.b low_b
            ((fair p.reserve_b).some_left fewer (number_full p.reserve_b full.1)),
        shares_less p.total_pool_shares shares less,
      )
  filled_by how (inr none) = inr (
    part_none p.reserve_a part.a none.0 (fair p.reserve_a).within,
    part_none p.reserve_b part.b none.1 (fair p.reserve_b).within,
    shares_none p.total_pool_shares shares none.2 low within,
  )

  filled_left : IsFilledOrEmpty (body.LiquidityPool p) → IsFilledOrEmpty (body.LiquidityPool left)
  filled_left was = filled_by (all_or_less shares p.total_pool_shares within) was

-- So many shares of a line, or none, may be given back for their part.
pub can_withdraw : (id : AccountId) (pool : Hash) (t : TrustLineEntry) (p : LiquidityPoolEntry) (shares : ℤ)
    → IsLegalLine id (line.PoolShare pool) t → IsLegalPool pool p → pos 0 ≤ℤ shares → shares ≤ℤ t.balance
    → shares ≤ℤ p.total_pool_shares
    → CanShare t p (neg_ℤ (pos (part_of p shares).a)) (neg_ℤ (pos (part_of p shares).b)) (neg_ℤ shares)
can_withdraw id pool t p shares its was low le within =
    let r = was.range in
    let part = part_of p shares in
    let fairly = fair p shares low within r.reserve_a r.reserve_b in
    record {
      low = sub_nonnegative t.balance shares le;
      within = in_limit t.balance (line_liabilities t).buying t.limit shares its.range.range.fits
          its.range.range.buying low;
      range = record {
        fee = r.fee;
        assets = r.assets;
        id = r.id;
        reserve_a = part_low p.reserve_a part.a r.reserve_a (fairly p.reserve_a).within;
        reserve_b = part_low p.reserve_b part.b r.reserve_b (fairly p.reserve_b).within;
        shares = sub_nonnegative p.total_pool_shares shares within;
        lines = r.lines;
      };
      filled = filled_left p shares low within r.reserve_a r.reserve_b was.filled;
    }
