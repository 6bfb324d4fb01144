-- LIQUIDITY_POOL_DEPOSIT is lawful.
use Rattle.op_laws.proofs.Prelude as prelude
use prelude.{◌≡◌, inl, inr, sym, ap, subst, ◌∙◌, ℕ, ◌*◌, ◌≤◌, zero, suc, Bool, false, ◌||◌, List, [], ◌∷◌}
use prelude.{Option, Some, arith, ints, one-le-mul, ℤ, pos, neg_ℤ, ◌+ℤ◌, ◌-ℤ◌, ◌≤ℤ◌, ◌<ℤ◌, int_le}
use prelude.{unsigned_abs, AccountId, Hash, Asset, TrustLineEntry, LiquidityPoolEntry, LedgerKey}
use prelude.{EntryMap, HasAccount, line_liabilities, line_at, pool_at, total, greatest_i64, line_room}
use prelude.{unlimited, Ctx, Increase, both_more, view, nothing_owed, of_asset, held_of, holder, leaves_as, IsLegalLine}
use prelude.{line_legal, is_short_of, has_at, most_given, CanPay, CanShare, IsLegalPool, pool_legal}
use prelude.{first_used, second_used, OfAccount, OfPool, Move, is_price_bad, is_above}
use prelude.{deposit_by, is_price_outside, does_pass, given_tests}
use prelude.{map_after_depositing, liquidity_pool_deposit, IsLawful, AreLawful, issued, IsUnderway, IsMoved}
use prelude.{unless_issuer, shifts_as, add_natural_nonnegative, int_lt_false}
use prelude.{natural_positive_from_unequal, positive_from_int_le, unsigned_abs_positive, or_parts}
use Rattle.op_flags.specs.legal_rules.Bounds.{IsFilledOrEmpty}
use Rattle.std.specs.Prelude.{nat_eq}
use Rattle.op_flags.specs.ledger_types.declared.asset.Asset.TheVariants as asset
use Rattle.op_flags.specs.ledger_types.declared.asset.TrustLineAsset.TheVariants as line
use Rattle.op_flags.specs.ledger_types.declared.entry.LedgerEntryBody.TheVariants as body
use Rattle.op_flags.specs.op_types.declared.pool_ops.LiquidityPoolDepositOp.{LiquidityPoolDepositOp}
use Rattle.op_flags.specs.op_types.declared.pool_results.LiquidityPoolDepositResult.TheVariants as depositing
use Rattle.op_flags.specs.wide_math.Root.{IsRoot, square_root}
use Rattle.op_flags.proofs.wide_math_proofs.Roots.{root_is}
use Rattle.op_pool.specs.pool_math.Pools.{Deposit, deposited}
use Rattle.op_pool.specs.Deposit.{answer}
use Rattle.op_pool.specs.Deposit.{move_of_a, move_of_b}
use Rattle.op_laws.proofs.AsideMoves.{pool_issues_none, put_aside_issued}
use Rattle.op_laws.proofs.Issued.{issued_after}
use Rattle.op_laws.proofs.Lawful.{lawful_with}
use Rattle.op_laws.proofs.PoolPayments.{holder_exists, gives_so, shift_of, more_of, pool_before, account_before}
use Rattle.op_laws.proofs.PoolPayments.{both_given}
use Rattle.op_laws.proofs.Described.{Describes, more_for, account_location, pool_location, moved, move_describes}
use Rattle.op_laws.proofs.Described.{describes_both}
use Rattle.op_form.proofs.Steps.{done_so, anything, AllPass}
use Rattle.op_form.proofs.Walks.{succeeded}
use Rattle.op_pool.proofs.PoolSteps.{deposit_steps}

-- ---- tests that let a deposit through

-- ---- what may be put in

root_some : (v r : ℕ) → IsRoot v r → 1 ≤ v → 1 ≤ r
root_some v zero root some = let below = root.1 in absurd (omega arith)
root_some v (suc r) root some = omega arith

-- what is put into an empty pool gives shares
first_shares : (reserve_a reserve_b all max_a max_b : ℕ) → all ≡ 0 → 1 ≤ max_a → 1 ≤ max_b
    → 1 ≤ (deposited reserve_a reserve_b all max_a max_b).shares
first_shares reserve_a reserve_b all max_a max_b none some_a some_b =
    subst (λ n. 1 ≤ (deposited reserve_a reserve_b n max_a max_b).shares) (sym none)
    (root_some (max_a * max_b) (square_root (max_a * max_b)) (root_is (max_a * max_b)) (one-le-mul some_a some_b))

filled_more : (b : ℤ) (n : ℕ) → pos 0 ≤ℤ b → 1 ≤ n → pos 0 <ℤ (b +ℤ pos n)
filled_more b n low some = omega (arith, ints)

filled_still : (b : ℤ) (n : ℕ) → pos 0 <ℤ b → pos 0 <ℤ (b +ℤ pos n)
filled_still b n full = omega (arith, ints)

in_limit : (b buying limit : ℤ) (n : ℕ) → pos n ≤ℤ (limit -ℤ b -ℤ buying) → pos 0 ≤ℤ buying → (b +ℤ pos n) ≤ℤ limit
in_limit b buying limit n room low = omega (arith, ints)

deposit_within_unlimited : (b : ℤ) (n : ℕ) → (b +ℤ pos n) ≤ℤ greatest_i64 → pos 0 ≤ℤ b → n ≤ unlimited
deposit_within_unlimited b n le low = omega (arith, ints)

shares_some : (p : LiquidityPoolEntry) (n : ℕ) → IsFilledOrEmpty (body.LiquidityPool p) → pos 0 ≤ℤ p.total_pool_shares
    → (unsigned_abs p.total_pool_shares ≡ 0 → 1 ≤ n) → pos 0 <ℤ (p.total_pool_shares +ℤ pos n)
shares_some p n (inl full) low some = filled_still p.total_pool_shares n full.2
shares_some p n (inr none) low some = filled_more p.total_pool_shares n low (some (ap unsigned_abs none.2))

-- the shares and both amounts may be put in
can_put : (ctx : Ctx) (op : LiquidityPoolDepositOp) (t : TrustLineEntry) (p : LiquidityPoolEntry) (d : Deposit)
    → IsLegalLine ctx.op_source (line.PoolShare op.pool_id) t → IsLegalPool op.pool_id p → 1 ≤ d.a → 1 ≤ d.b
    → (unsigned_abs p.total_pool_shares ≡ 0 → 1 ≤ d.shares) → pos d.shares ≤ℤ line_room t
    → CanShare t p (pos d.a) (pos d.b) (pos d.shares)
can_put ctx op t p d its was some_a some_b some room =
    let r = was.range in
    record {
      low = add_natural_nonnegative t.balance d.shares its.range.range.balance;
      within = in_limit t.balance (line_liabilities t).buying t.limit d.shares room its.range.range.buying;
      range = record {
        fee = r.fee;
        assets = r.assets;
        id = r.id;
        reserve_a = add_natural_nonnegative p.reserve_a d.a r.reserve_a;
        reserve_b = add_natural_nonnegative p.reserve_b d.b r.reserve_b;
        shares = add_natural_nonnegative p.total_pool_shares d.shares r.shares;
        lines = r.lines;
      };
      filled = inl (
        filled_more p.reserve_a d.a r.reserve_a some_a,
        filled_more p.reserve_b d.b r.reserve_b some_b,
        shares_some p d.shares was.filled r.shares some,
      );
    }

-- ---- what a deposit moves

module _ (ctx : Ctx) (op : LiquidityPoolDepositOp) (p : LiquidityPoolEntry) (d : Deposit) where
  abbrev a : Asset
  a = p.params.asset_a

  abbrev b : Asset
  b = p.params.asset_b

  abbrev src : AccountId
  src = ctx.op_source

  abbrev pool : Hash
  pool = op.pool_id

  abbrev put_a : ℤ
  put_a = pos d.a

  abbrev put_b : ℤ
  put_b = pos d.b

  abbrev moves : List Move
  moves = move_of_a ctx op p d ∷ move_of_b ctx op p d ∷ []

  shifted : (x : Asset) → shift_of p src put_a put_b (neg_ℤ put_a) (neg_ℤ put_b) x ≡ issued x moves
  shifted x =
      account_before (of_asset x a put_a) (of_asset x b put_b) (unless_issuer x a src (neg_ℤ put_a))
      (unless_issuer x b src (neg_ℤ put_b))
      ∙ (λ i. put_aside_issued x a src (OfPool pool) put_a (pool_issues_none a pool) i
      +ℤ put_aside_issued x b src (OfPool pool) put_b (pool_issues_none b pool) i)
      ∙ sym (issued_after x (move_of_a ctx op p d ∷ []) (move_of_b ctx op p d ∷ []))

  abbrev more_a : Increase
  more_a = moved a (OfAccount src) (OfPool pool) put_a

  abbrev more_b : Increase
  more_b = moved b (OfAccount src) (OfPool pool) put_b

  more_is : (k : LedgerKey) (x : Asset)
      → more_of p src pool put_a put_b (neg_ℤ put_a) (neg_ℤ put_b) k x ≡ both_more more_a more_b k x
  more_is k x = pool_before (more_for a (OfPool pool) put_a k x) (more_for b (OfPool pool) put_b k x)
      (more_for a (OfAccount src) (neg_ℤ put_a) k x) (more_for b (OfAccount src) (neg_ℤ put_b) k x)

  describes : Describes (both_more more_a more_b) moves
  describes = describes_both more_a more_b (move_of_a ctx op p d ∷ []) (move_of_b ctx op p d ∷ [])
      (move_describes a (OfAccount src) (OfPool pool) put_a (account_location a src) (pool_location a pool))
      (move_describes b (OfAccount src) (OfPool pool) put_b (account_location b src) (pool_location b pool))

  -- a deposit that moves both amounts is lawful
  deposit_lawful : (m : EntryMap) → IsUnderway ctx m
      → IsMoved ctx.id_pool ctx.base_reserve (shift_of p src put_a put_b (neg_ℤ put_a) (neg_ℤ put_b))
      (more_of p src pool put_a put_b (neg_ℤ put_a) (neg_ℤ put_b)) m (map_after_depositing src op p d m)
      → IsLawful ctx m (record {
        result = answer depositing.Success;
        entries = map_after_depositing src op p d m;
        ctx = ctx;
        moves = moves;
      })
  deposit_lawful m under both =
      let new = map_after_depositing src op p d m in
      lawful_with ctx m under (both_more more_a more_b) (answer depositing.Success) new moves
      (shifts_as ctx.id_pool (shift_of p src put_a put_b (neg_ℤ put_a) (neg_ℤ put_b)) (λ x. issued x moves) m new
      shifted both.shifts)
      (leaves_as ctx.base_reserve (more_of p src pool put_a put_b (neg_ℤ put_a) (neg_ℤ put_b))
      (both_more more_a more_b) m new both.left more_is) describes

-- ---- the operation

module _ (ctx : Ctx) (op : LiquidityPoolDepositOp) (m : EntryMap) (under : IsUnderway ctx m)
    (source : HasAccount m ctx.op_source) (some_a : 1 ≤ unsigned_abs op.max_amount_a)
    (some_b : 1 ≤ unsigned_abs op.max_amount_b) (t : TrustLineEntry) (p : LiquidityPoolEntry)
    (has : line_at m ctx.op_source (line.PoolShare op.pool_id) ≡ Some t) (exists : pool_at m op.pool_id ≡ Some p) where
  abbrev d : Deposit
  d = deposit_by op p

  abbrev lumens : ℤ
  lumens = total (held_of asset.Native) m

  its : IsLegalLine ctx.op_source (line.PoolShare op.pool_id) t
  its = line_legal (view m) ctx.id_pool nothing_owed lumens m ctx.op_source (line.PoolShare op.pool_id) t
      under.settled.legal has

  was : IsLegalPool op.pool_id p
  was = pool_legal (view m) ctx.id_pool nothing_owed lumens m op.pool_id p under.settled.legal exists

  abbrev gives_a : Option LedgerKey
  gives_a = holder ctx.op_source p.params.asset_a

  abbrev gives_b : Option LedgerKey
  gives_b = holder ctx.op_source p.params.asset_b

  abbrev short_a : Bool
  short_a = is_short_of (pos d.a) (has_at ctx.base_reserve m gives_a)

  abbrev short_b : Bool
  short_b = is_short_of (pos d.b) (has_at ctx.base_reserve m gives_b)

  -- the account gives an amount that isn't short and that fits the pool
  gives_first : short_a ≡ false → d.a ≤ unlimited
      → (CanPay m gives_a (neg_ℤ (pos d.a))) × (d.a ≤ most_given ctx.base_reserve m gives_a)
  gives_first enough fits = gives_so (view m) ctx.id_pool ctx.base_reserve lumens m under.settled.legal d.a gives_a
      (holder_exists m ctx.op_source source p.params.asset_a
      (first_used (view m) ctx.id_pool lumens m under.settled.legal ctx.op_source op.pool_id t has p exists))
      fits enough

  gives_second : short_b ≡ false → d.b ≤ unlimited
      → (CanPay m gives_b (neg_ℤ (pos d.b))) × (d.b ≤ most_given ctx.base_reserve m gives_b)
  gives_second enough fits = gives_so (view m) ctx.id_pool ctx.base_reserve lumens m under.settled.legal d.b gives_b
      (holder_exists m ctx.op_source source p.params.asset_b
      (second_used (view m) ctx.id_pool lumens m under.settled.legal ctx.op_source op.pool_id t has p exists))
      fits enough

  put_in_lawful : AllPass (given_tests ctx op t p d m) → IsLawful ctx m
      (succeeded ctx (answer depositing.Success) (map_after_depositing ctx.op_source op p d m) (moves ctx op p d))
  put_in_lawful pass =
      let none_a = nat_eq d.a 0 in
      let none_b = nat_eq d.b 0 in
      let pass_a = does_pass p.reserve_a d.a in
      let pass_b = does_pass p.reserve_b d.b in
      let enough = or_parts short_a short_b pass.1.1.0 in
      let priced = or_parts none_a none_b (or_parts (none_a || none_b) (is_price_outside op d.a d.b) pass.1.1.1.0).0 in
      let fits = or_parts pass_a pass_b
      (or_parts (pass_a || pass_b) (does_pass p.total_pool_shares d.shares) pass.1.1.1.1.1.0).0 in
      let fits_a = deposit_within_unlimited p.reserve_a d.a
      (int_lt_false greatest_i64 (p.reserve_a +ℤ pos d.a) fits.0) was.range.reserve_a in
      let fits_b = deposit_within_unlimited p.reserve_b d.b
      (int_lt_false greatest_i64 (p.reserve_b +ℤ pos d.b) fits.1) was.range.reserve_b in
      let can = can_put ctx op t p d its was (natural_positive_from_unequal d.a priced.0)
      (natural_positive_from_unequal d.b priced.1)
      (λ none. first_shares (unsigned_abs p.reserve_a) (unsigned_abs p.reserve_b) (unsigned_abs p.total_pool_shares)
      (unsigned_abs op.max_amount_a) (unsigned_abs op.max_amount_b) none some_a some_b)
      (int_lt_false (line_room t) (pos d.shares) pass.1.1.1.1.0) in
      let both = both_given ctx.id_pool ctx.base_reserve m under.settled.legal ctx.op_source op.pool_id t p has exists
      (pos d.a) (pos d.b) (pos d.shares) can d.a d.b (gives_first enough.0 fits_a) (gives_second enough.1 fits_b) in
      deposit_lawful ctx op p d m under both

pub liquidity_pool_deposit_is_lawful : AreLawful liquidity_pool_deposit
liquidity_pool_deposit_is_lawful ctx op m done under source is =
    let none_a = int_le op.max_amount_a (pos 0) in
    let none_b = int_le op.max_amount_b (pos 0) in
    let bad_least = is_price_bad op.min_price in
    let bad_most = is_price_bad op.max_price in
    let crossed = is_above op.min_price.n op.min_price.d op.max_price.n op.max_price.d in
    done_so anything (IsLawful ctx m) (liquidity_pool_deposit ctx op m) done
    (deposit_steps anything (IsLawful ctx m) ctx op m (λ t p pass has exists may.
    let prices = or_parts (none_a || none_b || bad_least || bad_most) crossed pass.0 in
    let most = or_parts (none_a || none_b || bad_least) bad_most prices.0 in
    let some = or_parts none_a none_b (or_parts (none_a || none_b) bad_least most.0).0 in
    put_in_lawful ctx op m under source
    (unsigned_abs_positive op.max_amount_a (positive_from_int_le op.max_amount_a some.0))
    (unsigned_abs_positive op.max_amount_b (positive_from_int_le op.max_amount_b some.1)) t p has exists may)) is
