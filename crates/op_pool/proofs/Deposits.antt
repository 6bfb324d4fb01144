-- What a deposit yields, and that its sums fit.
use Rattle.op_pool.proofs.Prelude as prelude
use prelude.{◌≡◌, refl, sym, ap, subst, ◌∙◌, ℕ, ◌<◌, ◌≤◌, Bool, true, false, List, Option, Some, None, arith, inl, inr}
use prelude.{ints, ltb-true, ltb-false, ◌&&◌, ◌||◌, ℤ, pos, neg_ℤ, ◌+ℤ◌, ◌-ℤ◌, ◌≤ℤ◌, ◌<ℤ◌, ◌∷◌, [], unsigned_abs}
use prelude.{int_lt, nat_lt, TrustLineEntry, LiquidityPoolEntry, OperationResult, EntryMap, LineSlot, PoolSlot, line_at}
use prelude.{line_slot_at, line_liabilities, pool_at, pool_slot_at, Tests, first_fault, greatest_i64, line_room, Ctx}
use prelude.{numbers_of, AnswersDeposit, IsUnsigned, IsPoolInRange, holder, is_short_of, has_at, DoesFit}
use prelude.{BalancesAreInRange, IsDepositBy, is_either_unusable, does_pass, amount_tests, map_after_putting}
use prelude.{is_price_wrong, is_pool_full, DoesDepositFit, ArePoolsSound, line_loaded, pool_loaded, int_lt_false}
use prelude.{natural_nonnegative, or_parts}
use Rattle.trade_cross.specs.legal_rules.Bounds.{IsFilledOrEmpty}
use Rattle.ledger_types.specs.declared.asset.TrustLineAsset.TheVariants as line
use Rattle.ledger_types.specs.declared.entry.LedgerEntryBody.TheVariants as body
use Rattle.op_types.specs.declared.pool_results.LiquidityPoolDepositResult.TheVariants as depositing
use Rattle.op_types.specs.declared.pool_ops.LiquidityPoolDepositOp.{LiquidityPoolDepositOp}
use Rattle.pool_math.specs.declared.deposits.Deposited.{Deposited}
use Rattle.pool_math.specs.Parts.{signed}
use Rattle.pool_math.specs.Pools.{Deposit, AreFilledOrEmpty, greatest}
use Rattle.op_form.specs.Done.{Attempt, Move}
use Rattle.op_form.specs.Steps.{unless_result, success}
use Rattle.op_pool.specs.Deposit.{answer, do_shares_pass, deposit_by, map_after_depositing, move_of_a}
use Rattle.op_pool.specs.Deposit.{move_of_b, put_in}
use Rattle.op_pool.proofs.Fitting.{rises, given_fits, payments_fit}

-- ---- what is put in

some_number : (x : ℤ) → pos 0 <ℤ x → unsigned_abs x ≡ 0 → ⊥
some_number x some none = omega (arith, ints)

pub filled_of : (p : LiquidityPoolEntry) → IsFilledOrEmpty (body.LiquidityPool p)
    → AreFilledOrEmpty (unsigned_abs p.reserve_a) (unsigned_abs p.reserve_b) (unsigned_abs p.total_pool_shares)
filled_of p (inl full) = record {
  a = (
    (λ none. absurd (some_number p.reserve_a full.0 none)),
    λ none. absurd (some_number p.total_pool_shares full.2 none),
  );
  b = (
    (λ none. absurd (some_number p.reserve_b full.1 none)),
    λ none. absurd (some_number p.total_pool_shares full.2 none),
  );
}
filled_of p (inr none) = record {
  a = ((λ is. ap unsigned_abs none.2), λ is. ap unsigned_abs none.0);
  b = ((λ is. ap unsigned_abs none.2), λ is. ap unsigned_abs none.1);
}

-- more than fits passes, and nothing else
passing : (total least : ℕ) → ((1 ≤ total → least ≤ greatest) → ⊥) → (nat_lt 0 total && nat_lt greatest least) ≡ true
passing total least past = elim (nat_lt 0 total) as (λ b. nat_lt 0 total ≡ b
    → (b && nat_lt greatest least) ≡ true) [
      | true ↦ λ some. elim (nat_lt greatest least) as (λ b. nat_lt greatest least ≡ b → b ≡ true) [
        | true ↦ λ more. refl
        | false ↦ λ fits. absurd (past (λ is. ltb-false greatest least fits))
      ] refl
      | false ↦ λ none. absurd (past (λ some. absurd (never (ltb-false 0 total none) some)))
    ] refl
  where
    never : total ≤ 0 → 1 ≤ total → ⊥
    never none some = omega arith

fitting : (total least : ℕ) → (1 ≤ total → least ≤ greatest) → (nat_lt 0 total && nat_lt greatest least) ≡ false
fitting total least fits = elim (nat_lt 0 total) as (λ b. nat_lt 0 total ≡ b
    → (b && nat_lt greatest least) ≡ false) [
      | true ↦ λ some. elim (nat_lt greatest least) as (λ b. nat_lt greatest least ≡ b → b ≡ false) [
        | true ↦ λ more. absurd (never (ltb-true greatest least more) (fits (ltb-true 0 total some)))
        | false ↦ λ less. refl
      ] refl
      | false ↦ λ none. refl
    ] refl
  where
    never : greatest < least → least ≤ greatest → ⊥
    never more less = omega arith

same_number : (x : ℤ) → pos 0 ≤ℤ x → x ≡ pos (unsigned_abs x)
same_number x low = omega (arith, ints)

signed_is : (d : Deposited) → IsUnsigned d → d ≡ signed (numbers_of d)
signed_is d low = λ i. record {
  shares = same_number d.shares low.shares i;
  a = same_number d.a low.a i;
  b = same_number d.b low.b i;
}

pub deposit_is : (op : LiquidityPoolDepositOp) (pool : LiquidityPoolEntry) (answer : Option Deposited)
    → AnswersDeposit pool.reserve_a pool.reserve_b pool.total_pool_shares op.max_amount_a op.max_amount_b answer
    → IsDepositBy op pool answer
deposit_is op pool None not = passing _ _ (λ fits. not (record { fits = fits }))
deposit_is op pool (Some d) is =
    (fitting _ _ is.4.fits, signed_is d is.3 ∙ ap signed is.1)

-- ---- sums

no_fault_tests_false : (a b c d : Bool) (w x y z : OperationResult)
    → first_fault ((a, w) ∷ (b, x) ∷ (c, y) ∷ (d, z) ∷ []) ≡ None
    → (a ≡ false) × (b ≡ false) × (c ≡ false) × (d ≡ false)
no_fault_tests_false true b c d w x y z h = absurd (cc)
no_fault_tests_false false true c d w x y z h = absurd (cc)
no_fault_tests_false false false true d w x y z h = absurd (cc)
no_fault_tests_false false false false true w x y z h = absurd (cc)
no_fault_tests_false false false false false w x y z h = (refl, refl, refl, refl)

-- what doesn't pass 64 bits fits
joins : (there : ℤ) (n : ℕ) → pos 0 ≤ℤ there → does_pass there (pos n) ≡ false → DoesFit there (pos n)
joins there n low fits = rises there n low (λ more. int_lt_false greatest_i64 (there +ℤ pos n) fits)

in_limit : (b buying limit g shares : ℤ) → shares ≤ℤ (limit -ℤ b -ℤ buying) → pos 0 ≤ℤ buying → limit ≤ℤ g
    → (b +ℤ shares) ≤ℤ g
in_limit b buying limit g shares room low most = omega (arith, ints)

module _ (ctx : Ctx) (op : LiquidityPoolDepositOp) (share : TrustLineEntry) (pool : LiquidityPoolEntry) (d : Deposit)
    (m : EntryMap) (range : BalancesAreInRange m) (sound : ArePoolsSound m)
    (share_exists : line_at m ctx.op_source (line.PoolShare op.pool_id) ≡ Some share)
    (pool_exists : pool_at m op.pool_id ≡ Some pool)
    (tested : first_fault (amount_tests ctx op share pool (signed d) m) ≡ None) where
  its : IsPoolInRange pool
  its = sound.ranges op.pool_id pool pool_exists

  deposit_fits : DoesDepositFit ctx.op_source op share pool (signed d) m
  deposit_fits =
      let line_range = range.lines ctx.op_source (line.PoolShare op.pool_id) share share_exists in
      let short_a = is_short_of (pos d.a) (has_at ctx.base_reserve m (holder ctx.op_source pool.params.asset_a)) in
      let short_b = is_short_of (pos d.b) (has_at ctx.base_reserve m (holder ctx.op_source pool.params.asset_b)) in
      let pass_a = does_pass pool.reserve_a (pos d.a) in
      let pass_b = does_pass pool.reserve_b (pos d.b) in
      let pass_shares = does_pass pool.total_pool_shares (pos d.shares) in
      let all = no_fault_tests_false (short_a || short_b) (is_price_wrong op (pos d.a) (pos d.b))
      (int_lt (line_room share) (pos d.shares)) (is_pool_full pool (pos d.a) (pos d.b) (pos d.shares))
      (answer depositing.Underfunded) (answer depositing.BadPrice) (answer depositing.LineFull)
      (answer depositing.PoolFull) tested in
      let enough = or_parts short_a short_b all.0 in
      let fits = or_parts (pass_a || pass_b) pass_shares all.3 in
      let both_fit = or_parts pass_a pass_b fits.0 in
      record {
        unsigned = record {
          shares = natural_nonnegative d.shares;
          a = natural_nonnegative d.a;
          b = natural_nonnegative d.b;
        };
        balance = rises share.balance d.shares line_range.balance
            (λ more. in_limit share.balance (line_liabilities share).buying share.limit greatest_i64 (pos d.shares)
            (int_lt_false (line_room share) (pos d.shares) all.2) line_range.buying
            (sound.limits ctx.op_source (line.PoolShare op.pool_id) share share_exists));
        reserves = record {
          a = joins pool.reserve_a d.a its.reserve_a both_fit.0;
          b = joins pool.reserve_b d.b its.reserve_b both_fit.1;
          shares = joins pool.total_pool_shares d.shares its.shares fits.1;
        };
        payments = payments_fit m sound.keyed ctx.op_source op.pool_id pool.params its.assets (pos d.a) (pos d.b)
            (pos d.shares) (neg_ℤ (pos d.a)) (neg_ℤ (pos d.b))
            (given_fits m range sound ctx.base_reserve (holder ctx.op_source pool.params.asset_a) (pos d.a)
            (natural_nonnegative d.a) enough.0)
            (given_fits m range sound ctx.base_reserve (holder ctx.op_source pool.params.asset_b) (pos d.b)
            (natural_nonnegative d.b) enough.1);
      }

-- ---- by what calls answer

-- what is worked out is unsigned
pub unsigned_of : (d : Deposited) (amounts : Deposit) → d ≡ signed amounts → IsUnsigned d
unsigned_of d amounts is = subst IsUnsigned (sym is)
    (record {
      shares = natural_nonnegative amounts.shares;
      a = natural_nonnegative amounts.a;
      b = natural_nonnegative amounts.b;
    })

-- a deposit of which no test holds fits
pub fits_as : (ctx : Ctx) (op : LiquidityPoolDepositOp) (share : LineSlot) (pool : PoolSlot) (d : Deposited)
    (m : EntryMap) → BalancesAreInRange m → ArePoolsSound m
    → Some share ≡ line_slot_at m ctx.op_source (line.PoolShare op.pool_id) → Some pool ≡ pool_slot_at m op.pool_id
    → d ≡ signed (deposit_by op pool.pool)
    → first_fault (amount_tests ctx op share.line pool.pool d m) ≡ None
    → DoesDepositFit ctx.op_source op share.line pool.pool d m
fits_as ctx op share pool d m range sound loaded also is tested =
    subst (λ x. DoesDepositFit ctx.op_source op share.line pool.pool x m) (sym is)
    (deposit_fits ctx op share.line pool.pool (deposit_by op pool.pool) m range sound
    (line_loaded m ctx.op_source (line.PoolShare op.pool_id) share loaded) (pool_loaded m op.pool_id pool also)
    (ap (λ x. first_fault (amount_tests ctx op share.line pool.pool x m)) (sym is) ∙ tested))

after_two : (u p : Bool) (x y : OperationResult) (rest : Tests OperationResult) → u ≡ false → p ≡ false
    → first_fault ((u, x) ∷ (p, y) ∷ rest) ≡ first_fault rest
after_two true p x y rest not also = absurd (cc)
after_two false true x y rest not also = absurd (cc)
after_two false false x y rest not also = refl

module _ (ctx : Ctx) (op : LiquidityPoolDepositOp) (share : TrustLineEntry) (pool : LiquidityPoolEntry)
    (d : Deposited) (m : EntryMap) (is : d ≡ signed (deposit_by op pool)) where
  abbrev moves : List Move
  moves = move_of_a ctx op pool (deposit_by op pool) ∷ move_of_b ctx op pool (deposit_by op pool) ∷ []

  abbrev succeeded : Attempt
  succeeded = success ctx (answer depositing.Success) (map_after_putting ctx.op_source op pool d m) moves

  -- what follows the first two tests
  pub put_in_as : is_either_unusable ctx pool.params m ≡ false → do_shares_pass op pool ≡ false
      → put_in ctx op share pool (deposit_by op pool) m
      ≡ unless_result (first_fault (amount_tests ctx op share pool d m)) succeeded
  put_in_as usable few =
      ap (λ o. unless_result o (success ctx (answer depositing.Success)
      (map_after_depositing ctx.op_source op pool (deposit_by op pool) m) moves))
      (after_two (is_either_unusable ctx pool.params m) (do_shares_pass op pool) (answer depositing.NotAuthorized)
      (answer depositing.PoolFull) (amount_tests ctx op share pool (signed (deposit_by op pool)) m) usable few)
      ∙ ap (λ (x : Deposited). unless_result (first_fault (amount_tests ctx op share pool x m))
      (success ctx (answer depositing.Success) (map_after_putting ctx.op_source op pool x m) moves)) (sym is)
