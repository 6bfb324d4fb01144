-- That the sums of a withdrawal fit.
use Rattle.op_pool.proofs.Prelude as prelude
use prelude.{◌≡◌, refl, sym, ap, subst, ◌∙◌, Some, None, Bool, true, false, ℤ, pos, neg_ℤ, ◌≤ℤ◌, [], ◌∷◌}
use prelude.{TrustLineEntry, LiquidityPoolEntry, OperationResult, EntryMap, LineSlot, PoolSlot, line_at, line_slot_at}
use prelude.{pool_at, pool_slot_at, first_fault, Ctx, IsPoolInRange, holder, DoesFit, Part, part_of, BalancesAreInRange}
use prelude.{signed_part, is_below_minimum, is_either_full, part_tests, DoesWithdrawalFit, ArePoolsSound, line_loaded}
use prelude.{pool_loaded, at_most_trans, natural_nonnegative, nonnegative_from_positive, sub_nonnegative, or_parts}
use Rattle.ledger_types.specs.declared.asset.TrustLineAsset.TheVariants as line
use Rattle.op_types.specs.declared.pool_results.LiquidityPoolWithdrawResult.TheVariants as withdrawing
use Rattle.op_types.specs.declared.pool_ops.LiquidityPoolWithdrawOp.{LiquidityPoolWithdrawOp}
use Rattle.pool_shares.specs.declared.withdrawing.Part.{Part as PartOfCall}
use Rattle.op_pool.specs.Withdraw.{answer}
use Rattle.op_pool.proofs.Fitting.{falls, taken_fits, payments_fit}

leaves : (there n : ℤ) → pos 0 ≤ℤ n → n ≤ℤ there → DoesFit there (neg_ℤ n)
leaves there n low within = falls there n low (sub_nonnegative there n within)

pub withdrawal_fits : (ctx : Ctx) (op : LiquidityPoolWithdrawOp) (share : TrustLineEntry) (pool : LiquidityPoolEntry)
    (part : Part) (m : EntryMap) → BalancesAreInRange m → ArePoolsSound m
    → line_at m ctx.op_source (line.PoolShare op.pool_id) ≡ Some share → pool_at m op.pool_id ≡ Some pool
    → pos 1 ≤ℤ op.amount → op.amount ≤ℤ share.balance → pos part.a ≤ℤ pool.reserve_a → pos part.b ≤ℤ pool.reserve_b
    → is_either_full ctx pool.params (pos part.a) (pos part.b) m ≡ false
    → DoesWithdrawalFit ctx.op_source op share pool (signed_part part) m
withdrawal_fits ctx op share pool part m range sound share_exists pool_exists some within within_a within_b not_full =
    let its : IsPoolInRange pool = sound.ranges op.pool_id pool pool_exists in
    let room = or_parts _ _ not_full in
    let low = nonnegative_from_positive op.amount some in
    let of_total = at_most_trans op.amount share.balance pool.total_pool_shares within
    (sound.shares ctx.op_source op.pool_id share pool share_exists pool_exists) in
    record {
      amount = low;
      a = natural_nonnegative part.a;
      b = natural_nonnegative part.b;
      balance = leaves share.balance op.amount low within;
      reserves = record {
        a = leaves pool.reserve_a (pos part.a) (natural_nonnegative part.a) within_a;
        b = leaves pool.reserve_b (pos part.b) (natural_nonnegative part.b) within_b;
        shares = leaves pool.total_pool_shares op.amount low of_total;
      };
      payments = payments_fit m sound.keyed ctx.op_source op.pool_id pool.params its.assets (neg_ℤ (pos part.a))
          (neg_ℤ (pos part.b)) (neg_ℤ op.amount) (pos part.a) (pos part.b)
          (taken_fits m range sound (holder ctx.op_source pool.params.asset_a) part.a room.0)
          (taken_fits m range sound (holder ctx.op_source pool.params.asset_b) part.b room.1);
    }

no_fault_second_false : (a b : Bool) (x y : OperationResult) → first_fault ((a, x) ∷ (b, y) ∷ []) ≡ None → b ≡ false
no_fault_second_false true b x y h = absurd (cc)
no_fault_second_false false true x y h = absurd (cc)
no_fault_second_false false false x y h = refl

-- a withdrawal of which no test holds fits
pub fits_as : (ctx : Ctx) (op : LiquidityPoolWithdrawOp) (share : LineSlot) (pool : PoolSlot) (part : PartOfCall)
    (m : EntryMap) → BalancesAreInRange m → ArePoolsSound m
    → Some share ≡ line_slot_at m ctx.op_source (line.PoolShare op.pool_id) → Some pool ≡ pool_slot_at m op.pool_id
    → pos 1 ≤ℤ op.amount → op.amount ≤ℤ share.line.balance → part ≡ signed_part (part_of pool.pool op.amount)
    → part.a ≤ℤ pool.pool.reserve_a → part.b ≤ℤ pool.pool.reserve_b
    → first_fault (part_tests ctx op pool.pool.params part m) ≡ None
    → DoesWithdrawalFit ctx.op_source op share.line pool.pool part m
fits_as ctx op share pool part m range sound loaded also some within is within_a within_b tested =
    let params = pool.pool.params in
    let not_full : is_either_full ctx params part.a part.b m ≡ false =
    no_fault_second_false (is_below_minimum op part.a part.b) (is_either_full ctx params part.a part.b m)
    (answer withdrawing.UnderMinimum) (answer withdrawing.LineFull) tested in
    subst (λ x. DoesWithdrawalFit ctx.op_source op share.line pool.pool x m) (sym is)
    (withdrawal_fits ctx op share.line pool.pool (part_of pool.pool op.amount) m range sound
    (line_loaded m ctx.op_source (line.PoolShare op.pool_id) share loaded) (pool_loaded m op.pool_id pool also) some
    within (subst (λ (x : PartOfCall). x.a ≤ℤ pool.pool.reserve_a) is within_a)
    (subst (λ (x : PartOfCall). x.b ≤ℤ pool.pool.reserve_b) is within_b)
    (ap (λ (x : PartOfCall). is_either_full ctx params x.a x.b m) (sym is) ∙ not_full))
