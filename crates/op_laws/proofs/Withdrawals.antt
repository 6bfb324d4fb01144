-- LIQUIDITY_POOL_WITHDRAW is lawful.
use Rattle.op_laws.proofs.Prelude as prelude
use prelude.{◌≡◌, sym, ◌∙◌, false, ◌||◌, List, [], ◌∷◌, Option, Some, ℤ, pos, neg_ℤ, ◌+ℤ◌, ◌≤ℤ◌, int_le}
use prelude.{int_lt, AccountId, Hash, Asset, TrustLineEntry, LiquidityPoolEntry, LedgerKey, EntryMap, HasAccount}
use prelude.{line_at, pool_at, total, Ctx, Increase, both_more, view, nothing_owed, of_asset, held_of, holder}
use prelude.{leaves_as, IsLegalLine, line_legal, most_taken, CanPay, Part, part_of, IsLegalPool}
use prelude.{pool_legal, first_used, second_used, sound_of, OfAccount, OfPool, Move}
use prelude.{taken_tests, map_after_taking, move_of_a, move_of_b}
use prelude.{liquidity_pool_withdraw, IsLawful, AreLawful, issued, IsUnderway, IsMoved, unless_issuer, shifts_as}
use prelude.{at_most_trans, int_lt_false, nonnegative_from_positive, positive_from_int_le}
use prelude.{or_parts}
use Rattle.std.specs.Prelude.{nat_lt}
use Rattle.op_flags.specs.ledger_types.declared.asset.Asset.TheVariants as asset
use Rattle.op_flags.specs.ledger_types.declared.asset.TrustLineAsset.TheVariants as line
use Rattle.op_flags.specs.op_types.declared.pool_ops.LiquidityPoolWithdrawOp.{LiquidityPoolWithdrawOp}
use Rattle.op_flags.specs.op_types.declared.pool_results.LiquidityPoolWithdrawResult.TheVariants as withdrawing
use Rattle.op_flags.proofs.pool_shares_proofs.Parts.{can_withdraw}
use Rattle.op_pool.specs.Withdraw.{answer}
use Rattle.op_laws.proofs.AsideMoves.{pool_issues_none, taken_back_issued}
use Rattle.op_laws.proofs.Issued.{issued_after}
use Rattle.op_laws.proofs.Lawful.{lawful_with}
use Rattle.op_laws.proofs.PoolPayments.{holder_exists, takes_so, shift_of, more_of, pool_before, account_before}
use Rattle.op_laws.proofs.PoolPayments.{both_taken}
use Rattle.op_laws.proofs.Described.{Describes, more_for, account_location, pool_location, moved, move_describes}
use Rattle.op_laws.proofs.Described.{describes_both}
use Rattle.op_form.proofs.Steps.{done_so, anything, AllPass}
use Rattle.op_form.proofs.Walks.{succeeded}
use Rattle.op_pool.proofs.PoolSteps.{withdraw_steps}

-- ---- what a withdrawal moves

module _ (ctx : Ctx) (op : LiquidityPoolWithdrawOp) (p : LiquidityPoolEntry) (part : Part) where
  abbrev a : Asset
  a = p.params.asset_a

  abbrev b : Asset
  b = p.params.asset_b

  abbrev src : AccountId
  src = ctx.op_source

  abbrev pool : Hash
  pool = op.pool_id

  abbrev out_a : ℤ
  out_a = pos part.a

  abbrev out_b : ℤ
  out_b = pos part.b

  abbrev moves : List Move
  moves = move_of_a ctx op p part ∷ move_of_b ctx op p part ∷ []

  shifted : (x : Asset) → shift_of p src (neg_ℤ out_a) (neg_ℤ out_b) out_a out_b x ≡ issued x moves
  shifted x =
      pool_before (of_asset x a (neg_ℤ out_a)) (of_asset x b (neg_ℤ out_b)) (unless_issuer x a src out_a)
      (unless_issuer x b src out_b)
      ∙ (λ i. taken_back_issued x a (OfPool pool) src out_a (pool_issues_none a pool) i
      +ℤ taken_back_issued x b (OfPool pool) src out_b (pool_issues_none b pool) i)
      ∙ sym (issued_after x (move_of_a ctx op p part ∷ []) (move_of_b ctx op p part ∷ []))

  abbrev more_a : Increase
  more_a = moved a (OfPool pool) (OfAccount src) out_a

  abbrev more_b : Increase
  more_b = moved b (OfPool pool) (OfAccount src) out_b

  more_is : (k : LedgerKey) (x : Asset)
      → more_of p src pool (neg_ℤ out_a) (neg_ℤ out_b) out_a out_b k x ≡ both_more more_a more_b k x
  more_is k x = account_before (more_for a (OfPool pool) (neg_ℤ out_a) k x) (more_for b (OfPool pool) (neg_ℤ out_b) k x)
      (more_for a (OfAccount src) out_a k x) (more_for b (OfAccount src) out_b k x)

  describes : Describes (both_more more_a more_b) moves
  describes = describes_both more_a more_b (move_of_a ctx op p part ∷ []) (move_of_b ctx op p part ∷ [])
      (move_describes a (OfPool pool) (OfAccount src) out_a (pool_location a pool) (account_location a src))
      (move_describes b (OfPool pool) (OfAccount src) out_b (pool_location b pool) (account_location b src))

  -- a withdrawal that moves both amounts is lawful
  withdrawal_lawful : (m : EntryMap) → IsUnderway ctx m
      → IsMoved ctx.id_pool ctx.base_reserve (shift_of p src (neg_ℤ out_a) (neg_ℤ out_b) out_a out_b)
      (more_of p src pool (neg_ℤ out_a) (neg_ℤ out_b) out_a out_b) m (map_after_taking src op p part m)
      → IsLawful ctx m (record {
        result = answer withdrawing.Success;
        entries = map_after_taking src op p part m;
        ctx = ctx;
        moves = moves;
      })
  withdrawal_lawful m under both =
      let new = map_after_taking src op p part m in
      lawful_with ctx m under (both_more more_a more_b) (answer withdrawing.Success) new moves
      (shifts_as ctx.id_pool (shift_of p src (neg_ℤ out_a) (neg_ℤ out_b) out_a out_b) (λ x. issued x moves) m new
      shifted both.shifts)
      (leaves_as ctx.base_reserve (more_of p src pool (neg_ℤ out_a) (neg_ℤ out_b) out_a out_b)
      (both_more more_a more_b) m new both.left more_is) describes

-- ---- the operation

module _ (ctx : Ctx) (op : LiquidityPoolWithdrawOp) (m : EntryMap) (under : IsUnderway ctx m)
    (source : HasAccount m ctx.op_source) (some : pos 1 ≤ℤ op.amount) (t : TrustLineEntry) (p : LiquidityPoolEntry)
    (has : line_at m ctx.op_source (line.PoolShare op.pool_id) ≡ Some t) (exists : pool_at m op.pool_id ≡ Some p)
    (enough : op.amount ≤ℤ t.balance) where
  abbrev part_out : Part
  part_out = part_of p op.amount

  abbrev lumens : ℤ
  lumens = total (held_of asset.Native) m

  its : IsLegalLine ctx.op_source (line.PoolShare op.pool_id) t
  its = line_legal (view m) ctx.id_pool nothing_owed lumens m ctx.op_source (line.PoolShare op.pool_id) t
      under.settled.legal has

  was : IsLegalPool op.pool_id p
  was = pool_legal (view m) ctx.id_pool nothing_owed lumens m op.pool_id p under.settled.legal exists

  -- there are as many shares of the pool
  of_all : op.amount ≤ℤ p.total_pool_shares
  of_all = at_most_trans op.amount t.balance p.total_pool_shares enough
      ((sound_of (view m) ctx.id_pool lumens m under.settled.legal).shares ctx.op_source op.pool_id t p has exists)

  abbrev takes_a : Option LedgerKey
  takes_a = holder ctx.op_source p.params.asset_a

  abbrev takes_b : Option LedgerKey
  takes_b = holder ctx.op_source p.params.asset_b

  takes_first : nat_lt (most_taken m takes_a) part_out.a ≡ false → CanPay m takes_a (pos part_out.a)
  takes_first room = takes_so (view m) ctx.id_pool ctx.base_reserve lumens m under.settled.legal part_out.a takes_a
      (holder_exists m ctx.op_source source p.params.asset_a
      (first_used (view m) ctx.id_pool lumens m under.settled.legal ctx.op_source op.pool_id t has p exists)) room

  takes_second : nat_lt (most_taken m takes_b) part_out.b ≡ false → CanPay m takes_b (pos part_out.b)
  takes_second room = takes_so (view m) ctx.id_pool ctx.base_reserve lumens m under.settled.legal part_out.b takes_b
      (holder_exists m ctx.op_source source p.params.asset_b
      (second_used (view m) ctx.id_pool lumens m under.settled.legal ctx.op_source op.pool_id t has p exists)) room

  taken_lawful : AllPass (taken_tests ctx op p part_out m) → IsLawful ctx m (succeeded ctx (answer withdrawing.Success)
      (map_after_taking ctx.op_source op p part_out m) (moves ctx op p part_out))
  taken_lawful pass =
      let room = or_parts (nat_lt (most_taken m takes_a) part_out.a) (nat_lt (most_taken m takes_b) part_out.b) pass.1.0
      in
      withdrawal_lawful ctx op p part_out m under
      (both_taken ctx.id_pool ctx.base_reserve m under.settled.legal ctx.op_source op.pool_id t p has exists
      (neg_ℤ (pos part_out.a)) (neg_ℤ (pos part_out.b)) (neg_ℤ op.amount)
      (can_withdraw ctx.op_source op.pool_id t p op.amount its was (nonnegative_from_positive op.amount some) enough
      of_all) part_out.a part_out.b (takes_first room.0) (takes_second room.1))

pub liquidity_pool_withdraw_is_lawful : AreLawful liquidity_pool_withdraw
liquidity_pool_withdraw_is_lawful ctx op m done under source is =
    let none = int_le op.amount (pos 0) in
    let below_a = int_lt op.min_amount_a (pos 0) in
    done_so anything (IsLawful ctx m) (liquidity_pool_withdraw ctx op m) done
    (withdraw_steps anything (IsLawful ctx m) ctx op m (λ t p pass has enough exists may.
    let some = or_parts none below_a (or_parts (none || below_a) (int_lt op.min_amount_b (pos 0)) pass.0).0 in
    taken_lawful ctx op m under source (positive_from_int_le op.amount some.0) t p has exists
    (int_lt_false t.balance op.amount enough.0) may)) is
