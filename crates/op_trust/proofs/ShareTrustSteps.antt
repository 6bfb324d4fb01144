-- CHANGE_TRUST for shares of a pool, and by what the line is in, step by step.
use Rattle.op_trust.proofs.TrustSteps.{code, trusted}
use Rattle.entry_map.proofs.Lookups.{put_there}
use Rattle.entry_map.specs.EntryMap.{EntryMap, put}
use Rattle.entry_slots.specs.LineExtensions.{use_count}
use Rattle.entry_slots.specs.Lines.{line_at, with_line}
use Rattle.entry_slots.specs.Pools.{pool_at, pool_of}
use Rattle.ledger_types.specs.declared.account.AccountEntry.{AccountEntry}
use Rattle.ledger_types.specs.declared.asset.Asset.{Asset}
use Rattle.ledger_types.specs.declared.asset.ChangeTrustAsset.{ChangeTrustAsset}
use Rattle.ledger_types.specs.declared.asset.PoolParams.{PoolParams}
use Rattle.ledger_types.specs.declared.entry.LedgerEntry.{LedgerEntry}
use Rattle.ledger_types.specs.declared.ids.Hash.{Hash}
use Rattle.ledger_types.specs.declared.key.LedgerKey.{LedgerKey}
use Rattle.ledger_types.specs.declared.liquidity_pool.LiquidityPoolEntry.{LiquidityPoolEntry}
use Rattle.ledger_types.specs.declared.trust_line.TrustLineEntry.{TrustLineEntry}
use Rattle.legal_rules.specs.PoolLaws.{new_pool}
use Rattle.legal_rules.specs.PoolShares.{needed_line}
use Rattle.legal_rules.specs.ShareLaws.{map_with_share_lines, share_line}
use Rattle.op_form.specs.Done.{Done}
use Rattle.op_trust.specs.Operations.{trust_in}
use Rattle.op_types.specs.declared.trust_ops.ChangeTrustOp.{ChangeTrustOp}
use Rattle.pool_shares.specs.ShareLines.{empty_pool, map_with_pool, map_with_pool_by, map_without_share_line}
use Rattle.reserve_rules.specs.Reserve.{greatest_i64}
use Rattle.sponsor_rules.specs.Adding.{map_after_adding}
use Rattle.sponsor_rules.specs.declared.context.Ctx.{Ctx}
use Rattle.std.proofs.Common.{ap, arith, refl, subst, sym, ◌∙◌}
use Rattle.std.proofs.lemmas.Bool.{or_parts}
use Rattle.std.proofs.lemmas.Int.{ints}
use Rattle.std.specs.Ordering.{int_eq}
use Rattle.std.specs.Prelude.{None, Ok, Option, Some, [], false, int_le, not, pos, true, ℕ, ℤ, ◌+ℤ◌, ◌+◌, ◌||◌, ◌∷◌}
use Rattle.std.specs.Prelude.{◌≡◌, ◌≤ℤ◌}
use Rattle.sponsor_rules.proofs.Changes.{line_changed}
use Rattle.sponsor_rules.proofs.Charges.{adding_subentry}
use Rattle.sponsor_rules.proofs.Entries.{Fits, Invariant}
use Rattle.op_form.proofs.Steps.{AllAnswer, AllPass, Answering, Ends, either_ends, past, past_charge}
use Rattle.op_form.proofs.Walks.{Before, Leaves, Left, Logic, left, made_holds}
use Rattle.pool_shares.proofs.PoolsBeside.{beside_subentry}
use Rattle.pool_shares.proofs.SharesHold.{MayCount, pool_made, same_pool, share_line_removed, share_lines_hold}
use Rattle.op_trust.proofs.TrustSteps.{asset_trusted}
use Rattle.ledger_types.specs.declared.asset.Asset.TheVariants as asset
use Rattle.ledger_types.specs.declared.asset.ChangeTrustAsset.TheVariants as asked
use Rattle.ledger_types.specs.declared.asset.TrustLineAsset.TheVariants as line
use Rattle.ledger_types.specs.declared.key.LedgerKey.TheVariants as key
use Rattle.op_trust.specs.ChangeTrust as trusting
use Rattle.op_trust.specs.ShareTrust as sharing
use Rattle.op_types.specs.declared.operation_result.OperationResultTr.TheVariants as tr
use Rattle.op_types.specs.declared.trust_results.ChangeTrustResult.TheVariants as trust

-- a pool that isn't held fully may have one line more, and so may a new one
not_full : (n : ℤ) → int_le greatest_i64 n ≡ false → (n +ℤ pos 1) ≤ℤ greatest_i64
not_full n less = grind (arith, ints)

first_line : (pos 0 +ℤ pos 1) ≤ℤ greatest_i64
first_line = omega (arith, ints)

module _ (seq : ℕ) (params : PoolParams) (m : EntryMap) where
  abbrev pool : Hash
  pool = sharing.pool_named_by params

  new_is : (p : LiquidityPoolEntry) → pool_at (put m (new_pool seq (empty_pool pool params))) pool ≡ Some p
      → empty_pool pool params ≡ p
  unfolding pool_at
  new_is p at = let there = ap pool_of (put_there m (new_pool seq (empty_pool pool params))) in cc

  that_one : (was p : LiquidityPoolEntry) → pool_at m pool ≡ Some was → pool_at m pool ≡ Some p → was ≡ p
  that_one was p there at = cc

  may_count : (found : Option LiquidityPoolEntry) → pool_at m pool ≡ found → sharing.is_held_fully found ≡ false
      → (p : LiquidityPoolEntry) → pool_at (map_with_pool_by seq pool params m found) pool ≡ Some p
      → MayCount (pos 1) p
  may_count None there less p at = subst (MayCount (pos 1)) (new_is p at) (λ le. first_line)
  may_count (Some was) there less p at =
      subst (MayCount (pos 1)) (that_one was p there at) (λ le. not_full was.pool_shares_trust_line_count less)

module _ (Q : Done → Type 0) (ctx : Ctx) (params : PoolParams) (limit : ℤ) (m : EntryMap) where
  abbrev pub its_pool : Hash
  its_pool = sharing.pool_named_by params

  abbrev pub its_share : Option TrustLineEntry
  its_share = line_at m ctx.op_source (line.PoolShare its_pool)

  abbrev pub new_line : LedgerEntry
  new_line = share_line (ctx.seq + 1) None ctx.op_source its_pool (pos 0) limit

  abbrev pub with_it : EntryMap
  with_it = map_with_pool (ctx.seq + 1) its_pool params m

  abbrev pub needs_a : Option LedgerKey
  needs_a = needed_line ctx.op_source params.asset_a

  abbrev pub needs_b : Option LedgerKey
  needs_b = needed_line ctx.op_source params.asset_b

  -- what passed before the line is looked at
  abbrev pub IsSound : Type 0
  IsSound = AllPass (sharing.share_tests params limit) × AllPass (sharing.pool_tests params m)

  -- what holds of each success
  pub record ShareSuccesses : Type 0 where
    pub removed : (t : TrustLineEntry) → IsSound → its_share ≡ Some t → AllPass (trusting.limit_tests limit t)
        → int_eq limit (pos 0) ≡ true → Q (trusted ctx (map_without_share_line ctx.op_source its_pool params m))
    pub limited : (t : TrustLineEntry) → IsSound → its_share ≡ Some t → AllPass (trusting.limit_tests limit t)
        → int_eq limit (pos 0) ≡ false
        → Q (trusted ctx (with_line m ctx.op_source (line.PoolShare its_pool) (trusting.with_limit limit)))
    pub added : (new : EntryMap) → IsSound → its_share ≡ None → int_eq limit (pos 0) ≡ false
        → AllPass (sharing.needed_tests_at m needs_a) → AllPass (sharing.needed_tests_at m needs_b)
        → AllPass (sharing.count_tests needs_a needs_b its_pool m)
        → map_after_adding ctx ctx.op_source new_line with_it ≡ Ok new
        → Q (trusted ctx (map_with_share_lines (pos 1) ctx.op_source its_pool params new))

  module _ (x : Answering) (done : ShareSuccesses) where
    needed : (o : Option TrustLineEntry) → AllAnswer x (sharing.needed_tests o)
    needed None = (code x trust.TrustLineMissing, tt)
    needed (Some t) = (code x trust.NotAuthMaintainLiabilities, tt)

    needed_at : (o : Option LedgerKey) → AllAnswer x (sharing.needed_tests_at m o)
    needed_at (Some (key.TrustLine id held)) = needed (line_at m id held)
    needed_at other = tt

    by_share : IsSound → (o : Option TrustLineEntry) → its_share ≡ o
        → Ends x Q (sharing.share_changed ctx params limit m o)
    by_share sound (Some share) there =
        past (trusting.limit_tests limit share) _ (code x trust.InvalidLimit, tt)
        (λ within. either_ends (int_eq limit (pos 0)) (sharing.share_removed ctx params share m)
        (sharing.share_limited ctx its_pool limit m)
        (λ zero. past ((not (int_eq (use_count share) (pos 0)), trusting.answer trust.CannotDelete) ∷ []) _
        (code x trust.CannotDelete, tt) (λ unused. record { ends = done.removed share sound there within zero }))
        (λ some. record { ends = done.limited share sound there within some }))
    by_share sound None there =
        past (sharing.zero_tests limit) _ (code x trust.InvalidLimit, tt)
        (λ some. past (sharing.needed_tests_at m needs_a) _ (needed_at needs_a)
        (λ a. past (sharing.needed_tests_at m needs_b) _ (needed_at needs_b)
        (λ b. past (sharing.count_tests needs_a needs_b its_pool m) (sharing.share_added ctx params limit m)
        (x.too_many_subentries, tt)
        (λ few. past_charge (map_after_adding ctx ctx.op_source new_line with_it) (trusting.answer trust.LowReserve) _
        (code x trust.LowReserve) (λ new is. record { ends = done.added new sound there some.0 a b few is })))))

    pub share_steps : Ends x Q (sharing.share_trust ctx params limit m)
    share_steps =
        past (sharing.share_tests params limit) _ (code x trust.Malformed, tt)
        (λ good. past (sharing.pool_tests params m) _ (x.not_supported, tt)
        (λ free. by_share (good, free) its_share refl))

module _ (w : Logic) (ctx : Ctx) (params : PoolParams) (limit : ℤ) (m : EntryMap) (before : Before w ctx m)
    (fits : Fits w.inv.of (share_line (ctx.seq + 1) None ctx.op_source (sharing.pool_named_by params) (pos 0) limit))
    (pool_fits : Fits w.inv.of (new_pool (ctx.seq + 1) (empty_pool (sharing.pool_named_by params) params))) where
  abbrev of_pool : Hash
  of_pool = sharing.pool_named_by params

  abbrev its_line : LedgerEntry
  its_line = share_line (ctx.seq + 1) None ctx.op_source of_pool (pos 0) limit

  abbrev with_its : EntryMap
  with_its = map_with_pool (ctx.seq + 1) of_pool params m

  trusts : (new : EntryMap) → w.inv.Holds new → Left w (trusted ctx new)
  trusts new holds = left (tr.ChangeTrust trust.Success) tt before holds

  counted : sharing.is_held_fully (pool_at m of_pool) ≡ false → (added : EntryMap)
      → map_after_adding ctx ctx.op_source its_line with_its ≡ Ok added → (p : LiquidityPoolEntry)
      → pool_at added of_pool ≡ Some p → MayCount (pos 1) p
  counted less added is p at =
      may_count (ctx.seq + 1) params m (pool_at m of_pool) refl less p
      (sym (same_pool added with_its of_pool
      (beside_subentry of_pool ctx its_line ctx.op_source 2 with_its added (λ same. absurd (cc)) is)) ∙ at)

  pub share_trusted : Leaves w (sharing.share_trust ctx params limit m)
  share_trusted = share_steps (Left w) ctx params limit m w.answers (record {
    removed = λ t sound there within zero.
        trusts _ (share_line_removed w.inv ctx.op_source of_pool params m before.entries);
    limited = λ t sound there within some. trusts _ (line_changed w.inv (trusting.with_limit limit)
        (λ t held. w.inv.same_line t _ refl refl held) m ctx.op_source (line.PoolShare of_pool) before.entries);
    added = λ new sound there some a b few is.
        let less = (or_parts (sharing.is_used_fully_at m (needed_line ctx.op_source params.asset_a)
        || sharing.is_used_fully_at m (needed_line ctx.op_source params.asset_b))
        (sharing.is_held_fully (pool_at m of_pool)) few.0).1 in
        trusts _ (share_lines_hold w.inv (pos 1) ctx.op_source of_pool params new (λ p at. counted less new is p at)
        (made_holds w.inv _ new is (adding_subentry w.inv ctx ctx.op_source its_line 2 with_its fits
        (w.sponsor ctx ctx.op_source before.context)
        (pool_made w.inv (ctx.seq + 1) of_pool params m (pool_at m of_pool) pool_fits before.entries))));
  })

-- ---- by what the line is in

-- what CHANGE_TRUST puts fits: a line, and a pool beside a line of its shares
abbrev pub DoLinesFit : Invariant → Ctx → ℤ → Asset → Type 0
DoLinesFit v ctx limit held = (issuer : AccountEntry) → Fits v.of (trusting.new_line ctx held limit issuer)

abbrev pub DoesTrustFit : Invariant → Ctx → ℤ → ChangeTrustAsset → Type 0
DoesTrustFit v ctx limit asked.Native = DoLinesFit v ctx limit asset.Native
DoesTrustFit v ctx limit (asked.Alphanum4 code issuer) = DoLinesFit v ctx limit (asset.Alphanum4 code issuer)
DoesTrustFit v ctx limit (asked.Alphanum12 code issuer) = DoLinesFit v ctx limit (asset.Alphanum12 code issuer)
DoesTrustFit v ctx limit (asked.PoolShare params) =
    let pool = sharing.pool_named_by params in
    Fits v.of (share_line (ctx.seq + 1) None ctx.op_source pool (pos 0) limit)
    × Fits v.of (new_pool (ctx.seq + 1) (empty_pool pool params))

pub trust_changed : (w : Logic) (ctx : Ctx) (op : ChangeTrustOp) (m : EntryMap) (of : ChangeTrustAsset) → Before w ctx m
    → DoesTrustFit w.inv ctx op.limit of → Leaves w (trust_in ctx op m of)
trust_changed w ctx op m asked.Native before fits = asset_trusted w ctx asset.Native op.limit m before fits
trust_changed w ctx op m (asked.Alphanum4 code issuer) before fits =
    asset_trusted w ctx (asset.Alphanum4 code issuer) op.limit m before fits
trust_changed w ctx op m (asked.Alphanum12 code issuer) before fits =
    asset_trusted w ctx (asset.Alphanum12 code issuer) op.limit m before fits
trust_changed w ctx op m (asked.PoolShare params) before fits =
    share_trusted w ctx params op.limit m before fits.0 fits.1
