-- CHANGE_TRUST of a line in a pool's shares is lawful.
use Rattle.op_laws.proofs.Prelude.{◌≡◌, refl, subst, true, false, Option, Some, None, Ok, ℤ}
use Rattle.op_laws.proofs.Prelude.{pos, int_lt, ◌≤ℤ◌, int_eq, AccountId, Hash, PoolParams, TrustLineAsset}
use Rattle.op_laws.proofs.Prelude.{TrustLineEntry, LiquidityPoolEntry, EntryMap, HasAccount}
use Rattle.op_laws.proofs.Prelude.{line_at, pool_at, greatest_i64, Ctx, view, nothing_owed}
use Rattle.op_laws.proofs.Prelude.{line_legal, map_without_share_line, gone_legal, entries_sound, Done}
use Rattle.op_laws.proofs.Prelude.{answer, is_exceeded, same_params}
use Rattle.op_laws.proofs.Prelude.{IsLawful, IsUnderway, int_lt_false, or_parts}
use Rattle.op_flags.specs.ledger_types.declared.asset.TrustLineAsset.TheVariants as line
use Rattle.op_flags.specs.op_types.declared.trust_results.ChangeTrustResult.TheVariants as trust
use Rattle.op_flags.proofs.pool_shares_proofs.GoneLeft.{gone_left}
use Rattle.op_trust.specs.ShareTrust as spec
use Rattle.op_laws.proofs.LineLimits.{not_zero, nothing_in_line, line_limited_lawful}
use Rattle.op_laws.proofs.NewShares.{share_added_lawful}
use Rattle.op_laws.proofs.Parts.{lawful_now}
use Rattle.op_form.proofs.Steps.{done_so, anything}
use Rattle.op_trust.proofs.TrustSteps.{trusted}
use Rattle.op_trust.proofs.ShareTrustSteps.{share_steps}

module _ (ctx : Ctx) (m : EntryMap) (under : IsUnderway ctx m) (exists : HasAccount m ctx.op_source)
    (params : PoolParams) (limit : ℤ) (low : pos 0 ≤ℤ limit) (high : limit ≤ℤ greatest_i64)
    (good : spec.is_pool_bad params ≡ false)
    (free : spec.is_taken params (pool_at m (spec.pool_named_by params)) ≡ false) where
  abbrev id : AccountId
  id = ctx.op_source

  abbrev pool : Hash
  pool = spec.pool_named_by params

  abbrev its : TrustLineAsset
  its = line.PoolShare pool

  -- ---- a line that is there

  module _ (t : TrustLineEntry) (there : line_at m id its ≡ Some t) (exceeded : is_exceeded limit t ≡ false) where
    module _ (none : int_eq limit (pos 0) ≡ true) where
      abbrev gone : EntryMap
      gone = map_without_share_line id pool params m

      empty : t.balance ≡ pos 0
      empty = (nothing_in_line t
          (line_legal (view m) ctx.id_pool nothing_owed _ m id its t under.settled.legal there).range.range limit
          exceeded none).0

      -- without the line, and without the pool that has no line then
      gone_lawful : (p : LiquidityPoolEntry) → pool_at m pool ≡ Some p → p.params ≡ params
          → IsLawful ctx m (trusted ctx gone)
      gone_lawful p beside same =
          subst (λ (q : PoolParams). IsLawful ctx m (trusted ctx (map_without_share_line id pool q m))) same
          (lawful_now ctx m under (answer trust.Success) (map_without_share_line id pool p.params m)
          (λ v sum legal. gone_legal v ctx.id_pool sum id pool t p m legal there empty beside)
          (gone_left ctx.id_pool ctx.base_reserve m under.settled.legal id pool t p there empty beside))

      -- the pool exists beside the line
      gone_by : (o : Option LiquidityPoolEntry) → pool_at m pool ≡ o → spec.is_taken params o ≡ false
          → IsLawful ctx m (trusted ctx gone)
      gone_by None missing is_free =
          absurd ((entries_sound ctx.id_pool m under.settled.legal).pooled id pool t there missing)
      gone_by (Some p) beside is_free = gone_lawful p beside (same_params p.params params is_free)

-- Each CHANGE_TRUST of a line in a pool's shares that succeeds is lawful.
pub share_trust_is_lawful : (ctx : Ctx) (m : EntryMap) (done : Done) → IsUnderway ctx m → HasAccount m ctx.op_source
    → (limit : ℤ) → limit ≤ℤ greatest_i64 → (params : PoolParams) → spec.share_trust ctx params limit m ≡ Ok done
    → IsLawful ctx m done
share_trust_is_lawful ctx m done under exists limit high params is =
    let bad = spec.is_pool_bad params in
    let pool = spec.pool_named_by params in
    done_so anything (IsLawful ctx m) (spec.share_trust ctx params limit m) done
    (share_steps (IsLawful ctx m) ctx params limit m anything (record {
      removed = λ t sound there within zero. gone_by ctx m under exists params limit
          (int_lt_false limit (pos 0) (or_parts (int_lt limit (pos 0)) bad sound.0.0).0) high
          (or_parts (int_lt limit (pos 0)) bad sound.0.0).1 sound.1.0 t there within.0 zero
          (pool_at m pool) refl sound.1.0;
      limited = λ t sound there within some. line_limited_lawful ctx m under
          (line.PoolShare pool) limit t there within.0
          (not_zero limit (int_lt_false limit (pos 0) (or_parts (int_lt limit (pos 0)) bad sound.0.0).0) some) high;
      added = λ new sound there some a b few made. share_added_lawful ctx m under exists params limit there
          (not_zero limit (int_lt_false limit (pos 0) (or_parts (int_lt limit (pos 0)) bad sound.0.0).0) some) high
          a b (or_parts (int_lt limit (pos 0)) bad sound.0.0).1 sound.1.0 new made;
    })) is
