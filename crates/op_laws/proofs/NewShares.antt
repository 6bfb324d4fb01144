-- A new line of a pool's shares is lawful, with the pool that is made for it where none exists.
use Rattle.op_laws.proofs.Prelude.{◌≡◌, ◌≢◌, refl, sym, ap, subst, ◌∙◌, ℕ, ◌+◌, Bool, true, false, All, [], Some, None}
use Rattle.op_laws.proofs.Prelude.{Ok, arith, ints, All-nil, All-cons, All-append, ℤ, pos, ◌≤ℤ◌, get, AccountId, Hash}
use Rattle.op_laws.proofs.Prelude.{Asset, PoolParams, TrustLineAsset, LedgerEntry, LedgerKey, EntryMap, HasAccount}
use Rattle.op_laws.proofs.Prelude.{line_of, line_at, pool_at, part, greatest_i64, Ctx, map_after_adding}
use Rattle.op_laws.proofs.Prelude.{is_same_account, View, none_more, pools_in, nothing_owed, IsEntryLegal, IsLegalOwing}
use Rattle.op_laws.proofs.Prelude.{needed_line, IsSponsorReady, held, subentry_kept, sponsors_ready, Leaves, keeps_both}
use Rattle.op_laws.proofs.Prelude.{map_with_pool, counts_left, IsLegalNow, when_nothing_owed, answer}
use Rattle.op_laws.proofs.Prelude.{IsLawful, IsUnderway, nonnegative_from_positive}
use Rattle.std.proofs.Common.{if◌then◌else◌}
use Rattle.op_flags.specs.ledger_types.declared.asset.Asset.TheVariants as asset
use Rattle.op_flags.specs.ledger_types.declared.asset.TrustLineAsset.TheVariants as line
use Rattle.op_flags.specs.ledger_types.declared.key.LedgerKey.TheVariants as key
use Rattle.op_flags.specs.op_types.declared.trust_results.ChangeTrustResult.TheVariants as trust
use Rattle.op_flags.specs.legal_rules.Needs.{keys_in}
use Rattle.op_flags.specs.legal_rules.ShareLaws.{share_line, map_with_share_lines, HasNeededLines}
use Rattle.op_flags.proofs.legal_rules_proofs.ShareLinesKept.{share_line_counted}
use Rattle.op_trust.specs.ShareTrust as spec
use Rattle.op_laws.proofs.Lawful.{sound_after}
use Rattle.op_laws.proofs.Parts.{lawful_now}
use Rattle.op_laws.proofs.SharePools.{IsPooled, pooled}
use Rattle.op_laws.proofs.TrustLines.{no_line}
use Rattle.op_form.proofs.Steps.{AllPass}
use Rattle.op_trust.proofs.TrustSteps.{trusted}

-- ---- the lines that the account needs

-- they passed their tests, and exist in a map with the same lines
module _ (m now : EntryMap) (id : AccountId)
    (same : (other : AccountId) (a : TrustLineAsset)
    → get now (key.TrustLine other a) ≡ get m (key.TrustLine other a)) where
  abbrev Exists : LedgerKey → Type 0
  Exists k = get now k ≢ None

  line_exists : (a : TrustLineAsset) → AllPass (spec.needed_tests (line_at m id a))
      → Exists (key.TrustLine id a)
  unfolding line_at
  line_exists a passed missing =
      let none = sym (same id a) ∙ missing in
      let wrong : true ≡ false = (subst (λ o. AllPass (spec.needed_tests (line_of o))) none passed).0 in
      absurd (cc)

  key_exists : (b : Bool) (a : TrustLineAsset)
      → AllPass (spec.needed_tests_at m (if b then None else Some (key.TrustLine id a)))
      → All Exists (keys_in (if b then None else Some (key.TrustLine id a)))
  key_exists true a passed = All-nil Exists
  key_exists false a passed = All-cons Exists (key.TrustLine id a) [] (line_exists a passed) (All-nil Exists)

  needed_exists : (x : Asset) → AllPass (spec.needed_tests_at m (needed_line id x))
      → All Exists (keys_in (needed_line id x))
  needed_exists asset.Native passed = All-nil Exists
  needed_exists (asset.Alphanum4 code issuer) passed =
      key_exists (is_same_account issuer id) (line.Alphanum4 code issuer) passed
  needed_exists (asset.Alphanum12 code issuer) passed =
      key_exists (is_same_account issuer id) (line.Alphanum12 code issuer) passed

  both_exist : (params : PoolParams) → AllPass (spec.needed_tests_at m (needed_line id params.asset_a))
      → AllPass (spec.needed_tests_at m (needed_line id params.asset_b)) → HasNeededLines now id params
  both_exist params first second =
      All-append Exists (keys_in (needed_line id params.asset_a)) (keys_in (needed_line id params.asset_b))
      (needed_exists params.asset_a first) (needed_exists params.asset_b second)

-- ---- the new line

line_legal : (id_pool seq : ℕ) (id : AccountId) (pool : Hash) (limit : ℤ) → pos 1 ≤ℤ limit → limit ≤ℤ greatest_i64
    → IsEntryLegal id_pool (share_line seq None id pool (pos 0) limit)
line_legal id_pool seq id pool limit low high = record {
  range = record {
    body = record {
      range = record {
        balance = omega (arith, ints);
        buying = omega (arith, ints);
        selling = omega (arith, ints);
        covered = omega (arith, ints);
        fits = nonnegative_from_positive limit low;
      };
      limit = low;
      greatest = high;
      held = tt;
      flags = refl;
      uses = omega (arith, ints);
    };
    paid = λ some. absurd (some refl);
  };
  bound = λ none_set. (refl, refl);
  few = tt;
  fits = tt;
  filled = tt;
}

module _ (ctx : Ctx) (m : EntryMap) (under : IsUnderway ctx m) (owner : HasAccount m ctx.op_source)
    (params : PoolParams) (limit : ℤ) where
  abbrev id : AccountId
  id = ctx.op_source

  abbrev pool : Hash
  pool = spec.pool_named_by params

  abbrev new_line : LedgerEntry
  new_line = share_line (ctx.seq + 1) None id pool (pos 0) limit

  abbrev new : EntryMap → EntryMap
  new added = map_with_share_lines (pos 1) id pool params added

  module _ (none : line_at m id (line.PoolShare pool) ≡ None) (low : pos 1 ≤ℤ limit) (high : limit ≤ℤ greatest_i64)
      (needs_a : AllPass (spec.needed_tests_at m (needed_line id params.asset_a)))
      (needs_b : AllPass (spec.needed_tests_at m (needed_line id params.asset_b))) where
    module _ (now : EntryMap) (its : IsPooled ctx.id_pool ctx.base_reserve pool params m now) (added : EntryMap)
        (done : map_after_adding ctx id new_line now ≡ Ok added) where
      free : get now (key.TrustLine id (line.PoolShare pool)) ≡ None
      free = its.lines id (line.PoolShare pool) ∙ no_line m id (line.PoolShare pool) under.settled.legal.keyed none

      ready : IsSponsorReady ctx id now
      ready = sponsors_ready ctx now id (sound_after ctx m under none_more now its.left.exist)

      counted_legal : (v : View) (sum : ℤ) → IsLegalOwing v ctx.id_pool nothing_owed sum m
          → IsLegalOwing (record v { pools = pools_in now }) ctx.id_pool nothing_owed sum (new added)
      counted_legal v sum legal =
          subst (λ (p : PoolParams). IsLegalOwing (record v { pools = pools_in now }) ctx.id_pool nothing_owed sum
          (map_with_share_lines (pos 1) id pool p added)) its.same
          (share_line_counted (record v { pools = pools_in now }) ctx.id_pool sum ctx (ctx.seq + 1) id pool its.its
          limit now added (its.legal v sum legal) its.exists free
          (line_legal ctx.id_pool (ctx.seq + 1) id pool limit low high) (its.left.exist id owner) ready done
          (subst (HasNeededLines now id) (sym its.same) (both_exist m now id its.lines params needs_a needs_b)))

      added_legal : (v : View) (sum : ℤ) → IsLegalOwing v ctx.id_pool nothing_owed sum m
          → IsLegalNow v ctx.id_pool sum (new added)
      added_legal v sum legal =
          when_nothing_owed (record v { pools = pools_in now }) ctx.id_pool sum (new added) (counted_legal v sum legal)

      line_left : Leaves ctx.base_reserve none_more now added
      line_left = subentry_kept ctx now id 2 new_line added its.left.keyed (λ other same. absurd (cc)) (λ x. refl)
          (λ x. ap (part (held x)) free) done

      added_left : Leaves ctx.base_reserve none_more m (new added)
      added_left = keeps_both ctx.base_reserve m now (new added) its.left
          (keeps_both ctx.base_reserve now added (new added) line_left
          (counts_left ctx.base_reserve (pos 1) added line_left.keyed id pool params))

    -- A line is added that passed its tests.
    pub share_added_lawful : spec.is_pool_bad params ≡ false → spec.is_taken params (pool_at m pool) ≡ false
        → (added : EntryMap)
        → map_after_adding ctx id new_line (map_with_pool (ctx.seq + 1) pool params m) ≡ Ok added
        → IsLawful ctx m (trusted ctx (new added))
    share_added_lawful good free added is =
        let now = map_with_pool (ctx.seq + 1) pool params m in
        let its = pooled ctx.id_pool ctx.base_reserve (ctx.seq + 1) params m under.settled.legal.keyed good free in
        lawful_now ctx m under (answer trust.Success) (new added) (added_legal now its added is)
        (added_left now its added is)
