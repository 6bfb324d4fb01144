-- CHANGE_TRUST of a line in an asset is lawful.
use Rattle.op_laws.proofs.Prelude as prelude
use prelude.{◌≡◌, ◌≢◌, refl, sym, ap, subst, ◌∙◌, ℕ, ◌%◌, ◌≤◌, Bool, true, false, not, ◌||◌, bit_or, Some, None, Ok}
use prelude.{arith, ints, ℤ, pos, neg_ℤ, int_lt, ◌+ℤ◌, ◌≤ℤ◌, if◌then◌else◌, get, int_eq, AccountId, AccountEntry, Asset}
use prelude.{TrustLineAsset, TrustLineEntry, LedgerEntry, LedgerKey, is_valid_asset, EntryMap, erase, account_at}
use prelude.{HasAccount, sponsor_of, line_liabilities, use_count, line_at, part, greatest_i64, Ctx, map_after_adding}
use prelude.{line_multiplicity, without_subentry, map_after_discounting, map_after_removing, map_after_removing_entry}
use prelude.{apart_accounts, is_key, Kind, Subentries, Sponsoring, Sponsored, Selling, Buying, Shares, ShareLines, Uses}
use prelude.{View, view, weighed, nothing_owed, beside_reserves, IsEntryLegal, IsHeldIn, AreLineFlags}
use prelude.{IsTrustLineInRange, of_line, held_of, sponsors_ready, subentry_added_so, nothing_settled, subentry_removed}
use prelude.{owns, legal_as, line_entry, with_line_body, subentry_of, is_native, is_issued_by, line_asset_of, Done}
use prelude.{is_auth_required, is_account_clawback_enabled, IsLawful, IsUnderway, subentry_kept, discharged_kept}
use prelude.{erased_kept, line_legal, IsKeyed, none_more, still_holds, Leaves, keeps_both, add_zero, add_zero_at_most}
use prelude.{int_eq_true, int_lt_false, zero_sub_if_zero, zero_sub_zero, zeros_add_to_zero, of_line_zero, not-false}
use prelude.{or_parts, line_under, lines_exact, nothing_under}
use Rattle.op_flags.specs.ledger_types.declared.asset.Asset.TheVariants as asset
use Rattle.op_flags.specs.ledger_types.declared.entry.LedgerEntryBody.TheVariants as body
use Rattle.op_flags.specs.ledger_types.declared.key.LedgerKey.TheVariants as key
use Rattle.op_flags.specs.op_types.declared.trust_results.ChangeTrustResult.TheVariants as trust
use Rattle.op_trust.specs.ChangeTrust as spec
use Rattle.op_laws.proofs.Lawful.{KeepsLegal, lawful_still}
use Rattle.op_laws.proofs.LineLimits.{not_zero, nothing_in_line, line_limited_lawful}
use Rattle.op_form.proofs.Steps.{done_so, anything, AllPass}
use Rattle.op_trust.proofs.TrustSteps.{trust_steps, trusted}

-- ---- keys

-- where no line is under its key, nothing is
pub no_line : (m : EntryMap) (id : AccountId) (held : TrustLineAsset) → IsKeyed m → line_at m id held ≡ None
    → get m (key.TrustLine id held) ≡ None
unfolding line_at
no_line m id held keyed none =
    nothing_under lines_exact m (key.TrustLine id held) (line_under id held) (keyed (key.TrustLine id held)) none

-- ---- what a line counts beside its reserve

-- a line in an asset that states nothing
pub record IsIdleLine (t : TrustLineEntry) (held : Asset) : Type 0 where
  pub asset : t.asset ≡ line_asset_of held
  pub selling : (line_liabilities t).selling ≡ pos 0
  pub buying : (line_liabilities t).buying ≡ pos 0
  pub uses : use_count t ≡ pos 0

module _ (v : View) (e : LedgerEntry) (t : TrustLineEntry) (held : Asset) (idle : IsIdleLine t held) where
  abbrev own : LedgerKey → Bool
  own k = is_key (key.TrustLine t.account_id t.asset) k

  -- by the asset that the line is in
  abbrev CountsNothing : TrustLineAsset → Type 0
  CountsNothing a = (kind : Kind) (k : LedgerKey)
      → beside_reserves (weighed v (with_line_body e (record t { asset = a }))) kind k ≡ pos 0

  nothing_of : (x : Asset) → CountsNothing (line_asset_of x)
  nothing_of x Subentries k = refl
  nothing_of x Sponsoring k = refl
  nothing_of x Sponsored k = refl
  nothing_of x Selling k = zero_sub_if_zero _ (line_liabilities t).selling idle.selling
  nothing_of x Buying k = zero_sub_if_zero _ (line_liabilities t).buying idle.buying
  nothing_of asset.Native Uses k = zero_sub_if_zero _ (use_count t) idle.uses
  nothing_of (asset.Alphanum4 code issuer) Uses k = zero_sub_if_zero _ (use_count t) idle.uses
  nothing_of (asset.Alphanum12 code issuer) Uses k = zero_sub_if_zero _ (use_count t) idle.uses
  nothing_of asset.Native Shares k = zero_sub_if_zero _ (pos 0) refl
  nothing_of (asset.Alphanum4 code issuer) Shares k = zero_sub_if_zero _ (pos 0) refl
  nothing_of (asset.Alphanum12 code issuer) Shares k = zero_sub_if_zero _ (pos 0) refl
  nothing_of asset.Native ShareLines k = zero_sub_if_zero _ (pos 0) refl
  nothing_of (asset.Alphanum4 code issuer) ShareLines k = zero_sub_if_zero _ (pos 0) refl
  nothing_of (asset.Alphanum12 code issuer) ShareLines k = zero_sub_if_zero _ (pos 0) refl

  pub nothing_counted : (kind : Kind) (k : LedgerKey) → beside_reserves (weighed v (with_line_body e t)) kind k ≡ pos 0
  nothing_counted = subst CountsNothing (sym idle.asset) (nothing_of held)

-- ---- the flags and the asset of a new line

new_flags_of : (required clawback : Bool)
    → (bit_or (if required then 0 else 1) (if clawback then 4 else 0) ≤ 7)
    × (bit_or (if required then 0 else 1) (if clawback then 4 else 0) % 4 ≢ 3)
new_flags_of true true = (omega arith, λ is. absurd (cc))
new_flags_of true false = (omega arith, λ is. absurd (cc))
new_flags_of false true = (omega arith, λ is. absurd (cc))
new_flags_of false false = (omega arith, λ is. absurd (cc))

new_flags : (held : Asset) (issuer : AccountEntry) → AreLineFlags (line_asset_of held) (spec.new_line_flags issuer)
new_flags asset.Native issuer = new_flags_of (is_auth_required issuer) (is_account_clawback_enabled issuer)
new_flags (asset.Alphanum4 code by) issuer =
    new_flags_of (is_auth_required issuer) (is_account_clawback_enabled issuer)
new_flags (asset.Alphanum12 code by) issuer =
    new_flags_of (is_auth_required issuer) (is_account_clawback_enabled issuer)

held_in_it : (held : Asset) (id : AccountId) → is_native held ≡ false → is_valid_asset held ≡ true
    → is_issued_by held id ≡ false → IsHeldIn id (line_asset_of held)
unfolding is_valid_asset
held_in_it asset.Native id issued valid other = absurd (cc)
held_in_it (asset.Alphanum4 code issuer) id issued valid other = (valid, apart_accounts issuer id other)
held_in_it (asset.Alphanum12 code issuer) id issued valid other = (valid, apart_accounts issuer id other)

-- ---- numbers

minus_none : (x h : ℤ) → h ≡ pos 0 → (x +ℤ neg_ℤ h) ≡ x
minus_none x h none = omega (arith, ints)

none_within : (s b : ℤ) → b ≡ pos 0 → pos 0 ≤ℤ s → s ≤ℤ b → s ≡ pos 0
none_within s b none low le = omega (arith, ints)

-- ---- adding

module _ (ctx : Ctx) (m : EntryMap) (under : IsUnderway ctx m) (exists : HasAccount m ctx.op_source) (held : Asset)
    (issued_asset : is_native held ≡ false) (limit : ℤ) where
  abbrev src : AccountId
  src = ctx.op_source

  abbrev its : TrustLineAsset
  its = line_asset_of held

  module _ (valid : is_valid_asset held ≡ true) (other : is_issued_by held ctx.op_source ≡ false) (low : pos 1 ≤ℤ limit)
      (high : limit ≤ℤ greatest_i64) (issuer : AccountEntry) where
    abbrev entry : LedgerEntry
    entry = spec.new_line ctx held limit issuer

    abbrev new_t : TrustLineEntry
    new_t = record {
      account_id = src;
      asset = its;
      balance = pos 0;
      limit = limit;
      flags = spec.new_line_flags issuer;
      ext = None;
    }

    new_range : IsTrustLineInRange new_t
    new_range = record {
      range = record {
        balance = omega (arith, ints);
        buying = omega (arith, ints);
        selling = omega (arith, ints);
        covered = omega (arith, ints);
        fits = lower limit low;
      };
      limit = low;
      greatest = high;
      held = held_in_it held src issued_asset valid other;
      flags = new_flags held issuer;
      uses = omega (arith, ints);
    }
      where
        lower : (n : ℤ) → pos 1 ≤ℤ n → pos 0 ≤ℤ n
        lower n le = omega (arith, ints)

    added_legal : (new : EntryMap) → line_at m src its ≡ None → map_after_adding ctx src entry m ≡ Ok new
        → KeepsLegal ctx.id_pool m new
    added_legal new none done v sum legal =
        legal_as v (IsEntryLegal ctx.id_pool) _ nothing_owed _ sum new
        (subentry_added_so v ctx.id_pool ctx.id_pool nothing_owed sum ctx src (line_multiplicity its) entry m new legal
        refl (record {
          free = no_line m src its legal.keyed none;
          unsponsored = refl;
          id_free = λ id. add_zero_at_most _ (pos 1) (legal.offers id);
        }) (omega arith) (record {
          range = record { body = new_range; paid = λ some. absurd (some refl) };
          bound = λ none_set. (refl, refl);
          few = tt;
          fits = tt;
          filled = tt;
        }) exists (sponsors_ready ctx m src under.sponsorships) done)
        (λ kind k. zeros_add_to_zero (pos 0) _ refl (nothing_counted v entry new_t held
        (record { asset = refl; selling = refl; buying = refl; uses = refl }) kind k))
        (ap (λ n. sum +ℤ n) (of_line_zero v.asset its) ∙ add_zero sum)

    added_lawful : (new : EntryMap) → line_at m src its ≡ None → map_after_adding ctx src entry m ≡ Ok new
        → IsLawful ctx m (trusted ctx new)
    added_lawful new none is =
        lawful_still ctx m under (spec.answer trust.Success) new (added_legal new none is)
        (subentry_kept ctx m src (line_multiplicity its) entry new under.settled.legal.keyed
        (λ id at. absurd (cc)) (λ x. of_line_zero x its)
        (λ x. ap (part (held_of x)) (no_line m src its under.settled.legal.keyed none)) is)

  -- ---- another limit

  module _ (t : TrustLineEntry) (there : line_at m ctx.op_source (line_asset_of held) ≡ Some t)
      (exceeded : spec.is_exceeded limit t ≡ false) (low : pos 0 ≤ℤ limit) where
    -- ---- removing

    abbrev its_key : LedgerKey
    its_key = key.TrustLine src its

    module _ (none : int_eq limit (pos 0) ≡ true) (unused : use_count t ≡ pos 0) where
      nothing_in : (t.balance ≡ pos 0) × ((line_liabilities t).buying ≡ pos 0)
      nothing_in = nothing_in_line t
          (line_legal (view m) ctx.id_pool nothing_owed _ m src its t under.settled.legal there).range.range limit
          exceeded none

      its_line : IsIdleLine t held
      its_line =
          let was = line_legal (view m) ctx.id_pool nothing_owed _ m src its t under.settled.legal there in
          let r = was.range.range in
          record {
            asset = was.asset;
            selling = none_within (line_liabilities t).selling t.balance nothing_in.0 r.selling r.covered;
            buying = nothing_in.1;
            uses = unused;
          }

      module _ (e : LedgerEntry) (at : get m (key.TrustLine ctx.op_source (line_asset_of held))
          ≡ Some (with_line_body e t)) where
        abbrev e1 : LedgerEntry
        e1 = with_line_body e t

        abbrev times : ℕ
        times = line_multiplicity t.asset

        removed_legal : KeepsLegal ctx.id_pool m (map_after_removing_entry its_key m (Some e1))
        removed_legal v sum legal = legal_as v (IsEntryLegal ctx.id_pool) _ nothing_owed _ sum _
            (subentry_removed v ctx.id_pool nothing_owed sum m legal nothing_settled t.account_id times its_key e1 at
            (subentry_of (body.TrustLine t) t.account_id times refl))
            (λ kind k. zero_sub_zero _ (nothing_counted v e t held its_line kind k))
            (minus_none sum (of_line v.asset t.asset t.balance)
            (ap (of_line v.asset t.asset) nothing_in.0 ∙ of_line_zero v.asset t.asset))

        had : (a : AccountEntry) → account_at m t.account_id ≡ Some a → times ≤ a.num_sub_entries
        had a existing =
            let own = owns (view m) ctx.id_pool nothing_owed _ m under.settled.legal nothing_settled t.account_id times
            its_key e1 at (subentry_of (body.TrustLine t) t.account_id times refl) in
            let also = own.exists in
            let same : own.account ≡ a = cc in
            subst (λ (b : AccountEntry). times ≤ b.num_sub_entries) same own.enough

        removed_left : Leaves ctx.base_reserve none_more m (map_after_removing_entry its_key m (Some e1))
        removed_left =
            let s = sponsor_of e1 in
            let now = map_after_discounting t.account_id times s m in
            let first = discharged_kept ctx.base_reserve times t.account_id s m under.settled.legal.keyed had
            (without_subentry times s) (λ a next. next) in
            keeps_both ctx.base_reserve m now (erase now its_key) first
            (erased_kept ctx.base_reserve now its_key first.keyed (λ id same. absurd (cc))
            (λ x. still_holds m now first.holds its_key x ∙ ap (part (held_of x)) at
            ∙ ap (of_line x t.asset) nothing_in.0 ∙ of_line_zero x t.asset))

    removed_lawful : int_eq limit (pos 0) ≡ true → not (int_eq (use_count t) (pos 0)) ≡ false
        → IsLawful ctx m (trusted ctx (map_after_removing its_key m))
    removed_lawful none some =
        let unused = int_eq_true (use_count t) (pos 0) (not-false (int_eq (use_count t) (pos 0)) some) in
        let found = line_entry m src its t there in
        let at = found.1.there ∙ ap Some (λ i. record found.0 { body = found.1.is i }) in
        let removed_so : map_after_removing_entry its_key m (Some (with_line_body found.0 t))
        ≡ map_after_removing its_key m = sym (ap (map_after_removing_entry its_key m) at) in
        lawful_still ctx m under (spec.answer trust.Success) (map_after_removing its_key m)
        (subst (KeepsLegal ctx.id_pool m) removed_so (removed_legal none unused found.0 at))
        (subst (Leaves ctx.base_reserve none_more m) removed_so (removed_left none unused found.0 at))

-- ---- CHANGE_TRUST of a line in an asset

-- what the tests of what is asked for leave
record IsAskedFor (ctx : Ctx) (held : Asset) (limit : ℤ) : Type 0 where
  issued_asset : is_native held ≡ false
  low : pos 0 ≤ℤ limit
  valid : is_valid_asset held ≡ true
  other : is_issued_by held ctx.op_source ≡ false

asked_for : (ctx : Ctx) (held : Asset) (limit : ℤ) → AllPass (spec.asked_tests ctx held limit)
    → IsAskedFor ctx held limit
asked_for ctx held limit pass =
    let below = int_lt limit (pos 0) in
    let bad = not (is_valid_asset held) in
    let last = or_parts (below || is_native held || bad) (is_issued_by held ctx.op_source) pass.0 in
    let third = or_parts (below || is_native held) bad last.0 in
    let first = or_parts below (is_native held) third.0 in
    record {
      issued_asset = first.1;
      low = int_lt_false limit (pos 0) first.0;
      valid = not-false (is_valid_asset held) third.1;
      other = last.1;
    }

-- Each CHANGE_TRUST of a line in an asset that succeeds is lawful.
pub asset_trust_is_lawful : (ctx : Ctx) (m : EntryMap) (done : Done) → IsUnderway ctx m → HasAccount m ctx.op_source
    → (limit : ℤ) → limit ≤ℤ greatest_i64 → (held : Asset) → spec.asset_trust ctx held limit m ≡ Ok done
    → IsLawful ctx m done
asset_trust_is_lawful ctx m done under exists limit high held is =
    let asks = asked_for ctx held limit in
    done_so anything (IsLawful ctx m) (spec.asset_trust ctx held limit m) done
    (trust_steps anything (IsLawful ctx m) ctx held limit m (record {
      removed = λ t pass there within zero unused. removed_lawful ctx m under exists held
          (asks pass).issued_asset limit t
          there within.0 (asks pass).low zero unused;
      limited = λ t pass there within some. line_limited_lawful ctx m under (line_asset_of held) limit t there within.0
          (not_zero limit (asks pass).low some) high;
      added = λ issuer new pass there some made. added_lawful ctx m under exists held (asks pass).issued_asset limit
          (asks pass).valid (asks pass).other (not_zero limit (asks pass).low some) high issuer new there made;
    })) is
