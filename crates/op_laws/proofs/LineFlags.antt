-- ALLOW_TRUST and SET_TRUST_LINE_FLAGS are lawful.
use Rattle.op_laws.proofs.Prelude as prelude
use prelude.{◌≡◌, ◌≢◌, refl, sym, subst, ℕ, ◌%◌, ◌≤◌, Bool, true, false, not, ◌||◌, [], nat_lt, Option, Some, None, Ok}
use prelude.{arith, ℤ, AccountId, Asset, TrustLineAsset, TrustLineEntry, OperationResult, NoAccount, is_valid_asset}
use prelude.{EntryMap, account_at, line_at, with_line, total, Ctx, is_same_account, IsKeyed, none_more, view, held_of}
use prelude.{Leaves, leaves_itself, keeps_both, line_kept, first_passed, is_native, is_issued_by, line_asset_of}
use prelude.{line_of_asset, Done, success, IsLawful, AreLawful, IsUnderway, Revoked, no_line_changed, view_of}
use prelude.{entries_legal, owing_of, went_on, went_after, went_after_some, not-false, or_parts}
use Rattle.op_flags.specs.ledger_types.declared.asset.Asset.TheVariants as asset
use Rattle.op_flags.specs.op_types.declared.trust_results.AllowTrustResult.TheVariants as allow
use Rattle.op_flags.specs.op_types.declared.trust_results.SetTrustLineFlagsResult.TheVariants as set
use Rattle.op_flags.specs.LineFlags as flags
use Rattle.op_flags.specs.AllowTrust as allowing
use Rattle.op_flags.specs.SetTrustLineFlags as setting
use Rattle.op_flags.proofs.Revoked.{revoked_left}
use Rattle.op_flags.proofs.Flagged.{old_flags, flagged_legal}
use Rattle.op_flags.proofs.FlagTests.{allowed_fit, allowed_issued, set_fit}
use Rattle.op_laws.proofs.Parts.{IsPart, still_part, both_parts, lawful_part}
use Rattle.op_laws.proofs.RevokedShares.{shares_part}

-- ---- the line gets its flags, once the offers are gone

module _ (ctx : Ctx) (m : EntryMap) (under : IsUnderway ctx m) (trustor : AccountId) (held : Asset)
    (issued_asset : is_native held ≡ false) (t : TrustLineEntry)
    (there : line_at m trustor (line_asset_of held) ≡ Some t) where
  abbrev its : TrustLineAsset
  its = line_asset_of held

  abbrev lumens : ℤ
  lumens = total (held_of asset.Native) m

  pub known_flags : (t.flags ≤ 7) × (t.flags % 4 ≢ 3)
  known_flags = old_flags (view m) ctx.id_pool lumens trustor held issued_asset m under.settled.legal t there

  -- no account changes, and nothing is held that wasn't
  offers_gone : (revoked : Bool) → Leaves ctx.base_reserve none_more m (flags.map_after_revoking trustor held revoked m)
  offers_gone true = revoked_left (view m) ctx.id_pool lumens m under.settled.legal trustor held ctx.base_reserve
  offers_gone false = leaves_itself ctx.base_reserve m under.settled.legal.keyed

  module _ (f : ℕ) (now : EntryMap) (keyed : IsKeyed now) where
    by_line : (o : Option TrustLineEntry) → line_at now trustor its ≡ o
        → Leaves ctx.base_reserve none_more now (with_line now trustor its (flags.with_flags f))
    by_line None none = subst (Leaves ctx.base_reserve none_more now)
        (sym (no_line_changed now trustor its (flags.with_flags f) none)) (leaves_itself ctx.base_reserve now keyed)
    by_line (Some u) here =
        line_kept now trustor its (flags.with_flags f) u here refl refl ctx.base_reserve keyed refl

  -- the first part: the line has its flags, and nothing moved
  flags_part : (f : ℕ) → (f ≤ 7) × (f % 4 ≢ 3) → (revoked : Bool) → flags.is_revoked t f ≡ revoked
      → IsPart ctx.id_pool ctx.base_reserve m (flags.map_after_flagging trustor held f revoked m) []
  flags_part f known revoked is =
      let now = flags.map_after_revoking trustor held revoked m in
      let new = flags.map_after_flagging trustor held f revoked m in
      let legal = λ (x : Asset). flagged_legal (view_of x m) ctx.id_pool (total (held_of x) m) trustor held issued_asset
      m
      (owing_of x ctx.id_pool m under.settled.legal) t there f known revoked is in
      let gone = offers_gone revoked in
      still_part ctx.id_pool ctx.base_reserve m new (entries_legal (view_of asset.Native m) ctx.id_pool lumens new
      (legal asset.Native))
      (keeps_both ctx.base_reserve m now new gone (by_line f now gone.keyed (line_at now trustor its) refl))
      (λ x. (legal x).supply)

  left_part : (f : ℕ) (low : OperationResult) → (f ≤ 7) × (f % 4 ≢ 3) → (revoked : Bool)
      → flags.is_revoked t f ≡ revoked → (r : Revoked)
      → flags.shares_left ctx low trustor held revoked (flags.map_after_flagging trustor held f revoked m) ≡ Ok r
      → IsPart ctx.id_pool ctx.base_reserve m r.entries r.moves
  left_part f low known true is r gave =
      let flagged = flags.map_after_flagging trustor held f true m in
      let first = flags_part f known true is in
      both_parts ctx.id_pool ctx.base_reserve m flagged r.entries [] r.moves first
      (shares_part ctx low trustor held flagged first.legal r gave)
  left_part f low known false is r gave =
      let flagged = flags.map_after_flagging trustor held f false m in
      let same : record { entries = flagged; moves = [] } ≡ r = cc in
      subst (λ (x : Revoked). IsPart ctx.id_pool ctx.base_reserve m x.entries x.moves) same
      (flags_part f known false is)

  pub flagged_lawful : (f : ℕ) (low succeeded : OperationResult) (done : Done) → (f ≤ 7) × (f % 4 ≢ 3)
      → flags.flagged ctx trustor held f low succeeded t m ≡ Ok done → IsLawful ctx m done
  flagged_lawful f low succeeded done known is =
      let revoked = flags.is_revoked t f in
      let went = went_after (flags.shares_left ctx low trustor held revoked
      (flags.map_after_flagging trustor held f revoked m)) (λ left. success ctx succeeded left.entries left.moves) done
      is in
      let also = went.2 in
      let made : Done = record { result = succeeded; entries = went.0.entries; ctx = ctx; moves = went.0.moves } in
      let same : made ≡ done = cc in
      subst (IsLawful ctx m) same (lawful_part ctx m under succeeded went.0.entries went.0.moves
      (left_part f low known revoked refl went.0 went.1))

-- ---- ALLOW_TRUST

at_most_2 : (a : ℕ) → nat_lt 2 a ≡ false → a ≤ 2
at_most_2 a h = grind arith

pub allow_trust_is_lawful : AreLawful allowing.allow_trust
allow_trust_is_lawful ctx op m done under exists is =
    let held = allowing.asset_allowed ctx op in
    let went = went_on (allowing.allow_tests ctx op) _ done is in
    let great = nat_lt 2 op.authorize in
    let bad = not (is_valid_asset held) in
    let own = is_same_account op.trustor ctx.op_source in
    let test = first_passed (great || bad || own) (allowing.answer allow.Malformed) [] went.0 in
    let last = or_parts (great || bad) own test.0 in
    let first = or_parts great bad last.0 in
    let line = went_after_some (line_of_asset m op.trustor held) (allowing.answer allow.NoTrustLine) _ done went.1 in
    let source = went_after_some (account_at m ctx.op_source) NoAccount _ done line.2 in
    let passed = went_on (allowing.revoke_tests op source.0 line.0) _ done source.2 in
    let issued_asset = allowed_issued op.asset ctx.op_source in
    let few = at_most_2 op.authorize first.0 in
    flagged_lawful ctx m under op.trustor held issued_asset line.0 line.1 (allowing.allowed_flags op line.0)
    (allowing.answer allow.LowReserve) (allowing.answer allow.Success) done
    (allowed_fit ctx.id_pool m under.settled.legal op.trustor line.0 op held issued_asset line.1 few) passed.1

-- ---- SET_TRUST_LINE_FLAGS

pub issued_is : (held : Asset) (id : AccountId) → is_issued_by held id ≡ true → is_native held ≡ false
issued_is asset.Native id is = absurd (cc)
issued_is (asset.Alphanum4 code issuer) id is = refl
issued_is (asset.Alphanum12 code issuer) id is = refl

pub set_trust_line_flags_is_lawful : AreLawful setting.set_trust_line_flags
set_trust_line_flags_is_lawful ctx op m done under exists is =
    let held = op.asset in
    let went = went_on (setting.set_tests ctx op) _ done is in
    let test = first_passed (setting.is_foreign ctx op || setting.are_flags_bad op) (setting.answer set.Malformed) []
    went.0 in
    let both = or_parts (setting.is_foreign ctx op) (setting.are_flags_bad op) test.0 in
    let bad = not (is_valid_asset held) in
    let foreign = not (is_issued_by held ctx.op_source) in
    let own = is_same_account op.trustor ctx.op_source in
    let not_own = or_parts (bad || foreign) own both.0 in
    let its_own = or_parts bad foreign not_own.0 in
    let issued_asset = issued_is held ctx.op_source (not-false (is_issued_by held ctx.op_source) its_own.1) in
    let line = went_after_some (line_of_asset m op.trustor held) (setting.answer set.NoTrustLine) _ done went.1 in
    let source = went_after_some (account_at m ctx.op_source) NoAccount _ done line.2 in
    let f = setting.new_flags op line.0 in
    let passed = went_on (setting.flag_tests source.0 line.0 f) _ done source.2 in
    flagged_lawful ctx m under op.trustor held issued_asset line.0 line.1 f (setting.answer set.LowReserve)
    (setting.answer set.Success) done
    (set_fit ctx.id_pool m under.settled.legal op.trustor line.0 op source.0 issued_asset line.1 both.1 passed.0)
    passed.1
