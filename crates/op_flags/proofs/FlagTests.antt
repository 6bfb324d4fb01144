-- That the flags which the operations give to a line can be a line's.
use Rattle.op_flags.proofs.Prelude.{◌≡◌, refl, ℕ, ◌≤◌, false, not, ◌&&◌, ◌||◌, ◌∷◌, [], nat_eq, nat_lt, bit_and, Some}
use Rattle.op_flags.proofs.Prelude.{None, arith, AccountEntry, Asset, AccountId, TrustLineEntry, OperationResult}
use Rattle.op_flags.proofs.Prelude.{EntryMap, Tests, first_fault, view, AreEntriesLegal, first_passed, is_native}
use Rattle.op_flags.proofs.Prelude.{line_of_asset, has_any, is_auth_revocable, AreFlagsFit, ltb-false, or_parts}
use Rattle.op_types.specs.declared.trust_ops.AllowTrustOp.{AllowTrustOp}
use Rattle.op_types.specs.declared.trust_ops.AssetCode.{AssetCode}
use Rattle.op_types.specs.declared.trust_ops.AssetCode.TheVariants as code
use Rattle.op_types.specs.declared.trust_ops.SetTrustLineFlagsOp.{SetTrustLineFlagsOp}
use Rattle.op_types.specs.declared.trust_results.SetTrustLineFlagsResult.TheVariants as set
use Rattle.op_flags.specs.AllowTrust as allowing
use Rattle.op_flags.specs.SetTrustLineFlags as setting
use Rattle.op_flags.proofs.FlagNumbers.{masked, changed_below, authorizes_once}
use Rattle.op_flags.proofs.Flagged.{old_flags}

pub allowed_issued : (c : AssetCode) (id : AccountId) → is_native (allowing.asset_with c id) ≡ false
allowed_issued (code.Alphanum4 bytes) id = refl
allowed_issued (code.Alphanum12 bytes) id = refl

two_below : (a : ℕ) → a ≤ 2 → a ≤ 7
two_below a few = omega arith

module _ (id_pool : ℕ) (m : EntryMap) (legal : AreEntriesLegal id_pool m) (trustor : AccountId) (t : TrustLineEntry)
  where
    pub allowed_fit : (op : AllowTrustOp) (held : Asset) → is_native held ≡ false
        → line_of_asset m trustor held ≡ Some t → op.authorize ≤ 2 → AreFlagsFit (allowing.allowed_flags op t)
    allowed_fit op held issued there few =
        let was = old_flags (view m) id_pool _ trustor held issued m legal t there in (
          changed_below t.flags 3 op.authorize was.0 (two_below op.authorize few),
          authorizes_once t.flags was.0 op.authorize few,
        )

    pub set_fit : (op : SetTrustLineFlagsOp) (source : AccountEntry) → is_native op.asset ≡ false
        → line_of_asset m trustor op.asset ≡ Some t → setting.are_flags_bad op ≡ false
        → first_fault (setting.flag_tests source t (setting.new_flags op t)) ≡ None
        → AreFlagsFit (setting.new_flags op t)
    set_fit op source issued there good passed =
        let clears = nat_lt 7 op.clear_flags in
        let sets = nat_lt 7 op.set_flags in
        let twice = has_any op.set_flags op.clear_flags in
        let claws = has_any op.set_flags 4 in
        let two = nat_eq (bit_and op.set_flags 3) 3 in
        let fourth = or_parts (clears || sets || twice || claws) two good in
        let third = or_parts (clears || sets || twice) claws fourth.0 in
        let second = or_parts (clears || sets) twice third.0 in
        let first = or_parts clears sets second.0 in
        let f = setting.new_flags op t in
        let invalid : Tests OperationResult = (nat_eq (bit_and f 3) 3, setting.answer set.InvalidState) ∷ [] in
        let revoked = first_passed (not (is_auth_revocable source) && setting.takes_back t f)
        (setting.answer set.CantRevoke) invalid passed in
        let state = first_passed (nat_eq (bit_and f 3) 3) (setting.answer set.InvalidState) [] revoked.1 in
        let was = old_flags (view m) id_pool _ trustor op.asset issued m legal t there in
        let few = changed_below t.flags op.clear_flags op.set_flags was.0 (ltb-false 7 op.set_flags first.1) in
        (few, (masked f few).2 state.0)
