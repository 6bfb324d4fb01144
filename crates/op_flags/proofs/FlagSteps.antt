-- ALLOW_TRUST and SET_TRUST_LINE_FLAGS, step by step.
use Rattle.entry_map.specs.EntryMap.{EntryMap}
use Rattle.entry_slots.specs.Accounts.{account_at}
use Rattle.ledger_types.specs.declared.asset.Asset.{Asset}
use Rattle.ledger_types.specs.declared.ids.AccountId.{AccountId}
use Rattle.ledger_types.specs.declared.trust_line.TrustLineEntry.{TrustLineEntry}
use Rattle.op_form.specs.Assets.{line_asset_of, line_of_asset}
use Rattle.op_types.specs.declared.operation_result.OperationResultTr.{OperationResultTr}
use Rattle.op_types.specs.declared.trust_ops.AllowTrustOp.{AllowTrustOp}
use Rattle.op_types.specs.declared.trust_ops.SetTrustLineFlagsOp.{SetTrustLineFlagsOp}
use Rattle.sponsor_rules.specs.declared.context.Ctx.{Ctx}
use Rattle.std.proofs.Common.{refl}
use Rattle.std.specs.Prelude.{Some, ℕ}
use Rattle.sponsor_rules.proofs.Changes.{line_changed}
use Rattle.op_form.proofs.Steps.{IsBare, past, past_part, past_some}
use Rattle.op_form.proofs.Walks.{Before, Leaves, Logic, left}
use Rattle.op_flags.proofs.RevokedHold.{DoBalancesFit, IsRevoked, revoking_holds, shares_left_hold}
use Rattle.op_flags.proofs.SharesBeside.{flagging_keeps}
use Rattle.op_flags.proofs.SharesGiven.{CanRevoke, still_can}
use Rattle.op_flags.specs.AllowTrust as allowing
use Rattle.op_flags.specs.LineFlags as flagging
use Rattle.op_flags.specs.SetTrustLineFlags as setting
use Rattle.op_types.specs.declared.operation_result.OperationResult.TheVariants.{Inner, NoAccount}
use Rattle.op_types.specs.declared.operation_result.OperationResultTr.TheVariants as tr
use Rattle.op_types.specs.declared.trust_results.AllowTrustResult.TheVariants as allow
use Rattle.op_types.specs.declared.trust_results.SetTrustLineFlagsResult.TheVariants as set

module _ (w : Logic) (ctx : Ctx) (m : EntryMap) (before : Before w ctx m) where
  line_flagged : (low succeeds : OperationResultTr) → IsBare low → IsBare succeeds
      → (trustor : AccountId) (held : Asset)
      (flags : ℕ) (line : TrustLineEntry) → DoBalancesFit w.inv ctx trustor → w.inv.of.Sponsor (Some trustor)
      → (w.inv.Asks → CanRevoke trustor m)
      → Leaves w (flagging.flagged ctx trustor held flags (Inner low) (Inner succeeds) line m)
  line_flagged low succeeds low_bare bare trustor held flags line fits named can =
      let revoked = flagging.is_revoked line flags in
      let after = flagging.map_after_flagging trustor held flags revoked m in
      past_part (IsRevoked w ctx (Inner low) (w.answers.bare low low_bare) trustor fits named)
      (flagging.shares_left ctx (Inner low) trustor held revoked after) _
      (shares_left_hold w ctx (Inner low) (w.answers.bare low low_bare) trustor fits named held revoked after
      (λ asks. still_can trustor m after (can asks) (flagging_keeps trustor held flags revoked m (can asks).keyed))
      (line_changed w.inv (flagging.with_flags flags) (λ t fits. w.inv.same_line t _ refl refl fits)
      (flagging.map_after_revoking trustor held revoked m) trustor (line_asset_of held)
      (revoking_holds w.inv trustor held revoked m before.entries)))
      (λ gone is left_so. record { ends = left succeeds bare before left_so.entries })

  pub trust_allowed : (op : AllowTrustOp) → DoBalancesFit w.inv ctx op.trustor → w.inv.of.Sponsor (Some op.trustor)
      → (w.inv.Asks → CanRevoke op.trustor m) → Leaves w (allowing.allow_trust ctx op m)
  trust_allowed op fits named can =
      past (allowing.allow_tests ctx op) _ (w.answers.bare (tr.AllowTrust allow.Malformed) tt, tt)
      (λ pass. past_some (line_of_asset m op.trustor (allowing.asset_allowed ctx op))
      (allowing.answer allow.NoTrustLine)
      _ (w.answers.bare (tr.AllowTrust allow.NoTrustLine) tt)
      (λ line there. past_some (account_at m ctx.op_source) NoAccount _ w.answers.no_account
      (λ source exists. past (allowing.revoke_tests op source line) _
      (w.answers.bare (tr.AllowTrust allow.CantRevoke) tt, tt)
      (λ may. line_flagged (tr.AllowTrust allow.LowReserve) (tr.AllowTrust allow.Success) tt tt op.trustor
      (allowing.asset_allowed ctx op) (allowing.allowed_flags op line) line fits named can))))

  pub flags_set : (op : SetTrustLineFlagsOp) → DoBalancesFit w.inv ctx op.trustor → w.inv.of.Sponsor (Some op.trustor)
      → (w.inv.Asks → CanRevoke op.trustor m) → Leaves w (setting.set_trust_line_flags ctx op m)
  flags_set op fits named can =
      past (setting.set_tests ctx op) _ (w.answers.bare (tr.SetTrustLineFlags set.Malformed) tt, tt)
      (λ pass. past_some (line_of_asset m op.trustor op.asset) (setting.answer set.NoTrustLine) _
      (w.answers.bare (tr.SetTrustLineFlags set.NoTrustLine) tt)
      (λ line there. past_some (account_at m ctx.op_source) NoAccount _ w.answers.no_account
      (λ source exists. past (setting.flag_tests source line (setting.new_flags op line)) _ (
        w.answers.bare (tr.SetTrustLineFlags set.CantRevoke) tt,
        (w.answers.bare (tr.SetTrustLineFlags set.InvalidState) tt, tt),
      )
      (λ may. line_flagged (tr.SetTrustLineFlags set.LowReserve) (tr.SetTrustLineFlags set.Success) tt tt op.trustor
      op.asset (setting.new_flags op line) line fits named can))))
