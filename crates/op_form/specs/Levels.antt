-- Which of a source's thresholds an operation's signatures have to reach (getThresholdLevel of the frames and
-- getNeededThreshold in stellar-core).
use Rattle.std.specs.Prelude.{ℕ, Bool, ◌||◌, is_some, slice_index, if◌then◌else◌}
use Rattle.ledger_types.specs.declared.account.AccountEntry.{AccountEntry}
use Rattle.op_types.specs.declared.account_ops.SetOptionsOp.{SetOptionsOp}
use Rattle.op_types.specs.declared.operation.OperationBody.{OperationBody}
use Rattle.op_types.specs.declared.operation.OperationBody.TheVariants as body
use Rattle.op_form.specs.declared.levels.ThresholdLevel.{ThresholdLevel}
use Rattle.op_form.specs.declared.levels.ThresholdLevel.TheVariants.{Low, Medium, High}

-- the weight of the account's own key, a threshold or a signer is given
abbrev pub changes_signing : SetOptionsOp → Bool
changes_signing set_op =
    is_some set_op.master_weight || is_some set_op.low_threshold || is_some set_op.med_threshold
    || is_some set_op.high_threshold || is_some set_op.signer

abbrev pub level_of : OperationBody → ThresholdLevel
level_of (body.AllowTrust op) = Low
level_of (body.SetTrustLineFlags op) = Low
level_of (body.BumpSequence op) = Low
level_of body.Inflation = Low
level_of (body.ClaimClaimableBalance op) = Low
level_of (body.AccountMerge op) = High
level_of (body.SetOptions op) = if changes_signing op then High else Medium
level_of other = Medium

-- the weight that signatures have to reach
abbrev pub threshold_at : ThresholdLevel → AccountEntry → ℕ
threshold_at Low account = slice_index account.thresholds 1
threshold_at Medium account = slice_index account.thresholds 2
threshold_at High account = slice_index account.thresholds 3
