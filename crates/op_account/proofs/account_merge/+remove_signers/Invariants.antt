use Rattle.std.proofs.Common.{length}
use Rattle.op_account.proofs.account_merge.+remove_signers.Given as goal

abbrev pub decreases-remove_signers : goal.decreases-remove_signers
decreases-remove_signers g l = length l.signers.now
