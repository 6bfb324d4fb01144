use Rattle.std.proofs.Common.{length}
use Rattle.valid_values.proofs.asset.+code_len.Given as goal

abbrev pub decreases-code_len : goal.decreases-code_len
decreases-code_len l = length l.code.now
