use Rattle.std.proofs.Common.{length}
use Rattle.level_pages.proofs.newest.+keys_are_encoded.Given as goal

abbrev pub decreases-keys_are_encoded : goal.decreases-keys_are_encoded
decreases-keys_are_encoded l = length l.pairs.now
