use Rattle.pool_shares.proofs.Sound.{entries_sound}
use Rattle.pool_shares.proofs.laws.entries_sound.Goals as goal

pub returns : goal.returns
returns c = entries_sound
