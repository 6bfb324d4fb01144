use Rattle.signer_check.proofs.Prelude.{take}
use Rattle.signer_check.specs.Groups.{AreGrouped}
use Rattle.signer_check.proofs.vouches.VouchIndex.new.Given as goal

abbrev pub invariant-loop-vouch : goal.invariant-loop-vouch
invariant-loop-vouch l = AreGrouped l.groups (take l.vouch-index l.vouches)
