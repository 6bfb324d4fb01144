use Rattle.image_rules.proofs.Prelude.{◌≢◌, All, None, take, get}
use Rattle.image_rules.proofs.Naming.{AllOf}
use Rattle.image_rules.proofs.owners.do_all_exist.Given as goal

abbrev pub invariant-loop-id : goal.invariant-loop-id
invariant-loop-id l = All (AllOf (λ q. get l.entries q ≢ None)) (take l.id-index l.ids)
