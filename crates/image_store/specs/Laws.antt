-- Four files open to one thing.
use Rattle.std.specs.Prelude.{◌≡◌, Result}
use Rattle.outside.specs.Disk.{Image}
use Rattle.gate_journal.specs.declared.fault.StoreFault.{StoreFault}
use Rattle.image_store.specs.Opening.{Kept, IsOpening}

-- to at most one
abbrev pub OpeningsAreOne : Type 0
OpeningsAreOne = (c : Image) (one other : Result Kept StoreFault) → IsOpening c one → IsOpening c other → one ≡ other

-- and to some one
abbrev pub EachOpens : Type 0
EachOpens = (c : Image) → (opening : Result Kept StoreFault) × IsOpening c opening
