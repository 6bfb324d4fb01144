-- The format of changes, this project's own (over RFC 4506): 0 and the entry that was put, 1 and both entries, or 2 and
-- the entry that was removed.
use Rattle.std.specs.Prelude.{pos, List, [], ◌∷◌}
use Rattle.xdr_core.specs.declared.fault.XdrFault.{XdrFault}
use Rattle.xdr_core.specs.Combinators.{◌⨾◌, entire, Arm, Part, part, arm_at}
use Rattle.xdr_core.specs.Position.{Position, Reading}
use Rattle.xdr_core.specs.Xdr.{Xdr, union_of}
use Rattle.xdr_entries.specs.Basic.{arm}
use Rattle.xdr_entries.specs.Entries.{ledger_entry}
use Rattle.change_stream.specs.declared.change.Change.{Change}
use Rattle.change_stream.specs.declared.change.Change.TheVariants as change

abbrev pub created : Arm XdrFault Change
created = arm (pos 0) (entire ledger_entry) change.Created

abbrev pub updated : Arm XdrFault Change
updated = arm (pos 1) (entire ledger_entry ⨾ entire ledger_entry) (λ v. change.Updated v.0 v.1)

abbrev pub removed : Arm XdrFault Change
removed = arm (pos 2) (entire ledger_entry) change.Removed

abbrev pub change_arms : List (Arm XdrFault Change)
change_arms = created ∷ updated ∷ removed ∷ []

abbrev pub change_part : Change → Part XdrFault Change
change_part (change.Created a) = part created a
change_part (change.Updated b a) = part updated (b, a)
change_part (change.Removed b) = part removed b

unfoldable pub one_change : Xdr Change
one_change = union_of change_part change_arms

-- both entries of an update
abbrev pub update_at : Position → Reading XdrFault Change
update_at p = arm_at updated p
