-- What a call leaves, by the tests that were made first.
use Rattle.sponsor_rules.proofs.Prelude.{◌≡◌, ap, None, Ok, EntryMap, Undo}
use Rattle.reserve_rules.specs.entry_slots.Tests.{Tests, first_fault, unless_fault, unless_first}
use Rattle.sponsor_rules.specs.declared.fault.AddFault.{AddFault}
use Rattle.sponsor_rules.specs.declared.fault.AddFault.TheVariants.{TooManySubentries, TooManySponsoring}
use Rattle.sponsor_rules.specs.declared.fault.AddFault.TheVariants.{LowReserve}
use Rattle.sponsor_rules.specs.declared.fault.AddFault.TheVariants.{NoMemory}
use Rattle.sponsor_rules.specs.Outcome.{IsRefused, IsFound}

pub refused : (fault : AddFault) (old new : Undo) (tests : Tests AddFault) (after : EntryMap)
    → IsFound fault old new (first_fault tests) → IsRefused fault old new (unless_first tests after)
refused NoMemory old new tests after found = tt
refused TooManySubentries old new tests after found = (ap (λ o. unless_fault o after) found.0, found.1)
refused TooManySponsoring old new tests after found = (ap (λ o. unless_fault o after) found.0, found.1)
refused LowReserve old new tests after found = (ap (λ o. unless_fault o after) found.0, found.1)

pub unless_first_passed : (tests : Tests AddFault) (after : EntryMap) → first_fault tests ≡ None
    → unless_first tests after ≡ Ok after
unless_first_passed tests after none = ap (λ o. unless_fault o after) none
