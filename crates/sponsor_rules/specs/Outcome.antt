-- What a call that adds or moves something leaves.
use Rattle.std.specs.Prelude.{◌≡◌, Option, Some, Result, Ok, Err}
use Rattle.reserve_rules.specs.entry_map.EntryMap.{EntryMap}
use Rattle.reserve_rules.specs.entry_map.Undo.{Undo, with_current}
use Rattle.sponsor_rules.specs.declared.fault.AddFault.{AddFault}
use Rattle.sponsor_rules.specs.declared.fault.AddFault.TheVariants.{NoMemory}

abbrev pub IsRefused : AddFault → Undo → Undo → Result EntryMap AddFault → Type 0
IsRefused NoMemory old new outcome = Unit {0}
IsRefused fault old new outcome = (outcome ≡ Err fault) × (new ≡ old)

-- The outcome is what the definition gives: the new map, or the fault, and then the map is as before. Of an allocation
-- failure nothing is said.
abbrev pub IsOutcome : Result (Unit {0}) AddFault → Undo → Undo → Result EntryMap AddFault → Type 0
IsOutcome (Ok done) old new outcome = (outcome ≡ Ok new.current) × (new ≡ with_current old new.current)
IsOutcome (Err fault) old new outcome = IsRefused fault old new outcome

-- a fault is that of the first test that holds, and the map is as before
abbrev pub IsFound : AddFault → Undo → Undo → Option AddFault → Type 0
IsFound NoMemory old new found = Unit {0}
IsFound fault old new found = (found ≡ Some fault) × (new ≡ old)
