use Rattle.gate_journal.proofs.OneList.{records_are_one, offsets_are_one, never_both}
use Rattle.gate_journal.proofs.laws.journals_are_one.Goals as goal

pub returns-clause-records : goal.returns-clause-records
returns-clause-records c = records_are_one

pub returns-clause-offsets : goal.returns-clause-offsets
returns-clause-offsets c = offsets_are_one

pub returns-clause-never_both : goal.returns-clause-never_both
returns-clause-never_both c = never_both
