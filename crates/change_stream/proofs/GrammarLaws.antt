-- The laws of the format of changes.
use Rattle.change_stream.proofs.Prelude.{Change, refl}
use Rattle.xdr_core.proofs.FormatLaws.{Laws, arm_laws, entire_laws, faults_located, found, lawful_of, union_laws}
use Rattle.xdr_core.proofs.FormatLaws.{written, ◌&◌}
use Rattle.xdr_core.proofs.Grammar.{prefix_free}
use Rattle.xdr_core.proofs.Unions.{IsFound}
use Rattle.xdr_entries.proofs.EntryLaws.{ledger_entry_laws}
use Rattle.change_stream.specs.Grammar.{change_arms, change_part, created, one_change, removed, updated}
use Rattle.change_stream.specs.declared.change.Change.TheVariants as change

change_found : (v : Change) → IsFound change_part change_arms v
change_found (change.Created a) = found created a (entire_laws ledger_entry_laws) tt refl refl (λ _ _ _. refl)
change_found (change.Updated b a) =
    found updated (b, a) (entire_laws ledger_entry_laws & entire_laws ledger_entry_laws) tt refl refl (λ _ _ _. refl)
change_found (change.Removed b) = found removed b (entire_laws ledger_entry_laws) tt refl refl (λ _ _ _. refl)

pub change_laws : Laws one_change
unfolding one_change
change_laws = union_laws (
  arm_laws (entire_laws ledger_entry_laws) (λ x. refl),
  (
    arm_laws (entire_laws ledger_entry_laws & entire_laws ledger_entry_laws) (λ x. refl),
    (arm_laws (entire_laws ledger_entry_laws) (λ x. refl), tt),
  ),
)
    change_found

pub ruleset change_written = (written, change_laws)

pub ruleset all_laws = (prefix_free, lawful_of, faults_located, change_laws)
