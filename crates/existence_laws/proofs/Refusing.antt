-- What a record is refused for, of what it is, is reported as that.
use Rattle.existence_laws.proofs.Prelude.{ℕ, true, false, List, [], ◌∷◌, map, Option, Some, None, IfSome, Err}
use Rattle.existence_laws.proofs.Prelude.{option_map, subst, slice_get, AllByRecursion, CloseRecord, CloseFault}
use Rattle.existence_laws.proofs.Prelude.{ClosingState, term_tests, term_fault, upgrade_fault, set_fault, record_fault}
use Rattle.existence_laws.proofs.Prelude.{IsRefused, IsClose}
use Rattle.std.specs.Option.{option_or}
use Rattle.close_laws.specs.entry_slots.Tests.{Tests, first_fault}
use Rattle.close_laws.specs.header_chain.Upgrades.{upgrade_in, first_index, is_bad_at, is_out_of_profile}
use Rattle.close_laws.specs.tx_apply.Set.{missing_index}
use Rattle.std.proofs.Common.{if◌then◌else◌}
use Rattle.close_laws.specs.close_rules.declared.close_fault.CloseFault.TheVariants as fault

-- a fault of a record that was read, and not of what it leads to
abbrev IsOfRecord : CloseFault → Type 0
IsOfRecord (fault.BadXdr at kind) = ⊥
IsOfRecord (fault.LedgerFull total) = ⊥
IsOfRecord fault.NoMemory = ⊥
IsOfRecord other = Unit {0}

-- ---- which faults are reported

abbrev IfAny : Option CloseFault → Type 0
IfAny found = IfSome found IsOfRecord

either_of_any : (a b : Option CloseFault) → IfAny a → IfAny b → IfAny (option_or a b)
either_of_any None b own_a own_b = own_b
either_of_any (Some wrong) b own_a own_b = own_a

mapped : (f : ℕ → CloseFault) → ((n : ℕ) → IsOfRecord (f n)) → (o : Option ℕ) → IfAny (option_map f o)
mapped f own None = tt
mapped f own (Some n) = own n

first_fault_of_any : (tests : Tests CloseFault) → AllByRecursion (λ test. IsOfRecord test.1) tests
    → IfAny (first_fault tests)
first_fault_of_any [] own = tt
first_fault_of_any (test ∷ tests) own =
    elim (test.0) as (λ b. IfAny (if b then Some test.1 else first_fault tests)) [
      | true ↦ own.0
      | false ↦ first_fault_of_any tests own.1
    ]

of_terms : (s : ClosingState) (closing : CloseRecord) → IfAny (term_fault s closing)
unfolding term_fault
of_terms s closing = first_fault_of_any (term_tests s closing) (tt, (tt, (tt, (tt, (tt, tt)))))

of_upgrades : (s : ClosingState) (closing : CloseRecord) → IfAny (upgrade_fault s closing)
unfolding upgrade_fault
of_upgrades s closing =
    let asked = map upgrade_in closing.scp_value.upgrades in
    let bad = first_index (is_bad_at asked) asked in
    let out_of_profile = first_index (λ i. is_out_of_profile s.header (slice_get asked i)) asked in
    either_of_any (option_map fault.BadUpgrade bad) (option_map fault.UpgradeOutOfProfile out_of_profile)
    (mapped fault.BadUpgrade (λ n. tt) bad) (mapped fault.UpgradeOutOfProfile (λ n. tt) out_of_profile)

of_set : (s : ClosingState) (closing : CloseRecord) → IfAny (set_fault s closing)
unfolding set_fault
of_set s closing = mapped fault.FeeSourceMissing (λ n. tt) (missing_index s.entries closing.tx_set)

of_record : (s : ClosingState) (closing : CloseRecord) → IfAny (record_fault s closing)
unfolding record_fault
of_record s closing =
    either_of_any (term_fault s closing) (option_or (upgrade_fault s closing) (set_fault s closing))
    (of_terms s closing)
    (either_of_any (upgrade_fault s closing) (set_fault s closing) (of_upgrades s closing) (of_set s closing))

-- ---- how they are reported

shown : (s : ClosingState) (bytes : List ℕ) (wrong : CloseFault) → IsOfRecord wrong → IsRefused s bytes wrong
    → IsClose s bytes (Err wrong)
shown s bytes (fault.BadXdr at kind) own refused = absurd own
shown s bytes (fault.LedgerFull total) own refused = absurd own
shown s bytes fault.NoMemory own refused = absurd own
shown s bytes wrong own refused = refused

pub refusal : (s : ClosingState) (bytes : List ℕ) (wrong : CloseFault) → IsRefused s bytes wrong
    → IsClose s bytes (Err wrong)
refusal s bytes wrong refused =
    let own = subst IfAny refused.2 (of_record s refused.0) in
    shown s bytes wrong own refused
