-- What parts of a close say of all of it.
use Rattle.ledger_close.proofs.Prelude as prelude
use prelude.{◌≡◌, ℕ, ◌<◌, Bool, true, false, List, [], ◌∷◌, map, length, Option, Some, None, Result, Ok, Err, refl, ap}
use prelude.{◌∙◌, subst, arith, All, All-head, All-tail, All-from_recursion, option_map, slice_get, if◌then◌else◌}
use prelude.{option_or, LedgerHeader, CloseRecord, close_record, stellar_value, upgraded_if, all_upgraded, upgrade_in}
use prelude.{first_index, is_bad_at, is_out_of_profile, missing_index, CloseFault, ClosingState, IsEncoded, term_tests}
use prelude.{term_fault, upgrade_fault, set_fault, record_fault, filled, FaultIs, terms_of, IsUpgradedIn, IsUpgradedBy}
use prelude.{IsFinished, IsClosedBy, PreparedClose}
use Rattle.xdr_core.specs.Combinators.{list}
use Rattle.close_rules.specs.entry_slots.Tests.{Tests, first_fault}
use Rattle.ledger_types.specs.declared.header.LedgerUpgrade.TheVariants as upgrade
use Rattle.ledger_types.specs.declared.header.LedgerUpgrade.{LedgerUpgrade}
use Rattle.xdr_core.specs.declared.fault.XdrKind.{XdrKind}
use Rattle.close_rules.specs.declared.close_fault.CloseFault.TheVariants as fault
use Rattle.ledger_close.specs.declared.heading.Given.{Given}

-- ---- the header

-- upgrades and what a close gives are of other fields
fills_once : (given : Given) (h : LedgerHeader) (asked : Option LedgerUpgrade)
    → filled given (upgraded_if h asked) ≡ upgraded_if (filled given h) asked
fills_once given h None = refl
fills_once given h (Some (upgrade.Version n)) = refl
fills_once given h (Some (upgrade.BaseFee n)) = refl
fills_once given h (Some (upgrade.MaxTxSetSize n)) = refl
fills_once given h (Some (upgrade.BaseReserve n)) = refl
fills_once given h (Some (upgrade.Flags n)) = refl

pub fills : (given : Given) (h : LedgerHeader) (asked : List (Option LedgerUpgrade))
    → filled given (all_upgraded h asked) ≡ all_upgraded (filled given h) asked
fills given h [] = refl
fills given h (first ∷ others) =
    fills given (upgraded_if h first) others ∙ ap (λ x. all_upgraded x others) (fills_once given h first)

-- ---- faults of a record by what it is

-- neither of its bytes, nor of files that are too long, nor of memory
abbrev IsOfRecord : CloseFault → Type 0
IsOfRecord (fault.BadXdr at kind) = ⊥
IsOfRecord (fault.LedgerFull total) = ⊥
IsOfRecord fault.NoMemory = ⊥
IsOfRecord other = Unit {0}

by_test : (b : Bool) (here f : CloseFault) (rest : Option CloseFault) → IsOfRecord here
    → (rest ≡ Some f → IsOfRecord f) → (if b then Some here else rest) ≡ Some f → IsOfRecord f
by_test true here f rest known others is = subst IsOfRecord (cc) known
by_test false here f rest known others is = others is

first_of_record : (tests : Tests CloseFault) (f : CloseFault) → All (λ test. IsOfRecord test.1) tests
    → first_fault tests ≡ Some f → IsOfRecord f
first_of_record [] f known is = absurd (cc)
first_of_record (test ∷ tests) f known is =
    by_test test.0 test.1 f (first_fault tests) (All-head (λ t. IsOfRecord t.1) test tests known)
    (λ e. first_of_record tests f (All-tail (λ t. IsOfRecord t.1) test tests known) e) is

terms_known : (s : ClosingState) (closing : CloseRecord) → All (λ test. IsOfRecord test.1) (term_tests s closing)
terms_known s closing =
    let P : Bool × CloseFault → Type 0 = λ test. IsOfRecord test.1 in
    All-from_recursion P (term_tests s closing) (tt, (tt, (tt, (tt, (tt, tt)))))

terms_of_record : (s : ClosingState) (closing : CloseRecord) (f : CloseFault) → term_fault s closing ≡ Some f
    → IsOfRecord f
unfolding term_fault
terms_of_record s closing f is = first_of_record (term_tests s closing) f (terms_known s closing) is

mapped_of_record : (make : ℕ → CloseFault) (a : Option ℕ) (f : CloseFault) → ((n : ℕ) → IsOfRecord (make n))
    → option_map make a ≡ Some f → IsOfRecord f
mapped_of_record make (Some n) f known is = subst IsOfRecord (cc) (known n)
mapped_of_record make None f known is = absurd (cc)

either_of_record : (a b : Option CloseFault) (f : CloseFault) → (a ≡ Some f → IsOfRecord f)
    → (b ≡ Some f → IsOfRecord f)
    → option_or a b ≡ Some f → IsOfRecord f
either_of_record (Some x) b f p q is = p is
either_of_record None b f p q is = q is

upgrades_of_record : (s : ClosingState) (closing : CloseRecord) (f : CloseFault) → upgrade_fault s closing ≡ Some f
    → IsOfRecord f
unfolding upgrade_fault
upgrades_of_record s closing f is =
    let asked = map upgrade_in closing.scp_value.upgrades in
    let bad = first_index (is_bad_at asked) asked in
    let out_of_profile = first_index (λ i. is_out_of_profile s.header (slice_get asked i)) asked in
    either_of_record (option_map fault.BadUpgrade bad) (option_map fault.UpgradeOutOfProfile out_of_profile) f
    (mapped_of_record fault.BadUpgrade bad f (λ n. tt))
    (mapped_of_record fault.UpgradeOutOfProfile out_of_profile f (λ n. tt)) is

set_of_record : (s : ClosingState) (closing : CloseRecord) (f : CloseFault) → set_fault s closing ≡ Some f
    → IsOfRecord f
unfolding set_fault
set_of_record s closing f is =
    mapped_of_record fault.FeeSourceMissing (missing_index s.entries closing.tx_set) f (λ n. tt) is

of_record : (s : ClosingState) (closing : CloseRecord) (f : CloseFault) → record_fault s closing ≡ Some f
    → IsOfRecord f
unfolding record_fault
of_record s closing f is =
    either_of_record (term_fault s closing) (option_or (upgrade_fault s closing) (set_fault s closing)) f
    (terms_of_record s closing f)
    (either_of_record (upgrade_fault s closing) (set_fault s closing) f (upgrades_of_record s closing f)
    (set_of_record s closing f))
    is

-- ---- the parts

-- the terms' fault is the record's
by_terms : (s : ClosingState) (closing : CloseRecord) (f : CloseFault) → terms_of s closing ≡ Some f
    → record_fault s closing ≡ Some f
unfolding record_fault
by_terms s closing f is = regroup (term_fault s closing) (upgrade_fault s closing) (set_fault s closing) is
  where
    regroup : (a b c : Option CloseFault) → option_or a b ≡ Some f → option_or a (option_or b c) ≡ Some f
    regroup (Some x) b c h = h
    regroup None (Some y) c h = h
    regroup None None c h = absurd (cc)

-- and so is the set's where there is none of the terms
pub by_set : (s : ClosingState) (closing : CloseRecord) (o : Option CloseFault) → terms_of s closing ≡ None
    → set_fault s closing ≡ o → record_fault s closing ≡ o
unfolding record_fault
by_set s closing o none is = regroup (term_fault s closing) (upgrade_fault s closing) (set_fault s closing) none is
  where
    regroup : (a b c : Option CloseFault) → option_or a b ≡ None → c ≡ o → option_or a (option_or b c) ≡ o
    regroup (Some x) b c h k = absurd (cc)
    regroup None (Some y) c h k = absurd (cc)
    regroup None None c h k = k

-- a fault that is the record's
refused : (s : ClosingState) (closing : CloseRecord) (f : CloseFault) → record_fault s closing ≡ Some f
    → IsClosedBy s closing (Err f)
refused s closing (fault.BadXdr at kind) is = is
refused s closing fault.SeqEnd is = is
refused s closing (fault.WrongSeq want given) is = is
refused s closing (fault.WrongPrevious have given) is = is
refused s closing (fault.WrongSetHash have given) is = is
refused s closing (fault.StaleTime last given) is = is
refused s closing (fault.BadUpgrade index) is = is
refused s closing (fault.UpgradeOutOfProfile index) is = is
refused s closing (fault.FeeSourceMissing index) is = is
refused s closing (fault.LedgerFull total) is = absurd (of_record s closing (fault.LedgerFull total) is)
refused s closing fault.NoMemory is = tt

by_cause : (s : ClosingState) (closing : CloseRecord) (f : CloseFault) (P : CloseFault → Type 0) → FaultIs f P
    → ((g : CloseFault) → P g → record_fault s closing ≡ Some g) → IsClosedBy s closing (Err f)
by_cause s closing (fault.BadXdr at kind) P is known = refused s closing (fault.BadXdr at kind) (known _ is)
by_cause s closing fault.SeqEnd P is known = refused s closing fault.SeqEnd (known _ is)
by_cause s closing (fault.WrongSeq want given) P is known = refused s closing (fault.WrongSeq want given) (known _ is)
by_cause s closing (fault.WrongPrevious have given) P is known =
    refused s closing (fault.WrongPrevious have given) (known _ is)
by_cause s closing (fault.WrongSetHash have given) P is known =
    refused s closing (fault.WrongSetHash have given) (known _ is)
by_cause s closing (fault.StaleTime last given) P is known = refused s closing (fault.StaleTime last given) (known _ is)
by_cause s closing (fault.BadUpgrade index) P is known = refused s closing (fault.BadUpgrade index) (known _ is)
by_cause s closing (fault.UpgradeOutOfProfile index) P is known =
    refused s closing (fault.UpgradeOutOfProfile index) (known _ is)
by_cause s closing (fault.FeeSourceMissing index) P is known =
    refused s closing (fault.FeeSourceMissing index) (known _ is)
by_cause s closing (fault.LedgerFull total) P is known = refused s closing (fault.LedgerFull total) (known _ is)
by_cause s closing fault.NoMemory P is known = tt

pub by_terms_refused : (s : ClosingState) (closing : CloseRecord) (f : CloseFault)
    → FaultIs f (λ g. terms_of s closing ≡ Some g) → IsClosedBy s closing (Err f)
by_terms_refused s closing f is =
    by_cause s closing f (λ g. terms_of s closing ≡ Some g) is (λ g e. by_terms s closing g e)

pub by_set_refused : (s : ClosingState) (closing : CloseRecord) (f : CloseFault) → terms_of s closing ≡ None
    → FaultIs f (λ g. set_fault s closing ≡ Some g) → IsClosedBy s closing (Err f)
by_set_refused s closing f none is =
    by_cause s closing f (λ g. set_fault s closing ≡ Some g) is (λ g e. by_set s closing (Some g) none e)

-- a record that isn't refused for what it is goes on
pub goes_on : (s : ClosingState) (closing : CloseRecord) (answer : Result PreparedClose CloseFault)
    → record_fault s closing ≡ None → IsFinished s closing answer → IsClosedBy s closing answer
goes_on s closing (Ok closed) none is = (none, is)
goes_on s closing (Err (fault.BadXdr at kind)) none is = absurd is
goes_on s closing (Err fault.SeqEnd) none is = absurd is
goes_on s closing (Err (fault.WrongSeq want given)) none is = absurd is
goes_on s closing (Err (fault.WrongPrevious have given)) none is = absurd is
goes_on s closing (Err (fault.WrongSetHash have given)) none is = absurd is
goes_on s closing (Err (fault.StaleTime last given)) none is = absurd is
goes_on s closing (Err (fault.BadUpgrade index)) none is = absurd is
goes_on s closing (Err (fault.UpgradeOutOfProfile index)) none is = absurd is
goes_on s closing (Err (fault.FeeSourceMissing index)) none is = absurd is
goes_on s closing (Err (fault.LedgerFull total)) none is = (none, is)
goes_on s closing (Err fault.NoMemory) none is = tt

-- ---- upgrades

-- a definition's fault is one
any_fault : (f : CloseFault) (P : CloseFault → Type 0) → P f → FaultIs f P
any_fault (fault.BadXdr at kind) P h = h
any_fault fault.SeqEnd P h = h
any_fault (fault.WrongSeq want given) P h = h
any_fault (fault.WrongPrevious have given) P h = h
any_fault (fault.WrongSetHash have given) P h = h
any_fault (fault.StaleTime last given) P h = h
any_fault (fault.BadUpgrade index) P h = h
any_fault (fault.UpgradeOutOfProfile index) P h = h
any_fault (fault.FeeSourceMissing index) P h = h
any_fault (fault.LedgerFull total) P h = h
any_fault fault.NoMemory P h = tt

option_or_second : (a b o : Option CloseFault) → a ≡ None → b ≡ o → option_or a b ≡ o
option_or_second None b o e is = is
option_or_second (Some x) b o e is = absurd (cc)

first_is : (a b : Option CloseFault) (f : CloseFault) → a ≡ Some f → option_or a b ≡ Some f
first_is (Some x) b f e = e
first_is None b f e = absurd (cc)

-- a fault of the terms that come first
pub termed : (s : ClosingState) (closing : CloseRecord) (f : CloseFault) → term_fault s closing ≡ Some f
    → FaultIs f (λ g. terms_of s closing ≡ Some g)
termed s closing f is =
    any_fault f (λ g. terms_of s closing ≡ Some g) (first_is (term_fault s closing) (upgrade_fault s closing) f is)

pub upgraded_by : (s : ClosingState) (closing : CloseRecord) (answer : Result LedgerHeader CloseFault)
    → term_fault s closing ≡ None → IsUpgradedIn s closing answer → IsUpgradedBy s closing answer
upgraded_by s closing (Ok next) none is =
    (option_or_second (term_fault s closing) (upgrade_fault s closing) None none is.0, is.1)
upgraded_by s closing (Err wrong) none is =
    any_fault wrong (λ g. terms_of s closing ≡ Some g)
    (option_or_second (term_fault s closing) (upgrade_fault s closing) (Some wrong) none is)

-- a record has at most 6 upgrades
pub upgrades_few : (closing : CloseRecord) → IsEncoded close_record closing
    → length closing.scp_value.upgrades < 4294967296
unfolding close_record stellar_value list
upgrades_few closing encoded = omega (arith, encoded.within.1.1.1.0.1.1.0.0)

-- no fault of a record is one of its bytes
pub of_bytes : (s : ClosingState) (closing : CloseRecord) (at : ℕ) (kind : XdrKind)
    → record_fault s closing ≡ Some (fault.BadXdr at kind) → ⊥
of_bytes s closing at kind is = of_record s closing (fault.BadXdr at kind) is
