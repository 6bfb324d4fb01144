-- Why a record is refused before its set is applied: the first condition that holds, in this order (LedgerManagerImpl
-- and HerderSCPDriver in stellar-core; the names and the order are this ledger's own).
use Rattle.std.specs.Prelude.{ℕ, ◌+◌, nat_eq, nat_le, Bool, not, List, [], ◌∷◌, map, slice_get, Option}
use Rattle.std.specs.Prelude.{option_map, Result, Ok, Err}
use Rattle.std.specs.Option.{option_or}
use Rattle.std.specs.Str.{bytes_eq}
use Rattle.ledger_types.specs.declared.ids.Hash.{Hash}
use Rattle.xdr_core.specs.declared.fault.XdrFault.{XdrFault}
use Rattle.xdr_core.specs.declared.fault.XdrKind.TheVariants.{Trailing}
use Rattle.xdr_core.specs.Position.{Position, start_of, fault_at, ◌>>=◌}
use Rattle.header_chain.specs.xdr_header.declared.record.CloseRecord.{CloseRecord}
use Rattle.header_chain.specs.xdr_header.Records.{close_record}
use Rattle.tx_apply.specs.value_hashes.Hashes.{ledger_hash_of}
use Rattle.tx_apply.specs.entry_slots.Tests.{Tests, first_fault}
use Rattle.tx_apply.specs.fee_rules.SetHash.{hash_of_set}
use Rattle.tx_apply.specs.op_form.Sequences.{last_seq}
use Rattle.header_chain.specs.Upgrades.{upgrade_in, first_index, is_bad_at, is_out_of_profile}
use Rattle.tx_apply.specs.Set.{missing_index}
use Rattle.close_rules.specs.declared.close_fault.CloseFault.{CloseFault}
use Rattle.close_rules.specs.declared.close_fault.CloseFault.TheVariants as fault
use Rattle.close_rules.specs.State.{ClosingState}

-- ---- the record

-- a record after which no byte is left, or the fault at the first byte left over
abbrev pub ended_by : List ℕ → Position → CloseRecord → Result CloseRecord XdrFault
ended_by [] p closing = Ok closing
ended_by (byte ∷ rest) p closing = Err (fault_at p Trailing)

abbrev pub ended : CloseRecord × Position → Result CloseRecord XdrFault
ended x = ended_by x.1.rest x.1 x.0

-- the record that bytes encode, and no more, or the first fault
unfoldable pub record_in : List ℕ → Result CloseRecord XdrFault
record_in bytes = close_record.read (start_of bytes) >>= ended

-- ---- its terms

abbrev pub is_same_hash : Hash → Hash → Bool
is_same_hash a b = bytes_eq a.0 b.0

abbrev pub term_tests : ClosingState → CloseRecord → Tests CloseFault
term_tests s closing =
    (nat_eq s.header.ledger_seq last_seq, fault.SeqEnd)
    ∷ (
      not (nat_eq closing.ledger_seq (s.header.ledger_seq + 1)),
      fault.WrongSeq (s.header.ledger_seq + 1) closing.ledger_seq,
    )
    ∷ (
      not (is_same_hash closing.tx_set.previous_ledger_hash (ledger_hash_of s.header)),
      fault.WrongPrevious (ledger_hash_of s.header) closing.tx_set.previous_ledger_hash,
    )
    ∷ (
      not (is_same_hash closing.scp_value.tx_set_hash (hash_of_set closing.tx_set)),
      fault.WrongSetHash (hash_of_set closing.tx_set) closing.scp_value.tx_set_hash,
    )
    ∷ (
      nat_le closing.scp_value.close_time s.header.scp_value.close_time,
      fault.StaleTime s.header.scp_value.close_time closing.scp_value.close_time,
    )
    ∷ []

unfoldable pub term_fault : ClosingState → CloseRecord → Option CloseFault
term_fault s closing = first_fault (term_tests s closing)

-- ---- its upgrades

-- the index of the first bad upgrade, or else of the first one that isn't made here
abbrev pub upgrade_fault_in : ClosingState → (bad out_of_profile : Option ℕ) → Option CloseFault
upgrade_fault_in s bad out_of_profile =
    option_or (option_map fault.BadUpgrade bad) (option_map fault.UpgradeOutOfProfile out_of_profile)

unfoldable pub upgrade_fault : ClosingState → CloseRecord → Option CloseFault
upgrade_fault s closing =
    let asked = map upgrade_in closing.scp_value.upgrades in
    upgrade_fault_in s (first_index (is_bad_at asked) asked)
    (first_index (λ i. is_out_of_profile s.header (slice_get asked i)) asked)

-- ---- its set

unfoldable pub set_fault : ClosingState → CloseRecord → Option CloseFault
set_fault s closing = option_map fault.FeeSourceMissing (missing_index s.entries closing.tx_set)

-- ---- all of these

unfoldable pub record_fault : ClosingState → CloseRecord → Option CloseFault
record_fault s closing =
    option_or (term_fault s closing) (option_or (upgrade_fault s closing) (set_fault s closing))
