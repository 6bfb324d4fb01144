-- What the parts of a close answer.
use Rattle.std.specs.Prelude.{◌≡◌, ℕ, List, map, Option, Some, None, Result, Ok, Err}
use Rattle.std.specs.Option.{option_or}
use Rattle.ledger_types.specs.declared.header.LedgerHeader.{LedgerHeader}
use Rattle.xdr_core.specs.declared.fault.XdrFault.{XdrFault}
use Rattle.xdr_header.specs.declared.record.CloseRecord.{CloseRecord}
use Rattle.xdr_header.specs.declared.image.StartImage.{StartImage}
use Rattle.xdr_header.specs.Records.{close_record}
use Rattle.ledger_types.specs.declared.ids.Hash.{Hash}
use Rattle.header_chain.specs.Upgrades.{upgrade_in, all_upgraded}
use Rattle.close_laws.specs.tx_apply.declared.fault.SetFault.{SetFault}
use Rattle.close_laws.specs.tx_apply.declared.fault.SetFault.TheVariants as set
use Rattle.close_rules.specs.declared.close_fault.CloseFault.{CloseFault}
use Rattle.close_rules.specs.declared.close_fault.CloseFault.TheVariants as fault
use Rattle.close_rules.specs.declared.image_fault.ImageFault.{ImageFault}
use Rattle.close_rules.specs.declared.image_fault.ImageFault.TheVariants as image
use Rattle.close_rules.specs.State.{ClosingState, IsEncoded}
use Rattle.close_rules.specs.Refusals.{record_in, term_fault, upgrade_fault}
use Rattle.close_rules.specs.Close.{PreparedClose, IsClose}
use Rattle.close_rules.specs.Images.{IsJudged}
use Rattle.fee_rules.specs.Turns.{apply_order_of}
use Rattle.ledger_close.specs.States.{LedgerAt}
use Rattle.ledger_close.specs.declared.refusals.Judged.{Judged}

-- An allocation failure is always allowed; every other fault is the one that a definition names.
abbrev pub FaultIs : CloseFault → (CloseFault → Type 0) → Type 0
FaultIs fault.NoMemory P = Unit {0}
FaultIs wrong P = P wrong

-- the fault of bytes that are no record
abbrev pub bad_record : XdrFault → CloseFault
bad_record wrong = fault.BadXdr wrong.at wrong.kind

-- the bytes were read as a record, or shown to be none
abbrev pub IsRead : List ℕ → Result CloseRecord CloseFault → Type 0
IsRead bytes (Ok closing) = (record_in bytes ≡ Ok closing) × IsEncoded close_record closing
IsRead bytes (Err (fault.BadXdr at kind)) = record_in bytes ≡ Err (record { at = at; kind = kind })
IsRead bytes (Err fault.NoMemory) = Unit {0}
IsRead bytes (Err other) = ⊥

-- a fault of a record by its terms, or none
abbrev pub terms_of : ClosingState → CloseRecord → Option CloseFault
terms_of s closing = option_or (term_fault s closing) (upgrade_fault s closing)

-- the upgrades of a record were judged, and made
abbrev pub IsUpgradedIn : ClosingState → CloseRecord → Result LedgerHeader CloseFault → Type 0
IsUpgradedIn s closing (Ok next) =
    (upgrade_fault s closing ≡ None) × (next ≡ all_upgraded s.header (map upgrade_in closing.scp_value.upgrades))
IsUpgradedIn s closing (Err wrong) = upgrade_fault s closing ≡ Some wrong

-- the terms of a record were judged, and the header was upgraded
abbrev pub IsUpgradedBy : ClosingState → CloseRecord → Result LedgerHeader CloseFault → Type 0
IsUpgradedBy s closing (Ok next) =
    (terms_of s closing ≡ None) × (next ≡ all_upgraded s.header (map upgrade_in closing.scp_value.upgrades))
IsUpgradedBy s closing (Err wrong) = FaultIs wrong (λ f. terms_of s closing ≡ Some f)

-- the same, and the order of the record's set was found
abbrev pub IsJudgedBy : ClosingState → CloseRecord → Result Judged CloseFault → Type 0
IsJudgedBy s closing (Ok judged) =
    IsUpgradedBy s closing (Ok judged.next) × (judged.order.items ≡ apply_order_of closing.tx_set)
IsJudgedBy s closing (Err wrong) = IsUpgradedBy s closing (Err wrong)

-- the fault of a close whose set isn't applied
abbrev pub fault_of_set : SetFault → CloseFault
fault_of_set (set.FeeSourceMissing index) = fault.FeeSourceMissing index
fault_of_set set.NoMemory = fault.NoMemory

-- the answer of a complete close
abbrev pub Answers : ClosingState → List ℕ → Result PreparedClose CloseFault → Type 0
Answers s bytes (Ok closed) = IsClose s bytes (Ok closed)
Answers s bytes (Err wrong) = FaultIs wrong (λ f. IsClose s bytes (Err f))

-- the answer to a start image
abbrev pub JudgesImage : Hash → StartImage → Result LedgerAt ImageFault → Type 0
JudgesImage network started (Ok ledger) = IsJudged network started (Ok ledger.state)
JudgesImage network started (Err image.NoMemory) = Unit {0}
JudgesImage network started (Err wrong) = IsJudged network started (Err wrong)
