-- The lines that the program prints for transactions, closed ledgers, refused records and samples.
use Rattle.std.specs.Prelude.{ℕ, ◌+◌, List, [], ◌∷◌, ◌++◌, length, count_by, codes, Bool, true, false}
use Rattle.std.specs.List.{flat_map}
use Rattle.std.specs.Fmt.{decimal, signed_decimal}
use Rattle.hex.specs.Hex.{encode_lower}
use Rattle.close_rules.specs.ledger_types.declared.ids.Hash.{Hash}
use Rattle.close_rules.specs.ledger_types.declared.header.LedgerHeader.{LedgerHeader}
use Rattle.close_rules.specs.xdr_core.declared.fault.XdrKind.{XdrKind}
use Rattle.close_rules.specs.xdr_core.declared.fault.XdrKind.TheVariants as kind
use Rattle.close_rules.specs.op_types.declared.transaction_result.TransactionOutcome.{TransactionOutcome}
use Rattle.close_rules.specs.op_types.declared.transaction_result.TransactionOutcome.TheVariants as outcome
use Rattle.close_rules.specs.op_types.declared.transaction_result.TransactionResultPair.{TransactionResultPair}
use Rattle.close_rules.specs.op_types.Codes.{outcome_code}
use Rattle.close_rules.specs.value_hashes.Hashes.{ledger_hash_of}
use Rattle.close_rules.specs.declared.close_fault.CloseFault.{CloseFault}
use Rattle.close_rules.specs.declared.close_fault.CloseFault.TheVariants as fault
use Rattle.run_outcome.specs.Statuses.{ended_line}

-- a space before it
abbrev pub spaced : List ℕ → List ℕ
spaced text = 32 ∷ text

abbrev pub hash_text : Hash → List ℕ
hash_text digest = encode_lower digest.0

-- ---- closed ledgers

-- `tx <hash> <fee charged> <code>`
unfoldable pub tx_line : TransactionResultPair → List ℕ
tx_line pair =
    ended_line
    (codes "tx " ++ hash_text pair.transaction_hash ++ spaced (signed_decimal pair.result.fee_charged)
    ++ spaced (signed_decimal (outcome_code pair.result.outcome)))

-- whether a transaction succeeded: its code is 0 or 1
abbrev pub is_success : TransactionOutcome → Bool
is_success (outcome.Success results) = true
is_success (outcome.FeeBumpInnerSuccess pair) = true
is_success other = false

abbrev pub success_count : List TransactionResultPair → ℕ
success_count pairs = count_by (λ pair. is_success pair.result.outcome) pairs

-- `closed <ledger> <hash of its header> <transactions> <those that succeeded>`
unfoldable pub closed_line : LedgerHeader → List TransactionResultPair → List ℕ
closed_line header pairs =
    ended_line
    (codes "closed " ++ decimal header.ledger_seq ++ spaced (hash_text (ledger_hash_of header))
    ++ spaced (decimal (length pairs)) ++ spaced (decimal (success_count pairs)))

-- what is printed of a closed ledger
unfoldable pub closed_lines : LedgerHeader → List TransactionResultPair → List ℕ
closed_lines header pairs = flat_map tx_line pairs ++ closed_line header pairs

-- `end <ledger> <hash of its header>`, at the end of the input
unfoldable pub end_line : LedgerHeader → List ℕ
end_line header = ended_line (codes "end " ++ decimal header.ledger_seq ++ spaced (hash_text (ledger_hash_of header)))

-- ---- a ledger that is shown

-- `ledger <ledger> <hash of its header>`
unfoldable pub ledger_line : LedgerHeader → List ℕ
ledger_line header =
    ended_line (codes "ledger " ++ decimal header.ledger_seq ++ spaced (hash_text (ledger_hash_of header)))

-- `epoch <epoch> records <records after its image>`
unfoldable pub epoch_line : (epoch records : ℕ) → List ℕ
epoch_line epoch records = ended_line (codes "epoch " ++ decimal epoch ++ codes " records " ++ decimal records)

-- `lumens <all that there are> <fees of them>`
unfoldable pub lumens_line : LedgerHeader → List ℕ
lumens_line header =
    ended_line (codes "lumens" ++ spaced (signed_decimal header.total_coins) ++ spaced (signed_decimal header.fee_pool))

-- `entries <entries>`
unfoldable pub entries_line : (entries : ℕ) → List ℕ
entries_line entries = ended_line (codes "entries " ++ decimal entries)

unfoldable pub shown_lines : LedgerHeader → (epoch records entries : ℕ) → List ℕ
shown_lines header epoch records entries =
    ledger_line header ++ epoch_line epoch records ++ lumens_line header ++ entries_line entries

-- ---- a sample

-- `sample <seed> <ledgers> <hash of the last header> <transactions> <those that succeeded>`
unfoldable pub sample_line : (seed ledgers : ℕ) → LedgerHeader → (transactions successes : ℕ) → List ℕ
sample_line seed ledgers header transactions successes =
    ended_line
    (codes "sample" ++ spaced (decimal seed) ++ spaced (decimal ledgers) ++ spaced (hash_text (ledger_hash_of header))
    ++ spaced (decimal transactions) ++ spaced (decimal successes))

-- ---- refused records

abbrev pub kind_name : XdrKind → List ℕ
kind_name kind.Short = codes "Short"
kind_name kind.Padding = codes "Padding"
kind_name kind.BadEnum = codes "BadEnum"
kind_name kind.BadFlag = codes "BadFlag"
kind_name kind.TooLong = codes "TooLong"
kind_name kind.BadMark = codes "BadMark"
kind_name kind.Trailing = codes "Trailing"
kind_name kind.TooDeep = codes "TooDeep"

-- the name of a fault and its values, each after a space (memory is no fault of a record)
unfoldable pub fault_text : CloseFault → List ℕ
fault_text (fault.BadXdr at kind) = codes "BadXdr" ++ spaced (decimal at) ++ spaced (kind_name kind)
fault_text fault.SeqEnd = codes "SeqEnd"
fault_text (fault.WrongSeq want given) = codes "WrongSeq" ++ spaced (decimal want) ++ spaced (decimal given)
fault_text (fault.WrongPrevious have given) =
    codes "WrongPrevious" ++ spaced (hash_text have) ++ spaced (hash_text given)
fault_text (fault.WrongSetHash have given) = codes "WrongSetHash" ++ spaced (hash_text have) ++ spaced (hash_text given)
fault_text (fault.StaleTime last given) = codes "StaleTime" ++ spaced (decimal last) ++ spaced (decimal given)
fault_text (fault.BadUpgrade index) = codes "BadUpgrade" ++ spaced (decimal index)
fault_text (fault.UpgradeOutOfProfile index) = codes "UpgradeOutOfProfile" ++ spaced (decimal index)
fault_text (fault.FeeSourceMissing index) = codes "FeeSourceMissing" ++ spaced (decimal index)
fault_text (fault.LedgerFull bytes) = codes "LedgerFull" ++ spaced (decimal bytes)
fault_text fault.NoMemory = []

-- `refused <number of the ledger that wasn't closed> <fault> <its values>`
unfoldable pub refused_line : LedgerHeader → CloseFault → List ℕ
refused_line header wrong =
    ended_line (codes "refused " ++ decimal (header.ledger_seq + 1) ++ spaced (fault_text wrong))
