-- The records at the start of a file, one more at a time.
use Rattle.gate_journal.proofs.Prelude.{◌≡◌, ℕ, ◌+◌, ◌≤◌, List, [], ◌∷◌, ◌++◌, length, drop, refl, sym, ◌∙◌, ap, arith}
use Rattle.gate_journal.proofs.Prelude.{append_assoc, length-append, Err, drop-drop, append-nil, All-push, All-nil}
use Rattle.gate_journal.proofs.Prelude.{max_record, block, blocks, BeginWith, IsShut, HasRecords, IsMountFault}
use Rattle.gate_journal.proofs.Prelude.{ReportsBroken, ReportsRecords}
use Rattle.gate_journal.specs.declared.fault.StoreFault.{StoreFault}
use Rattle.gate_journal.specs.declared.fault.StoreFault.TheVariants as fault

pub blocks_push : (records : List (List ℕ)) (bytes : List ℕ)
    → blocks (records ++ bytes ∷ []) ≡ blocks records ++ block bytes
blocks_push [] bytes = append-nil (block bytes)
blocks_push (one ∷ records) bytes =
    ap (λ (l : List ℕ). block one ++ l) (blocks_push records bytes)
    ∙ sym (append_assoc (block one) (blocks records) (block bytes))

-- these records were read, up to this offset
pub record ReadTo (file : List ℕ) (records : List (List ℕ)) (end : ℕ) : Type 0 where
  pub first : BeginWith file records (drop end file)
  pub offset : end ≡ length (blocks records)

pub read_none : (file : List ℕ) → ReadTo file [] 0
read_none file = record {
  first =
      record { cut = refl; short = All-nil (λ (bytes : List ℕ). length bytes ≤ max_record) };
  offset = refl;
}

pub read_one : (file : List ℕ) (records : List (List ℕ)) (bytes : List ℕ) (end next : ℕ) → ReadTo file records end
    → length bytes ≤ max_record → drop end file ≡ block bytes ++ drop (5 + length bytes) (drop end file)
    → next ≡ end + (5 + length bytes)
    → ReadTo file (records ++ bytes ∷ []) next
read_one file records bytes end next read short there on =
    let rest : drop (5 + length bytes) (drop end file) ≡ drop next file = drop-drop (5 + length bytes) end file
    ∙ ap (λ (n : ℕ). drop n file) (sym on) in
    record {
      first = record {
        cut = read.first.cut ∙ ap (λ (l : List ℕ). blocks records ++ l) there
            ∙ sym (append_assoc (blocks records) (block bytes) _)
            ∙ ap (λ (l : List ℕ). (blocks records ++ block bytes) ++ l) rest
            ∙ ap (λ (l : List ℕ). l ++ drop next file) (sym (blocks_push records bytes));
        short = All-push (λ (l : List ℕ). length l ≤ max_record) records bytes read.first.short short;
      };
      offset =
          let entire = ap length (blocks_push records bytes) ∙ length-append (blocks records) (block bytes) in
          omega (arith, entire, on, read.offset);
    }

pub read_all : (file : List ℕ) (records : List (List ℕ)) (end : ℕ) → ReadTo file records end → IsShut (drop end file)
    → HasRecords file records
read_all file records end read shut = (drop end file, read.first, shut)

-- a fault of what follows them
pub read_broken : (number : ℕ) (file : List ℕ) (records : List (List ℕ)) (end : ℕ) (wrong : StoreFault)
    → ReadTo file records end
    → ReportsBroken number end (drop end file) wrong → ReportsRecords number file (Err wrong)
read_broken number file records end (fault.BadStore bad at) read (same, offset, broken) =
    (same, (records, drop end file, read.first, broken, offset ∙ read.offset))
read_broken number file records end fault.DiskFault read reported = tt
read_broken number file records end fault.Failed read reported = tt
read_broken number file records end fault.Missing read reported = tt
read_broken number file records end fault.AlreadyThere read reported = tt
read_broken number file records end fault.NoMemory read reported = tt

-- the cause of a fault of a later call
pub fault_since : (before mid now : ℕ) (wrong : StoreFault) → before ≤ mid → IsMountFault mid now wrong
    → IsMountFault before now wrong
fault_since before mid now (fault.BadStore bad at) later cause = tt
fault_since before mid now fault.DiskFault later cause = omega (arith, later, cause)
fault_since before mid now fault.Failed later cause = cause
fault_since before mid now fault.Missing later cause = cause
fault_since before mid now fault.AlreadyThere later cause = cause
fault_since before mid now fault.NoMemory later cause = tt
