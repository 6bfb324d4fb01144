-- The close of a record, in detail.
use Rattle.reports.proofs.Prelude.{◌≡◌, ◌≤◌, ℕ, List, length, Some, Ok, Err, refl, subst, max_record_len, ClosingState}
use Rattle.reports.proofs.Prelude.{IsClose, PreparedClose}
use Rattle.reports.proofs.Prelude.{RecordClose, IsCloseOf, FileKind, Gathers, IsDetailed, IsGathered, IsGatheredOrNot}
use Rattle.reports.proofs.Prelude.{Closes, Status}
use Rattle.ledger_close.specs.declared.prepared.DetailedClose.{DetailedClose}
use Rattle.ledger_close.specs.Closing.{IsDetail}
use Rattle.ledger_close.specs.States as states
use Rattle.run_outcome.specs.declared.status.Status.TheVariants as status
use Rattle.reports.specs.declared.gathering.Stop.TheVariants as stop

abbrev pub detailed : (s : ClosingState) (bytes : List ℕ) (close : DetailedClose) → length bytes ≤ max_record_len
    → IsClose s bytes (Ok (states.close_of close.prepared)) → IsDetail s bytes close
    → (c : RecordClose) × IsDetailed s close c
detailed s bytes close short closes detail = (
  record { before = s; closing = detail.0; closed = states.close_of close.prepared },
  record {
    bytes = bytes;
    short = short;
    is = record { before = refl; reads = detail.1; closes = closes };
    closed = refl;
    detail = detail.2;
  },
)

-- the close of these bytes
pub close_of : (s : ClosingState) (bytes : List ℕ) (close : DetailedClose) (short : length bytes ≤ max_record_len)
    (closes : IsClose s bytes (Ok (states.close_of close.prepared))) (detail : IsDetail s bytes close)
    → IsCloseOf s bytes (detailed s bytes close short closes detail).0
close_of s bytes close short closes detail = record { before = refl; reads = detail.1; closes = closes }

-- the ledger may take a close of a record
pub installable : (s : ClosingState) (close : DetailedClose) (c : RecordClose) → IsDetailed s close c
    → (bytes : List ℕ) × IsClose s bytes (Ok (states.close_of close.prepared)) × (length bytes ≤ max_record_len)
installable s close c d =
    (d.bytes, subst (λ (p : PreparedClose). IsClose s d.bytes (Ok p)) d.closed d.is.closes, d.short)

-- a close that isn't gathered stops the run
pub ungathered : (kind : FileKind) (old new : Gathers) (s : ClosingState) (bytes : List ℕ) (next : ClosingState)
    (end : Status) (c : RecordClose) → IsCloseOf s bytes c → IsGatheredOrNot kind old new c (Err end)
    → Closes kind old new s bytes next (Some (stop.Ended end))
ungathered kind old new s bytes next status.TooLarge c is h = (c, is, h)
ungathered kind old new s bytes next status.NoMemory c is h = tt
ungathered kind old new s bytes next status.Done c is h = absurd h
ungathered kind old new s bytes next status.Usage c is h = absurd h
ungathered kind old new s bytes next status.Refused c is h = absurd h
ungathered kind old new s bytes next status.ReadFault c is h = absurd h
ungathered kind old new s bytes next status.WriteFault c is h = absurd h
ungathered kind old new s bytes next status.DiskFault c is h = absurd h
ungathered kind old new s bytes next (status.BadStore file place) c is h = absurd h
ungathered kind old new s bytes next (status.BadInput at) c is h = absurd h
ungathered kind old new s bytes next (status.BadImage rule) c is h = absurd h
ungathered kind old new s bytes next status.Missing c is h = absurd h
ungathered kind old new s bytes next status.AlreadyThere c is h = absurd h
