-- What a close says of the state after it.
use Rattle.ledger_close.proofs.Prelude.{◌≡◌, ℕ, ◌+◌, ◌*◌, ◌≤◌, sym, List, length, Ok, ap, ◌∙◌, subst, Contents, IsStep}
use Rattle.ledger_close.proofs.Prelude.{list_hash}
use Rattle.ledger_close.proofs.Prelude.{CloseRecord, ClosingState, IsClosingState, PreparedClose, IsClosed, IsClose}
use Rattle.ledger_close.proofs.Prelude.{next_counts}
use Rattle.close_laws.specs.Closes.{TakenIsClosable, NextIsClosing}
use Rattle.bucket_levels.specs.Meaning.{files_of}
use Rattle.bucket_levels.specs.Spills.{level_count}
use Rattle.page_cache.specs.Pages.{CacheAt}
use Rattle.page_cache.specs.Caches.{contents_in, AreMoved}
use Rattle.page_cache.proofs.Moves.{caches_count, moved_files}

-- the number of the next ledger
pub next_number : (s : ClosingState) (closing : CloseRecord) (closed : PreparedClose) → IsClosed s closing closed
    → closed.state.header.ledger_seq ≡ s.header.ledger_seq + 1
next_number s closing closed closes =
    ap (λ h. h.ledger_seq) closes.header ∙ (next_counts s closing (list_hash closed.state.levels)).ledger_seq

-- a close of a record, which may have so many bytes
abbrev pub IsMade : ClosingState → PreparedClose → Type 0
IsMade s closed = (bytes : List ℕ) × IsClose s bytes (Ok closed) × (length bytes ≤ 16777216)

pub installed_number : (s : ClosingState) (closed : PreparedClose) → IsMade s closed
    → closed.state.header.ledger_seq ≡ s.header.ledger_seq + 1
installed_number s closed by =
    let closes = by.1.1 in next_number s closes.taken.closing closed closes.closes

pub installed_step : (s : ClosingState) (closed : PreparedClose) → IsMade s closed
    → (fresh : Contents) × IsStep (s.header.ledger_seq + 1) fresh s.levels closed.state.levels
installed_step s closed by = (by.1.1.closes.fresh, by.1.1.closes.levels)

pub installed_state : TakenIsClosable → NextIsClosing → (s : ClosingState) (closed : PreparedClose) → IsClosingState s
    → IsMade s closed → IsClosingState closed.state
installed_state closable next s closed state by =
    let closes = by.1.1 in
    next s closes.taken.closing closed (closable s by.0 closes.taken state by.2) closes.closes
    (subst (λ n. n ≤ 536870912) closes.files by.1.2)

-- a cache for each file of the levels
pub caches_of_levels : (s : ClosingState) (caches : List CacheAt) → IsClosingState s
    → contents_in caches ≡ files_of s.levels → length caches ≡ 2 * level_count
caches_of_levels s caches state files =
    caches_count caches s.levels files ∙ ap (λ (n : ℕ). 2 * n) state.count

-- the caches that were moved are those of the files after the close
pub installed_files : (s : ClosingState) (closed : PreparedClose) (old new : List CacheAt) → IsClosingState s
    → contents_in old ≡ files_of s.levels → IsMade s closed
    → AreMoved closed.state.header.ledger_seq closed.state.levels old new
    → contents_in new ≡ files_of closed.state.levels
installed_files s closed old new state files by moved =
    let step = installed_step s closed by in
    moved_files closed.state.header.ledger_seq step.0 s.levels closed.state.levels old new
    (subst (λ (n : ℕ). IsStep n step.0 s.levels closed.state.levels) (sym (installed_number s closed by)) step.1)
    state.count files moved
