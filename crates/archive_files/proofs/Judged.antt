-- From the facts of the records to the verdict on a history.
use Rattle.archive_files.proofs.Prelude.{AreJudged, AreNumbersOf, AreRead, Err, HasFacts, HasFault, Hash, HeaderFact}
use Rattle.archive_files.proofs.Prelude.{History, HistoryFault, IfSome, IsFirstFault, IsJudged, List, Ok, Position}
use Rattle.archive_files.proofs.Prelude.{Reading, RecordFact, Result, Verified, XdrFault, cause_of, header_at, inl}
use Rattle.archive_files.proofs.Prelude.{inr, refl, results_at, set_at, subst, sym, ℕ, ◌≡◌}
use Rattle.xdr_core.specs.declared.read_fault.ReadFault.{ReadFault}
use Rattle.archive_files.specs.Judging.{unread}
use Rattle.archive_files.specs.Screening.{IsScreenedFile}
use Rattle.archive_files.specs.declared.screening.Screened.{Screened}
use Rattle.xdr_core.specs.declared.read_fault.ReadFault.TheVariants as failing
use Rattle.archive_files.specs.declared.history.HistoryFault.TheVariants as fault

module _ (h : History) (before : Hash) (first : ℕ) (headers : List HeaderFact) (sets results : List RecordFact)
    (read : AreRead h headers sets results) where
  refused : (wrong : HistoryFault) → AreJudged headers sets results before first (Err wrong)
      → IsFirstFault h before first wrong
  refused (fault.Xdr f at k) j =
      inr (record { headers = headers; sets = sets; results = results; read = read; why = j })
  refused (fault.Stray f at) j =
      inr (record { headers = headers; sets = sets; results = results; read = read; why = j })
  refused (fault.Seq at v g) j =
      inr (record { headers = headers; sets = sets; results = results; read = read; why = j })
  refused (fault.HeaderHash at) j =
      inr (record { headers = headers; sets = sets; results = results; read = read; why = j })
  refused (fault.Link at) j =
      inr (record { headers = headers; sets = sets; results = results; read = read; why = j })
  refused (fault.SetHash at) j =
      inr (record { headers = headers; sets = sets; results = results; read = read; why = j })
  refused (fault.ResultHash at) j =
      inr (record { headers = headers; sets = sets; results = results; read = read; why = j })
  refused fault.NoMemory j = tt

  -- what was said of the facts is said of the history
  pub judged : (r : Result Verified HistoryFault) → AreJudged headers sets results before first r
      → IsJudged h before first r
  judged (Ok v) j = record {
    headers = headers;
    chain = record {
      sets = sets;
      results = results;
      read = read;
      sets_in_place = j.0;
      results_in_place = j.1;
      linked = j.2;
    };
    closes = j.3;
    last = j.4;
  }
  judged (Err wrong) j = refused wrong j

-- ---- reading the files

pub screened_of : (read : Position → Reading XdrFault RecordFact) (file slice : List ℕ)
    (heads slice_heads : List HeaderFact) (sorted slice_sorted : List ℕ) (s : Screened)
    → slice ≡ file → slice_heads ≡ heads → slice_sorted ≡ sorted
    → AreNumbersOf sorted slice_heads
    → ((hs : List HeaderFact) → AreNumbersOf slice_sorted hs → IsScreenedFile read slice hs s)
    → IsScreenedFile read file heads s
screened_of read file slice heads slice_heads sorted slice_sorted s is heads_are sorted_is are screened =
    subst (λ l. IsScreenedFile read l heads s) is
    (screened heads (subst (λ l. AreNumbersOf l heads) (sym sorted_is) (subst (AreNumbersOf sorted) heads_are are)))

module _ (h : History) (before : Hash) (first : ℕ) where
  -- the third file isn't read
  pub results_unread : (headers : List HeaderFact) (sets : List RecordFact) (failure : ReadFault)
      → HasFacts header_at h.headers headers → HasFacts set_at h.sets sets
      → IfSome (cause_of failure) (HasFault results_at h.results) → IsFirstFault h before first (unread 2 failure)
  results_unread headers sets (failing.Xdr wrong) a b w = inl (inr (inr (refl, (headers, a), (sets, b), w)))
  results_unread headers sets failing.NoMemory a b w = tt
