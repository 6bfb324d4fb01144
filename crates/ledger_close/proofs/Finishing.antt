-- A close that is made of its parts.
use Rattle.ledger_close.proofs.Prelude as prelude
use prelude.{◌≡◌, ℕ, ◌+◌, ◌<◌, ◌≤◌, ℤ, Bool, true, false, List, map, Option, Some, None, Result, Ok, Err, refl, sym, ap}
use prelude.{◌∙◌, subst, if◌then◌else◌, option_or, Hash, LedgerHeader, IsBytes, CloseRecord, ledger_header}
use prelude.{ledger_hash_of, results_hash_of, EntryMap, Pair, LevelsAfter, list_hash, file_total, upgrade_in}
use prelude.{all_upgraded, finished, CloseFault, ClosingState, record_in, term_fault, upgrade_fault, PreparedClose}
use prelude.{IsClosed, applied_in, result_set, filled_header, upgraded_header, IsClosable, Worked, filled, Leaves}
use prelude.{IsLeveled, IsClosedBy, Answers, terms_of, state_of, entries_after}
use Rattle.value_hashes.specs.xdr_results.Results.{transaction_result_set}
use Rattle.ledger_types.proofs.Arithmetic.{less_from_unequal}
use Rattle.ledger_types.specs.declared.header.StellarValue.{StellarValue}
use Rattle.op_types.specs.declared.transaction_result.TransactionResultSet.{TransactionResultSet}
use Rattle.op_types.specs.declared.transaction_result.TransactionResultPair.{TransactionResultPair}
use Rattle.close_rules.specs.declared.close_fault.CloseFault.TheVariants as fault
use Rattle.close_laws.specs.Results.{ResultsAreEncoded}
use Rattle.close_laws.specs.Header.{NextHeaderIsEncoded}
use Rattle.close_laws.proofs.Digests.{hash_encoded}
use Rattle.ledger_close.specs.declared.heading.Given.{Given}
use Rattle.ledger_close.proofs.Parts.{fills, of_bytes}

-- ---- the header

-- what a close gives the header
abbrev given_by : ClosingState → CloseRecord → Given
given_by s closing = record {
  previous_ledger_hash = (filled_header s closing).previous_ledger_hash;
  scp_value = (filled_header s closing).scp_value;
  ledger_seq = (filled_header s closing).ledger_seq;
  tx_set_result_hash = (filled_header s closing).tx_set_result_hash;
  fee_pool = (filled_header s closing).fee_pool;
  id_pool = (filled_header s closing).id_pool;
}

-- the upgraded header is filled in
pub filled_in : (s : ClosingState) (closing : CloseRecord)
    → filled (given_by s closing) (all_upgraded s.header (map upgrade_in closing.scp_value.upgrades))
    ≡ upgraded_header s closing
filled_in s closing = fills (given_by s closing) s.header (map upgrade_in closing.scp_value.upgrades)

same_given : (p q : Hash) (v w : StellarValue) (n m : ℕ) (r t : Hash) (f g : ℤ) (i j : ℕ) → p ≡ q → v ≡ w → n ≡ m
    → r ≡ t → f ≡ g → i ≡ j
    → (let a : Given = record {
      previous_ledger_hash = p;
      scp_value = v;
      ledger_seq = n;
      tx_set_result_hash = r;
      fee_pool = f;
      id_pool = i;
    } in a)
    ≡ (let b : Given = record {
      previous_ledger_hash = q;
      scp_value = w;
      ledger_seq = m;
      tx_set_result_hash = t;
      fee_pool = g;
      id_pool = j;
    } in b)
same_given p q v w n m r t f g i j e1 e2 e3 e4 e5 e6 = cc

pub headed : (s : ClosingState) (closing : CloseRecord) (given : Given) (next : LedgerHeader)
    → given.previous_ledger_hash ≡ ledger_hash_of s.header → given.scp_value ≡ closing.scp_value
    → given.ledger_seq ≡ s.header.ledger_seq + 1
    → given.tx_set_result_hash ≡ results_hash_of (result_set (applied_in s closing).results)
    → given.fee_pool ≡ (given_by s closing).fee_pool → given.id_pool ≡ (applied_in s closing).id_pool
    → next ≡ all_upgraded s.header (map upgrade_in closing.scp_value.upgrades)
    → filled given next ≡ upgraded_header s closing
headed s closing given next e1 e2 e3 e4 e5 e6 is =
    let same : given ≡ given_by s closing = same_given _ _ _ _ _ _ _ _ _ _ _ _ e1 e2 e3 e4 e5 e6 in
    ap (λ (g : Given). filled g next) same ∙ ap (filled (given_by s closing)) is ∙ filled_in s closing

-- ---- the close

pub closes : (s : ClosingState) (closing : CloseRecord) (worked : Worked) (step : LevelsAfter) → Leaves s closing worked
    → IsLeveled s (all_upgraded s.header (map upgrade_in closing.scp_value.upgrades)).ledger_version
    (entries_after s worked) step
    → IsClosed s closing (record {
      results = worked.done.results.results;
      state = state_of s.network (finished (upgraded_header s closing) (list_hash step.pairs)) step.pairs
          (entries_after s worked);
    })
closes s closing worked step leaves leveled = record {
  results = leaves.done.results;
  network = refl;
  entries = leaves.entries;
  fresh = leveled.fresh;
  recorded = record {
    meta = leveled.meta ∙ ap (λ (h : LedgerHeader). Some h.ledger_version) (filled_in s closing);
    changes = leveled.changes;
  };
  levels = leveled.levels;
  header = refl;
}

-- ---- what can be written

pub results_encoded : ResultsAreEncoded → (s : ClosingState) (closing : CloseRecord) (results : TransactionResultSet)
    → IsClosable s closing → results.results ≡ (applied_in s closing).results → transaction_result_set.within results
results_encoded law s closing results can is =
    subst (λ pairs. transaction_result_set.within (result_set pairs)) (sym is) (law s closing can)

pub header_encoded : NextHeaderIsEncoded → (s : ClosingState) (closing : CloseRecord) (step : LevelsAfter)
    (header : LedgerHeader) → IsClosable s closing
    → header ≡ finished (upgraded_header s closing) (list_hash step.pairs) → ledger_header.within header
header_encoded law s closing step header can is =
    subst (λ h. ledger_header.within h) (sym is)
    (law s closing (list_hash step.pairs) can (hash_encoded _)).within

-- ---- numbers

if_some_none_false : (b : Bool) (f : CloseFault) (rest : Option CloseFault) → (if b then Some f else rest) ≡ None
    → b ≡ false
if_some_none_false true f rest e = absurd (cc)
if_some_none_false false f rest e = refl

no_term : (a b : Option CloseFault) → option_or a b ≡ None → a ≡ None
no_term None b e = refl
no_term (Some f) b e = absurd (cc)

pub seq_by_terms : (s : ClosingState) (closing : CloseRecord) → terms_of s closing ≡ None
    → s.header.ledger_seq ≤ 2147483647 → s.header.ledger_seq < 2147483647
unfolding term_fault
seq_by_terms s closing none le =
    less_from_unequal s.header.ledger_seq 2147483647 le
    (if_some_none_false _ _ _ (no_term (term_fault s closing) (upgrade_fault s closing) none))

-- ---- bytes

pub answered : (s : ClosingState) (bytes : List ℕ) (closing : CloseRecord) (answer : Result PreparedClose CloseFault)
    → IsBytes bytes → record_in bytes ≡ Ok closing → IsClosedBy s closing answer → Answers s bytes answer
answered s bytes closing (Ok closed) text reads is = (
  file_total closed.state.levels,
  record {
    taken = record { closing = closing; text = text; reads = reads; unrefused = is.0 };
    closes = is.1.0;
    files = refl;
  },
  is.1.1,
)
answered s bytes closing (Err (fault.BadXdr at kind)) text reads is = absurd (of_bytes s closing at kind is)
answered s bytes closing (Err fault.SeqEnd) text reads is = (closing, reads, is)
answered s bytes closing (Err (fault.WrongSeq want given)) text reads is = (closing, reads, is)
answered s bytes closing (Err (fault.WrongPrevious have given)) text reads is = (closing, reads, is)
answered s bytes closing (Err (fault.WrongSetHash have given)) text reads is = (closing, reads, is)
answered s bytes closing (Err (fault.StaleTime last given)) text reads is = (closing, reads, is)
answered s bytes closing (Err (fault.BadUpgrade index)) text reads is = (closing, reads, is)
answered s bytes closing (Err (fault.UpgradeOutOfProfile index)) text reads is = (closing, reads, is)
answered s bytes closing (Err (fault.FeeSourceMissing index)) text reads is = (closing, reads, is)
answered s bytes closing (Err (fault.LedgerFull total)) text reads is = (
  is.1.0,
  record {
    taken = record { closing = closing; text = text; reads = reads; unrefused = is.0 };
    closes = is.1.1;
    files = is.1.2;
  },
  is.1.3,
)
answered s bytes closing (Err fault.NoMemory) text reads is = tt

-- ---- the entire close

abbrev pub closed_with : List TransactionResultPair → Hash → LedgerHeader → EntryMap → List Pair → PreparedClose
closed_with results network h m levels = record { results = results; state = state_of network h levels m }
