-- Closes of a ledger are those of an archive, and what is written of them is verified.
use Rattle.reports.proofs.Prelude.{◌≡◌, ◌≢◌, ℕ, ◌+◌, ◌≤◌, List, [], ◌∷◌, ◌++◌, Option, Some, None, Result, Ok, Err, All}
use Rattle.reports.proofs.Prelude.{map}
use Rattle.reports.proofs.Prelude.{length, refl, sym, ap, subst, ◌∙◌, arith, append-nil, ClosingState, RecordClose}
use Rattle.reports.proofs.Prelude.{IsCloseOf, AreClosesOf, LedgerHeader, filled_header, Position, Reading, start_of}
use Rattle.reports.proofs.Prelude.{XdrFault}
use Rattle.reports.proofs.Prelude.{max_record_len, Bool, true, false, ◌<◌, ◌^◌, ◌-◌}
use Rattle.std.proofs.Common.{ℤ, suc}
use Rattle.std.specs.Prelude.{not}
use Rattle.std.proofs.lemmas.Slice.Eq.{bytes_eq-Decides}
use Rattle.std.proofs.lemmas.List.Elements.{All-head, All-tail}
use Rattle.ledger_types.specs.declared.ids.Hash.{Hash}
use Rattle.ledger_types.specs.declared.header.LedgerUpgrade.{LedgerUpgrade}
use Rattle.ledger_types.specs.declared.header.LedgerUpgrade.TheVariants as upgrade
use Rattle.ledger_types.specs.declared.header.StellarValue.{StellarValue}
use Rattle.op_types.specs.declared.transaction.TransactionEnvelope.{TransactionEnvelope}
use Rattle.entry_map.specs.EntryMap.{EntryMap}
use Rattle.tx_apply.specs.fee_rules.SetHash.{hash_of_set}
use Rattle.tx_apply.specs.fee_rules.Turns.{apply_order_of}
use Rattle.tx_apply.specs.Indices.{envelopes_at}
use Rattle.tx_apply.specs.Set.{Setting, all_applied, envelopes_in_order}
use Rattle.ledger_close.specs.bucket_levels.Hash.{list_hash}
use Rattle.ledger_close.specs.close_laws.Closes.{NextIsClosing, TakenIsClosable}
use Rattle.ledger_close.specs.close_laws.Results.{ResultsAreEncoded}
use Rattle.ledger_close.proofs.close_laws_proofs.NextHeader.{next_counts}
use Rattle.ledger_close.proofs.close_laws_proofs.Unrefused.{terms_pass}
use Rattle.ledger_close.proofs.close_laws_proofs.Digests.{hash_len}
use Rattle.ledger_close.proofs.close_laws_proofs.ledger_types_proofs.Booleans.{if_some_none}
use Rattle.run_outcome.specs.close_rules.xdr_header.declared.record.CloseRecord.{CloseRecord}
use Rattle.run_outcome.specs.close_rules.xdr_header.Header.{ledger_header}
use Rattle.run_outcome.specs.close_rules.xdr_header.Image.{file}
use Rattle.run_outcome.specs.header_chain.Upgrades.{all_upgraded, upgraded, upgrade_in}
use Rattle.run_outcome.specs.header_chain.SkipList.{finished}
use Rattle.run_outcome.specs.close_rules.Close.{applied_in, result_set, setting_in, upgraded_header}
use Rattle.run_outcome.specs.close_rules.Refusals.{is_same_hash, record_fault, term_fault, term_tests}
use Rattle.run_outcome.specs.close_rules.State.{IsClosingState}
use Rattle.run_outcome.specs.close_rules.entry_slots.Tests.{Tests, first_fault}
use Rattle.run_outcome.specs.value_hashes.Hashes.{ledger_hash_of, results_hash_of}
use Rattle.archive_files.specs.declared.history.History.{History}
use Rattle.archive_files.specs.declared.history.HistoryFault.TheVariants as fault
use Rattle.archive_files.specs.declared.history.HistoryFault.{HistoryFault}
use Rattle.archive_files.specs.declared.history.Verified.{Verified}
use Rattle.archive_files.specs.declared.form.StatedHistory.{StatedHistory}
use Rattle.archive_files.specs.Added.{AddedClosesVerify, AreAdded, AreCloses, IsClose, IsSmall, added, last_close_hash}
use Rattle.archive_files.specs.Added.{no_closes}
use Rattle.archive_files.specs.Chain.{IsVerified}
use Rattle.archive_files.specs.Form.{stated_history}
use Rattle.run_outcome.specs.HistoryRun.{AreSmallWith, closed_of, files_of, files_with, history_after}
use Rattle.run_outcome.specs.VerifyRun.{IsVerdictOf, verdict_outcome}
use Rattle.run_outcome.specs.Outcome.{Outcome}
use Rattle.xdr_core.specs.Combinators.{constant}
use Rattle.xdr_core.specs.Format.{Lawful}
use Rattle.xdr_core.specs.Leaves.{u32}
use Rattle.reports.specs.Verifiable.{AreSized, HistoriesVerify}
use Rattle.reports.proofs.Histories.{bounds_of, closes_on}

-- ---- a header's fields that upgrades leave

record KeepsLinks (was h : LedgerHeader) : Type 0 where
  previous : h.previous_ledger_hash ≡ was.previous_ledger_hash
  results : h.tx_set_result_hash ≡ was.tx_set_result_hash

links_upgraded : (was h : LedgerHeader) (asked : LedgerUpgrade) → KeepsLinks was h → KeepsLinks was (upgraded h asked)
links_upgraded was h (upgrade.Version n) kept = record { previous = kept.previous; results = kept.results }
links_upgraded was h (upgrade.BaseFee n) kept = record { previous = kept.previous; results = kept.results }
links_upgraded was h (upgrade.MaxTxSetSize n) kept = record { previous = kept.previous; results = kept.results }
links_upgraded was h (upgrade.BaseReserve n) kept = record { previous = kept.previous; results = kept.results }
links_upgraded was h (upgrade.Flags n) kept = record { previous = kept.previous; results = kept.results }

all_links : (was h : LedgerHeader) (asked : List (Option LedgerUpgrade)) → KeepsLinks was h
    → KeepsLinks was (all_upgraded h asked)
all_links was h [] kept = kept
all_links was h (None ∷ others) kept = all_links was h others kept
all_links was h (Some asked ∷ others) kept =
    all_links was (upgraded h asked) others (links_upgraded was h asked kept)

next_links : (s : ClosingState) (closing : CloseRecord) (list_hash : Hash)
    → KeepsLinks (filled_header s closing) (finished (upgraded_header s closing) list_hash)
next_links s closing list_hash =
    let kept = all_links (filled_header s closing) (filled_header s closing)
    (map upgrade_in closing.scp_value.upgrades) (record { previous = refl; results = refl }) in
    record { previous = kept.previous; results = kept.results }

-- ---- what is asked of a record that isn't refused

not_false : (b : Bool) → not b ≡ false → b ≡ true
not_false true e = refl
not_false false e = absurd (cc (e))

same_hash : (a b : Hash) → not (is_same_hash a b) ≡ false → a ≡ b
same_hash a b e =
    let bytes : a.0 ≡ b.0 = (bytes_eq-Decides a.0 b.0).0 (not_false (is_same_hash a b) e) in
    λ i. record { 0 = bytes i }

record Meets (s : ClosingState) (closing : CloseRecord) : Type 0 where
  previous : closing.tx_set.previous_ledger_hash ≡ ledger_hash_of s.header
  set : closing.scp_value.tx_set_hash ≡ hash_of_set closing.tx_set

-- none of some tests finds a fault
NoneFinds : {F : Type 0} → Tests F → Type 0
NoneFinds [] = Unit {0}
NoneFinds (test ∷ others) = (test.0 ≡ false) × NoneFinds others

none_finds : {F : Type 0} (tests : Tests F) → first_fault tests ≡ None → NoneFinds tests
unfolding NoneFinds
none_finds [] none = tt
none_finds (test ∷ others) none =
    let both = if_some_none test.0 test.1 (first_fault others) none in (both.0, none_finds others both.1)

meets : (s : ClosingState) (closing : CloseRecord) → record_fault s closing ≡ None → Meets s closing
unfolding term_fault NoneFinds
meets s closing none =
    let tests = none_finds (term_tests s closing) (terms_pass s closing none) in
    record {
      previous = same_hash closing.tx_set.previous_ledger_hash (ledger_hash_of s.header) tests.1.1.0;
      set = same_hash closing.scp_value.tx_set_hash (hash_of_set closing.tx_set) tests.1.1.1.0;
    }

-- ---- a set without transactions

none_at : (indices : List ℕ) → envelopes_at [] indices ≡ []
unfolding envelopes_at
none_at [] = refl
none_at (index ∷ indices) = none_at indices

none_of : (setting : Setting) (id_pool : ℕ) (envelopes : List TransactionEnvelope) (fees : List ℤ) (m : EntryMap)
    → envelopes ≡ [] → (all_applied setting id_pool envelopes fees m).results ≡ []
unfolding all_applied
none_of setting id_pool [] fees m e = refl
none_of setting id_pool (entire ∷ others) fees m e = absurd (cc (e))

no_transactions : (s : ClosingState) (closing : CloseRecord) → closing.tx_set.txs ≡ []
    → (applied_in s closing).results ≡ []
no_transactions s closing none =
    none_of (setting_in s closing) s.header.id_pool (envelopes_in_order closing.tx_set) _ _
    (ap (λ txs. envelopes_at txs (apply_order_of closing.tx_set)) none ∙ none_at (apply_order_of closing.tx_set))

-- ---- one close

same_record : (a b : CloseRecord) → ◌≡◌ {A = Result CloseRecord XdrFault} (Ok a) (Ok b) → a ≡ b
same_record a b e = cc

pub is_close : (s : ClosingState) (bytes : List ℕ) (c : RecordClose) → IsCloseOf s bytes c
    → IsClose (s.header.ledger_seq + 1) (ledger_hash_of s.header) (closed_of c)
is_close s bytes c is =
    let with = is.closes.1 in
    let closing = with.taken.closing in
    let same : closing ≡ c.closing = same_record closing c.closing (sym with.taken.reads ∙ is.reads) in
    let list = list_hash c.closed.state.levels in
    let counts = next_counts s closing list in
    let links = next_links s closing list in
    let terms = meets s closing with.taken.unrefused in
    record {
      number = ap (λ (h : LedgerHeader). h.ledger_seq) with.closes.header ∙ counts.ledger_seq;
      link = ap (λ (h : LedgerHeader). h.previous_ledger_hash) with.closes.header ∙ links.previous;
      set_hash = ap (λ (h : LedgerHeader). h.scp_value.tx_set_hash) with.closes.header
          ∙ ap (λ (v : StellarValue). v.tx_set_hash) counts.scp_value ∙ terms.set
          ∙ ap (λ (r : CloseRecord). hash_of_set r.tx_set) same;
      results_hash = ap (λ (h : LedgerHeader). h.tx_set_result_hash) with.closes.header ∙ links.results
          ∙ ap (λ pairs. results_hash_of (result_set pairs)) (sym with.closes.results);
      without = λ none.
          let empty : closing.tx_set.txs ≡ [] = ap (λ (r : CloseRecord). r.tx_set.txs) same ∙ none in
          let previous : c.closing.tx_set.previous_ledger_hash ≡ ledger_hash_of s.header =
          ap (λ (r : CloseRecord). r.tx_set.previous_ledger_hash) (sym same) ∙ terms.previous in (
            λ i. record { previous_ledger_hash = previous i; txs = none i },
            ap result_set (with.closes.results ∙ no_transactions s closing empty),
          );
    }

-- ---- all of them

pub are_closes : (s now : ClosingState) (records : List (List ℕ)) (closes : List RecordClose)
    → AreClosesOf s records closes now
    → AreCloses (s.header.ledger_seq + 1) (ledger_hash_of s.header) (map closed_of closes)
are_closes s now [] [] h = tt
are_closes s now [] (c ∷ closes) h = absurd h
are_closes s now (bytes ∷ records) [] h = absurd h
are_closes s now (bytes ∷ records) (c ∷ closes) h =
    let first = is_close s bytes c h.0 in (
      first,
      subst (λ n. AreCloses n (ledger_hash_of c.closed.state.header) (map closed_of closes))
          (ap (λ n. n + 1) first.number) (are_closes c.closed.state now records closes h.1),
    )

last_of : (s now : ClosingState) (records : List (List ℕ)) (closes : List RecordClose)
    → AreClosesOf s records closes now
    → last_close_hash (ledger_hash_of s.header) (map closed_of closes) ≡ ledger_hash_of now.header
last_of s now [] [] h = ap (λ (x : ClosingState). ledger_hash_of x.header) (sym h)
last_of s now [] (c ∷ closes) h = absurd h
last_of s now (bytes ∷ records) [] h = absurd h
last_of s now (bytes ∷ records) (c ∷ closes) h = last_of c.closed.state now records closes h.1

mapped_length : (closes : List RecordClose) → length (map closed_of closes) ≡ length closes
mapped_length [] = refl
mapped_length (c ∷ closes) = ap (λ n. suc n) (mapped_length closes)

are_added : TakenIsClosable → NextIsClosing → ResultsAreEncoded → (s now : ClosingState) (records : List (List ℕ))
    (closes : List RecordClose) (h : History) → IsClosingState s → All (λ bytes. length bytes ≤ max_record_len) records
    → AreClosesOf s records closes now → AreSmallWith h closes → AreSized closes
    → AreAdded h (map closed_of closes) (files_with h closes)
are_added closable closing results s now [] [] h state short are small sized = refl
are_added closable closing results s now [] (c ∷ closes) h state short are small sized = absurd are
are_added closable closing results s now (bytes ∷ records) [] h state short are small sized = absurd are
are_added closable closing results s now (bytes ∷ records) (c ∷ closes) h state short are small sized =
    let IsShort = λ (bytes : List ℕ). length bytes ≤ max_record_len in
    let first = All-head IsShort bytes records short in (
      bounds_of closable closing results s bytes c state first are.0,
      sized.0,
      small.0,
      are_added closable closing results c.closed.state now records closes (added h (closed_of c))
          (closes_on closable closing s bytes c state first are.0) (All-tail IsShort bytes records short) are.1 small.1
          sized.1,
    )

-- the files of closes of which none is too large are small
small_files : (closes : List RecordClose) (h : History) → IsSmall h → AreSmallWith h closes
    → IsSmall (files_with h closes)
small_files [] h small are = small
small_files (c ∷ closes) h small are = small_files closes (added h (closed_of c)) are.0 are.1

none_small : IsSmall no_closes
none_small = record { headers = omega arith; sets = omega arith; results = omega arith }

-- ---- the text

stated_within : (s : ClosingState) (closes : List RecordClose) → IsSmall (files_of closes)
    → stated_history.within (history_after s closes)
unfolding stated_history file constant u32
stated_within s closes small = (
  tt,
  (
    hash_len (ledger_header.encoding s.header),
    (tt, (small.headers, (small.sets, small.results))),
  ),
)

verdict_of : (h : StatedHistory) (v : Verified) (r : Reading XdrFault StatedHistory) (at : ℕ)
    → r ≡ Ok (h, record { at = at; rest = [] }) → IsVerified h.history h.before h.first v
    → IsVerdictOf r (verdict_outcome (Ok v))
verdict_of h v r at is verified =
    subst (λ (x : Reading XdrFault StatedHistory). IsVerdictOf x (verdict_outcome (Ok v))) (sym is)
    (Ok v, verified, (λ e. absurd (cc (e))), refl)

pub histories_verify : TakenIsClosable → NextIsClosing → ResultsAreEncoded → AddedClosesVerify → Lawful stated_history
    → HistoriesVerify
histories_verify closable closing results verify lawful s now records closes state short are small sized stated =
    let h = history_after s closes in
    let cs = map closed_of closes in
    let added_so = are_added closable closing results s now records closes no_closes state short are small sized in
    let verified = verify cs h.before h.first h.history added_so (are_closes s now records closes are) in
    let v : Verified = record { closes = length closes; last = ledger_hash_of now.header } in
    let is : record { closes = length cs; last = last_close_hash h.before cs } ≡ v =
    λ i. record { closes = mapped_length closes i; last = last_of s now records closes are i } in
    let text : List ℕ = stated_history.encoding h in
    let reads = ap (λ (t : List ℕ). stated_history.read (start_of t)) (sym (append-nil text))
    ∙ lawful.again 0 h [] (stated_within s closes (small_files closes no_closes none_small small)) stated in
    verdict_of h v (stated_history.read (start_of text)) (0 + length text) reads
    (subst (λ (x : Verified). IsVerified h.history h.before h.first x) is verified)
