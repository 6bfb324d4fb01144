-- The changes of a close, and their records.
use Rattle.reports.proofs.Prelude.{◌≡◌, ℕ, ◌+◌, ◌<◌, ◌≤◌, take, List, [], ◌∷◌, ◌++◌, length, sym, ap, subst, ◌∙◌, arith}
use Rattle.reports.proofs.Prelude.{length-append}
use Rattle.reports.proofs.Prelude.{ClosingState, RecordClose, PreparedClose, IsDetailed, Some, wide4}
use Rattle.std.specs.Prelude.{Contains, pos, ℤ}
use Rattle.std.specs.List.{flat_map}
use Rattle.std.proofs.Common.{get_or}
use Rattle.std.proofs.lemmas.List.{flat_map_more, take_all, take_more}
use Rattle.std.specs.FinMap.{get}
use Rattle.std.specs.Int.{cast_unsigned, w32}
use Rattle.xdr_core.specs.Leaves.{i32}
use Rattle.ledger_types.specs.Keys.{key_of}
use Rattle.ledger_types.specs.declared.entry.LedgerEntry.{LedgerEntry}
use Rattle.entry_map.specs.declared.batch.Batch.{Batch}
use Rattle.entry_map.specs.EntryMap.{EntryMap}
use Rattle.entry_map.specs.Batch.{IsBatch}
use Rattle.archive_files.specs.Records.{max_record_len}
use Rattle.change_stream.specs.declared.change.Change.{Change}
use Rattle.change_stream.specs.declared.change.Change.TheVariants.{Created, Updated, Removed}
use Rattle.change_stream.specs.Changes.{AreChangesOf, IsBatchOver, IsChangeOf}
use Rattle.change_stream.specs.Grammar.{one_change}
use Rattle.run_outcome.specs.close_rules.State.{IsClosingState, max_file_total}
use Rattle.run_outcome.specs.close_rules.xdr_entries.Entries.{ledger_entry}
use Rattle.run_outcome.specs.ChangesRun.{AreChangesBetween, AreChangesIn}
use Rattle.ledger_close.specs.close_laws.Closes.{NextIsClosing, TakenIsClosable}
use Rattle.ledger_close.specs.declared.prepared.DetailedClose.{DetailedClose}
use Rattle.reports.specs.Recording.{AreRecordable, IsRecordable}
use Rattle.reports.proofs.Histories.{next_closing}
use Rattle.reports.proofs.Lengths.{entry_len}

-- ---- one change

-- an entry of a state keeps the bounds of its format, and is no longer than the files of the state's levels
record IsEntryOf (m : EntryMap) (e : LedgerEntry) : Type 0 where
  pub within : ledger_entry.within e
  pub short : length (ledger_entry.encoding e) ≤ max_file_total

abbrev AreEntries : EntryMap → Type 0
AreEntries m = (e : LedgerEntry) → get m (key_of e) ≡ Some e → IsEntryOf m e

entries_of : (s : ClosingState) → IsClosingState s → AreEntries s.entries
entries_of s is e found =
    let le = entry_len s is.existing (key_of e) e found in
    record { within = (is.entries (key_of e) e found).within; short = omega (arith, le, is.files) }

word_len : (mark : ℤ) → length (i32.encoding mark) ≡ 4
unfolding i32
word_len mark = wide4.len (cast_unsigned w32 mark)

created : (a : LedgerEntry) (m : EntryMap) → IsEntryOf m a → IsRecordable (Created a)
unfolding one_change
created a m is = record {
  within = is.within;
  short = omega (arith, is.short, word_len (pos 0), length-append (i32.encoding (pos 0)) (ledger_entry.encoding a));
}

removed : (b : LedgerEntry) (m : EntryMap) → IsEntryOf m b → IsRecordable (Removed b)
unfolding one_change
removed b m is = record {
  within = is.within;
  short = omega (arith, is.short, word_len (pos 2), length-append (i32.encoding (pos 2)) (ledger_entry.encoding b));
}

updated : (b a : LedgerEntry) (m n : EntryMap) → IsEntryOf m b → IsEntryOf n a → IsRecordable (Updated b a)
unfolding one_change
updated b a m n was is = record {
  within = (was.within, is.within);
  short = omega (
    arith,
    was.short,
    is.short,
    word_len (pos 1),
    length-append (i32.encoding (pos 1)) (ledger_entry.encoding b ++ ledger_entry.encoding a),
    length-append (ledger_entry.encoding b) (ledger_entry.encoding a),
  );
}

recordable : (before after : EntryMap) (batch : Batch) → IsBatch before after batch → AreEntries before
    → AreEntries after → (c : Change) → IsChangeOf before batch c → IsRecordable c
recordable before after batch is befores afters (Created a) h =
    created a after (afters a ((is.init a).0 h).0)
recordable before after batch is befores afters (Updated b a) h =
    updated b a before after (befores b h.2) (afters a ((is.live a).0 h.0).0)
recordable before after batch is befores afters (Removed b) h = removed b before (befores b h.1)

pub are_recordable : TakenIsClosable → NextIsClosing → (s : ClosingState) (close : DetailedClose) (c : RecordClose)
    (changes : List Change) → IsClosingState s → IsDetailed s close c
    → AreChangesOf s.entries close.prepared.batch changes
    → AreRecordable changes
are_recordable closable closing s close c changes state d are change there =
    let next = next_closing closable closing s close c state d in
    let after = subst (λ (x : PreparedClose). AreEntries x.state.entries) d.closed (entries_of c.closed.state next) in
    recordable s.entries close.prepared.state.entries close.prepared.batch d.detail.batch.batch
    (entries_of s state) after change
    ((are.each change).0 there)

-- ---- the changes of a close

pub are_changes_in : (s : ClosingState) (close : DetailedClose) (c : RecordClose) (changes : List Change)
    → IsDetailed s close c → AreChangesOf s.entries close.prepared.batch changes → AreChangesIn c changes
are_changes_in s close c changes d are =
    let first : AreChangesBetween s.entries close.prepared.state.entries changes =
    (close.prepared.batch, d.detail.batch.batch, are) in
    let second = subst (λ (x : PreparedClose). AreChangesBetween s.entries x.state.entries changes) (sym d.closed)
    first in
    subst (λ (x : ClosingState). AreChangesBetween x.entries c.closed.state.entries changes) (sym d.is.before) second

-- ---- records one after another

pub records_more : (f : Change → List ℕ) (xs : List Change) (i : ℕ) (d : Change) (old now next : List ℕ)
    → i < length xs → now ≡ old ++ flat_map f (take i xs) → next ≡ now ++ f (get_or xs i d)
    → next ≡ old ++ flat_map f (take (i + 1) xs)
records_more f xs i d old now next lt done more =
    more ∙ ap (λ (l : List ℕ). l ++ f (get_or xs i d)) done
    ∙ flat_map_more f old (take i xs) (get_or xs i d)
    ∙ ap (λ (l : List Change). old ++ flat_map f l) (sym (take_more xs i d lt))

pub records_all : (f : Change → List ℕ) (xs : List Change) (i : ℕ) (old now : List ℕ) → length xs ≤ i
    → now ≡ old ++ flat_map f (take i xs) → now ≡ old ++ flat_map f xs
records_all f xs i old now le done = done ∙ ap (λ (l : List Change). old ++ flat_map f l) (take_all i xs le)
