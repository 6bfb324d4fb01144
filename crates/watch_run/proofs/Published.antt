-- The list of what is published, and what readers read of its end.
use Rattle.watch_run.proofs.Prelude.{◌≡◌, ℕ, zero, suc, ◌+◌, List, [], ◌∷◌, ◌++◌, length, map, refl, sym, ap, ◌∙◌}
use Rattle.watch_run.proofs.Prelude.{arith}
use Rattle.watch_run.proofs.Prelude.{append_assoc, append-nil, length-append, map-append, All, All-weaker, get, Option}
use Rattle.watch_run.proofs.Prelude.{ClosingState, RecordClose, LedgerEntry, LedgerKey, AccountEntry, Read, IsAnswerOf}
use Rattle.watch_run.proofs.Prelude.{IsReadOf, IsReadOfLast, last_state, published_states, reader_line}
use Rattle.watch_run.proofs.Prelude.{AccountId, reader_lines_from}
use Rattle.ledger_types.specs.declared.key.LedgerKey.TheVariants as key
use Rattle.run_outcome.specs.close_rules.entry_slots.Accounts.{account_of}
use Rattle.run_outcome.specs.close_rules.entry_slots.Accounts.{account_at}

abbrev state_after : RecordClose → ClosingState
state_after c = c.closed.state

-- the list after one close more
pub published_more : (list next : List ClosingState) (start : ClosingState) (closes : List RecordClose)
    (c : RecordClose) (view : ClosingState) → next ≡ list ++ view ∷ [] → view ≡ c.closed.state
    → list ≡ published_states start closes → next ≡ published_states start (closes ++ c ∷ [])
published_more list next start closes c view e is all =
    e ∙ ap (λ (s : ClosingState). list ++ s ∷ []) is
    ∙ ap (λ (l : List ClosingState). l ++ c.closed.state ∷ []) all
    ∙ ap (λ (l : List ClosingState). start ∷ l) (sym (map-append state_after closes (c ∷ [])))

-- the last of the list is the state after the last close
pub last_is : (start : ClosingState) (closes : List RecordClose) (before : List ClosingState) (view : ClosingState)
    → published_states start closes ≡ before ++ view ∷ [] → view ≡ last_state start closes
last_is start [] [] view e = cc e
last_is start [] (x ∷ before) view e =
    absurd (omega (arith, ap length e, length-append before (view ∷ [])))
last_is start (c ∷ closes) [] view e = absurd (omega (arith, ap length e))
last_is start (c ∷ closes) (x ∷ before) view e =
    let rest : published_states c.closed.state closes ≡ before ++ view ∷ [] = cc e in
    last_is c.closed.state closes before view rest

read_of : (start : ClosingState) (closes : List RecordClose) (states : List ClosingState) (key : LedgerKey)
    (r : Read LedgerEntry) → states ≡ published_states start closes
    → IsReadOfLast states key r.number r.seq r.entry → IsReadOf (last_state start closes) key r.seq r.entry
read_of start closes states key r all a =
    let view = last_is start closes a.before a.view (sym all ∙ a.last) in
    record {
      seq_is = a.seq_is ∙ ap (λ (s : ClosingState). s.header.ledger_seq) view;
      entry_is = a.entry_is ∙ ap (λ (s : ClosingState). get s.entries key) view;
    }

pub reads_of : (start : ClosingState) (closes : List RecordClose) (states : List ClosingState) (key : LedgerKey)
    (reads : List (Read LedgerEntry)) → states ≡ published_states start closes
    → All (λ r. IsReadOfLast states key r.number r.seq r.entry) reads
    → All (λ r. IsReadOf (last_state start closes) key r.seq r.entry) reads
reads_of start closes states key reads all each =
    All-weaker (λ (r : Read LedgerEntry). IsReadOfLast states key r.number r.seq r.entry)
    (λ (r : Read LedgerEntry). IsReadOf (last_state start closes) key r.seq r.entry)
    (λ r a. read_of start closes states key r all a) reads each

-- ---- lines

-- the lines of one reader more
pub lines_more : (number count seq : ℕ) (account : Option AccountEntry)
    → reader_lines_from number (suc count) seq account
    ≡ reader_lines_from number count seq account ++ reader_line (number + count) seq account
unfolding reader_lines_from
lines_more number zero seq account =
    let same : number ≡ number + 0 = omega arith in
    append-nil (reader_line number seq account) ∙ ap (λ (n : ℕ). reader_line n seq account) same
lines_more number (suc count) seq account =
    let same : suc number + count ≡ number + suc count = omega arith in
    let rest = lines_more (suc number) count seq account in
    ap (λ (l : List ℕ). reader_line number seq account ++ l) rest
    ∙ sym (append_assoc (reader_line number seq account) (reader_lines_from (suc number) count seq account)
    (reader_line (suc number + count) seq account))
    ∙ ap (λ (n : ℕ). (reader_line number seq account ++ reader_lines_from (suc number) count seq account)
    ++ reader_line n seq account) same

pub no_lines : (text : List ℕ) (seq : ℕ) (account : Option AccountEntry) → text ≡ []
    → text ≡ reader_lines_from 1 0 seq account
unfolding reader_lines_from
no_lines text seq account e = e

-- the line of what was read of a state
line_is : (s : ClosingState) (id : AccountId) (number seq : ℕ) (entry : Option LedgerEntry)
    → IsReadOf s (key.Account id) seq entry
    → reader_line number seq (account_of entry) ≡ reader_line number s.header.ledger_seq (account_at s.entries id)
unfolding account_at
line_is s id number seq entry h =
    ap (λ (n : ℕ). reader_line number n (account_of entry)) h.seq_is
    ∙ ap (λ (e : Option LedgerEntry). reader_line number s.header.ledger_seq (account_of e)) h.entry_is

pub one_line_more : (s : ClosingState) (id : AccountId) (old new : List ℕ) (index number seq : ℕ)
    (entry : Option LedgerEntry) → old ≡ reader_lines_from 1 index s.header.ledger_seq (account_at s.entries id)
    → number ≡ index + 1 → new ≡ old ++ reader_line number seq (account_of entry)
    → IsReadOf s (key.Account id) seq entry
    → new ≡ reader_lines_from 1 (index + 1) s.header.ledger_seq (account_at s.entries id)
one_line_more s id old new index number seq entry so_far is pushed h =
    let account = account_at s.entries id in
    let at : number ≡ 1 + index = omega (arith, is) in
    let next : suc index ≡ index + 1 = omega arith in
    pushed
    ∙ ap (λ (l : List ℕ). l ++ reader_line number seq (account_of entry)) so_far
    ∙ ap (λ (l : List ℕ). reader_lines_from 1 index s.header.ledger_seq account ++ l) (line_is s id number seq entry h)
    ∙ ap (λ (n : ℕ). reader_lines_from 1 index s.header.ledger_seq account
    ++ reader_line n s.header.ledger_seq account) at
    ∙ sym (lines_more 1 index s.header.ledger_seq account)
    ∙ ap (λ (n : ℕ). reader_lines_from 1 n s.header.ledger_seq account) next
