-- The bytes after a state yield something.
use Rattle.existence_laws.proofs.Prelude.{◌≡◌, ℕ, zero, suc, ◌+◌, ◌≤◌, List, [], ◌∷◌, ◌++◌, length, Result, Ok, Err}
use Rattle.existence_laws.proofs.Prelude.{refl, sym, ap, subst, arith, XdrFault, IsBytes, mark, Position, Reading}
use Rattle.existence_laws.proofs.Prelude.{CloseFault, ClosingState, IsClosingState, PreparedClose, IsClose}
use Rattle.existence_laws.proofs.Prelude.{TakenIsClosable, NextIsClosing, installed_state, Outcome, silent, after}
use Rattle.existence_laws.proofs.Prelude.{max_record_len, framed, lines_of, IsStopped, IsRun, EachClose, EachRun}
use Rattle.std.proofs.lemmas.List.{length-append}
use Rattle.replay.proofs.xdr_core_proofs.FormatLaws.{mark_laws}
use Rattle.replay.specs.run_outcome.declared.status.Status.TheVariants as status
use Rattle.replay.specs.run_outcome.Lines.{end_line, refused_line}
use Rattle.replay.proofs.reports_proofs.Marking.{read_mark, framed_above}
use Rattle.replay.proofs.Runs.{ended_run, prepended}
use Rattle.replay.proofs.reports_proofs.Marking.{mark_fits}

abbrev index : ℕ → List ℕ → Position
index at text = record { at = at; rest = text }

abbrev SomeRun : ClosingState → ℕ → List ℕ → Type 0
SomeRun s at text = (o : Outcome) × IsRun s (index at text) o

-- ---- a record at the start

mark_bytes : (bytes : List ℕ) → (mark max_record_len).sized bytes → IsBytes bytes
unfolding mark
mark_bytes bytes are = are

-- a record that was read, and the bytes after it
record Ahead (text bytes rest : List ℕ) : Type 0 where
  pub short : length bytes ≤ max_record_len
  pub are : IsBytes bytes
  pub parts : text ≡ framed bytes ++ rest
  pub others : IsBytes rest

ahead : (at : ℕ) (text bytes : List ℕ) (q : Position) → IsBytes text → read_mark (index at text) ≡ Ok (bytes, q)
    → Ahead text bytes q.rest
ahead at text bytes q fits reads =
    let encoded = (mark_laws max_record_len (omega arith)).lawful.takes (index at text) q bytes fits reads in
    record {
      short = mark_fits bytes encoded.within;
      are = mark_bytes bytes encoded.sized;
      parts = encoded.taken.parts;
      others = encoded.taken.rest;
    }

nearer : (text bytes rest : List ℕ) (n : ℕ) → length text ≤ suc n → text ≡ framed bytes ++ rest → length rest ≤ n
nearer text bytes rest n le parts =
    omega (arith, ap length parts, length-append (framed bytes) rest, framed_above bytes)

-- ---- all records

module _ (each : EachClose) (closable : TakenIsClosable) (next : NextIsClosing) where
  -- what comes of any text that isn't longer
  abbrev Within : ℕ → Type 0
  Within n = (s : ClosingState) (at : ℕ) (text : List ℕ) → length text ≤ n → IsClosingState s → IsBytes text
      → SomeRun s at text

  by_answer : (s : ClosingState) (at byte : ℕ) (more bytes : List ℕ) (q : Position) → IsClosingState s
      → read_mark (index at (byte ∷ more)) ≡ Ok (bytes, q) → Ahead (byte ∷ more) bytes q.rest
      → ((t : ClosingState) → IsClosingState t → SomeRun t (at + length (framed bytes)) q.rest)
      → (answer : Result PreparedClose CloseFault) → IsClose s bytes answer → SomeRun s at (byte ∷ more)
  by_answer s at byte more bytes q state reads here later (Err wrong) close =
      let last : Outcome = record { status = status.Refused; text = refused_line s.header wrong } in
      let stopped = subst (λ (r : Reading XdrFault (List ℕ)). IsStopped s r last) (sym reads) (wrong, close, refl) in
      (last, ended_run s at (byte ∷ more) last stopped)
  by_answer s at byte more bytes q state reads here later (Ok closed) close =
      let rest = later closed.state (installed_state closable next s closed state (bytes, close, here.short)) in
      let o = after (lines_of closed) rest.0 in (
        o,
        subst (λ (t : List ℕ). IsRun s (index at t) o) (sym here.parts)
            (prepended s bytes closed at q.rest rest.0 here.short close rest.1),
      )

  by_mark : (n : ℕ) → Within n → (s : ClosingState) (at byte : ℕ) (more : List ℕ) → length (byte ∷ more) ≤ suc n
      → IsClosingState s → IsBytes (byte ∷ more) → (r : Reading XdrFault (List ℕ))
      → read_mark (index at (byte ∷ more)) ≡ r → SomeRun s at (byte ∷ more)
  by_mark n within s at byte more le state text (Err wrong) reads =
      let last = silent (status.BadInput wrong.at) in
      let stopped = subst (λ (r : Reading XdrFault (List ℕ)). IsStopped s r last) (sym reads) refl in
      (last, ended_run s at (byte ∷ more) last stopped)
  by_mark n within s at byte more le state text (Ok (bytes, q)) reads =
      let here = ahead at (byte ∷ more) bytes q text reads in
      let answer = each s bytes state here.are here.short in
      by_answer s at byte more bytes q state reads here
      (λ t closing. within t (at + length (framed bytes)) q.rest (nearer (byte ∷ more) bytes q.rest n le here.parts)
      closing here.others)
      answer.0 answer.1

  runs_within : (n : ℕ) → Within n
  runs_within n s at [] le state text =
      let last : Outcome = record { status = status.Done; text = end_line s.header } in
      (last, ended_run s at [] last refl)
  runs_within zero s at (byte ∷ more) le state text = absurd (omega arith)
  runs_within (suc n) s at (byte ∷ more) le state text =
      by_mark n (λ t index rest within closing bytes. runs_within n t index rest within closing bytes) s at byte more le
      state text (read_mark (index at (byte ∷ more))) refl

  pub each_run : EachRun
  each_run s p state text = runs_within (length p.rest) s p.at p.rest (omega arith) state text
