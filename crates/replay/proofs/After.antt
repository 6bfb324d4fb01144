-- The states after the first records of a text, and acknowledged ledgers.
use Rattle.replay.proofs.Prelude.{◌≡◌, ℕ, ◌+◌, ◌≤◌, ◌<◌, List, [], ◌∷◌, ◌++◌, length, Ok, refl, sym, ap, subst, ◌∙◌}
use Rattle.replay.proofs.Prelude.{append_assoc, append-nil, arith, length-append, All-cons, All-head, All-tail}
use Rattle.replay.proofs.Prelude.{ClosingState, PreparedClose, IsClose, framed, frames, max_record_len, lines_of}
use Rattle.replay.proofs.Prelude.{AreClosed, IsPrefix, Image, OpensTo, IsAfter, OpensAfter, AreAcknowledged}
use Rattle.replay.proofs.Lines.{lines_some}
use Rattle.reports.proofs.Prefixes.{nothing_prefix, complete_prefix, prefix_later, prefix_short, prefix_apart}
use Rattle.replay.proofs.Runs.{same_close, framed_apart, AreShort}

-- ---- after records

pub after_none : (s : ClosingState) (text : List ℕ) → IsAfter s text 0 [] s
after_none s text = record {
  ahead = record {
    records = [];
    rest = text;
    cut = refl;
    short = λ k d lt. absurd (omega (arith, lt));
    state = s;
    closed = (refl, refl);
  };
  count = refl;
  is = refl;
}

pub after_more : (s : ClosingState) (bytes : List ℕ) (c : PreparedClose) (others : List ℕ) (k : ℕ) (lines : List ℕ)
    (t : ClosingState) → length bytes ≤ max_record_len → IsClose s bytes (Ok c) → IsAfter c.state others k lines t
    → IsAfter s (framed bytes ++ others) (k + 1) (lines_of c ++ lines) t
after_more s bytes c others k lines t fits closes b =
    let count = b.count in
    record {
      ahead = record {
        records = bytes ∷ b.ahead.records;
        rest = b.ahead.rest;
        cut = ap (λ (x : List ℕ). framed bytes ++ x) b.ahead.cut
            ∙ sym (append_assoc (framed bytes) (frames b.ahead.records) b.ahead.rest);
        short = All-cons (λ x. length x ≤ max_record_len) bytes b.ahead.records fits b.ahead.short;
        state = b.ahead.state;
        closed = (c, lines, closes, b.ahead.closed, refl);
      };
      count = omega (arith, count);
      is = b.is;
    }

-- the first record's ledger closed
pub after_one : (s : ClosingState) (bytes : List ℕ) (c : PreparedClose) (others : List ℕ)
    → length bytes ≤ max_record_len
    → IsClose s bytes (Ok c) → IsAfter s (framed bytes ++ others) 1 (lines_of c ++ []) c.state
after_one s bytes c others fits closes =
    after_more s bytes c others 0 [] c.state fits closes (after_none c.state others)

abbrev pub Peeled : (c : PreparedClose) (others : List ℕ) (k : ℕ) (lines : List ℕ) (t : ClosingState) → Type 0
Peeled c others k lines t = (more : List ℕ) × IsAfter c.state others k more t × (lines ≡ lines_of c ++ more)

peeled_by : (s : ClosingState) (bytes : List ℕ) (c : PreparedClose) (others : List ℕ) (k : ℕ) (lines : List ℕ)
    (t : ClosingState) (records : List (List ℕ)) (rest : List ℕ) (state : ClosingState) → length bytes ≤ max_record_len
    → IsClose s bytes (Ok c) → framed bytes ++ others ≡ frames records ++ rest → AreShort records
    → AreClosed s records lines state → length records ≡ k + 1 → state ≡ t → Peeled c others k lines t
peeled_by s bytes c others k lines t [] rest state fits closes cut short closed count is =
    absurd (omega (arith, count))
peeled_by s bytes c others k lines t (w ∷ ws) rest state fits closes cut short closed count is =
    let apart = framed_apart bytes w others (frames ws ++ rest) fits
    (All-head (λ x. length x ≤ max_record_len) w ws short) (cut ∙ append_assoc (framed w) (frames ws) rest) in
    let same = same_close s w closed.0 c closed.2 (subst (λ (b : List ℕ). IsClose s b (Ok c)) apart.0 closes) in (
      closed.1,
      record {
        ahead = record {
          records = ws;
          rest = rest;
          cut = apart.1;
          short = All-tail (λ x. length x ≤ max_record_len) w ws short;
          state = state;
          closed = subst (λ (x : PreparedClose). AreClosed x.state ws closed.1 state) same closed.3;
        };
        count = omega (arith, count);
        is = is;
      },
      closed.4 ∙ ap (λ (x : PreparedClose). lines_of x ++ closed.1) same,
    )

-- without the first record
pub after_less : (s : ClosingState) (bytes : List ℕ) (c : PreparedClose) (others : List ℕ) (k : ℕ) (lines : List ℕ)
    (t : ClosingState) → length bytes ≤ max_record_len → IsClose s bytes (Ok c)
    → IsAfter s (framed bytes ++ others) (k + 1) lines t → Peeled c others k lines t
after_less s bytes c others k lines t fits closes b =
    peeled_by s bytes c others k lines t b.ahead.records b.ahead.rest b.ahead.state fits closes b.ahead.cut
    b.ahead.short b.ahead.closed b.count b.is

-- at the start there is no record that closes a ledger
abbrev pub ClosesNothing : ClosingState → List ℕ → Type 0
ClosesNothing s text = (bytes more : List ℕ) (c : PreparedClose) → length bytes ≤ max_record_len
    → text ≡ framed bytes ++ more
    → IsClose s bytes (Ok c) → ⊥

pub nothing_by : (s : ClosingState) (text : List ℕ) (k : ℕ) (lines : List ℕ) (records : List (List ℕ)) (rest : List ℕ)
    (state : ClosingState) → ClosesNothing s text → text ≡ frames records ++ rest → AreShort records
    → AreClosed s records lines state → length records ≡ k + 1 → ⊥
nothing_by s text k lines [] rest state none cut short closed count = absurd (omega (arith, count))
nothing_by s text k lines (w ∷ ws) rest state none cut short closed count =
    none w (frames ws ++ rest) closed.0 (All-head (λ x. length x ≤ max_record_len) w ws short)
    (cut ∙ append_assoc (framed w) (frames ws) rest) closed.2

some_by : (s : ClosingState) (text : List ℕ) (k : ℕ) (lines : List ℕ) (records : List (List ℕ)) (state : ClosingState)
    → AreClosed s records lines state → length records ≡ k + 1 → 1 ≤ length lines
some_by s text k lines [] state closed count = absurd (omega (arith, count))
some_by s text k lines (w ∷ ws) state closed count =
    omega (arith, ap length closed.4, length-append (lines_of closed.0) closed.1, lines_some closed.0)

-- records that close ledgers print something
pub after_some : (s : ClosingState) (text : List ℕ) (k : ℕ) (lines : List ℕ) (t : ClosingState)
    → IsAfter s text (k + 1) lines t → 1 ≤ length lines
after_some s text k lines t b = some_by s text k lines b.ahead.records b.ahead.state b.ahead.closed b.count

-- ---- acknowledged ledgers

-- none, since none closes
abbrev pub ack_stopped : (s : ClosingState) (text prefix : List ℕ) → ClosesNothing s text
    → AreAcknowledged s text prefix 0
ack_stopped s text prefix none = record {
  lines = [];
  state = s;
  after = after_none s text;
  entire = nothing_prefix prefix;
  no_more = λ more next b f. nothing_by s text 0 more b.ahead.records b.ahead.rest b.ahead.state none b.ahead.cut
      b.ahead.short b.ahead.closed b.count;
}

-- none, since nothing was written
abbrev pub ack_empty : (s : ClosingState) (text prefix : List ℕ) → prefix ≡ [] → AreAcknowledged s text prefix 0
ack_empty s text prefix empty = record {
  lines = [];
  state = s;
  after = after_none s text;
  entire = nothing_prefix prefix;
  no_more = λ more next b f. absurd (omega (
    arith,
    after_some s text 0 more next b,
    prefix_short more prefix f,
    ap length empty,
  ));
}

-- none, since the first ledger's lines weren't all written
abbrev pub ack_partial : (s : ClosingState) (bytes : List ℕ) (c : PreparedClose) (others prefix : List ℕ)
    → length bytes ≤ max_record_len → IsClose s bytes (Ok c) → length prefix < length (lines_of c)
    → AreAcknowledged s (framed bytes ++ others) prefix 0
ack_partial s bytes c others prefix fits closes less = record {
  lines = [];
  state = s;
  after = after_none s (framed bytes ++ others);
  entire = nothing_prefix prefix;
  no_more = λ more next b f. let p = after_less s bytes c others 0 more next fits closes b in
      absurd (omega (arith, less, prefix_short more prefix f, ap length p.2, length-append (lines_of c) p.0));
}

-- the first one
abbrev pub ack_one : (s : ClosingState) (bytes : List ℕ) (c : PreparedClose) (others prefix : List ℕ)
    → length bytes ≤ max_record_len
    → IsClose s bytes (Ok c) → prefix ≡ lines_of c → AreAcknowledged s (framed bytes ++ others) prefix 1
ack_one s bytes c others prefix fits closes same = record {
  lines = lines_of c ++ [];
  state = c.state;
  after = after_one s bytes c others fits closes;
  entire = subst (λ (x : List ℕ). IsPrefix x prefix) (same ∙ sym (append-nil (lines_of c))) (complete_prefix prefix);
  no_more = λ more next b f. let p = after_less s bytes c others 1 more next fits closes b in
      let some = after_some c.state others 0 p.0 next p.1 in
      absurd (omega (
        arith,
        some,
        prefix_short more prefix f,
        ap length p.2,
        ap length same,
        length-append (lines_of c) p.0,
      ));
}

-- one more before them
abbrev pub ack_more : (s : ClosingState) (bytes : List ℕ) (c : PreparedClose) (others prefix : List ℕ) (count : ℕ)
    → length bytes ≤ max_record_len → IsClose s bytes (Ok c) → AreAcknowledged c.state others prefix count
    → AreAcknowledged s (framed bytes ++ others) (lines_of c ++ prefix) (count + 1)
ack_more s bytes c others prefix count fits closes a = record {
  lines = lines_of c ++ a.lines;
  state = a.state;
  after = after_more s bytes c others count a.lines a.state fits closes a.after;
  entire = prefix_later (lines_of c) a.lines prefix a.entire;
  no_more = λ more next b f. let p = after_less s bytes c others (count + 1) more next fits closes b in
      a.no_more p.0 next p.1 (prefix_apart (lines_of c) p.0 prefix
      (subst (λ (x : List ℕ). IsPrefix x (lines_of c ++ prefix)) p.2 f));
}

-- ---- contents

pub opens_none : (s : ClosingState) (text : List ℕ) (c : Image) → OpensTo c s → OpensAfter s text 0 c
opens_none s text c o = ([], s, after_none s text, o)

pub opens_one : (s : ClosingState) (bytes : List ℕ) (closed : PreparedClose) (others : List ℕ) (c : Image)
    → length bytes ≤ max_record_len → IsClose s bytes (Ok closed) → OpensTo c closed.state
    → OpensAfter s (framed bytes ++ others) 1 c
opens_one s bytes closed others c fits closes o =
    (lines_of closed ++ [], closed.state, after_one s bytes closed others fits closes, o)

pub opens_more : (s : ClosingState) (bytes : List ℕ) (closed : PreparedClose) (others : List ℕ) (k : ℕ) (c : Image)
    → length bytes ≤ max_record_len → IsClose s bytes (Ok closed) → OpensAfter closed.state others k c
    → OpensAfter s (framed bytes ++ others) (k + 1) c
opens_more s bytes closed others k c fits closes (lines, state, b, o) =
    (lines_of closed ++ lines, state, after_more s bytes closed others k lines state fits closes b, o)
