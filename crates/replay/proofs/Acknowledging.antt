-- The ledgers that are acknowledged by what is printed are those of its complete `closed` lines.
use Rattle.replay.proofs.Prelude.{◌≡◌, ℕ, ◌+◌, ◌<◌, ◌≤◌, zero, suc, List, [], ◌∷◌, ◌++◌, length, drop, Ok, sym, ap}
use Rattle.replay.proofs.Prelude.{subst, ◌∙◌, append_assoc, append-nil, arith, inl, inr, All-head, All-tail, leb_tells}
use Rattle.replay.proofs.Prelude.{start_of, ClosingState, PreparedClose, IsClose, Status, Outcome, framed, frames}
use Rattle.replay.proofs.Prelude.{max_record_len, lines_of, AreClosed, IsEnd, IsPrefix, IsRun, IsAfter, AreAcknowledged}
use Rattle.replay.proofs.Prelude.{closed_count, IsAnswerAfter, AcknowledgedAreCounted}
use Rattle.std.proofs.Common.{take-append-drop}
use Rattle.reports.proofs.Prefixes.{nothing_prefix, complete_prefix, prefix_later, prefix_more, complete_or_less}
use Rattle.replay.proofs.Runs.{AreShort, not_both, refused_at}
use Rattle.replay.proofs.After.{after_none, after_more, ClosesNothing, ack_stopped, ack_empty, ack_partial, ack_more}
use Rattle.replay.proofs.Counting.{nothing_counted, split_prefix, counts_close, poor_close, poor_end}

-- ---- one count

prefix_through : (a b c : List ℕ) → IsPrefix a b → IsPrefix b c → IsPrefix a c
prefix_through a b c f (n, le, e) =
    let entire : b ++ drop n c ≡ c = ap (λ (t : List ℕ). t ++ drop n c) e ∙ take-append-drop n c in
    subst (IsPrefix a) entire (prefix_more a b (drop n c) f)

-- the first of the records that close ledgers
abbrev Fewer : (s : ClosingState) (text : List ℕ) (k : ℕ) (lines : List ℕ) → Type 0
Fewer s text k lines =
    (prefix : List ℕ) × (state : ClosingState) × IsAfter s text k prefix state × IsPrefix prefix lines

fewer_by : (s : ClosingState) (records : List (List ℕ)) (rest lines : List ℕ) (state : ClosingState) (k : ℕ)
    → AreShort records → AreClosed s records lines state → k ≤ length records → Fewer s (frames records ++ rest) k lines
fewer_by s records rest lines state zero short closed le =
    ([], s, after_none s (frames records ++ rest), nothing_prefix lines)
fewer_by s [] rest lines state (suc k) short closed le = absurd (omega (arith, le))
fewer_by s (w ∷ ws) rest lines state (suc k) short closed le =
    let c : PreparedClose = closed.0 in
    let f = fewer_by c.state ws rest closed.1 state k (All-tail (λ x. length x ≤ max_record_len) w ws short) closed.3
    (omega (arith, le)) in
    let b = after_more s w c (frames ws ++ rest) k f.0 f.1
    (All-head (λ x. length x ≤ max_record_len) w ws short) closed.2 f.2 in
    let more : k + 1 ≡ suc k = omega arith in (
      lines_of c ++ f.0,
      f.1,
      subst (λ (n : ℕ). IsAfter s (frames (w ∷ ws) ++ rest) n (lines_of c ++ f.0) f.1) more
          (subst (λ (t : List ℕ). IsAfter s t (k + 1) (lines_of c ++ f.0) f.1)
          (sym (append_assoc (framed w) (frames ws) rest)) b),
      subst (IsPrefix (lines_of c ++ f.0)) (sym closed.4) (prefix_later (lines_of c) f.0 closed.1 f.3),
    )

fewer : (s : ClosingState) (text : List ℕ) (k n : ℕ) (lines : List ℕ) (state : ClosingState) → k ≤ n
    → IsAfter s text n lines state → Fewer s text k lines
fewer s text k n lines state le b =
    let count = b.count in
    subst (λ (t : List ℕ). Fewer s t k lines) (sym b.ahead.cut)
    (fewer_by s b.ahead.records b.ahead.rest lines b.ahead.state k b.ahead.short b.ahead.closed
    (omega (arith, le, count)))

not_less : (s : ClosingState) (text printed : List ℕ) (m n : ℕ) → AreAcknowledged s text printed m
    → AreAcknowledged s text printed n → m < n → ⊥
not_less s text printed m n a b less =
    let f = fewer s text (m + 1) n b.lines b.state (omega (arith, less)) b.after in
    a.no_more f.0 f.1 f.2 (prefix_through f.0 b.lines printed f.3 b.entire)

one_count : (s : ClosingState) (text printed : List ℕ) (m n : ℕ) → AreAcknowledged s text printed m
    → AreAcknowledged s text printed n → m ≡ n
one_count s text printed m n a b = elim (leb_tells m n) [
  | inl small ↦ elim (leb_tells n m) [
    | inl same ↦ omega (arith, small.1, same.1)
    | inr less ↦ absurd (not_less s text printed m n a b less.1)
  ]
  | inr less ↦ absurd (not_less s text printed n m b a less.1)
]

-- ---- the complete lines

-- so many are acknowledged, and so many are the complete `closed` lines
abbrev Counted : (s : ClosingState) (text printed : List ℕ) → Type 0
Counted s text printed = (count : ℕ) × AreAcknowledged s text printed count × (closed_count printed ≡ count)

-- where no more records close ledgers
abbrev NoneAfter : ClosingState → (rest tail : List ℕ) → Type 0
NoneAfter s rest tail =
    (prefix : List ℕ) → IsPrefix prefix tail → AreAcknowledged s rest prefix 0 × (closed_count prefix ≡ 0)

-- what is printed goes on after the lines of the first record
counted_more : (s : ClosingState) (w : List ℕ) (c : PreparedClose) (others prefix printed : List ℕ)
    → length w ≤ max_record_len → IsClose s w (Ok c) → printed ≡ lines_of c ++ prefix → Counted c.state others prefix
    → Counted s (framed w ++ others) printed
counted_more s w c others prefix printed fits closes same (count, ack, counts) = (
  count + 1,
  subst (λ (t : List ℕ). AreAcknowledged s (framed w ++ others) t (count + 1)) (sym same)
      (ack_more s w c others prefix count fits closes ack),
  ap closed_count same ∙ counts_close c prefix ∙ ap (λ (n : ℕ). 1 + n) counts ∙ swapped,
)
  where
    swapped : 1 + count ≡ count + 1
    swapped = omega arith

counted_part : (s : ClosingState) (w : List ℕ) (c : PreparedClose) (others printed : List ℕ)
    → length w ≤ max_record_len → IsClose s w (Ok c) → IsPrefix printed (lines_of c)
    → length printed < length (lines_of c) → Counted s (framed w ++ others) printed
counted_part s w c others printed fits closes f less =
    (0, ack_partial s w c others printed fits closes less, poor_close c printed f less)

counted_by : (s : ClosingState) (records : List (List ℕ)) (rest lines tail printed : List ℕ) (state : ClosingState)
    → AreShort records → AreClosed s records lines state → IsPrefix printed (lines ++ tail)
    → NoneAfter state rest tail → Counted s (frames records ++ rest) printed
counted_by s [] rest lines tail printed state short closed f none =
    let a = none printed (subst (λ (t : List ℕ). IsPrefix printed (t ++ tail)) closed.0 f) in
    (0, subst (λ (x : ClosingState). AreAcknowledged x rest printed 0) closed.1 a.0, a.1)
counted_by s (w ∷ ws) rest lines tail printed state short closed f none =
    let c : PreparedClose = closed.0 in
    let fits = All-head (λ x. length x ≤ max_record_len) w ws short in
    let later = All-tail (λ x. length x ≤ max_record_len) w ws short in
    let text : lines ++ tail ≡ lines_of c ++ (closed.1 ++ tail) =
    ap (λ (t : List ℕ). t ++ tail) closed.4 ∙ append_assoc (lines_of c) closed.1 tail in
    subst (λ (t : List ℕ). Counted s t printed) (sym (append_assoc (framed w) (frames ws) rest))
    (elim (split_prefix (lines_of c) (closed.1 ++ tail) printed (subst (IsPrefix printed) text f)) [
      | inl part ↦ elim (complete_or_less printed (lines_of c) part) [
        | inl same ↦ counted_more s w c (frames ws ++ rest) [] printed fits closed.2
            (same ∙ sym (append-nil (lines_of c)))
            (counted_by c.state ws rest closed.1 tail [] state later closed.3 (nothing_prefix (closed.1 ++ tail)) none)
        | inr less ↦ counted_part s w c (frames ws ++ rest) printed fits closed.2 part less
      ]
      | inr more ↦ counted_more s w c (frames ws ++ rest) more.0 printed fits closed.2 more.1
          (counted_by c.state ws rest closed.1 tail more.0 state later closed.3 more.2 none)
    ])

-- ---- where a run ends

ends_nothing : (s : ClosingState) (at : ℕ) (rest : List ℕ) (last : Outcome) → IsEnd s at rest last
    → ClosesNothing s rest
ends_nothing s at rest last h bytes more c fits same closes =
    let r = refused_at s at rest last bytes more h same fits in not_both s bytes c r.0 closes r.1

none_at_end : (s : ClosingState) (at : ℕ) (rest : List ℕ) (last : Outcome) → IsEnd s at rest last
    → NoneAfter s rest last.text
none_at_end s at rest last h prefix f = (
  ack_stopped s rest prefix (ends_nothing s at rest last h),
  poor_end s at rest last h prefix f,
)

none_printed : (s : ClosingState) (rest : List ℕ) → NoneAfter s rest []
none_printed s rest prefix f =
    let empty : prefix ≡ [] = nothing prefix f in
    (ack_empty s rest prefix empty, ap closed_count empty ∙ nothing_counted)
  where
    nothing : (prefix : List ℕ) → IsPrefix prefix [] → prefix ≡ []
    nothing prefix (zero, le, e) = e
    nothing prefix (suc n, le, e) = absurd (omega (arith, le))

counted_run : (s : ClosingState) (given printed : List ℕ) (o : Outcome) → IsRun s (start_of given) o
    → IsPrefix printed o.text → Counted s given printed
counted_run s given printed o run f =
    subst (λ (t : List ℕ). Counted s t printed) (sym run.cut)
    (counted_by s run.records run.rest run.lines run.last.text printed run.state run.short run.closed
    (subst (λ (x : Outcome). IsPrefix printed x.text) run.is f)
    (none_at_end run.state (0 + length (frames run.records)) run.rest run.last run.ends))

counted : (s : ClosingState) (given printed : List ℕ) (end : Status) → IsAnswerAfter s given printed end
    → Counted s given printed
counted s given printed end (inl (o, run, e, same)) =
    counted_run s given printed o run (subst (λ (t : List ℕ). IsPrefix t o.text) (sym same) (complete_prefix o.text))
counted s given printed end (inr (short, inl (lines, a, f))) =
    subst (λ (t : List ℕ). Counted s t printed) (sym a.cut)
    (counted_by s a.records a.rest lines [] printed a.state a.short a.closed
    (prefix_more printed lines [] f) (none_printed a.state a.rest))
counted s given printed end (inr (short, inr (o, run, f))) = counted_run s given printed o run f

pub acknowledged_are_counted : AcknowledgedAreCounted
acknowledged_are_counted s given printed end count answer ack =
    let c = counted s given printed end answer in c.2 ∙ one_count s given printed c.0 count c.1 ack
