-- An input has one outcome, and what is written of it is a prefix of its text.
use Rattle.replay.proofs.Prelude.{◌≡◌, ℕ, ◌+◌, ◌≤◌, List, [], ◌∷◌, ◌++◌, length, Result, Ok, Err, refl, sym, ap, subst}
use Rattle.replay.proofs.Prelude.{◌∙◌, append_assoc, inl, inr, arith, Appends, length-append, All-head, All-tail, Seen}
use Rattle.replay.proofs.Prelude.{Received, ReceivedPrefix, Hash, XdrFault, Position, Reading, start_of, StartImage}
use Rattle.replay.proofs.Prelude.{start_image, network_id_of, ImageFault, ClosingState, images_are_one, Status, Outcome}
use Rattle.replay.proofs.Prelude.{after, framed, frames, max_record_len, lines_of, AreClosed, IsEnd, IsRun, IsStarted}
use Rattle.replay.proofs.Prelude.{IsOutcomeOf, IsPrefix, IsOutputPrefixOf, RunsAreOne, OutcomesAreOne}
use Rattle.replay.proofs.Prelude.{PrefixesAreOfRuns, PrefixesAreOfOutcomes, OutputsArePrefixes}
use Rattle.stored_outcome.specs.close_rules.declared.image_fault.ImageFault.TheVariants as fault
use Rattle.reports.proofs.Prefixes.{nothing_prefix, complete_prefix, prefix_more}
use Rattle.replay.proofs.Runs.{AreShort, at_prefix, one_end, peeled}

abbrev Short : List ℕ → Type 0
Short bytes = length bytes ≤ max_record_len

abbrev outcome_with : Status → List ℕ → Outcome
outcome_with end t = record { status = end; text = t }

abbrev position : ℕ → List ℕ → Position
position at rest = record { at = at; rest = rest }

-- a run over the records that another one closes
cut_run : (s : ClosingState) (at : ℕ) (text : List ℕ) (w : List ℕ) (ws : List (List ℕ)) (rest : List ℕ) (o : Outcome)
    → text ≡ frames (w ∷ ws) ++ rest → IsRun s (position at text) o
    → IsRun s (position at (framed w ++ (frames ws ++ rest))) o
cut_run s at text w ws rest o cut run =
    subst (λ (t : List ℕ). IsRun s (position at t) o) (cut ∙ append_assoc (framed w) (frames ws) rest) run

-- ---- runs

same_runs : (records : List (List ℕ)) (s : ClosingState) (at : ℕ) (text rest lines : List ℕ) (state : ClosingState)
    (last o : Outcome) → text ≡ frames records ++ rest → AreShort records → AreClosed s records lines state
    → IsEnd state (at + length (frames records)) rest last → IsRun s (position at text) o → after lines last ≡ o
same_runs [] s at text rest lines state last o cut short closed ends run =
    ap (λ (l : List ℕ). after l last) closed.0
    ∙ sym (one_end s at text last o (at_prefix s state at text rest last ends closed.1 cut) run)
same_runs (w ∷ ws) s at text rest lines state last o cut short closed ends run =
    let later = peeled s w closed.0 at (frames ws ++ rest) o (All-head Short w ws short) closed.2
    (cut_run s at text w ws rest o cut run) in
    let moved : at + length (framed w ++ frames ws) ≡ at + length (framed w) + length (frames ws) =
    omega (arith, length-append (framed w) (frames ws)) in
    let same = same_runs ws closed.0.state (at + length (framed w)) (frames ws ++ rest) rest closed.1 state last later.0
    refl (All-tail Short w ws short) closed.3 (subst (λ (a : ℕ). IsEnd state a rest last) moved ends) later.1 in
    ap (λ (l : List ℕ). after l last) closed.4
    ∙ ap (λ (t : List ℕ). outcome_with last.status t) (append_assoc (lines_of closed.0) closed.1 last.text)
    ∙ ap (λ (x : Outcome). after (lines_of closed.0) x) same ∙ sym later.2

pub runs_are_one : RunsAreOne
runs_are_one s p a b x y =
    x.is ∙ same_runs x.records s p.at p.rest x.rest x.lines x.state x.last b x.cut x.short x.closed x.ends y

-- ---- outcomes

same_starts : (judged : Result ClosingState ImageFault) (p : Position) (a b : Outcome) → IsStarted judged p a
    → IsStarted judged p b → a ≡ b
same_starts (Ok s) p a b x y = runs_are_one s p a b x y
same_starts (Err (fault.BadImage rule)) p a b x y = x ∙ sym y
same_starts (Err fault.NoMemory) p a b x y = absurd x

same_outcomes : (network : Hash) (r : Reading XdrFault StartImage) (a b : Outcome) → IsOutcomeOf network r a
    → IsOutcomeOf network r b → a ≡ b
same_outcomes network (Err wrong) a b x y = x ∙ sym y
same_outcomes network (Ok z) a b x y =
    same_starts y.0 z.1 a b
    (subst (λ (j : Result ClosingState ImageFault). IsStarted j z.1 a)
    (images_are_one network z.0 x.0 y.0 x.1 y.1) x.2) y.2

pub outcomes_are_one : OutcomesAreOne
outcomes_are_one passphrase input a b x y =
    same_outcomes (network_id_of passphrase) (start_image.read (start_of input)) a b x y

-- ---- prefixes

ahead_prefix : (records : List (List ℕ)) (s : ClosingState) (at : ℕ) (text rest lines : List ℕ) (state : ClosingState)
    (o : Outcome) → text ≡ frames records ++ rest → AreShort records → AreClosed s records lines state
    → IsRun s (position at text) o → (more : List ℕ) × (o.text ≡ lines ++ more)
ahead_prefix [] s at text rest lines state o cut short closed run =
    (o.text, ap (λ (l : List ℕ). l ++ o.text) (sym closed.0))
ahead_prefix (w ∷ ws) s at text rest lines state o cut short closed run =
    let later = peeled s w closed.0 at (frames ws ++ rest) o (All-head Short w ws short) closed.2
    (cut_run s at text w ws rest o cut run) in
    let tail = ahead_prefix ws closed.0.state (at + length (framed w)) (frames ws ++ rest) rest closed.1 state later.0
    refl (All-tail Short w ws short) closed.3 later.1 in (
      tail.0,
      ap (λ (x : Outcome). x.text) later.2 ∙ ap (λ (t : List ℕ). lines_of closed.0 ++ t) tail.1
          ∙ sym (append_assoc (lines_of closed.0) closed.1 tail.0)
          ∙ ap (λ (l : List ℕ). l ++ tail.0) (sym closed.4),
    )

pub run_prefix : PrefixesAreOfRuns
run_prefix s p prefix o (inl (lines, a, f)) run =
    let h = ahead_prefix a.records s p.at p.rest a.rest lines a.state o a.cut a.short a.closed run in
    subst (IsPrefix prefix) (sym h.1) (prefix_more prefix lines h.0 f)
run_prefix s p prefix o (inr (x, other, f)) run =
    subst (λ (y : Outcome). IsPrefix prefix y.text) (runs_are_one s p x o other run) f

silent_prefix : (prefix text : List ℕ) → prefix ≡ [] → IsPrefix prefix text
silent_prefix prefix text e = subst (λ (f : List ℕ). IsPrefix f text) (sym e) (nothing_prefix text)

output_prefix : (network : Hash) (r : Reading XdrFault StartImage) (prefix : List ℕ) (o : Outcome)
    → IsOutputPrefixOf network r prefix → IsOutcomeOf network r o → IsPrefix prefix o.text
output_prefix network (Err wrong) prefix o f h = silent_prefix prefix o.text f
output_prefix network (Ok x) prefix o (inl e) h = silent_prefix prefix o.text e
output_prefix network (Ok x) prefix o (inr (s, judged, f)) h =
    run_prefix s x.1 prefix o f
    (subst (λ (j : Result ClosingState ImageFault). IsStarted j x.1 o)
    (images_are_one network x.0 h.0 (Ok s) h.1 judged) h.2)

pub prefixes_are_of_outcomes : PrefixesAreOfOutcomes
prefixes_are_of_outcomes passphrase input prefix o f h =
    output_prefix (network_id_of passphrase) (start_image.read (start_of input)) prefix o f h

received_prefix : (out : Seen) (prefix text : List ℕ) → IsPrefix prefix text → Received out prefix
    → ReceivedPrefix out text
received_prefix out prefix text (n, le, e) h = (n, le, subst (Appends out.before out.now) e h)

pub outputs_are_prefixes : OutputsArePrefixes
outputs_are_prefixes passphrase input out end o (text, h, inl (x, is, e, same)) y =
    let one : x.text ≡ o.text = ap (λ (z : Outcome). z.text) (outcomes_are_one passphrase input x o is y) in
    received_prefix out text o.text (subst (IsPrefix text) (same ∙ one) (complete_prefix text)) h
outputs_are_prefixes passphrase input out end o (text, h, inr (short, f)) y =
    received_prefix out text o.text (prefixes_are_of_outcomes passphrase input text o f y) h
