-- What `path` answers on a volume that opens, and on one that doesn't.
use Rattle.replay.proofs.Prelude.{◌≡◌, ◌∙◌, ℕ, List, Option, Some, IfSome, refl, ap, subst, inl, inr, ◌⊎◌, Seen}
use Rattle.replay.proofs.Prelude.{Received, SeenVolume, ClosingState, Status, Outcome, IsCutShort, OpensTo}
use Rattle.replay.proofs.Prelude.{IsUnshown, NothingFailed}
use Rattle.stored_outcome.specs.run_outcome.declared.status.Status.TheVariants as status
use Rattle.stored_outcome.specs.run_outcome.PathRun.{IsPathAnswer, IsPathAnswerPrefix, IsQueryAnswered}
use Rattle.stored_outcome.specs.run_outcome.Run.{Answered}
use Rattle.stored_outcome.specs.Path.{DidPath}
use Rattle.reports.specs.Answering.{AnswersAreOne}
use Rattle.reports.proofs.OneAnswer.{valid_answer}
use Rattle.replay.proofs.OneState.{opens_to_one, opens_not_missing, opens_not_bad}
use Rattle.replay.proofs.ShowCompleting.{bad_unshown, missing_unshown, neither_failed}
use Rattle.replay.specs.PathLaws.{Queries, IsQueryFault, IsQueryGiven, IsQueryComplete, IsQueryDone, IsUnopenedAsked}

-- ---- where it opens

-- the end and the text of an answer
abbrev Gives : ClosingState → (bytes : List ℕ) → (out : Seen) → Status → Type 0
Gives s bytes out end = (o : Outcome) × IsPathAnswer s bytes o × (end ≡ o.status) × Received out o.text

module _ (vol : SeenVolume) (input out err : Seen) where
  -- an end that may cut an answer short has its cause
  cut_fault : (end : Status) → DidPath input out err vol end → IsCutShort end → IsQueryFault vol input out err end
  cut_fault status.ReadFault did short = inl (refl, did.read_fault refl)
  cut_fault status.WriteFault did short = inr (inl (refl, did.write_fault refl))
  cut_fault status.DiskFault did short = inr (inr (inl (refl, did.disk_fault refl)))
  cut_fault status.NoMemory did short = inr (inr (inr refl))
  cut_fault status.Done did short = absurd short
  cut_fault status.Usage did short = absurd short
  cut_fault status.Refused did short = absurd short
  cut_fault (status.BadStore file offset) did short = absurd short
  cut_fault (status.BadInput at) did short = absurd short
  cut_fault (status.BadImage rule) did short = absurd short
  cut_fault status.Missing did short = absurd short
  cut_fault status.AlreadyThere did short = absurd short
  cut_fault status.TooLarge did short = absurd short

  -- nothing is unasked of a volume that opens but for a fault
  unasked_fault : (s : ClosingState) (end : Status) → OpensTo vol.before.reads s → IsUnshown err vol end
      → IsQueryFault vol input out err end
  unasked_fault s status.Missing opens un = absurd (opens_not_missing vol.before.reads s opens un.0)
  unasked_fault s (status.BadStore file offset) opens un =
      absurd (opens_not_bad vol.before.reads s file offset opens un.0)
  unasked_fault s status.DiskFault opens un = inr (inr (inl (refl, un)))
  unasked_fault s status.WriteFault opens un = inr (inl (refl, inr un))
  unasked_fault s status.NoMemory opens un = inr (inr (inr refl))
  unasked_fault s status.Done opens un = absurd un
  unasked_fault s status.Usage opens un = absurd un
  unasked_fault s status.Refused opens un = absurd un
  unasked_fault s status.ReadFault opens un = absurd un
  unasked_fault s (status.BadInput at) opens un = absurd un
  unasked_fault s (status.BadImage rule) opens un = absurd un
  unasked_fault s status.AlreadyThere opens un = absurd un
  unasked_fault s status.TooLarge opens un = absurd un

  module _ (s : ClosingState) (bytes : List ℕ) (end : Status) (did : DidPath input out err vol end) where
    by_answer : Answered (IsPathAnswer s bytes) (IsPathAnswerPrefix s bytes) out end
        → Gives s bytes out end ⊎ IsQueryFault vol input out err end
    by_answer (text, received, inl (o, is, e, same)) = inl (o, is, e, subst (Received out) same received)
    by_answer (text, received, inr (short, prefix)) = inr (cut_fault end did short)

    given_or_fault : vol.reports → OpensTo vol.before.reads s → input.before ≡ Some bytes
        → Gives s bytes out end ⊎ IsQueryFault vol input out err end
    given_or_fault te opens is = elim (did.asked te) [
      | inl (t, to, answered, is_end, stay) ↦
          let same : t ≡ s = opens_to_one vol.before.reads t s to opens in
          let mine = subst (λ (x : ClosingState). IsQueryAnswered x input out end) same answered in
          by_answer (subst (λ (b : Option (List ℕ)). IfSome b
          (λ bytes. Answered (IsPathAnswer s bytes) (IsPathAnswerPrefix s bytes) out end)) is mine)
      | inr (unread, unwritten, un) ↦ inr (unasked_fault s end opens un)
    ]

pub query_given : AnswersAreOne → (vol : SeenVolume) → Queries vol (IsQueryGiven vol)
query_given one vol s bytes input out err end did te opens is o its =
    elim (given_or_fault vol input out err s bytes end did te opens is) [
      | inl (other, same, e, received) ↦
          let single : other ≡ o = one s bytes other o same its in
          inl (subst (λ (x : Outcome). (end ≡ x.status) × Received out x.text) single (e, received))
      | inr failed ↦ inr failed
    ]

no_fault : (vol : SeenVolume) (input out err : Seen) (end : Status) → NothingFailed input out err vol
    → IsQueryFault vol input out err end → end ≡ status.NoMemory
no_fault vol input out err end none (inl (e, failed)) = absurd (none.streams.no_read failed)
no_fault vol input out err end none (inr (inl (e, failed))) =
    absurd (neither_failed out err none.streams.no_write none.streams.no_line failed)
no_fault vol input out err end none (inr (inr (inl (e, failed)))) = absurd (none.no_disk failed)
no_fault vol input out err end none (inr (inr (inr e))) = e

pub query_complete : (vol : SeenVolume) → Queries vol (IsQueryComplete vol)
query_complete vol s bytes input out err end did te opens is none =
    elim (given_or_fault vol input out err s bytes end did te opens is) [
      | inl given ↦ inl given
      | inr failed ↦ inr (no_fault vol input out err end none failed)
    ]

pub query_done : (vol : SeenVolume) → Queries vol (IsQueryDone vol)
query_done vol s bytes input out err end did te opens is asked none =
    elim (query_complete vol s bytes input out err end did te opens is none) [
      | inl (o, answer, e, received) ↦
          let found = valid_answer s bytes asked o answer in
          inl (
            e ∙ ap (λ (x : Outcome). x.status) found.2,
            (found.0, found.1, subst (λ (x : Outcome). Received out x.text) found.2 received),
          )
      | inr e ↦ inr e
    ]

-- ---- where it doesn't open

pub unopened_asked : (vol : SeenVolume) → IsUnopenedAsked vol
unopened_asked vol input out err end did te = elim (did.asked te) [
  | inl (s, opens, answered, is_end, stay) ↦ (
    (λ none. absurd (opens_not_missing vol.before.reads s opens none)),
    (λ file offset bad. absurd (opens_not_bad vol.before.reads s file offset opens bad)),
  )
  | inr (unread, unwritten, un) ↦ (
    (λ none. missing_unshown err vol end none un),
    (λ file offset bad. bad_unshown err vol end file offset bad un),
  )
]
