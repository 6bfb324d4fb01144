-- What runs of `watch` answer.
use Rattle.std.proofs.Common.{◌≡◌, ◌⊎◌, ◌∙◌, ℕ, List, Option, Some, ap, inl, inr, sym, subst}
use Rattle.std.specs.Prelude.{IfSome}
use Rattle.ledger_types.specs.declared.ids.AccountId.{AccountId}
use Rattle.run_outcome.specs.run_streams.Seen.{Seen}
use Rattle.run_outcome.specs.declared.status.Status.{Status}
use Rattle.run_outcome.specs.FileRun.{FileOutcome, IsFileAnswer, IsFileOutcome}
use Rattle.run_outcome.specs.WatchRun.{DidWatch, reader_text}
use Rattle.reports.proofs.OneKind.{IsDetermined}
use Rattle.command_words.specs.WatchWords.{Watch}
use Rattle.command_words.proofs.WatchTexts.{watches_are_one}
use Rattle.replay.specs.FileLaws.{IsWritingAnswered, IsWritingComplete, IsWritingDone}
use Rattle.replay.proofs.AllClosed.{done_by}
use Rattle.replay.proofs.FilesAnswered.{HasCauses, answered_by, complete_by}
use Rattle.replay.proofs.OneFile.{one_outcome}
use Rattle.watch_run.specs.WatchLaws.{IsByWatch, IsUsageReported, WatchOutcomesAreOne, Watches}

-- ---- words

pub by_watch : IsByWatch
by_watch words asked input out err end (inl (other, id, parses, is, did)) asks =
    let same : other ≡ asked = watches_are_one words other asked parses asks in
    inl (
      id,
      is ∙ ap (λ (w : Watch). w.account) same,
      subst (λ (w : Watch). DidWatch w.passphrase w.readers id input out err end) same did,
    )
by_watch words asked input out err end (inr (inl (none, unstarted))) asks = absurd (none asked asks)
by_watch words asked input out err end (inr (inr (other, parses, unstarted))) asks = inr unstarted

pub usage_reported : IsUsageReported
usage_reported words input out err end (inl (asked, id, parses, is, did)) none = absurd (none asked parses)
usage_reported words input out err end (inr (inl (parses_none, unstarted))) none = unstarted
usage_reported words input out err end (inr (inr (asked, parses, unstarted))) none = absurd (none asked parses)

-- ---- answers

watch_is_determined : (readers : ℕ) (id : AccountId) → IsDetermined (reader_text readers id)
watch_is_determined readers id = record {
  text = λ start closes t u h i. h ∙ sym i;
  apart = λ closes c more small large. large;
}

pub watch_outcomes_are_one : WatchOutcomesAreOne
watch_outcomes_are_one readers id = one_outcome (reader_text readers id) (watch_is_determined readers id)

module _ (passphrase : List ℕ) (readers : ℕ) (id : AccountId) (bytes : List ℕ) (input out err : Seen) (end : Status)
    (did : DidWatch passphrase readers id input out err end) (reported : input.before ≡ Some bytes) where
  causes : HasCauses input out err end
  causes = record { read_fault = did.read_fault; write_fault = did.write_fault }

  -- the answer to what the input was
  answer : IsFileAnswer (IsFileOutcome (reader_text readers id) passphrase bytes) out err end
  answer = subst (λ (before : Option (List ℕ)). IfSome before
      (λ x. IsFileAnswer (IsFileOutcome (reader_text readers id) passphrase x) out err end)) reported did.answered

  watch_complete : IsWritingComplete (reader_text readers id) passphrase bytes input out err end
  watch_complete none =
      complete_by (IsFileOutcome (reader_text readers id) passphrase bytes) input out err end causes none answer

  watch_answered : IsWritingAnswered (reader_text readers id) passphrase bytes input out err end
  watch_answered o one =
      answered_by (IsFileOutcome (reader_text readers id) passphrase bytes)
      (λ a b h i. watch_outcomes_are_one readers id passphrase bytes a b h i) input out err end causes o one answer

  watch_done : IsWritingDone (reader_text readers id) passphrase bytes input out err end
  watch_done start closes all small none =
      done_by (reader_text readers id) (watch_is_determined readers id) passphrase bytes start closes all small out err
      end (watch_complete none)

pub watches_complete : Watches IsWritingComplete
watches_complete passphrase readers id bytes input out err end did reported =
    watch_complete passphrase readers id bytes input out err end did reported

pub watches_answered : Watches IsWritingAnswered
watches_answered passphrase readers id bytes input out err end did reported =
    watch_answered passphrase readers id bytes input out err end did reported

pub watches_done : Watches IsWritingDone
watches_done passphrase readers id bytes input out err end did reported =
    watch_done passphrase readers id bytes input out err end did reported
