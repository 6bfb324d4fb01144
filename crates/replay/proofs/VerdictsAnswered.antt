-- Where nothing failed a run of `verify` is complete, and a verdict is answered unless something failed.
use Rattle.replay.proofs.Prelude.{◌≡◌, ◌∙◌, ℕ, List, Option, Some, IfSome, ap, subst, inl, inr, ◌⊎◌, Seen, Received}
use Rattle.replay.proofs.Prelude.{Status}
use Rattle.replay.proofs.Prelude.{IsCutShort, Outcome, Answered, SeenVolume, Command, Parses, commands_are_one}
use Rattle.replay.proofs.Prelude.{DidNothing, Ok, RanAs, Ran, refl}
use Rattle.stored_outcome.specs.run_outcome.declared.status.Status.TheVariants as status
use Rattle.stored_outcome.specs.run_outcome.VerifyRun.{DidVerify, IsVerdict, IsVerdictPrefix, IsVerifyEnd}
use Rattle.command_words.specs.Words.{Verify}
use Rattle.stored_outcome.specs.run_outcome.VerifyRun.{verdict_outcome}
use Rattle.reports.proofs.OneVerdict.{chain_verdict, verdicts_are_one}
use Rattle.replay.specs.Completeness.{NoneFailed}
use Rattle.replay.specs.VerifyLaws.{Verifications, VerifyRuns, IsVerifyComplete, IsVerifyAnswered, IsVerifyDone}
use Rattle.replay.proofs.Completing.{Failing, only_memory}

-- the run that the words ask for
verify_of : (words : List (List ℕ)) (input out err : Seen) (vol : SeenVolume) (end : Status)
    → Ran words input out err vol end → Parses words Verify
    → DidVerify input out err end ⊎ DidNothing status.NoMemory input out err vol end
verify_of words input out err vol end (inl (command, encoded, ran)) is =
    inl (subst (λ (c : Command). RanAs c input out err vol end)
    (commands_are_one words command Verify encoded is) ran).0
verify_of words input out err vol end (inr (inl (none, did))) is = absurd (none Verify is)
verify_of words input out err vol end (inr (inr (command, encoded, did))) is = inr did

-- what is claimed of each run of `verify` is of those that words ask for
runs_of : (vol : SeenVolume) (P : (input : List ℕ) → (Seen → Seen → Seen → Status → Type 0)) → Verifications P
    → VerifyRuns vol P
runs_of vol P h words bytes input out err end ran command reported =
    elim (verify_of words input out err vol end ran command) [
      | inl did ↦ inl (h bytes input out err end did reported)
      | inr nothing ↦ inr nothing
    ]

module _ (bytes : List ℕ) (input out err : Seen) (end : Status) (did : DidVerify input out err end) where
  failing : (end' : Status) → end ≡ end' → IsCutShort end' → Failing input out err end
  failing status.ReadFault e short = inl (e, did.read_fault e)
  failing status.WriteFault e short = inr (inl (e, did.write_fault e))
  failing status.NoMemory e short = inr (inr e)
  failing status.DiskFault e short = absurd (subst IsVerifyEnd e did.is_end)
  failing status.Done e short = absurd short
  failing status.Usage e short = absurd short
  failing status.Refused e short = absurd short
  failing (status.BadStore file offset) e short = absurd short
  failing status.Missing e short = absurd short
  failing status.AlreadyThere e short = absurd short
  failing (status.BadInput at) e short = absurd short
  failing (status.BadImage rule) e short = absurd short
  failing status.TooLarge e short = absurd short

  answered_own : (o : Outcome) → Answered (IsVerdict bytes) (IsVerdictPrefix bytes) out end → IsVerdict bytes o
      → ((end ≡ o.status) × Received out o.text) ⊎ Failing input out err end
  answered_own o (text, h, inl (x, is, e, are)) y =
      let same = verdicts_are_one bytes x o is y in
      inl (subst (λ (z : Outcome). (end ≡ z.status) × Received out z.text) same (e, subst (Received out) are h))
  answered_own o (text, h, inr (short, f)) y = inr (failing end refl short)

  complete : NoneFailed input out err → Answered (IsVerdict bytes) (IsVerdictPrefix bytes) out end
      → ((o : Outcome) × IsVerdict bytes o × (end ≡ o.status) × Received out o.text) ⊎ (end ≡ status.NoMemory)
  complete none (text, h, inl (o, is, e, are)) = inl (o, is, e, subst (Received out) are h)
  complete none (text, h, inr (short, f)) = inr (only_memory input out err end none (failing end refl short))

  answered_to : input.before ≡ Some bytes → Answered (IsVerdict bytes) (IsVerdictPrefix bytes) out end
  answered_to reported =
      subst (λ (before : Option (List ℕ)). IfSome before
      (λ given. Answered (IsVerdict given) (IsVerdictPrefix given) out end)) reported did.answered

pub verifications_answered : Verifications IsVerifyAnswered
verifications_answered bytes input out err end did reported o is =
    answered_own bytes input out err end did o (answered_to bytes input out err end did reported) is

pub verifications_complete : Verifications IsVerifyComplete
verifications_complete bytes input out err end did reported none =
    complete bytes input out err end did none (answered_to bytes input out err end did reported)

pub verifications_done : Verifications IsVerifyDone
verifications_done bytes input out err end did reported chain none =
    elim (verifications_complete bytes input out err end did reported none) [
      | inl (o, is, e, received) ↦
          let same : o ≡ verdict_outcome (Ok chain.verified) =
          verdicts_are_one bytes o (verdict_outcome (Ok chain.verified)) is (chain_verdict bytes chain) in
          inl (e ∙ ap (λ (x : Outcome). x.status) same, subst (λ (x : Outcome). Received out x.text) same received)
      | inr e ↦ inr e
    ]

pub verify_runs_answered : (vol : SeenVolume) → VerifyRuns vol IsVerifyAnswered
verify_runs_answered vol = runs_of vol IsVerifyAnswered verifications_answered

pub verify_runs_complete : (vol : SeenVolume) → VerifyRuns vol IsVerifyComplete
verify_runs_complete vol = runs_of vol IsVerifyComplete verifications_complete

pub verify_runs_done : (vol : SeenVolume) → VerifyRuns vol IsVerifyDone
verify_runs_done vol = runs_of vol IsVerifyDone verifications_done
