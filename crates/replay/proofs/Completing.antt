-- Where nothing failed a run is complete, and an outcome is answered unless something failed.
use Rattle.replay.proofs.Prelude.{◌≡◌, ℕ, List, [], ◌++◌, Option, Some, IfSome, Ok, refl, sym, subst, ◌∙◌, inl, inr}
use Rattle.replay.proofs.Prelude.{◌⊎◌, append-nil, Seen, Failed, Received, XdrFault, Reading, StartImage, network_id_of}
use Rattle.replay.proofs.Prelude.{ClosingState, Status, IsCutShort, end_line, Outcome, frames, IsOutcomeOf, IsOutcome}
use Rattle.replay.proofs.Prelude.{AnsweredTo, DidCatchUp, SeenVolume, Command, CatchUp, Parses, commands_are_one}
use Rattle.replay.proofs.Prelude.{DidNothing, RanAs, Ran}
use Rattle.stored_outcome.specs.run_outcome.declared.status.Status.TheVariants as status
use Rattle.replay.specs.Completeness.{NoneFailed, Catchups, Runs, IsComplete, AreAccepted, IsDone, IsAnswered}
use Rattle.replay.proofs.OneOutcome.{outcomes_are_one}

-- the run that the words ask for
catchup_of : (words : List (List ℕ)) (passphrase : List ℕ) (input out err : Seen) (vol : SeenVolume) (end : Status)
    → Ran words input out err vol end → Parses words (CatchUp passphrase)
    → DidCatchUp passphrase input out err end ⊎ DidNothing status.NoMemory input out err vol end
catchup_of words passphrase input out err vol end (inl (command, encoded, ran)) is =
    inl (subst (λ (c : Command). RanAs c input out err vol end)
    (commands_are_one words command (CatchUp passphrase) encoded is) ran).0
catchup_of words passphrase input out err vol end (inr (inl (none, did))) is = absurd (none (CatchUp passphrase) is)
catchup_of words passphrase input out err vol end (inr (inr (command, encoded, did))) is = inr did

-- what is claimed of each run of `catchup` is of those that words ask for
runs_of : (vol : SeenVolume) (P : (passphrase input : List ℕ) → (Seen → Seen → Seen → Status → Type 0)) → Catchups P
    → Runs vol P
runs_of vol P h words passphrase bytes input out err end ran command reported =
    elim (catchup_of words passphrase input out err vol end ran command) [
      | inl did ↦ inl (h passphrase bytes input out err end did reported)
      | inr nothing ↦ inr nothing
    ]

answered_to : (passphrase bytes : List ℕ) (input out err : Seen) (end : Status)
    → DidCatchUp passphrase input out err end → input.before ≡ Some bytes → AnsweredTo passphrase bytes out end
answered_to passphrase bytes input out err end did reported =
    subst (λ (before : Option (List ℕ)). IfSome before (λ given. AnsweredTo passphrase given out end)) reported
    did.answered

-- ---- the other side

-- why an end cut a run short
abbrev pub Failing : (input out err : Seen) → (end : Status) → Type 0
Failing input out err end =
    ((end ≡ status.ReadFault) × Failed input) ⊎ ((end ≡ status.WriteFault) × (Failed out ⊎ Failed err))
    ⊎ (end ≡ status.NoMemory)

failing : (passphrase : List ℕ) (input out err : Seen) (end : Status) → DidCatchUp passphrase input out err end
    → IsCutShort end → Failing input out err end
failing passphrase input out err status.ReadFault did short = inl (refl, (did.read_fault refl).0)
failing passphrase input out err status.WriteFault did short = inr (inl (refl, did.write_fault refl))
failing passphrase input out err status.NoMemory did short = inr (inr refl)
failing passphrase input out err status.DiskFault did short = absurd did.is_end
failing passphrase input out err status.Done did short = absurd short
failing passphrase input out err status.Usage did short = absurd short
failing passphrase input out err status.Refused did short = absurd short
failing passphrase input out err (status.BadStore file offset) did short = absurd short
failing passphrase input out err status.Missing did short = absurd short
failing passphrase input out err status.AlreadyThere did short = absurd short
failing passphrase input out err status.TooLarge did short = absurd short
failing passphrase input out err (status.BadInput at) did short = absurd short
failing passphrase input out err (status.BadImage rule) did short = absurd short

answered_own : (passphrase bytes : List ℕ) (input out err : Seen) (end : Status) (o : Outcome)
    → DidCatchUp passphrase input out err end → AnsweredTo passphrase bytes out end → IsOutcome passphrase bytes o
    → ((end ≡ o.status) × Received out o.text) ⊎ Failing input out err end
answered_own passphrase bytes input out err end o did (text, h, inl (x, is, e, are)) y =
    let same = outcomes_are_one passphrase bytes x o is y in
    inl (subst (λ (z : Outcome). (end ≡ z.status) × Received out z.text) same
    (e, subst (Received out) are h))
answered_own passphrase bytes input out err end o did (text, h, inr (short, f)) y =
    inr (failing passphrase input out err end did short)

pub catchups_answered : Catchups IsAnswered
catchups_answered passphrase bytes input out err end did reported o is =
    answered_own passphrase bytes input out err end o did
    (answered_to passphrase bytes input out err end did reported) is

pub runs_answered : (vol : SeenVolume) → Runs vol IsAnswered
runs_answered vol = runs_of vol IsAnswered catchups_answered

-- ---- where nothing failed

pub only_memory : (input out err : Seen) (end : Status) → NoneFailed input out err → Failing input out err end
    → end ≡ status.NoMemory
only_memory input out err end none (inl (e, failed)) = absurd (none.no_read failed)
only_memory input out err end none (inr (inl (e, inl failed))) = absurd (none.no_write failed)
only_memory input out err end none (inr (inl (e, inr failed))) = absurd (none.no_line failed)
only_memory input out err end none (inr (inr e)) = e

complete : (passphrase bytes : List ℕ) (input out err : Seen) (end : Status) → DidCatchUp passphrase input out err end
    → NoneFailed input out err → AnsweredTo passphrase bytes out end
    → ((o : Outcome) × IsOutcome passphrase bytes o × (end ≡ o.status) × Received out o.text) ⊎ (end ≡ status.NoMemory)
complete passphrase bytes input out err end did none (text, h, inl (o, is, e, are)) =
    inl (o, is, e, subst (Received out) are h)
complete passphrase bytes input out err end did none (text, h, inr (short, f)) =
    inr (only_memory input out err end none (failing passphrase input out err end did short))

pub catchups_complete : Catchups IsComplete
catchups_complete passphrase bytes input out err end did reported none =
    complete passphrase bytes input out err end did none (answered_to passphrase bytes input out err end did reported)

pub runs_complete : (vol : SeenVolume) → Runs vol IsComplete
runs_complete vol = runs_of vol IsComplete catchups_complete

-- ---- where all records are accepted

accepted : (passphrase bytes lines : List ℕ) (now : ClosingState) → AreAccepted passphrase bytes lines now
    → IsOutcome passphrase bytes (record { status = status.Done; text = lines ++ end_line now.header })
accepted passphrase bytes lines now a =
    subst (λ (r : Reading XdrFault StartImage). IsOutcomeOf (network_id_of passphrase) r
    (record { status = status.Done; text = lines ++ end_line now.header })) (sym a.reads) (
      Ok a.start,
      a.judged,
      record {
        records = a.records;
        rest = [];
        cut = a.cut ∙ sym (append-nil (frames a.records));
        short = a.short;
        lines = lines;
        state = now;
        closed = a.closed;
        last = record { status = status.Done; text = end_line now.header };
        ends = refl;
        is = refl;
      },
    )

done : (input out err : Seen) (end : Status) (text : List ℕ) → NoneFailed input out err
    → ((end ≡ status.Done) × Received out text) ⊎ Failing input out err end
    → ((end ≡ status.Done) × Received out text) ⊎ (end ≡ status.NoMemory)
done input out err end text none (inl h) = inl h
done input out err end text none (inr failed) = inr (only_memory input out err end none failed)

pub catchups_done : Catchups IsDone
catchups_done passphrase bytes input out err end did reported lines now a none =
    done input out err end (lines ++ end_line now.header) none
    (catchups_answered passphrase bytes input out err end did reported
    (record { status = status.Done; text = lines ++ end_line now.header }) (accepted passphrase bytes lines now a))

pub runs_done : (vol : SeenVolume) → Runs vol IsDone
runs_done vol = runs_of vol IsDone catchups_done
