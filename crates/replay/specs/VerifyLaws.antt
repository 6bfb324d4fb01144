-- What runs of `verify` answer, as they are run by the words or alone: where nothing failed, where the input is a
-- chain, and where the outcome is another one.
use Rattle.std.specs.Prelude.{◌≡◌, List, ℕ, Some, ◌⊎◌}
use Rattle.stored_outcome.specs.run_streams.Seen.{Seen, Failed, Received}
use Rattle.stored_outcome.specs.run_streams.SeenVolume.{SeenVolume}
use Rattle.stored_outcome.specs.run_outcome.declared.status.Status.{Status}
use Rattle.stored_outcome.specs.run_outcome.declared.status.Status.TheVariants as status
use Rattle.stored_outcome.specs.run_outcome.Outcome.{Outcome}
use Rattle.stored_outcome.specs.run_outcome.VerifyRun.{DidVerify, IsVerdict, verified_line}
use Rattle.reports.specs.HistoryInput.{IsChain}
use Rattle.command_words.specs.Words.{Verify, Parses}
use Rattle.stored_outcome.specs.Program.{DidNothing, Ran}
use Rattle.replay.specs.Completeness.{NoneFailed}

-- an input has one verdict
abbrev pub VerdictsAreOne : Type 0
VerdictsAreOne = (input : List ℕ) (a b : Outcome) → IsVerdict input a → IsVerdict input b → a ≡ b

-- a claim of each run of `verify` on an input
abbrev pub Verifications : ((input : List ℕ) → (Seen → Seen → Seen → Status → Type 0)) → Type 0
Verifications P = (bytes : List ℕ) (input out err : Seen) (end : Status) → DidVerify input out err end
    → input.before ≡ Some bytes → P bytes input out err end

-- the same, of the runs beside this volume that the words ask for, but where memory was refused as they were read
abbrev pub VerifyRuns : SeenVolume → ((input : List ℕ) → (Seen → Seen → Seen → Status → Type 0)) → Type 0
VerifyRuns vol P = (words : List (List ℕ)) (bytes : List ℕ) (input out err : Seen) (end : Status)
    → Ran words input out err vol end → Parses words Verify → input.before ≡ Some bytes
    → P bytes input out err end ⊎ DidNothing status.NoMemory input out err vol end

-- where nothing failed the end and the line are those of the verdict, or memory was refused
abbrev pub IsVerifyComplete : (bytes : List ℕ) → (input out err : Seen) → (end : Status) → Type 0
IsVerifyComplete bytes input out err end = NoneFailed input out err
    → ((o : Outcome) × IsVerdict bytes o × (end ≡ o.status) × Received out o.text) ⊎ (end ≡ status.NoMemory)

-- where the input is a chain, and nothing failed, that is written, or memory was refused
abbrev pub IsVerifyDone : (bytes : List ℕ) → (input out err : Seen) → (end : Status) → Type 0
IsVerifyDone bytes input out err end = (chain : IsChain bytes) → NoneFailed input out err
    → ((end ≡ status.Done) × Received out (verified_line chain.verified)) ⊎ (end ≡ status.NoMemory)

-- a verdict is answered with its status and line, unless a stream failed or memory was refused
abbrev pub IsVerifyAnswered : (bytes : List ℕ) → (input out err : Seen) → (end : Status) → Type 0
IsVerifyAnswered bytes input out err end = (o : Outcome) → IsVerdict bytes o
    → ((end ≡ o.status) × Received out o.text)
    ⊎ ((end ≡ status.ReadFault) × Failed input)
    ⊎ ((end ≡ status.WriteFault) × (Failed out ⊎ Failed err))
    ⊎ (end ≡ status.NoMemory)
