-- What the words of the program yield, what `show` and `sample` answer, and that `catchup` agrees with `run`.
use Rattle.std.specs.Prelude.{◌≡◌, ◌<◌, ◌≤◌, ◌^◌, ℕ, ◌+◌, suc, List, Ok, Err, ◌⊎◌}
use Rattle.stored_outcome.specs.run_streams.Seen.{Seen, Failed, Received}
use Rattle.stored_outcome.specs.run_streams.SeenVolume.{SeenVolume, VolumeFailed}
use Rattle.xdr_core.specs.Position.{Position, start_of}
use Rattle.xdr_header.specs.declared.image.StartImage.{StartImage}
use Rattle.xdr_header.specs.Image.{start_image}
use Rattle.hash_ids.specs.Ids.{network_id_of}
use Rattle.stored_outcome.specs.close_rules.declared.close_fault.CloseFault.TheVariants as fault
use Rattle.stored_outcome.specs.close_rules.State.{ClosingState}
use Rattle.stored_outcome.specs.close_rules.Close.{IsClose}
use Rattle.stored_outcome.specs.close_rules.Images.{IsJudged}
use Rattle.stored_outcome.specs.run_outcome.declared.status.Status.{Status}
use Rattle.stored_outcome.specs.run_outcome.declared.status.Status.TheVariants as status
use Rattle.stored_outcome.specs.run_outcome.Lines.{refused_line}
use Rattle.stored_outcome.specs.run_outcome.Outcome.{Outcome, IsRun, IsOutcome}
use Rattle.image_store.specs.Opening.{Kept, Holds, HoldsNothing}
use Rattle.command_words.specs.Words.{Command, Parses, ParsesNone}
use Rattle.stored_outcome.specs.sample_ledger.Samples.{Progress, HaveClosed, record_bytes}
use Rattle.stored_outcome.specs.Opening.{Yields, IsBadStore}
use Rattle.stored_outcome.specs.Show.{lines_shown, DidShow}
use Rattle.stored_outcome.specs.Sample.{IsSampled, IsEntire, DidSample}
use Rattle.stored_outcome.specs.Program.{DidNothing, RanAs, Ran}

-- ---- words

-- What words leave that are a command is what the command leaves, but where memory was refused as they were read. So
-- all that is known of runs of a command holds of its words.
abbrev pub IsByCommand : SeenVolume → Type 0
IsByCommand vol = (words : List (List ℕ)) (command : Command) (input out err : Seen) (end : Status)
    → Ran words input out err vol end → Parses words command
    → RanAs command input out err vol end ⊎ DidNothing status.NoMemory input out err vol end

-- words that are no command are answered so
abbrev pub IsUsageReported : SeenVolume → Type 0
IsUsageReported vol = (words : List (List ℕ)) (input out err : Seen) (end : Status) → Ran words input out err vol end
    → ParsesNone words → DidNothing status.Usage input out err vol end

-- ---- `show`

-- a claim of each `show` over this volume, which keeps this and yields that
abbrev pub Showings : SeenVolume → (Kept → ClosingState → (out err : Seen) → Status → Type 0) → Type 0
Showings vol P = (k : Kept) (s : ClosingState) (out err : Seen) (end : Status) → DidShow out err vol end → vol.reports
    → Holds vol.before.reads k → Yields k s → P k s out err end

-- the lines are written, unless a device failed or memory was refused
abbrev pub IsShowAnswered : SeenVolume → Kept → ClosingState → (out err : Seen) → Status → Type 0
IsShowAnswered vol k s out err end =
    ((end ≡ status.Done) × Received out (lines_shown k s))
    ⊎ ((end ≡ status.WriteFault) × (Failed out ⊎ Failed err))
    ⊎ ((end ≡ status.DiskFault) × VolumeFailed vol)
    ⊎ (end ≡ status.NoMemory)

-- where nothing failed they are written, or memory was refused
abbrev pub IsShowComplete : SeenVolume → Kept → ClosingState → (out err : Seen) → Status → Type 0
IsShowComplete vol k s out err end = (Failed out → ⊥) → (Failed err → ⊥) → (VolumeFailed vol → ⊥)
    → ((end ≡ status.Done) × Received out (lines_shown k s)) ⊎ (end ≡ status.NoMemory)

-- what failed where nothing is shown
abbrev pub IsShowFault : SeenVolume → (err : Seen) → Status → Type 0
IsShowFault vol err end =
    ((end ≡ status.WriteFault) × Failed err) ⊎ ((end ≡ status.DiskFault) × VolumeFailed vol)
    ⊎ (end ≡ status.NoMemory)

-- where a volume has no store, or a bad one, that is answered
abbrev pub IsUnopenedShown : SeenVolume → Type 0
IsUnopenedShown vol = (out err : Seen) (end : Status) → DidShow out err vol end → vol.reports
    → (HoldsNothing vol.before.reads → (end ≡ status.Missing) ⊎ IsShowFault vol err end)
    × ((file offset : ℕ) → IsBadStore vol.before.reads file offset
    → (end ≡ status.BadStore file offset) ⊎ IsShowFault vol err end)

-- ---- `sample`

-- at one record of the sample's the files of the ledger would be too long, and its line says so
pub record IsFullAt (seed k : ℕ) (o : Outcome) : Type 0 where
  pub now : Progress
  pub closed : HaveClosed seed k now
  pub bytes : ℕ
  pub full : IsClose now.state (record_bytes seed (suc k) now.state) (Err (fault.LedgerFull bytes))
  pub is : o ≡ record { status = status.Refused; text = refused_line now.state.header (fault.LedgerFull bytes) }

-- what a sample yields: all of its ledgers close, or one would be too long
abbrev pub IsCompleteOrFull : (seed ledgers : ℕ) → Outcome → Type 0
IsCompleteOrFull seed ledgers o = IsEntire seed ledgers o ⊎ ((k : ℕ) × (k < ledgers) × IsFullAt seed k o)

abbrev pub SamplesAreCompleteOrFull : Type 0
SamplesAreCompleteOrFull = (seed ledgers : ℕ) (o : Outcome) → seed < 2 ^ 32 → ledgers ≤ 20000 → IsSampled seed ledgers o
    → IsCompleteOrFull seed ledgers o

-- it is one thing
abbrev pub SamplesAreOne : Type 0
SamplesAreOne = (seed ledgers : ℕ) (a b : Outcome) → seed < 2 ^ 32 → ledgers ≤ 20000 → IsSampled seed ledgers a
    → IsSampled seed ledgers b → a ≡ b

-- where no stream failed it is answered, or memory was refused
abbrev pub SamplesAreComplete : Type 0
SamplesAreComplete = (seed ledgers : ℕ) (out err : Seen) (end : Status) → DidSample seed ledgers out err end
    → (Failed out → ⊥) → (Failed err → ⊥)
    → ((o : Outcome) × IsSampled seed ledgers o × (end ≡ o.status) × Received out o.text) ⊎ (end ≡ status.NoMemory)

-- ---- `catchup` and `run`

-- the end of the same records in an input that has n bytes more before them
abbrev pub status_after : ℕ → Status → Status
status_after n (status.BadInput at) = status.BadInput (n + at)
status_after n other = other

abbrev pub outcome_after : ℕ → Outcome → Outcome
outcome_after n o = record { status = status_after n o.status; text = o.text }

-- After an image of a state, an input yields what its records yield after the state, as `run` closes them, but
-- that offsets count from the start of the image. An image that a ledger gave is one of its state.
abbrev pub CatchupsAgree : Type 0
CatchupsAgree = (passphrase input : List ℕ) (image : StartImage) (p : Position) (s : ClosingState) (o own : Outcome)
    → start_image.read (start_of input) ≡ Ok (image, p) → IsJudged (network_id_of passphrase) image (Ok s)
    → IsOutcome passphrase input o → IsRun s (start_of p.rest) own → o ≡ outcome_after p.at own
