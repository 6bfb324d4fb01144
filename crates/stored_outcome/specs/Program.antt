-- What a run of the program leaves, by its words, over what was seen of its streams and its volume before and after.
use Rattle.std.specs.Prelude.{ℕ, List, ◌⊎◌}
use Rattle.run_outcome.specs.run_streams.Seen.{Seen, IsUntouched}
use Rattle.run_outcome.specs.run_streams.SeenVolume.{SeenVolume}
use Rattle.run_outcome.specs.declared.status.Status.{Status}
use Rattle.run_outcome.specs.declared.status.Status.TheVariants as status
use Rattle.run_outcome.specs.Run.{IsReported, DidCatchUp}
use Rattle.run_outcome.specs.FileRun.{DidWriteFile}
use Rattle.run_outcome.specs.HistoryRun.{history_file}
use Rattle.run_outcome.specs.ChangesRun.{changes_file}
use Rattle.run_outcome.specs.VerifyRun.{DidVerify}
use Rattle.command_words.specs.Words.{Command, CatchUp, Init, Run, Show, Sample, History, Changes, Verify, Path}
use Rattle.command_words.specs.Words.{Parses, ParsesNone}
use Rattle.stored_outcome.specs.StoredRun.{DidRun}
use Rattle.stored_outcome.specs.Init.{DidInit}
use Rattle.stored_outcome.specs.Show.{DidShow}
use Rattle.stored_outcome.specs.Sample.{DidSample}
use Rattle.stored_outcome.specs.Path.{DidPath}

-- Nothing is read, nothing is written to the output, and the volume stays the value that it was. This end is written.
pub record DidNothing (cause : Status) (input out err : Seen) (vol : SeenVolume) (end : Status) : Type 0 where
  pub reported : IsReported cause err end
  pub unread : IsUntouched input
  pub unwritten : IsUntouched out
  pub same : vol.same

abbrev pub RanAs : Command → (input out err : Seen) (vol : SeenVolume) → (end : Status) → Type 0
RanAs (CatchUp passphrase) input out err vol end = DidCatchUp passphrase input out err end × vol.same
RanAs (Init passphrase) input out err vol end = DidInit passphrase input err vol end × IsUntouched out
RanAs (Run workers) input out err vol end = DidRun input out err vol end
RanAs Show input out err vol end = DidShow out err vol end × IsUntouched input
RanAs (Sample seed ledgers) input out err vol end =
    DidSample seed ledgers out err end × IsUntouched input × vol.same
RanAs (History passphrase) input out err vol end =
    DidWriteFile history_file passphrase input out err end × vol.same
RanAs (Changes passphrase) input out err vol end =
    DidWriteFile changes_file passphrase input out err end × vol.same
RanAs Verify input out err vol end = DidVerify input out err end × vol.same
RanAs Path input out err vol end = DidPath input out err vol end

-- The words were run as a command, over these streams and this volume, with this end; or they are none; or memory was
-- refused while they were read.
abbrev pub Ran : (words : List (List ℕ)) → (input out err : Seen) (vol : SeenVolume) → (end : Status) → Type 0
Ran words input out err vol end =
    ((command : Command) × Parses words command × RanAs command input out err vol end)
    ⊎ (ParsesNone words × DidNothing status.Usage input out err vol end)
    ⊎ ((command : Command) × Parses words command × DidNothing status.NoMemory input out err vol end)
