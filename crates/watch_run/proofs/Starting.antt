-- A run of `watch` from its start image on.
use Rattle.watch_run.proofs.Prelude.{◌≡◌, ℕ, List, [], ◌++◌, Option, IfSome, refl, sym, subst, inl, inr, ◌⊎◌, Err}
use Rattle.watch_run.proofs.Prelude.{AccountId, ClosingState, EndsWatch, FileOutcome, IsFilePrefix, IsWatchRun}
use Rattle.watch_run.proofs.Prelude.{Received}
use Rattle.watch_run.proofs.Prelude.{RunPosition, Seen, Status, reader_text, with_file, without_file, refused_on_output}
use Rattle.reports.proofs.Streams.{known_before, over, rose_before}
use Rattle.replay.proofs.WritingFiles.{faulty_file, outcome_of, unjudged_file}
use Rattle.replay.specs.Starting.{Cut, IsBarred, IsJudgedSo, IsUncut, StartsAt}
use Rattle.replay.specs.hash_ids.Ids.{network_id_of}
use Rattle.run_outcome.specs.close_rules.xdr_header.declared.image.StartImage.{StartImage}
use Rattle.run_outcome.specs.FileRun.{IsFileOutcome, IsFileRun}
use Rattle.run_outcome.specs.declared.status.Status.TheVariants as status

-- ---- after a start image

module _ (readers : ℕ) (id : AccountId) (passphrase : List ℕ) (s : ClosingState) (at : ℕ) (ahead : List ℕ)
    (input out : Seen) (now : Option (List ℕ)) (faults : ℕ) (start : StartsAt passphrase s at ahead input) where
  abbrev p : RunPosition
  p = record { state = s; at = at; ahead = ahead }

  abbrev of_records : List ℕ → FileOutcome → Type 0
  of_records = IsWatchRun readers id p

  abbrev of_input : List ℕ → FileOutcome → Type 0
  of_input = IsFileOutcome (reader_text readers id) passphrase

  abbrev later : Seen
  later = over input.now now input.faults_now faults

  abbrev entire : Seen
  entire = over input.before now input.faults_before faults

  one_before : (o : FileOutcome) → IfSome later.before (λ bytes. of_records bytes o)
      → IfSome entire.before (λ bytes. of_input bytes o)
  one_before o h =
      known_before input.before input.now (start.cut.prefix ++ ahead) (λ bytes. of_records bytes o)
      (λ bytes. of_input bytes o) start.cut.gave
      (λ others run. outcome_of (reader_text readers id) passphrase s at ahead others input start o run) h

  prefix_by : (text others : List ℕ) → IsFilePrefix (of_records others) text
      → IsFilePrefix (of_input ((start.cut.prefix ++ ahead) ++ others)) text
  prefix_by text others (inl none) = inl none
  prefix_by text others (inr (o, run, prefix)) =
      inr (o, outcome_of (reader_text readers id) passphrase s at ahead others input start o run, prefix)

  prefix_before : (text : List ℕ) → IfSome later.before (λ bytes. IsFilePrefix (of_records bytes) text)
      → IfSome entire.before (λ bytes. IsFilePrefix (of_input bytes) text)
  prefix_before text h =
      known_before input.before input.now (start.cut.prefix ++ ahead) (λ bytes. IsFilePrefix (of_records bytes) text)
      (λ bytes. IsFilePrefix (of_input bytes) text) start.cut.gave (prefix_by text) h

  pub after_image : (end : Status) → EndsWatch of_records later out end → EndsWatch of_input entire out end
  after_image status.Done (at_end, (text, received, one)) =
      (at_end, (text, received, one_before (with_file text) one))
  after_image status.Refused (header, wrong, received, one) =
      (header, wrong, received, one_before (refused_on_output header wrong) one)
  after_image status.ReadFault (failed, received) =
      (rose_before input.faults_before input.faults_now faults start.cut.later failed, received)
  after_image status.WriteFault (failed, (text, received, prefix)) =
      (failed, (text, received, prefix_before text prefix))
  after_image status.NoMemory received = received
  after_image (status.BadInput wrong) (received, one) =
      (received, one_before (without_file (status.BadInput wrong)) one)
  after_image (status.BadImage rule) (received, one) =
      (received, one_before (without_file (status.BadImage rule)) one)
  after_image status.Usage h = absurd h
  after_image status.DiskFault h = absurd h
  after_image (status.BadStore file offset) h = absurd h
  after_image status.Missing h = absurd h
  after_image status.AlreadyThere h = absurd h
  after_image status.TooLarge h = absurd h

-- ---- without one

uncut_watch : (readers : ℕ) (id : AccountId) (passphrase : List ℕ) (input out : Seen) (end : Status)
    → IsUncut input end → Received out []
    → EndsWatch (IsFileOutcome (reader_text readers id) passphrase) input out end
uncut_watch readers id passphrase input out (status.BadInput at) h received =
    (received, faulty_file (reader_text readers id) passphrase at input.before h)
uncut_watch readers id passphrase input out status.ReadFault h received = (h.0, received)
uncut_watch readers id passphrase input out status.NoMemory h received = received
uncut_watch readers id passphrase input out status.Done h received = absurd h
uncut_watch readers id passphrase input out status.Usage h received = absurd h
uncut_watch readers id passphrase input out status.Refused h received = absurd h
uncut_watch readers id passphrase input out status.WriteFault h received = absurd h
uncut_watch readers id passphrase input out status.DiskFault h received = absurd h
uncut_watch readers id passphrase input out (status.BadStore file offset) h received = absurd h
uncut_watch readers id passphrase input out (status.BadImage rule) h received = absurd h
uncut_watch readers id passphrase input out status.Missing h received = absurd h
uncut_watch readers id passphrase input out status.AlreadyThere h received = absurd h
uncut_watch readers id passphrase input out status.TooLarge h received = absurd h

unjudged_watch : (readers : ℕ) (id : AccountId) (passphrase : List ℕ) (image : StartImage) (at : ℕ) (ahead : List ℕ)
    (input out : Seen) (end : Status) → Cut image at ahead input
    → IsJudgedSo (network_id_of passphrase) image (Err end) → Received out []
    → EndsWatch (IsFileOutcome (reader_text readers id) passphrase) input out end
unjudged_watch readers id passphrase image at ahead input out (status.BadImage rule) c is received =
    (received, unjudged_file (reader_text readers id) passphrase image at ahead input rule c is)
unjudged_watch readers id passphrase image at ahead input out status.NoMemory c is received = received
unjudged_watch readers id passphrase image at ahead input out status.Done c is received = absurd cc
unjudged_watch readers id passphrase image at ahead input out status.Usage c is received = absurd cc
unjudged_watch readers id passphrase image at ahead input out status.Refused c is received = absurd cc
unjudged_watch readers id passphrase image at ahead input out status.ReadFault c is received = absurd cc
unjudged_watch readers id passphrase image at ahead input out status.WriteFault c is received = absurd cc
unjudged_watch readers id passphrase image at ahead input out status.DiskFault c is received = absurd cc
unjudged_watch readers id passphrase image at ahead input out (status.BadStore file offset) c is received = absurd cc
unjudged_watch readers id passphrase image at ahead input out (status.BadInput wrong) c is received = absurd cc
unjudged_watch readers id passphrase image at ahead input out status.Missing c is received = absurd cc
unjudged_watch readers id passphrase image at ahead input out status.AlreadyThere c is received = absurd cc
unjudged_watch readers id passphrase image at ahead input out status.TooLarge c is received = absurd cc

pub barred_watch : (readers : ℕ) (id : AccountId) (passphrase : List ℕ) (input out : Seen) (end : Status)
    → IsBarred passphrase input end → Received out []
    → EndsWatch (IsFileOutcome (reader_text readers id) passphrase) input out end
barred_watch readers id passphrase input out end (inl uncut) received =
    uncut_watch readers id passphrase input out end uncut received
barred_watch readers id passphrase input out end (inr (image, at, ahead, c, is)) received =
    unjudged_watch readers id passphrase image at ahead input out end c is received
