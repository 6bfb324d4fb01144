-- That a close, an image, an input and the content of a volume have an answer.
use Rattle.std.specs.Prelude.{ℕ, ◌≤◌, List, length, All, Result, ◌⊎◌}
use Rattle.close_laws.specs.ledger_types.declared.ids.Hash.{Hash}
use Rattle.replay.specs.xdr_core.Format.{IsBytes}
use Rattle.replay.specs.xdr_core.Position.{Position}
use Rattle.close_laws.specs.xdr_header.declared.image.StartImage.{StartImage}
use Rattle.close_laws.specs.close_rules.declared.close_fault.CloseFault.{CloseFault}
use Rattle.close_laws.specs.close_rules.declared.image_fault.ImageFault.{ImageFault}
use Rattle.close_laws.specs.close_rules.State.{ClosingState, IsClosingState}
use Rattle.close_laws.specs.close_rules.Close.{PreparedClose, IsClose}
use Rattle.close_laws.specs.close_rules.Images.{IsJudged}
use Rattle.replay.specs.run_outcome.Outcome.{Outcome, max_record_len, IsRun, IsOutcome}
use Rattle.image_store.specs.outside.Disk.{Image}
use Rattle.image_store.specs.Opening.{HoldsNothing}
use Rattle.replay.specs.stored_outcome.Opening.{OpensTo, IsBadStore}

-- bytes, no more than a record may have, do something to each state from which a ledger closes
abbrev pub EachClose : Type 0
EachClose = (s : ClosingState) (bytes : List ℕ) → IsClosingState s → IsBytes bytes → length bytes ≤ max_record_len
    → (answer : Result PreparedClose CloseFault) × IsClose s bytes answer

-- the bytes after such a state yield something
abbrev pub EachRun : Type 0
EachRun = (s : ClosingState) (p : Position) → IsClosingState s → IsBytes p.rest → (o : Outcome) × IsRun s p o

-- an image, of which the files are bytes, represents a state, or there is a reason why it represents none
abbrev pub EachImage : Type 0
EachImage = (network : Hash) (image : StartImage) → All IsBytes image.files
    → (judged : Result ClosingState ImageFault) × IsJudged network image judged

-- an input has an outcome on each network
abbrev pub EachOutcome : Type 0
EachOutcome = (passphrase input : List ℕ) → IsBytes input → (o : Outcome) × IsOutcome passphrase input o

-- a content opens to a state from which a ledger closes, or has no store, or has a fault
abbrev pub Opened : Image → Type 0
Opened c =
    ((s : ClosingState) × IsClosingState s × OpensTo c s)
    ⊎ HoldsNothing c
    ⊎ ((file : ℕ) × (index : ℕ) × IsBadStore c file index)

-- so does each content of files that are bytes
abbrev pub EachContent : Type 0
EachContent = (c : Image) → ((file : ℕ) → IsBytes (c file)) → Opened c
