-- That a start image is judged to be one thing, and that the image of a state is judged to be that state.
use Rattle.std.specs.Prelude.{◌≡◌, Result, Ok}
use Rattle.close_rules.specs.ledger_types.declared.ids.Hash.{Hash}
use Rattle.close_rules.specs.xdr_header.declared.image.StartImage.{StartImage}
use Rattle.close_rules.specs.xdr_header.Image.{start_image}
use Rattle.close_rules.specs.xdr_header.Header.{ledger_header}
use Rattle.close_rules.specs.declared.image_fault.ImageFault.{ImageFault}
use Rattle.close_rules.specs.State.{ClosingState, IsClosingState}
use Rattle.close_rules.specs.Images.{IsJudged, AreFilesOf}

-- an image represents one state, or there is one reason why it represents none
abbrev pub ImagesAreOne : Type 0
ImagesAreOne = (network : Hash) (image : StartImage) (a b : Result ClosingState ImageFault)
    → IsJudged network image a → IsJudged network image b → a ≡ b

-- the image of a state: the encoding of its header, and the files of its levels
pub record IsImageOf (s : ClosingState) (image : StartImage) : Type 0 where
  pub header : image.header ≡ ledger_header.encoding s.header
  pub files : AreFilesOf s.levels image.files

-- the image of a ledger's state can be written, and represents that state
abbrev pub ImagesRepresentStates : Type 0
ImagesRepresentStates = (s : ClosingState) (image : StartImage) → IsClosingState s → IsImageOf s image
    → start_image.within image × IsJudged s.network image (Ok s)
