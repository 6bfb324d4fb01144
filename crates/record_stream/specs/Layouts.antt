-- Where the parts of a start image are in its text, and what it is to take them from there.
use Rattle.std.specs.Prelude.{◌≡◌, ℕ, ◌+◌, ◌<◌, ◌≤◌, List, take, drop, length, map, slice_index_or, All}
use Rattle.std.specs.Prelude.{Result, Ok, Err}
use Rattle.xdr_core.specs.declared.fault.XdrFault.{XdrFault}
use Rattle.xdr_core.specs.Format.{IsBytes}
use Rattle.xdr_core.specs.Position.{Position, start_of}
use Rattle.xdr_core.specs.Xdr.{Xdr}
use Rattle.xdr_header.specs.declared.image.StartImage.{StartImage}
use Rattle.xdr_header.specs.Image.{start_image}
use Rattle.record_stream.specs.declared.layout.Span.{Span}
use Rattle.record_stream.specs.declared.layout.Layout.{Layout}

-- a piece of a text
abbrev pub piece : List ℕ → Span → List ℕ
piece text span = take span.len (drop span.start text)

-- it ends where the text does, or before
abbrev pub IsWithin : List ℕ → Span → Type 0
IsWithin text span = span.start + span.len ≤ length text

abbrev pub AreWithin : List ℕ → List Span → Type 0
AreWithin text spans = All (IsWithin text) spans

-- how long the piece at an index is, and that no other one is longer
abbrev pub len_at : List Span → ℕ → ℕ
len_at spans index = (slice_index_or spans index (record { start = 0; len = 0 })).len

abbrev pub IsLongest : List Span → ℕ → Type 0
IsLongest spans index = (k : ℕ) → k < length spans → len_at spans k ≤ len_at spans index

-- the image whose parts are laid out so in a text
abbrev pub image_in : List ℕ → Layout → StartImage
image_in text layout = record { header = piece text layout.header; files = map (piece text) layout.files }

-- an offset in a text of bytes
pub record IsIn (text : List ℕ) (p : Position) : Type 0 where
  pub bytes : IsBytes text
  pub within : p.at ≤ length text
  pub rest : p.rest ≡ drop p.at text

-- what was read between two offsets is this piece
pub record IsPassed (text : List ℕ) (f : Xdr (List ℕ)) (old new : Position) (span : Span) : Type 0 where
  pub reads : f.read old ≡ Ok (piece text span, new)
  pub len : length (piece text span) ≡ span.len
  pub within : IsWithin text span
  pub position : IsIn text new

-- ---- the image at the start of a text

-- its parts are laid out so
pub record IsLayout (text : List ℕ) (layout : Layout) : Type 0 where
  pub after : Position
  pub reads : start_image.read (start_of text) ≡ Ok (image_in text layout, after)
  pub end : layout.end ≡ after.at
  pub end_within : layout.end ≤ length text
  pub header_within : IsWithin text layout.header
  pub files_within : AreWithin text layout.files

-- its parts are laid out so, or it has this fault
abbrev pub IsLaidOut : List ℕ → Result Layout XdrFault → Type 0
IsLaidOut text (Ok layout) = IsLayout text layout
IsLaidOut text (Err wrong) = start_image.read (start_of text) ≡ Err wrong

-- it was taken, and the bytes after it are left
pub record IsTaken (old new : List ℕ) (image : StartImage) : Type 0 where
  pub after : Position
  pub reads : start_image.read (start_of old) ≡ Ok (image, after)
  pub following : new ≡ drop after.at old
