-- The state that a start image represents, or the first rule that the image breaks.
use Rattle.std.specs.Prelude.{◌≡◌, ◌≢◌, ℕ, ◌*◌, ◌^◌, ◌≤◌, pos, ◌≤ℤ◌, List, [], ◌∷◌, length, All, Option, Some}
use Rattle.std.specs.Prelude.{None, Result, Ok, Err}
use Rattle.std.specs.List.{flat_map}
use Rattle.ledger_types.specs.declared.ids.Hash.{Hash}
use Rattle.ledger_types.specs.declared.header.LedgerHeader.{LedgerHeader}
use Rattle.xdr_core.specs.declared.fault.XdrFault.{XdrFault}
use Rattle.xdr_core.specs.Position.{Reading, start_of}
use Rattle.header_chain.specs.xdr_header.declared.image.StartImage.{StartImage}
use Rattle.header_chain.specs.xdr_header.Header.{ledger_header}
use Rattle.bucket_levels.specs.entry_map.EntryMap.{EntryMap}
use Rattle.tx_apply.specs.legal_rules.Headers.{IsSupported, header_flags}
use Rattle.tx_apply.specs.op_form.Sequences.{last_seq}
use Rattle.bucket_levels.specs.bucket_core.File.{file_of, HasFile}
use Rattle.bucket_levels.specs.Spills.{level_count}
use Rattle.bucket_levels.specs.Pairs.{Pair}
use Rattle.bucket_levels.specs.Size.{file_total}
use Rattle.bucket_levels.specs.Meaning.{Represent, AreWellMarked}
use Rattle.bucket_levels.specs.Hash.{list_hash}
use Rattle.close_rules.specs.declared.image_fault.ImageFault.{ImageFault}
use Rattle.close_rules.specs.declared.image_fault.ImageFault.TheVariants as fault
use Rattle.close_rules.specs.declared.image_fault.ImageRule.{ImageRule}
use Rattle.close_rules.specs.declared.image_fault.ImageRule.TheVariants as rule
use Rattle.close_rules.specs.State.{ClosingState, max_file_total}
use Rattle.close_rules.specs.EntryRules.{entry_rules, IsFirstBroken}

-- ---- the header

-- a header after which no byte is left
abbrev pub if_complete : LedgerHeader → List ℕ → Option LedgerHeader
if_complete header [] = Some header
if_complete header (byte ∷ rest) = None

abbrev pub read_complete : Reading XdrFault LedgerHeader → Option LedgerHeader
read_complete (Ok x) = if_complete x.0 x.1.rest
read_complete (Err wrong) = None

-- 1: the header that bytes encode, if they encode one and no more
unfoldable pub header_in : List ℕ → Option LedgerHeader
header_in bytes = read_complete (ledger_header.read (start_of bytes))

-- 3: all but the version, which is a rule of its own
pub record AreFieldsInRange (h : LedgerHeader) : Type 0 where
  pub seq_low : 1 ≤ h.ledger_seq
  pub seq_high : h.ledger_seq ≤ last_seq
  pub base_fee : 1 ≤ h.base_fee
  pub base_reserve : 1 ≤ h.base_reserve
  pub total_coins : pos 0 ≤ℤ h.total_coins
  pub fee_pool : pos 0 ≤ℤ h.fee_pool
  pub id_pool : h.id_pool ≤ h.ledger_seq * 2 ^ 32
  pub flags : header_flags h ≤ 7

-- ---- the files

-- the files of levels, curr and snap of each, from the first level on
pub record AreFilesOf (levels : List Pair) (files : List (List ℕ)) : Type 0 where
  pub count : length levels ≡ level_count
  pub have : All (λ pair. HasFile pair.curr × HasFile pair.snap) levels
  pub are : files ≡ flat_map (λ pair. file_of pair.curr ∷ file_of pair.snap ∷ []) levels

-- 4: each file is that of a bucket, and together they aren't too long
pub record HasFiles (image : StartImage) (levels : List Pair) : Type 0 where
  pub files : AreFilesOf levels image.files
  pub fit : file_total levels ≤ max_file_total

-- ---- an image, as far as it is judged

-- the first three rules
pub record HasHeader (image : StartImage) (h : LedgerHeader) : Type 0 where
  pub reads : header_in image.header ≡ Some h
  pub version : IsSupported h.ledger_version
  pub fields : AreFieldsInRange h

-- the first four
pub record HasLevels (image : StartImage) (h : LedgerHeader) (levels : List Pair) : Type 0 where
  pub header : HasHeader image h
  pub files : HasFiles image levels

-- the first six, and the entries that the levels represent
pub record HasEntries (image : StartImage) (h : LedgerHeader) (levels : List Pair) (m : EntryMap) : Type 0 where
  pub files : HasLevels image h levels
  pub marks : AreWellMarked levels
  pub hash : list_hash levels ≡ h.bucket_list_hash
  pub existing : Represent levels m

-- the state after the ledger of an image
abbrev pub state_of : Hash → LedgerHeader → List Pair → EntryMap → ClosingState
state_of network h levels m = record { network = network; header = h; entries = m; levels = levels }

-- ---- what an image is judged to be

-- 2 to 6, each where those before it are kept
abbrev pub BreaksVersion : StartImage → Type 0
BreaksVersion image = (h : LedgerHeader) × (header_in image.header ≡ Some h) × (IsSupported h.ledger_version → ⊥)

abbrev pub BreaksFields : StartImage → Type 0
BreaksFields image =
    (h : LedgerHeader) × (header_in image.header ≡ Some h) × IsSupported h.ledger_version × (AreFieldsInRange h → ⊥)

abbrev pub BreaksBucket : StartImage → Type 0
BreaksBucket image = (h : LedgerHeader) × HasHeader image h × ((levels : List Pair) → HasFiles image levels → ⊥)

abbrev pub BreaksMarks : StartImage → Type 0
BreaksMarks image =
    (h : LedgerHeader) × (levels : List Pair) × HasLevels image h levels × (AreWellMarked levels → ⊥)

abbrev pub BreaksListHash : StartImage → Type 0
BreaksListHash image =
    (h : LedgerHeader) × (levels : List Pair) × HasLevels image h levels × AreWellMarked levels
    × (list_hash levels ≢ h.bucket_list_hash)

-- 7 to 13
abbrev pub BreaksEntries : StartImage → Option ImageRule → Type 0
BreaksEntries image broken =
    (h : LedgerHeader) × (levels : List Pair) × (m : EntryMap) × HasEntries image h levels m
    × IsFirstBroken h m entry_rules broken

-- the state that an image represents, or why there is none: the first rule that is broken
abbrev pub IsJudged : Hash → StartImage → Result ClosingState ImageFault → Type 0
IsJudged network image (Ok s) =
    (h : LedgerHeader) × (levels : List Pair) × (m : EntryMap) × HasEntries image h levels m
    × IsFirstBroken h m entry_rules None × (s ≡ state_of network h levels m)
IsJudged network image (Err (fault.BadImage rule.Header)) = header_in image.header ≡ None
IsJudged network image (Err (fault.BadImage rule.Version)) = BreaksVersion image
IsJudged network image (Err (fault.BadImage rule.Fields)) = BreaksFields image
IsJudged network image (Err (fault.BadImage rule.Bucket)) = BreaksBucket image
IsJudged network image (Err (fault.BadImage rule.Marks)) = BreaksMarks image
IsJudged network image (Err (fault.BadImage rule.ListHash)) = BreaksListHash image
IsJudged network image (Err (fault.BadImage other)) = BreaksEntries image (Some other)
IsJudged network image (Err fault.NoMemory) = ⊥
