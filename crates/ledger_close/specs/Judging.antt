-- How far an image was judged.
use Rattle.std.specs.Prelude.{◌≡◌, ◌≢◌, ◌≤◌, ◌⊎◌, ℕ, List, Some, None, Result, Ok, Err}
use Rattle.ledger_types.specs.declared.header.LedgerHeader.{LedgerHeader}
use Rattle.xdr_header.specs.declared.image.StartImage.{StartImage}
use Rattle.xdr_header.specs.Header.{ledger_header}
use Rattle.entry_map.specs.EntryMap.{EntryMap}
use Rattle.entry_map.specs.Indexes.{PositionMap}
use Rattle.level_pages.specs.Represented.{AreCounted}
use Rattle.bucket_levels.specs.Pairs.{Pair}
use Rattle.bucket_levels.specs.Meaning.{AreWellMarked, Represent}
use Rattle.bucket_levels.specs.Hash.{list_hash}
use Rattle.bucket_levels.specs.Size.{file_total}
use Rattle.close_rules.specs.declared.image_fault.ImageFault.{ImageFault}
use Rattle.close_rules.specs.declared.image_fault.ImageFault.TheVariants as fault
use Rattle.close_rules.specs.declared.image_fault.ImageRule.{ImageRule}
use Rattle.close_rules.specs.declared.image_fault.ImageRule.TheVariants as rule
use Rattle.close_rules.specs.State.{IsEncoded, max_file_total}
use Rattle.close_rules.specs.EntryRules.{IsFirstBroken, entry_rules}
use Rattle.close_rules.specs.Images.{header_in, HasHeader, AreFilesOf, BreaksVersion, BreaksFields}

abbrev pub broken : ImageRule → ImageFault
broken rule = fault.BadImage rule

-- the header was read, and can be written
abbrev pub IsHeaderRead : List ℕ → Result LedgerHeader ImageFault → Type 0
IsHeaderRead bytes (Ok h) = (header_in bytes ≡ Some h) × IsEncoded ledger_header h
IsHeaderRead bytes (Err fault.NoMemory) = Unit {0}
IsHeaderRead bytes (Err (fault.BadImage rule.Header)) = header_in bytes ≡ None
IsHeaderRead bytes (Err other) = ⊥

-- the first three rules were judged
abbrev pub IsHeaderJudged : StartImage → Result LedgerHeader ImageFault → Type 0
IsHeaderJudged image (Ok h) = HasHeader image h × IsEncoded ledger_header h
IsHeaderJudged image (Err fault.NoMemory) = Unit {0}
IsHeaderJudged image (Err (fault.BadImage rule.Header)) = header_in image.header ≡ None
IsHeaderJudged image (Err (fault.BadImage rule.Version)) = BreaksVersion image
IsHeaderJudged image (Err (fault.BadImage rule.Fields)) = BreaksFields image
IsHeaderJudged image (Err other) = ⊥

-- levels with these files, which aren't too long
pub record DoFilesFit (files : List (List ℕ)) (levels : List Pair) : Type 0 where
  pub are : AreFilesOf levels files
  pub fit : file_total levels ≤ max_file_total

-- ---- entries

-- well marked levels, and the entries that they represent
pub record Lists (levels : List Pair) (m : EntryMap) : Type 0 where
  pub marks : AreWellMarked levels
  pub existing : Represent levels m

abbrev pub IsMarksFault : List Pair → ImageFault → Type 0
IsMarksFault levels fault.NoMemory = Unit {0}
IsMarksFault levels (fault.BadImage rule.Marks) = AreWellMarked levels → ⊥
IsMarksFault levels other = ⊥

-- the hash of the levels and the entries were judged
abbrev pub AreJudged : LedgerHeader → List Pair → EntryMap → Result (Unit {0}) ImageFault → Type 0
AreJudged h levels m (Ok done) = (list_hash levels ≡ h.bucket_list_hash) × IsFirstBroken h m entry_rules None
AreJudged h levels m (Err fault.NoMemory) = Unit {0}
AreJudged h levels m (Err (fault.BadImage rule.ListHash)) = list_hash levels ≢ h.bucket_list_hash
AreJudged h levels m (Err (fault.BadImage other)) =
    (list_hash levels ≡ h.bucket_list_hash) × IsFirstBroken h m entry_rules (Some other)

-- the levels aren't marked well, or their hash or their entries break a rule
abbrev pub AreRefused : LedgerHeader → List Pair → ImageFault → Type 0
AreRefused h levels wrong =
    IsMarksFault levels wrong ⊎ ((m : EntryMap) × Lists levels m × AreJudged h levels m (Err wrong))

-- the levels and their entries keep all rules
pub record AreKept (h : LedgerHeader) (levels : List Pair) (m : EntryMap) : Type 0 where
  pub exists : Lists levels m
  pub judged : AreJudged h levels m (Ok tt)

-- the rules after that of files were judged: with the entries, or with the index of offers and the number of them
abbrev pub AreLevelsJudged : LedgerHeader → List Pair → Result EntryMap ImageFault → Type 0
AreLevelsJudged h levels (Ok m) = AreKept h levels m
AreLevelsJudged h levels (Err wrong) = AreRefused h levels wrong

abbrev pub AreLevelsCounted : LedgerHeader → List Pair → Result (PositionMap × ℕ) ImageFault → Type 0
AreLevelsCounted h levels (Ok counted) = (m : EntryMap) × AreKept h levels m × AreCounted m counted.0 counted.1
AreLevelsCounted h levels (Err wrong) = AreRefused h levels wrong
