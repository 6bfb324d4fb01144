-- What files say of each key, as rows of items under their keys.
use Rattle.std.specs.Prelude.{◌≡◌, ℕ, ◌+◌, ◌<◌, ◌≤◌, ◌↔◌, List, [], ◌∷◌, drop, length, Option, Some, None, option_map}
use Rattle.ledger_types.specs.declared.bucket.BucketEntry.{BucketEntry}
use Rattle.ledger_types.specs.declared.bucket.BucketEntry.TheVariants as bucket
use Rattle.ledger_types.specs.declared.entry.LedgerEntry.{LedgerEntry}
use Rattle.ledger_types.specs.declared.key.LedgerKey.{LedgerKey}
use Rattle.bucket_items.specs.declared.item.BucketEntryType.{BucketEntryType}
use Rattle.bucket_items.specs.declared.item.BucketEntryType.TheVariants as mark
use Rattle.entry_table.specs.Rows.{IsRising, value_at, IsOverlaid, IsPassed}
use Rattle.bucket_core.specs.Bucket.{Change, Init, Live, Dead, Contents, change_at, IsUnderKey}
use Rattle.bucket_levels.specs.Meaning.{changes_of, AreMarkedWell, MayFollow}

-- what an item says of its key; META has none
abbrev pub stated : BucketEntry → Change
stated (bucket.Meta version) = Dead
stated (bucket.Live entry) = Live entry
stated (bucket.Dead k) = Dead
stated (bucket.Init entry) = Init entry

-- the entry that an item leaves, if it leaves one
abbrev pub entry_in : BucketEntry → Option LedgerEntry
entry_in (bucket.Meta version) = None
entry_in (bucket.Live entry) = Some entry
entry_in (bucket.Dead k) = None
entry_in (bucket.Init entry) = Some entry

-- the entries that the items of a row leave
abbrev pub prepended_to : Option LedgerEntry → List LedgerEntry → List LedgerEntry
prepended_to None others = others
prepended_to (Some e) others = e ∷ others

abbrev pub entries_in : List (LedgerKey × BucketEntry) → List LedgerEntry
entries_in [] = []
entries_in (x ∷ xs) = prepended_to (entry_in x.1) (entries_in xs)

-- a row says of each key what a file does
pub record IsFileRow (file : Contents) (row : List (LedgerKey × BucketEntry)) : Type 0 where
  pub rises : IsRising row
  pub says : (k : LedgerKey) → option_map stated (value_at k row) ≡ change_at file k
  pub own : (k : LedgerKey) (item : BucketEntry) → value_at k row ≡ Some item → IsUnderKey k (stated item)

-- the newest of some changes, alone
abbrev pub newest : List Change → Option Change
newest [] = None
newest (change ∷ older) = Some change

abbrev pub alone : Option Change → List Change
alone None = []
alone (Some change) = change ∷ []

-- files are marked well, and the row says of each key what the newest one does that says something of it
pub record IsNewestRow (files : List Contents) (row : List (LedgerKey × BucketEntry)) : Type 0 where
  pub rises : IsRising row
  pub says : (k : LedgerKey) → option_map stated (value_at k row) ≡ newest (changes_of files k)
  pub own : (k : LedgerKey) (item : BucketEntry) → value_at k row ≡ Some item → IsUnderKey k (stated item)
  pub marks : (k : LedgerKey) → AreMarkedWell (changes_of files k)

-- what is said of files, from the newest on
abbrev pub IsRowOf : List Contents → Option (List (LedgerKey × BucketEntry)) → Type 0
IsRowOf files None = ((k : LedgerKey) → AreMarkedWell (changes_of files k)) → ⊥
IsRowOf files (Some row) = IsNewestRow files row

-- whether an item of a type may follow an older one of another
abbrev pub MayFollowBy : BucketEntryType → BucketEntryType → Type 0
MayFollowBy mark.Init mark.Live = ⊥
MayFollowBy mark.Init mark.Init = ⊥
MayFollowBy mark.Init older = Unit {0}
MayFollowBy newer mark.Live = Unit {0}
MayFollowBy newer mark.Init = Unit {0}
MayFollowBy newer older = ⊥

-- each item of a newer row may follow what an older one has under its key
abbrev pub MayAllFollow : (older newer : List (LedgerKey × BucketEntry)) → Type 0
MayAllFollow older newer = (k : LedgerKey) (item : BucketEntry) → value_at k newer ≡ Some item
    → MayFollow (stated item) (alone (option_map stated (value_at k older)))

-- A newer row was put over an older one, or some newer item may not follow what is there.
abbrev pub IsPutOver : (older newer : List (LedgerKey × BucketEntry)) → Option (List (LedgerKey × BucketEntry)) → Type 0
IsPutOver older newer None = MayAllFollow older newer → ⊥
IsPutOver older newer (Some all) = MayAllFollow older newer × IsOverlaid older newer all

-- One step of judging: what is left is judged as all is, and is shorter; or all is refused.
pub record IsLeftToJudge (older newer others later : List (LedgerKey × BucketEntry)) : Type 0 where
  pub older_rises : IsRising others
  pub newer_rises : IsRising later
  pub same : MayAllFollow others later ↔ MayAllFollow older newer
  pub less : length others + length later < length older + length newer

abbrev pub IsJudgedFirst : (older : List (LedgerKey × BucketEntry)) → (index : ℕ)
    → (newer : List (LedgerKey × BucketEntry)) → (turn : ℕ) → Option (ℕ × ℕ) → Type 0
IsJudgedFirst older index newer turn None = MayAllFollow (drop index older) (drop turn newer) → ⊥
IsJudgedFirst older index newer turn (Some left) =
    IsLeftToJudge (drop index older) (drop turn newer) (drop left.0 older) (drop left.1 newer)

-- One step of putting a row over another one: what was written goes on as before, and less is ahead.
pub record IsPushedFirst (older : List (LedgerKey × BucketEntry)) (index : ℕ)
    (newer : List (LedgerKey × BucketEntry)) (turn : ℕ) (before after : List (LedgerKey × BucketEntry)) (left : ℕ × ℕ)
    : Type 0 where
  pub passed : IsPassed (drop index older) (drop turn newer) (drop left.0 older) (drop left.1 newer) before after
  pub older_within : left.0 ≤ length older
  pub newer_within : left.1 ≤ length newer
