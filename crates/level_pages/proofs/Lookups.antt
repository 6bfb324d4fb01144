-- The newest change of a key, file by file.
use Rattle.std.proofs.Common.{◌<◌, length, arith, map, ◌≡◌, List, [], ◌∷◌, Option, Some, None, option_map, refl, sym}
use Rattle.std.proofs.Common.{ap, ◌∙◌}
use Rattle.ledger_types.specs.declared.bucket.BucketEntry.{BucketEntry}
use Rattle.ledger_types.specs.declared.key.LedgerKey.{LedgerKey}
use Rattle.bucket_core.specs.Bucket.{Change, Init, Live, Dead, Contents, change_at}
use Rattle.bucket_core.specs.File.{item_of}
use Rattle.bucket_levels.specs.declared.pair.LevelPair.{LevelPair}
use Rattle.bucket_levels.specs.Levels.{pair_of}
use Rattle.bucket_levels.specs.Meaning.{files_of, prepended, changes_of, entry_after, entry_by}
use Rattle.level_pages.specs.Newest.{entry_in, first_of, IsNewest}

abbrev item_by : LedgerKey → Option Change → Option BucketEntry
item_by k o = option_map (λ change. item_of (k, change)) o

silent_of : (k : LedgerKey) (o : Option Change) → None ≡ item_by k o → o ≡ None
silent_of k None h = refl
silent_of k (Some c) h = absurd (cc (h))

shown_of : (k : LedgerKey) (item : BucketEntry) (o : Option Change) (older : List Change) → Some item ≡ item_by k o
    → Some item ≡ item_by k (first_of (prepended o older))
shown_of k item None older h = absurd (cc (h))
shown_of k item (Some c) older h = h

-- a file that says something of a key says the newest
pub told_first : (k : LedgerKey) (item : BucketEntry) (c : Contents) (older : List Contents)
    → Some item ≡ item_by k (change_at c k) → IsNewest k (c ∷ older) (Some item)
unfolding changes_of
told_first k item c older h = shown_of k item (change_at c k) (changes_of older k) h

-- a file that says nothing of a key leaves it to the older ones
pub silent_first : (k : LedgerKey) (c : Contents) (older : List Contents) → None ≡ item_by k (change_at c k)
    → changes_of (c ∷ older) k ≡ changes_of older k
unfolding changes_of
silent_first k c older h = ap (λ (o : Option Change). prepended o (changes_of older k)) (silent_of k (change_at c k) h)

pub nothing : (k : LedgerKey) → changes_of [] k ≡ []
unfolding changes_of
nothing k = refl

entry_of_item : (k : LedgerKey) (c : Change) → entry_in (item_of (k, c)) ≡ entry_after c
entry_of_item k (Init e) = refl
entry_of_item k (Live e) = refl
entry_of_item k Dead = refl

left_by : (k : LedgerKey) (item : BucketEntry) (changes : List Change) → Some item ≡ item_by k (first_of changes)
    → entry_in item ≡ entry_by changes
left_by k item [] h = absurd (cc (h))
left_by k item (c ∷ older) h =
    let is : item ≡ item_of (k, c) = cc (h) in ap entry_in is ∙ entry_of_item k c

-- what the newest item leaves
pub left : (k : LedgerKey) (item : BucketEntry) (files : List Contents) → IsNewest k files (Some item)
    → entry_in item ≡ entry_by (changes_of files k)
left k item files h = left_by k item (changes_of files k) h

pub nothing_left : (k : LedgerKey) → None ≡ entry_by (changes_of [] k)
nothing_left k = sym (ap entry_by (nothing k))

more_of : (k : LedgerKey) (item : BucketEntry) (a b : Contents) (older : List Contents)
    → IsNewest k (a ∷ b ∷ []) (Some item) → IsNewest k (a ∷ b ∷ older) (Some item)
unfolding changes_of
more_of k item a b older h = by_two k item (change_at a k) (change_at b k) (changes_of older k) h
  where
    by_two : (k : LedgerKey) (item : BucketEntry) (o p : Option Change) (rest : List Change)
        → Some item ≡ item_by k (first_of (prepended o (prepended p [])))
        → Some item ≡ item_by k (first_of (prepended o (prepended p rest)))
    by_two k item None None rest h = absurd (cc (h))
    by_two k item None (Some c) rest h = h
    by_two k item (Some c) p rest h = h

pub newest_of_more : (k : LedgerKey) (item : BucketEntry) (a b : Contents) (older : List Contents)
    → IsNewest k (a ∷ b ∷ []) (Some item) → entry_in item ≡ entry_by (changes_of (a ∷ b ∷ older) k)
newest_of_more k item a b older h = left k item (a ∷ b ∷ older) (more_of k item a b older h)

none_of_two : (k : LedgerKey) (a b : Contents) (older : List Contents) → IsNewest k (a ∷ b ∷ []) None
    → changes_of (a ∷ b ∷ older) k ≡ changes_of older k
unfolding changes_of
none_of_two k a b older h = by_two k (change_at a k) (change_at b k) (changes_of older k) h
  where
    by_two : (k : LedgerKey) (o p : Option Change) (rest : List Change)
        → None ≡ item_by k (first_of (prepended o (prepended p []))) → prepended o (prepended p rest) ≡ rest
    by_two k None None rest h = refl
    by_two k None (Some c) rest h = absurd (cc (h))
    by_two k (Some c) p rest h = absurd (cc (h))

pub older_of_more : (k : LedgerKey) (a b : Contents) (older : List Contents) → IsNewest k (a ∷ b ∷ []) None
    → entry_by (changes_of older k) ≡ entry_by (changes_of (a ∷ b ∷ older) k)
older_of_more k a b older h = ap entry_by (sym (none_of_two k a b older h))

alone : (o : Option Change) → first_of (prepended o []) ≡ o
alone None = refl
alone (Some c) = refl

-- the second of two files says what the first doesn't
pub second_tells : (k : LedgerKey) (a b : Contents) (found : Option BucketEntry) → None ≡ item_by k (change_at a k)
    → found ≡ item_by k (change_at b k) → IsNewest k (a ∷ b ∷ []) found
unfolding changes_of
second_tells k a b found h g =
    g ∙ ap (item_by k) (sym (alone (change_at b k)))
    ∙ ap (λ (changes : List Change). item_by k (first_of changes)) (sym (silent_first k a (b ∷ []) h))

pub first_files : (pairs deeper : List LevelPair) (p : LevelPair) → pairs ≡ p ∷ deeper
    → files_of (map pair_of pairs) ≡ p.curr.value ∷ p.snap.value ∷ files_of (map pair_of deeper)
first_files pairs deeper p e = ap (λ (ps : List LevelPair). files_of (map pair_of ps)) e

pub no_pairs : (pairs : List LevelPair) → length pairs < 1 → pairs ≡ []
no_pairs [] h = refl
no_pairs (p ∷ ps) h = absurd (omega (arith, h))

pub found_more : (k : LedgerKey) (item : BucketEntry) (a b : Contents) (older : List Contents)
    → IsNewest k (a ∷ b ∷ []) (Some item) → IsNewest k (a ∷ b ∷ older) (Some item)
found_more k item a b older h = more_of k item a b older h

pub found_older : (k : LedgerKey) (found : Option BucketEntry) (a b : Contents) (older : List Contents)
    → IsNewest k (a ∷ b ∷ []) None → IsNewest k older found → IsNewest k (a ∷ b ∷ older) found
found_older k found a b older h i =
    i ∙ ap (λ (changes : List Change). item_by k (first_of changes)) (sym (none_of_two k a b older h))

pub found_nowhere : (k : LedgerKey) → IsNewest k [] None
found_nowhere k = ap (λ (changes : List Change). item_by k (first_of changes)) (sym (nothing k))

gone_by : (k : LedgerKey) (changes : List Change) → None ≡ item_by k (first_of changes) → None ≡ entry_by changes
gone_by k [] h = refl
gone_by k (c ∷ older) h = absurd (cc (h))

pub none_left : (k : LedgerKey) (files : List Contents) → IsNewest k files None → None ≡ entry_by (changes_of files k)
none_left k files h = gone_by k (changes_of files k) h
