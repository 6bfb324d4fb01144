-- The caches of all files of the levels, from the newest file to the oldest.
use Rattle.std.specs.Prelude.{◌≡◌, ◌+◌, ◌*◌, ◌/◌, ◌<◌, ◌≤◌, ℕ, zero, suc, Bool, true, false, List, [], ◌∷◌, map, take}
use Rattle.std.specs.Prelude.{length, get_or, Option, Some, None, Result, Ok, Err, if◌then◌else◌}
use Rattle.std.specs.declared.alloc.AllocError.{AllocError}
use Rattle.ledger_types.specs.declared.key.LedgerKey.{LedgerKey}
use Rattle.bucket_core.specs.Bucket.{Change, Contents}
use Rattle.bucket_core.specs.Index.{rows, index_of}
use Rattle.bucket_levels.specs.Meaning.{changes_of}
use Rattle.bucket_levels.specs.Pairs.{Pair, pair_at}
use Rattle.bucket_levels.specs.Spills.{level_count, spills}
use Rattle.page_cache.specs.Pages.{CacheAt, with_first}

-- the files of some caches
abbrev pub contents_in : List CacheAt → List Contents
contents_in caches = map (λ cache. cache.contents) caches

-- a cache of a file, with no page in it
abbrev pub no_pages : Contents → CacheAt
no_pages contents = record { contents = contents; numbers = [] }

-- the cache of a file, by the number of files that are newer
abbrev pub cache_at : List CacheAt → ℕ → CacheAt
cache_at caches i = get_or caches i (no_pages None)

-- ---- warmed

-- a cache, of which the page of an item is the most recently used
abbrev pub with_page_of : ℕ → CacheAt → CacheAt
with_page_of index cache = record { contents = cache.contents; numbers = with_first (index / 64) cache.numbers }

abbrev pub warmed_by : Option ℕ → CacheAt → (older warmed : List CacheAt) → List CacheAt
warmed_by None cache older warmed = cache ∷ warmed
warmed_by (Some index) cache older warmed = with_page_of index cache ∷ older

-- The page of a key comes to the front in the cache of the newest file that has a mark of it, and all else stays.
abbrev pub warmed : LedgerKey → List CacheAt → List CacheAt
warmed k [] = []
warmed k (cache ∷ older) = warmed_by (index_of k (rows cache.contents)) cache older (warmed k older)

-- key by key
abbrev pub all_warmed : List LedgerKey → List CacheAt → List CacheAt
all_warmed [] caches = caches
all_warmed (k ∷ keys) caches = all_warmed keys (warmed k caches)

abbrev pub is_any : List Change → Bool
is_any [] = false
is_any (change ∷ older) = true

-- whether one of the files has a mark of a key
abbrev pub is_marked : List Contents → LedgerKey → Bool
is_marked files k = is_any (changes_of files k)

-- how many of some keys have a mark in one of the files
abbrev pub marked_count : List Contents → List LedgerKey → ℕ
marked_count files [] = 0
marked_count files (k ∷ keys) = (if is_marked files k then 1 else 0) + marked_count files keys

-- All keys' pages were taken, and those with a mark were counted; or memory was refused at one of the keys, and the
-- pages of those before it were taken.
abbrev pub AreWarmed : List LedgerKey → List CacheAt → Result ℕ AllocError → List CacheAt → Type 0
AreWarmed keys old (Ok count) new = (new ≡ all_warmed keys old) × (count ≡ marked_count (contents_in old) keys)
AreWarmed keys old (Err e) new = (done : ℕ) × (done < length keys) × (new ≡ all_warmed (take done keys) old)

-- ---- moved

-- whether a level gets a new curr at a ledger: the first one does, and each below one that spills
abbrev pub takes_curr : ℕ → (seq : ℕ) → Bool
takes_curr zero seq = true
takes_curr (suc above) seq = spills above seq

-- the caches of the currs that are new after a ledger, from the first level on
pub record AreNewCaches (seq : ℕ) (pairs : List Pair) (caches : List CacheAt) : Type 0 where
  pub most : length caches ≤ level_count
  pub new : (i : ℕ) → i < level_count → takes_curr i seq ≡ true
      → (i < length caches) × (cache_at caches i ≡ no_pages (pair_at pairs i).curr)
  pub others : (i : ℕ) → i < level_count → takes_curr i seq ≡ false → length caches ≤ i

-- A curr that is new gets a cache without pages, and the cache of a curr that became the snap is the snap's. All other
-- caches stay.
pub record AreMoved (seq : ℕ) (pairs : List Pair) (old new : List CacheAt) : Type 0 where
  pub count : length new ≡ length old
  pub curr : (i : ℕ) → i < level_count → cache_at new (2 * i)
      ≡ (if takes_curr i seq then no_pages (pair_at pairs i).curr else cache_at old (2 * i))
  pub snap : (i : ℕ) → i < level_count → cache_at new (2 * i + 1)
      ≡ (if spills i seq then cache_at old (2 * i) else cache_at old (2 * i + 1))

-- The same by how many caches are new, from a level on. Those of the levels above it stay.
pub record AreTakenFrom (first : ℕ) (currs old new : List CacheAt) : Type 0 where
  pub count : length new ≡ length old
  pub above : (i : ℕ) → i < first
      → (cache_at new (2 * i) ≡ cache_at old (2 * i)) × (cache_at new (2 * i + 1) ≡ cache_at old (2 * i + 1))
  pub renewed : (i : ℕ) → first ≤ i → i < length currs → cache_at new (2 * i) ≡ cache_at currs i
  pub spilled : (i : ℕ) → first ≤ i → i + 1 < length currs → cache_at new (2 * i + 1) ≡ cache_at old (2 * i)
  pub curr : (i : ℕ) → length currs ≤ i → cache_at new (2 * i) ≡ cache_at old (2 * i)
  pub snap : (i : ℕ) → first ≤ i → length currs ≤ i + 1 → cache_at new (2 * i + 1) ≡ cache_at old (2 * i + 1)
