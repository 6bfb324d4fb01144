-- The pages of a bucket, and a cache of them.
use Rattle.std.specs.Prelude.{◌≡◌, ◌*◌, ◌/◌, ℕ, Bool, true, false, List, [], ◌∷◌, map, take, drop, Some, Result}
use Rattle.std.specs.Prelude.{Ok, Err, refl, nat_eq, if◌then◌else◌}
use Rattle.std.specs.Coded.{Coded, code_by, coded_ℕ, coded_list, coded×}
use Rattle.std.specs.declared.alloc.AllocError.{AllocError}
use Rattle.ledger_types.specs.declared.bucket.BucketEntry.{BucketEntry}
use Rattle.ledger_types.specs.declared.key.LedgerKey.{LedgerKey}
use Rattle.bucket_core.specs.Bucket.{Contents}
use Rattle.bucket_core.specs.Code.{contents_code}
use Rattle.bucket_core.specs.Index.{Row, rows, index_of}

-- the items of a page
abbrev pub page_at : ℕ → Row → List BucketEntry
page_at number row = map (λ x. x.1) (take 64 (drop (number * 64) row))

-- a bucket, and the numbers of the pages that are kept
pub record CacheAt : Type 0 where
  pub contents : Contents
  pub numbers : List ℕ

abbrev pub cache_code : Coded CacheAt
cache_code = code_by (Contents × List ℕ) (coded× contents_code (coded_list coded_ℕ)) (λ c. (c.contents, c.numbers))
    (λ p. record { contents = p.0; numbers = p.1 }) (λ _. refl)

abbrev pub numbers_of : List (ℕ × List BucketEntry) → List ℕ
numbers_of pages = map (λ e. e.0) pages

-- each is the page of that number
abbrev pub ArePages : Contents → List (ℕ × List BucketEntry) → Type 0
ArePages contents [] = Unit {0}
ArePages contents (e ∷ es) = (e.1 ≡ page_at e.0 (rows contents)) × ArePages contents es

pub record IsCache (contents : Contents) (pages : List (ℕ × List BucketEntry)) (cap : ℕ) : Type 0 where
  pub are : ArePages contents pages
  pub most : cap ≡ 64

-- whether a number is among others
abbrev pub is_among : ℕ → List ℕ → Bool
is_among number [] = false
is_among number (n ∷ ns) = if nat_eq number n then true else is_among number ns

-- the numbers without one of them
abbrev pub others : ℕ → List ℕ → List ℕ
others number [] = []
others number (n ∷ ns) = if nat_eq number n then ns else n ∷ others number ns

-- the numbers once one is the most recently used: it is taken to the front, or put there, and then the least recently
-- used one of 64 goes
abbrev pub with_first : ℕ → List ℕ → List ℕ
with_first number numbers =
    if is_among number numbers then number ∷ others number numbers else number ∷ take 63 numbers

-- a page is the most recently used, and all others stay in their order
pub record IsFirst (number : ℕ) (old new : CacheAt) : Type 0 where
  pub contents : new.contents ≡ old.contents
  pub numbers : new.numbers ≡ with_first number old.numbers

-- the page of a key that has a mark was taken to the front; without a mark, or without memory, all stays
abbrev pub IsWarmed : LedgerKey → CacheAt → Result Bool AllocError → CacheAt → Type 0
IsWarmed k old (Ok true) new =
    (i : ℕ) × (index_of k (rows old.contents) ≡ Some i) × IsFirst (i / 64) old new
IsWarmed k old (Ok false) new = new ≡ old
IsWarmed k old (Err e) new = new ≡ old
