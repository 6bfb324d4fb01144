-- The merge of two lists of changes in the order of their keys, in one pass.
use Rattle.std.specs.Prelude.{ℕ, List, [], ◌∷◌, Option, Some, None, option_and_then}
use Rattle.std.specs.declared.cmp.Ordering.{Ordering}
use Rattle.std.specs.declared.cmp.Ordering.TheVariants.{Less, Equal, Greater}
use Rattle.bucket_core.specs.ledger_types.declared.key.LedgerKey.{LedgerKey}
use Rattle.bucket_core.specs.ledger_types.KeyOrder.{key_cmp}
use Rattle.std.specs.FinMap.{entries, from_sorted}
use Rattle.bucket_core.specs.Bucket.{Change, Contents, version_of}
use Rattle.bucket_merge.specs.Merge.{joined, kept, greater_version}

abbrev pub Pair : Type 0
Pair = LedgerKey × Change

-- a change before others, where it is kept
abbrev pub put : LedgerKey → Option Change → List Pair → List Pair
put k None others = others
put k (Some change) others = (k, change) ∷ others

-- the newer changes alone
abbrev pub rest_kept : ℕ → List Pair → List Pair
rest_kept level [] = []
rest_kept level (y ∷ ys) = put y.0 (kept level y.1) (rest_kept level ys)

-- which of two keys comes first
abbrev pub by_order : Ordering → List Pair → List Pair → List Pair → List Pair
by_order Less older both newer = older
by_order Equal older both newer = both
by_order Greater older both newer = newer

-- an older change x among the newer ones; `after` merges those after x
abbrev pub among : ℕ → Pair → (List Pair → List Pair) → List Pair → List Pair
among level x after [] = put x.0 (kept level x.1) (after [])
among level x after (y ∷ ys) = by_order (key_cmp x.0 y.0)
    (put x.0 (kept level x.1) (after (y ∷ ys)))
    (put y.0 (option_and_then (kept level) (joined x.1 y.1)) (after ys))
    (put y.0 (kept level y.1) (among level x after ys))

abbrev pub walk : ℕ → List Pair → List Pair → List Pair
walk level [] ys = rest_kept level ys
walk level (x ∷ xs) ys = among level x (λ zs. walk level xs zs) ys

-- the changes of a bucket in the order of keys
abbrev pub changes_of : Contents → List Pair
changes_of None = []
changes_of (Some filled) = entries filled.changes

-- contents of this version
abbrev pub filled_with : Option ℕ → List Pair → Contents
filled_with None changes = None
filled_with (Some version) changes = Some (record { version = version; changes = from_sorted changes })

-- the merge that the pass makes
abbrev pub merge_of : ℕ → (older newer : Contents) → Contents
merge_of level older newer = filled_with (greater_version (version_of older) (version_of newer))
    (walk level (changes_of older) (changes_of newer))
