-- A close's step, merge by merge in the order in which stellar-core does it (BucketList::addBatch), with the merges
-- that are pending. Each was begun when the level above spilled, and is committed when that one spills again.
use Rattle.std.specs.Prelude.{◌≡◌, ℕ, zero, suc, ◌+◌, ◌<◌, ◌≤◌, Bool, true, false, nat_eq, List, length, Option}
use Rattle.std.specs.Prelude.{Some, None, if◌then◌else◌}
use Rattle.bucket_core.specs.Bucket.{Contents}
use Rattle.bucket_merge.specs.Merge.{IsMerge}
use Rattle.bucket_levels.specs.Spills.{level_count, half, upper, spills}
use Rattle.bucket_levels.specs.Pairs.{Pair, pair_at}
use Rattle.bucket_levels.specs.Step.{IsStep, base_at}
use Rattle.bucket_levels.specs.Pending.{start_of, commit_of}

-- a merge between its start and its commit: the ledger at which it began, and its inputs
pub record PendingInputs : Type 0 where
  pub start : ℕ
  pub older : Contents
  pub newer : Contents

-- of each level its files, the merge that is pending into it, and that merge's outcome once it is ready
pub record InOrder : Type 0 where
  pub pairs : ℕ → Pair
  pub merges : ℕ → PendingInputs
  pub ready : ℕ → Option Contents

-- what each level has, where one of them gets another
abbrev pub put_at : {X : Type 0} → (ℕ → X) → (level : ℕ) → X → ℕ → X
put_at f level x = λ i. if nat_eq i level then x else f i

-- ---- one level

-- the curr that is committed is the outcome that is ready, or else the merge is made now
abbrev pub IsNext : Option Contents → (level : ℕ) → PendingInputs → Contents → Type 0
IsNext (Some ready) level merge next = next ≡ ready
IsNext None level merge next = IsMerge level merge.older merge.newer next

-- a level spills: its snap becomes its curr, which becomes empty
abbrev pub spilled : Pair → Pair
spilled pair = record { curr = None; snap = pair.curr }

-- what begins at a ledger: the merge of the snap above into the curr, or into nothing where that will have spilled
abbrev pub begins : (seq level : ℕ) → (curr snap : Contents) → PendingInputs
begins seq level curr snap = record {
  start = seq;
  older = if spills level (seq + half (upper level)) then None else curr;
  newer = snap;
}

-- the level above spills, this one takes the curr that is committed, and the next merge begins
abbrev pub committed : (above seq : ℕ) → (next : Contents) → InOrder → InOrder
committed above seq next l = record {
  pairs = put_at (put_at l.pairs above (spilled (l.pairs above))) (suc above)
      (record (l.pairs (suc above)) { curr = next });
  merges = put_at l.merges (suc above) (begins seq (suc above) next (l.pairs above).curr);
  ready = put_at l.ready (suc above) None;
}

abbrev pub IsCommittedIf : Bool → (above seq : ℕ) → InOrder → InOrder → Type 0
IsCommittedIf true above seq old new =
    (next : Contents) × IsNext (old.ready (suc above)) (suc above) (old.merges (suc above)) next
    × (new ≡ committed above seq next old)
IsCommittedIf false above seq old new = new ≡ old

-- ---- all levels

-- from this level up to the first one below the newest, where the level above spills
unfoldable pub AreCommitted : (level seq : ℕ) → InOrder → InOrder → Type 0
AreCommitted zero seq old new = new ≡ old
AreCommitted (suc above) seq old new =
    (mid : InOrder) × IsCommittedIf (spills above seq) above seq old mid × AreCommitted above seq mid new

-- from the deepest level up, and last the newest curr takes the fresh bucket
pub record IsStepInOrder (seq : ℕ) (fresh : Contents) (old new : InOrder) : Type 0 where
  pub after : InOrder
  pub committed : AreCommitted 10 seq old after
  pub first : Contents
  pub merged : IsMerge 0 (after.pairs 0).curr fresh first
  pub is : new ≡ record after { pairs = put_at after.pairs 0 (record (after.pairs 0) { curr = first }) }

-- ---- as the files say it

-- the merge that is pending into a level, as the files and the ledger's number say it
abbrev pub pending_inputs : List Pair → (seq level : ℕ) → PendingInputs
pending_inputs pairs seq level = record {
  start = start_of level seq;
  older = base_at (commit_of level seq) pairs level;
  newer = (pair_at pairs (upper level)).snap;
}

-- These are the files, the merges are those that they say, and what is ready is their outcome.
pub record IsOfFiles (pairs : List Pair) (seq : ℕ) (l : InOrder) : Type 0 where
  pub count : length pairs ≡ level_count
  pub files : (level : ℕ) → level < level_count → l.pairs level ≡ pair_at pairs level
  pub merges : (level : ℕ) → 1 ≤ level → level < level_count → l.merges level ≡ pending_inputs pairs seq level
  pub ready : (level : ℕ) (outcome : Contents) → 1 ≤ level → level < level_count → l.ready level ≡ Some outcome
      → IsMerge level (l.merges level).older (l.merges level).newer outcome

-- Whatever is ready, the step in order is the one that is said all at once from the old files; and the merges that it
-- leaves pending are again those that its files say.
abbrev pub StepsAreInOrder : Type 0
StepsAreInOrder = (seq : ℕ) (fresh : Contents) (old : List Pair) (l m : InOrder) → IsOfFiles old seq l
    → IsStepInOrder (seq + 1) fresh l m → (new : List Pair) × IsStep (seq + 1) fresh old new × IsOfFiles new (seq + 1) m
