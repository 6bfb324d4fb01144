-- The ledger as a machine, with merges that are made beside it. Records are taken and kept, ledgers close, merges
-- begin, are handed in at any time and are committed; and it may crash at any time and open again.
use Rattle.std.specs.Prelude.{◌≡◌, ◌⊎◌, ℕ, ◌+◌, ◌≤◌, ◌<◌, List, [], ◌∷◌, ◌++◌, length, slice_get, Option, Some, None}
use Rattle.std.specs.Prelude.{Ok, IsSome}
use Rattle.stored_outcome.specs.bucket_core.Bucket.{Contents}
use Rattle.worker_merges.specs.bucket_merge.Merge.{IsMerge}
use Rattle.stored_outcome.specs.bucket_levels.Spills.{level_count}
use Rattle.stored_outcome.specs.bucket_levels.Pairs.{Pair, pair_at}
use Rattle.stored_outcome.specs.bucket_levels.InOrder.{PendingInputs, put_at, pending_inputs, IsStepInOrder}
use Rattle.stored_outcome.specs.close_rules.State.{ClosingState}
use Rattle.stored_outcome.specs.close_rules.Close.{PreparedClose, IsTaken, IsClosedOver, IsClose}
use Rattle.replay.specs.ClosingAgain.{AreClosedTo}

pub record Machine : Type 0 where
  -- the state after the last close, and the records closed so far
  pub state : ClosingState
  pub log : List (List ℕ)
  -- of each level from 1 on, the merge that is pending, and its bucket once that is ready
  pub merges : ℕ → PendingInputs
  pub ready : ℕ → Option Contents
  -- the record that is being kept
  pub hand : Option (List ℕ)
  -- how many closes a crash now may leave, and how many are acknowledged
  pub may : List ℕ
  pub acked : ℕ

-- a merge that was made, of any inputs
pub record MadeMerge : Type 0 where
  pub level : ℕ
  pub inputs : PendingInputs
  pub bucket : Contents
  pub is : IsMerge level inputs.older inputs.newer bucket

-- ---- records

-- a record that closes the ledger is taken
pub record IsTake (bytes : List ℕ) (old new : Machine) : Type 0 where
  pub free : old.hand ≡ None
  pub closed : PreparedClose
  pub accepted : IsClose old.state bytes (Ok closed)
  pub is : new ≡ record old { hand = Some bytes }

-- a crash may leave the record or not, and then it leaves the record
abbrev pub MayGo : (count : ℕ) → (old new : List ℕ) → Type 0
MayGo count old new =
    ((old ≡ count ∷ []) × (new ≡ count ∷ (count + 1) ∷ []))
    ⊎ ((old ≡ count ∷ (count + 1) ∷ []) × (new ≡ (count + 1) ∷ []))
    ⊎ ((old ≡ count ∷ []) × (new ≡ (count + 1) ∷ []))

-- the store is written, cut or synced
abbrev pub IsWrite : (old new : Machine) → Type 0
IsWrite old new = (new ≡ old)
    ⊎ (IsSome old.hand × MayGo (length old.log) old.may new.may × (new ≡ record old { may = new.may }))

-- ---- closes

-- how the levels step: what is ready is committed, and each other merge is made as it is committed
abbrev pub StepsInOrder : (old new : Machine) → (seq : ℕ) → (fresh : Contents) → (before after : List Pair) → Type 0
StepsInOrder old new seq fresh before after = (length after ≡ level_count)
    × IsStepInOrder seq fresh (record { pairs = pair_at before; merges = old.merges; ready = old.ready })
    (record { pairs = pair_at after; merges = new.merges; ready = new.ready })

-- the record in hand closes the ledger, once no crash can lose it any more
pub record IsInstall (old new : Machine) : Type 0 where
  pub bytes : List ℕ
  pub hand : old.hand ≡ Some bytes
  pub kept : old.may ≡ (length old.log + 1) ∷ []
  pub taken : IsTaken old.state bytes
  pub closed : PreparedClose
  pub closes : IsClosedOver (StepsInOrder old new) old.state taken.closing closed
  pub state : new.state ≡ closed.state
  pub log : new.log ≡ old.log ++ bytes ∷ []
  pub free : new.hand ≡ None
  pub may : new.may ≡ length new.log ∷ []
  pub acked : new.acked ≡ length new.log

-- ---- merges

-- it is the one that is pending into its level
pub record IsDue (m : Machine) (made : MadeMerge) : Type 0 where
  pub low : 1 ≤ made.level
  pub high : made.level < level_count
  pub inputs : made.inputs ≡ m.merges made.level

-- a merge is handed in
abbrev pub IsHandIn : MadeMerge → (old new : Machine) → Type 0
IsHandIn made old new =
    (IsDue old made × (new ≡ record old { ready = put_at old.ready made.level (Some made.bucket) }))
    ⊎ ((IsDue old made → ⊥) × (new ≡ old))

-- ---- crashes

-- the record in hand is there after all, or it isn't
abbrev pub IsLeft : (count : ℕ) → (old new : Machine) → Type 0
IsLeft count old new =
    ((count ≡ length old.log + 1) × (bytes : List ℕ) × (old.hand ≡ Some bytes) × (closed : PreparedClose)
    × IsClose old.state bytes (Ok closed) × (new.state ≡ closed.state) × (new.log ≡ old.log ++ bytes ∷ []))
    ⊎ ((count ≡ length old.log + 1 → ⊥) × (new.state ≡ old.state) × (new.log ≡ old.log))

-- it crashes, and is opened again: the merges that are pending are those of its files
pub record IsReopening (old new : Machine) : Type 0 where
  pub index : ℕ
  pub count : ℕ
  pub may_be : slice_get old.may index ≡ Some count
  pub left : IsLeft count old new
  pub merges : (level : ℕ) → 1 ≤ level → level < level_count
      → new.merges level ≡ pending_inputs new.state.levels new.state.header.ledger_seq level
  pub unready : (level : ℕ) → new.ready level ≡ None
  pub free : new.hand ≡ None
  pub may : new.may ≡ length new.log ∷ []
  pub acked : new.acked ≡ old.acked

-- ---- runs

pub data Event : Type 0 where
  Take : List ℕ → Event
  Write : Event
  Install : Event
  HandIn : MadeMerge → Event
  Reopen : Event

abbrev pub Happens : Event → (old new : Machine) → Type 0
Happens (Take bytes) old new = IsTake bytes old new
Happens Write old new = IsWrite old new
Happens Install old new = IsInstall old new
Happens (HandIn made) old new = IsHandIn made old new
Happens Reopen old new = IsReopening old new

abbrev pub AllHappen : List Event → (old new : Machine) → Type 0
AllHappen [] old new = new ≡ old
AllHappen (event ∷ events) old new = (mid : Machine) × Happens event old mid × AllHappen events mid new

-- nothing has happened yet
pub record IsFirst (s : ClosingState) (m : Machine) : Type 0 where
  pub state : m.state ≡ s
  pub log : m.log ≡ []
  pub merges : (level : ℕ) → 1 ≤ level → level < level_count
      → m.merges level ≡ pending_inputs s.levels s.header.ledger_seq level
  pub unready : (level : ℕ) → m.ready level ≡ None
  pub free : m.hand ≡ None
  pub may : m.may ≡ 0 ∷ []
  pub acked : m.acked ≡ 0

-- ---- the law

-- a crash leaves what is closed, or that with the record in hand
abbrev pub MayLeave : Machine → (count : ℕ) → Type 0
MayLeave m count = (count ≡ length m.log) ⊎ ((count ≡ length m.log + 1) × IsSome m.hand)

-- The state is what the records closed so far yield from the first one, with no merge but their own.
pub record IsKeptUp (s : ClosingState) (m : Machine) : Type 0 where
  pub closed : AreClosedTo s m.log m.state
  pub acked : m.acked ≤ length m.log
  pub may : (index count : ℕ) → slice_get m.may index ≡ Some count → MayLeave m count

-- whatever happens, and whatever is handed in
abbrev pub MachinesKeepUp : Type 0
MachinesKeepUp = (s : ClosingState) (first last : Machine) (events : List Event) → length s.levels ≡ level_count
    → IsFirst s first → AllHappen events first last → IsKeptUp s last

-- what is closed stays closed
abbrev pub LogsGrow : Type 0
LogsGrow = (old new : Machine) (events : List Event) → AllHappen events old new
    → (more : List (List ℕ)) × (new.log ≡ old.log ++ more)
