-- Each event of the machine can happen where what it asks for holds.
use Rattle.std.specs.Prelude.{◌≡◌, ℕ, ◌+◌, ◌≤◌, ◌<◌, List, [], ◌∷◌, length, slice_get, Some, None, Ok, IsSome}
use Rattle.stored_outcome.specs.bucket_levels.Spills.{level_count}
use Rattle.stored_outcome.specs.close_rules.State.{ClosingState}
use Rattle.stored_outcome.specs.close_rules.Close.{PreparedClose, IsClose}
use Rattle.replay.specs.Machine.{Machine, MadeMerge, IsDue, MayGo, Event, Take, Write, Install, HandIn, Reopen, Happens}
use Rattle.replay.specs.Machine.{AllHappen, IsFirst}

pub record CanGoOn (m : Machine) : Type 0 where
  -- each record that closes the ledger can be taken
  pub takes : (bytes : List ℕ) (closed : PreparedClose) → m.hand ≡ None → IsClose m.state bytes (Ok closed)
      → (new : Machine) × Happens (Take bytes) m new × (new.hand ≡ Some bytes)
  -- while it is kept, a crash may leave more and more of it
  pub writes : (may : List ℕ) → IsSome m.hand → MayGo (length m.log) m.may may
      → (new : Machine) × Happens Write m new × (new.may ≡ may)
  -- once no crash can lose it, its ledger can close, whatever merges are ready
  pub installs : (bytes : List ℕ) → m.hand ≡ Some bytes → m.may ≡ (length m.log + 1) ∷ []
      → (new : Machine) × Happens Install m new
  -- of each level the merge that is pending can be made, and handed in
  pub makes : (level : ℕ) → 1 ≤ level → level < level_count → (made : MadeMerge) × (made.level ≡ level) × IsDue m made
  pub hands_in : (made : MadeMerge) → IsDue m made
      → (new : Machine) × Happens (HandIn made) m new × (new.ready made.level ≡ Some made.bucket)
  -- any other merge can be handed in, in vain
  pub refuses : (made : MadeMerge) → (IsDue m made → ⊥) → Happens (HandIn made) m m
  -- a crash can leave each number of closes that it may
  pub reopens : (index count : ℕ) → slice_get m.may index ≡ Some count
      → (new : Machine) × Happens Reopen m new × (length new.log ≡ count)

-- ---- the laws

-- a machine can begin with each state
abbrev pub MachinesBegin : Type 0
MachinesBegin = (s : ClosingState) → (first : Machine) × IsFirst s first

-- and go on, whatever has happened
abbrev pub MachinesGoOn : Type 0
MachinesGoOn = (s : ClosingState) (first last : Machine) (events : List Event) → length s.levels ≡ level_count
    → IsFirst s first → AllHappen events first last → CanGoOn last
