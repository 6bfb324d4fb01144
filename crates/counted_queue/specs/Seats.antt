-- What a clause says of a counted queue and of its seats.
use Rattle.std.specs.Prelude.{◌≡◌, ℕ, ◌+◌, List, [], ◌∷◌, ◌++◌, length}
use Rattle.crossbeam_queue.specs.Passes as passes
use Rattle.counted_queue.specs.Histories.{firsts}
use Rattle.counted_queue.specs.declared.queue.CountedQueue.{CountedQueue}
use Rattle.counted_queue.specs.declared.seat.Seat.{Seat}

module _ {T V : Type 0} where
  -- what the seat's holder knows
  abbrev pub view : Seat T V → V
  view seat = passes.view seat.pass

  -- the number of its pass, by which the rule of the queue speaks of it
  abbrev pub number_of : Seat T V → ℕ
  number_of seat = seat.pass.id

  -- how many of its looks found nothing
  abbrev pub empty_looks_of : Seat T V → ℕ
  empty_looks_of seat = length seat.empty_looks.items

  -- how many of those were begun after the queue was closed
  abbrev pub last_looks_of : Seat T V → ℕ
  last_looks_of seat = length seat.last_looks.items

  -- the values that it pushed in vain, since there was no slot for them
  abbrev pub refused_of : Seat T V → List T
  refused_of seat = firsts seat.refused.items

  pub record HasCountedNone (seat : Seat T V) : Type 0 where
    pub empty_looks : empty_looks_of seat ≡ 0
    pub last_looks : last_looks_of seat ≡ 0
    pub refused : refused_of seat ≡ []

  -- it has counted nothing more
  pub record HasCountedAlike (old new : Seat T V) : Type 0 where
    pub empty_looks : empty_looks_of new ≡ empty_looks_of old
    pub last_looks : last_looks_of new ≡ last_looks_of old
    pub refused : refused_of new ≡ refused_of old

  -- one more look found nothing
  pub record HasLooked (old new : Seat T V) : Type 0 where
    pub empty_looks : empty_looks_of new ≡ empty_looks_of old + 1
    pub last_looks : last_looks_of new ≡ last_looks_of old
    pub refused : refused_of new ≡ refused_of old

  -- one more look found nothing, and was begun after the queue was closed
  pub record HasLookedLast (old new : Seat T V) : Type 0 where
    pub empty_looks : empty_looks_of new ≡ empty_looks_of old + 1
    pub last_looks : last_looks_of new ≡ last_looks_of old + 1
    pub refused : refused_of new ≡ refused_of old

  -- one more value found no slot
  pub record WasRefused (old : Seat T V) (value : T) (new : Seat T V) : Type 0 where
    pub empty_looks : empty_looks_of new ≡ empty_looks_of old
    pub last_looks : last_looks_of new ≡ last_looks_of old
    pub refused : refused_of new ≡ refused_of old ++ value ∷ []

module _ {T V Q : Type 0} where
  -- it is a seat of this queue
  abbrev pub IsSeatOf : CountedQueue T V Q → Seat T V → Type 0
  IsSeatOf queue seat = passes.IsPassOf queue.queue seat.pass

  -- how many values may wait
  abbrev pub capacity_of : CountedQueue T V Q → ℕ
  capacity_of queue = passes.ruled_capacity queue.queue

  -- which mark closes it
  abbrev pub mark_of : CountedQueue T V Q → ℕ
  mark_of queue = queue.closed.id
