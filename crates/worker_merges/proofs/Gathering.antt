-- What gathering the end of one worker more leaves.
use Rattle.worker_merges.proofs.Prelude.{◌≡◌, List, [], ◌∷◌, ◌++◌, Some, sym, subst, All, IfSome, Option}
use Rattle.worker_merges.proofs.Prelude.{AllByRecursion, All-pop, IsWorkerEndOf, Room, every_snoc, HasEnded}
use Rattle.merge_board.specs.declared.parts.WorkerEnd.{WorkerEnd}
use Rattle.worker_merges.specs.declared.slots.WorkerSlot.{WorkerSlot}

-- the last place, and those before it
pub one_popped : (room : Room) (slots before : List WorkerSlot) (slot : WorkerSlot) → slots ≡ before ++ slot ∷ []
    → All (HasEnded room) slots → All (HasEnded room) before × HasEnded room slot
one_popped room slots before slot popped all = All-pop (HasEnded room) slots before (Some slot) popped all

-- what is left of a worker of the room
pub left_of : (room : Room) (slot : WorkerSlot) (end : WorkerEnd) → slot.end ≡ Some end → HasEnded room slot
    → IsWorkerEndOf room end
left_of room slot end is ended =
    let there : IfSome slot.end (IsWorkerEndOf room) =
    subst (λ (o : Option WorkerEnd). IfSome o (IsWorkerEndOf room)) (sym ended.left) ended.of in
    subst (λ (o : Option WorkerEnd). IfSome o (IsWorkerEndOf room)) is there

pub one_gathered : (room : Room) (slots before : List WorkerSlot) (slot : WorkerSlot) (end : WorkerEnd)
    (ends more : List WorkerEnd) → slots ≡ before ++ slot ∷ []
    → (HasEnded room slot → IsWorkerEndOf room end) → more ≡ ends ++ end ∷ []
    → All (HasEnded room) slots × AllByRecursion (IsWorkerEndOf room) ends
    → All (HasEnded room) before × AllByRecursion (IsWorkerEndOf room) more
one_gathered room slots before slot end ends more popped is pushed h =
    let one = one_popped room slots before slot popped h.0 in (
      one.0,
      subst (AllByRecursion (IsWorkerEndOf room)) (sym pushed)
          (every_snoc (IsWorkerEndOf room) ends end h.1 (is one.1)),
    )
