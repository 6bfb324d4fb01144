-- What is posted of the merges that are pending.
use Rattle.std.specs.Prelude.{◌≡◌, ◌⊎◌, ℕ, ◌+◌, ◌≤◌, List, count_by}
use Rattle.ledger_close.specs.bucket_levels.Pending.{PendingAt}

-- how many jobs weren't drawn
abbrev pub waiting_in : List PendingAt → ℕ
waiting_in pending = count_by (λ (merge : PendingAt). merge.waits) pending

-- what became of a job: it was posted, or it came back
abbrev pub Became : (before after back : ℕ) → Type 0
Became before after back =
    ((after ≡ before + 1) × (back ≡ 0)) ⊎ ((after ≡ before) × (back ≡ 1) × (64 ≤ before))
