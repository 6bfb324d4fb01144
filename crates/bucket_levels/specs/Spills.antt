-- When a level spills into the one below it (BucketList::levelShouldSpill in stellar-core).
use Rattle.std.specs.Prelude.{ℕ, zero, suc, ◌+◌, ◌/◌, ◌^◌, ◌%◌, ◌&&◌, nat_eq, nat_lt, Bool}

abbrev pub level_count : ℕ
level_count = 11

-- how many ledgers' changes a level holds in its two files: 4, 16, 64 ..
abbrev pub size : ℕ → ℕ
size i = 4 ^ (i + 1)

-- how many ledgers' changes a level takes before its curr becomes its snap: 2, 8, 32 ..
abbrev pub half : ℕ → ℕ
half i = size i / 2

-- the level above one
abbrev pub upper : ℕ → ℕ
upper zero = zero
upper (suc i) = i

-- A level spills at each ledger that its half divides. The deepest one never spills.
abbrev pub spills : ℕ → (seq : ℕ) → Bool
spills i seq = nat_lt i 10 && nat_eq (seq % half i) 0
