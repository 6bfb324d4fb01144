-- The sequence numbers of accounts that a ledger makes (getStartingSequenceNumber in stellar-core), and the last ledger
-- that can make one.
use Rattle.std.specs.Prelude.{ℕ, ◌+◌, ◌*◌, ◌^◌, ℤ, pos}
use Rattle.sponsor_rules.specs.declared.context.Ctx.{Ctx}

-- The number of the last ledger: the sequence numbers of accounts that it makes are the last ones of 64 bits.
abbrev pub last_seq : ℕ
last_seq = 2147483647

-- The sequence number of an account that the closing ledger makes: its number, which is one above the header's, and 32
-- zero bits.
abbrev pub first_seq : Ctx → ℤ
first_seq ctx = pos ((ctx.seq + 1) * 2 ^ 32)
