-- What functions without signs say of their numbers.
use Rattle.std.specs.Prelude.{pos}
use Rattle.pool_math.specs.declared.deposits.Deposited.{Deposited}
use Rattle.pool_math.specs.Pools.{Deposit}

-- a deposit in numbers with a sign
abbrev pub signed : Deposit → Deposited
signed d = record { shares = pos d.shares; a = pos d.a; b = pos d.b }
