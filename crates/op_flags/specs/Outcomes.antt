-- What the steps of a revocation answer and leave.
use Rattle.std.specs.Prelude.{◌≡◌, ℤ, pos, unsigned_abs, Option, Some, None, Result, Ok, Err}
use Rattle.ledger_types.specs.declared.liquidity_pool.LiquidityPoolEntry.{LiquidityPoolEntry}
use Rattle.op_types.specs.declared.operation_result.OperationResult.{OperationResult}
use Rattle.op_types.specs.declared.trust_results.AllowTrustResult.TheVariants as allow
use Rattle.op_types.specs.declared.trust_results.SetTrustLineFlagsResult.TheVariants as set
use Rattle.entry_map.specs.EntryMap.{EntryMap}
use Rattle.entry_map.specs.Undo.{Undo, with_current}
use Rattle.sponsor_rules.specs.declared.fault.AddFault.{AddFault}
use Rattle.sponsor_rules.specs.declared.fault.AddFault.TheVariants.{NoMemory}
use Rattle.op_form.specs.Faults.{fault_result}
use Rattle.pool_shares.specs.declared.withdrawing.Part.{Part as PartOfCall}
use Rattle.pool_shares.specs.Withdrawing.{part_of}
use Rattle.op_flags.specs.declared.revoker.Revoker.{Revoker}
use Rattle.op_flags.specs.declared.revoker.Revoker.TheVariants as by
use Rattle.op_flags.specs.declared.left_balance.Given.{Given as GivenOfCall}
use Rattle.op_flags.specs.AllowTrust.{answer as allow_answer}
use Rattle.op_flags.specs.SetTrustLineFlags.{answer as set_answer}
use Rattle.op_flags.specs.RevokedShares.{Given, Revoked}

-- the operation's own result for a reserve that can't be paid
abbrev pub low_answer : Revoker → OperationResult
low_answer by.AllowTrust = allow_answer allow.LowReserve
low_answer by.SetTrustLineFlags = set_answer set.LowReserve

abbrev pub success_answer : Revoker → OperationResult
success_answer by.AllowTrust = allow_answer allow.Success
success_answer by.SetTrustLineFlags = set_answer set.Success

-- what a pool's shares gave, as a call has it
abbrev pub given_by : GivenOfCall → Given
given_by given = record {
  trustor = given.trustor;
  pool = given.pool;
  asset = given.asset;
  amount = unsigned_abs given.amount;
  payer = given.payer;
}

-- the entries that a step leaves, without its moves
abbrev pub entries_left : Result Revoked OperationResult → Result EntryMap OperationResult
entries_left (Ok revoked) = Ok revoked.entries
entries_left (Err result) = Err result

-- The call made the step and answered nothing; or it answered the result that ends the operation, and only what can be
-- undone has changed.
abbrev pub IsRevoked : Option OperationResult → Undo → Undo → Result Revoked OperationResult → Type 0
IsRevoked None old new step = (entries_left step ≡ Ok new.current) × (new ≡ with_current old new.current)
IsRevoked (Some result) old new step = (step ≡ Err result) × (new ≡ with_current old new.current)

-- what holds where nothing ends the operation
abbrev pub UnlessRefused : Option OperationResult → Type 0 → Type 0
UnlessRefused None P = P
UnlessRefused (Some result) P = Unit {0}

-- what answers a balance that isn't added; an allocation failure ends a call and not an operation
abbrev pub IsUnpaid : (low : OperationResult) → AddFault → Option OperationResult → Type 0
IsUnpaid low NoMemory refusal = ⊥
IsUnpaid low fault refusal = refusal ≡ Some (fault_result fault low)

-- what so many shares gave, as a call has it
abbrev pub IsPart : LiquidityPoolEntry → (shares : ℤ) → PartOfCall → Type 0
IsPart pool shares part = (part.a ≡ pos (part_of pool shares).a) × (part.b ≡ pos (part_of pool shares).b)
