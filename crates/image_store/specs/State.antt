-- What a store has in memory.
use Rattle.std.specs.Prelude.{ℕ, Bool}
use Rattle.ledger_types.specs.declared.ids.Hash.{Hash}

pub record StoreState : Type 0 where
  pub epoch : ℕ
  -- the offset of the gate after its records
  pub end : ℕ
  pub network : Hash
  -- whether a call on the volume has failed
  pub failed : Bool
