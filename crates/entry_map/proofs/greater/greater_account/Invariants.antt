use Rattle.entry_map.proofs.Prelude.{◌≡◌, length}
use Rattle.entry_map.proofs.greater.greater_account.Given as goal

-- nothing has been changed yet
abbrev pub invariant-loop-index : goal.invariant-loop-index
invariant-loop-index l = (l.bytes ≡ l.id.0) × (length l.bytes ≡ 32)
