use Rattle.fee_rules.proofs.Prelude.{◌≡◌, take, length, mixed_bytes}
use Rattle.fee_rules.proofs.turn.mixed_hash.Given as goal

abbrev pub invariant-loop-i : goal.invariant-loop-i
invariant-loop-i l = (take l.i l.bytes ≡ mixed_bytes l.a.0 l.b.0 l.i) × (length l.bytes ≡ 32)
