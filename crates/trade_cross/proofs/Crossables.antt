-- Where nothing is owed, books can be crossed.
use Rattle.trade_cross.proofs.Prelude.{ℤ, EntryMap, View, nothing_owed, IsLegalOwing, IsCrossable}
use Rattle.std.specs.Prelude.{ℕ}
use Rattle.legal_rules.proofs.MayOwe.{nothing_right}

pub crossable_of : (v : View) (id_pool : ℕ) (sum : ℤ) (m : EntryMap) → IsLegalOwing v id_pool nothing_owed sum m
    → IsCrossable m
crossable_of v id_pool sum m legal = record {
  view = v;
  id_pool = id_pool;
  owed = nothing_owed;
  sum = sum;
  legal = legal;
  right = nothing_right;
}
