-- A map in which a book of offers can be crossed.
use Rattle.std.specs.Prelude.{ℕ, ℤ}
use Rattle.entry_map.specs.EntryMap.{EntryMap}
use Rattle.legal_rules.specs.Aggregates.{View}
use Rattle.legal_rules.specs.OneMore.{IsOwedRightly}
use Rattle.legal_rules.specs.Owing.{Owed, IsLegalOwing}

-- legal, but for what aggregates owe, and owed rightly: also where one offer of the taker more is counted than exists
pub record IsCrossable (m : EntryMap) : Type 0 where
  pub view : View
  pub id_pool : ℕ
  pub owed : Owed
  pub sum : ℤ
  pub legal : IsLegalOwing view id_pool owed sum m
  pub right : IsOwedRightly owed
