-- Each holder has the same in maps whose entries agree but for the ledgers of their last changes.
use Rattle.close_laws.proofs.Prelude.{◌≡◌, refl, ap, ℤ, Option, Some, None, get, Asset, LedgerEntry, LedgerKey}
use Rattle.close_laws.proofs.Prelude.{EntryMap, held}
use Rattle.close_rules.specs.ledger_types.declared.asset.Asset.TheVariants as asset
use Rattle.close_rules.specs.entry_sums.Sums.{part}
use Rattle.close_rules.specs.legal_rules.Supply.{held_in}
use Rattle.close_rules.specs.op_form.Done.{Holder, FeePool}
use Rattle.close_rules.specs.op_laws.Moves.{held_at, location_of}
use Rattle.close_rules.specs.tx_apply.Laws.{holding_with}
use Rattle.close_laws.proofs.Unmarked.{AreAlike, AreMapsAlike}

part_alike : (x : Asset) (a b : Option LedgerEntry) → AreAlike a b → part (held x) a ≡ part (held x) b
part_alike x None None alike = refl
part_alike x (Some a) (Some b) alike = ap (λ parts. held_in x parts.0) alike
part_alike x None (Some b) alike = absurd alike
part_alike x (Some a) None alike = absurd alike

held_alike : (m n : EntryMap) → AreMapsAlike m n → (x : Asset) (at : Option LedgerKey) → held_at x m at ≡ held_at x n at
held_alike m n alike x None = refl
held_alike m n alike x (Some k) = part_alike x (get m k) (get n k) (alike k)

pub holding_alike : (pool : ℤ) (m n : EntryMap) → AreMapsAlike m n → (x : Asset) (holder : Holder)
    → holding_with pool x holder m ≡ holding_with pool x holder n
holding_alike pool m n alike asset.Native FeePool = refl
holding_alike pool m n alike x holder = held_alike m n alike x (location_of x holder)
