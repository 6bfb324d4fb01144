-- That crossing keeps a state legal, also where one offer of the taker more is counted than exists, and what it moves.
use Rattle.std.specs.Prelude.{◌≡◌, ◌≢◌, ℕ, ◌≤◌, All, ℤ, pos, neg_ℤ, ◌+ℤ◌, ◌≤ℤ◌, List, [], ◌∷◌, Option, Some, None}
use Rattle.ledger_types.specs.declared.ids.AccountId.{AccountId}
use Rattle.ledger_types.specs.declared.asset.Asset.{Asset}
use Rattle.ledger_types.specs.declared.claim_atom.ClaimAtom.{ClaimAtom}
use Rattle.ledger_types.specs.declared.claim_atom.ClaimAtom.TheVariants as atom
use Rattle.ledger_types.specs.declared.key.LedgerKey.{LedgerKey}
use Rattle.ledger_types.specs.declared.key.LedgerKey.TheVariants as key
use Rattle.entry_map.specs.EntryMap.{EntryMap}
use Rattle.entry_slots.specs.Accounts.{account_at, HasAccount}
use Rattle.legal_rules.specs.Aggregates.{View}
use Rattle.legal_rules.specs.Holdings.{Increase, none_more, both_more, more_at, HoldsMore, IsAfter}
use Rattle.legal_rules.specs.OneMore.{IsOwedRightly}
use Rattle.legal_rules.specs.Owing.{Owed, IsLegalOwing}
use Rattle.legal_rules.specs.Supply.{of_asset}
use Rattle.legal_rules.specs.Trades.{holder}
use Rattle.trade_cross.specs.declared.trade.Trade.{Trade}
use Rattle.trade_cross.specs.Accounts.{Passes}
use Rattle.trade_cross.specs.Crossing.{Left, Crossing, crossed}

-- ---- what atoms move

-- n of an asset, unless it is the issuer's, who keeps none
abbrev pub kept_at : Asset → Option LedgerKey → Asset → ℤ → ℤ
kept_at x None held n = pos 0
kept_at x (Some k) held n = of_asset x held n

-- what the seller of an atom, or its pool, has more
abbrev pub kept_by : Asset → ClaimAtom → ℤ
kept_by x (atom.OrderBook seller id sold amount_sold bought amount_bought) =
    kept_at x (holder seller sold) sold (neg_ℤ amount_sold) +ℤ kept_at x (holder seller bought) bought amount_bought
kept_by x (atom.LiquidityPool pool sold amount_sold bought amount_bought) =
    of_asset x sold (neg_ℤ amount_sold) +ℤ of_asset x bought amount_bought
kept_by x other = pos 0

abbrev pub kept_in : Asset → List ClaimAtom → ℤ
kept_in x [] = pos 0
kept_in x (first ∷ atoms) = kept_by x first +ℤ kept_in x atoms

-- how much more entries hold by an atom, and by all
abbrev pub more_by : ClaimAtom → Increase
more_by (atom.OrderBook seller id sold amount_sold bought amount_bought) =
    both_more (more_at (holder seller sold) sold (neg_ℤ amount_sold))
    (more_at (holder seller bought) bought amount_bought)
more_by (atom.LiquidityPool pool sold amount_sold bought amount_bought) =
    both_more (more_at (Some (key.LiquidityPool pool)) sold (neg_ℤ amount_sold))
    (more_at (Some (key.LiquidityPool pool)) bought amount_bought)
more_by other = none_more

abbrev pub more_in : List ClaimAtom → Increase
more_in [] = none_more
more_in (first ∷ atoms) = both_more (more_by first) (more_in atoms)

-- what was sold in all, and what was bought
abbrev pub sold_in : List ClaimAtom → ℤ
sold_in [] = pos 0
sold_in (atom.OrderBook seller id sold amount_sold bought amount_bought ∷ atoms) = amount_sold +ℤ sold_in atoms
sold_in (atom.LiquidityPool pool sold amount_sold bought amount_bought ∷ atoms) = amount_sold +ℤ sold_in atoms
sold_in (other ∷ atoms) = sold_in atoms

abbrev pub bought_in : List ClaimAtom → ℤ
bought_in [] = pos 0
bought_in (atom.OrderBook seller id sold amount_sold bought amount_bought ∷ atoms) = amount_bought +ℤ bought_in atoms
bought_in (atom.LiquidityPool pool sold amount_sold bought amount_bought ∷ atoms) = amount_bought +ℤ bought_in atoms
bought_in (other ∷ atoms) = bought_in atoms

-- a seller that isn't the taker sold wheat for sheep
abbrev pub IsOfTrade : Trade → ClaimAtom → Type 0
IsOfTrade trade (atom.OrderBook seller id sold amount_sold bought amount_bought) =
    (seller ≢ trade.taker) × (sold ≡ trade.wheat) × (bought ≡ trade.sheep) × (pos 0 ≤ℤ amount_sold)
    × (pos 0 ≤ℤ amount_bought)
IsOfTrade trade other = ⊥

-- the atoms are of the trade, and add up to what it says
pub record AreTraded (trade : Trade) (done : Crossing) : Type 0 where
  pub sheep : bought_in done.atoms ≡ pos done.sheep
  pub wheat : sold_in done.atoms ≡ pos done.wheat
  pub each : All (IsOfTrade trade) done.atoms

-- ---- the law

pub record IsCrossed (v : View) (id_pool base : ℕ) (owed : Owed) (sum : ℤ) (trade : Trade) (left : Left)
    (m : EntryMap) (done : Crossing) : Type 0 where
  -- as legal as before, with as much owed, and with as much held of each asset as the atoms say
  pub legal : IsLegalOwing v id_pool owed (sum +ℤ kept_in v.asset done.atoms) done.entries
  -- within the taker's bounds
  pub sheep : done.sheep ≤ left.sheep_send
  pub wheat : done.wheat ≤ left.wheat_receive
  -- what sellers hold more and less
  pub holds : HoldsMore (more_in done.atoms) m done.entries
  -- each account has no less available than before, unless that is at least nothing, and who existed still exists
  pub accounts : (id : AccountId) → IsAfter base (account_at m id) (account_at done.entries id)
  pub exist : (id : AccountId) → HasAccount m id → HasAccount done.entries id
  -- the taker has what it had, and no offer comes
  pub passes : Passes base trade.taker m done.entries
  pub atoms : AreTraded trade done

-- for all that aggregates may owe
abbrev pub CrossingKeeps : Type 0
CrossingKeeps =
    (v : View) (id_pool base : ℕ) (owed : Owed) (sum : ℤ) (trade : Trade) (crossings : ℕ) (left : Left) (m : EntryMap)
    → IsLegalOwing v id_pool owed sum m → IsOwedRightly owed
    → IsCrossed v id_pool base owed sum trade left m (crossed base trade crossings left m)
