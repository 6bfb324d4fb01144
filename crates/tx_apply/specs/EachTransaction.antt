-- The laws of each transaction of a set that is accepted: its fee goes to the fee pool, and its operations move what
-- their moves say, so that neither makes or loses lumens.
use Rattle.std.specs.Prelude.{◌≡◌, ℕ, ℤ, ◌+ℤ◌, All, List, [], ◌∷◌, map}
use Rattle.std.specs.List.{flat_map}
use Rattle.ledger_types.specs.declared.asset.Asset.TheVariants as asset
use Rattle.op_types.specs.declared.transaction.TransactionEnvelope.{TransactionEnvelope}
use Rattle.op_types.specs.declared.transaction.TransactionSet.{TransactionSet}
use Rattle.entry_map.specs.EntryMap.{EntryMap}
use Rattle.fee_rules.specs.Fees.{set_base_fee}
use Rattle.op_laws.specs.entry_sums.Sums.{total}
use Rattle.op_laws.specs.legal_rules.Supply.{held}
use Rattle.op_form.specs.Done.{Move}
use Rattle.tx_apply.specs.Fees.{fee_of, fee_move, map_after_fee}
use Rattle.tx_apply.specs.Laws.{CanClose, IsTaken, IsTurnConserved, turn_applied, turns_of}
use Rattle.tx_apply.specs.Set.{Setting, envelopes_in_order, fees_taken_of, set_done}

-- the lumens of a state: what all entries hold, and the fee pool
abbrev pub lumens_with : (fee_pool : ℤ) → EntryMap → ℤ
lumens_with fee_pool m = total (held asset.Native) m +ℤ fee_pool

-- ---- fees

-- the fee of a transaction in its turn, by what the fees before it left
pub record FeeTurn : Type 0 where
  pub entire : TransactionEnvelope
  pub fee_pool : ℤ
  pub entries : EntryMap

abbrev pub fee_in : (base_fee : ℕ) → FeeTurn → ℤ
fee_in base_fee turn = fee_of base_fee turn.entire turn.entries

-- what the fee leaves
abbrev pub fee_pool_left : (base_fee : ℕ) → FeeTurn → ℤ
fee_pool_left base_fee turn = turn.fee_pool +ℤ fee_in base_fee turn

abbrev pub entries_left : (base_fee : ℕ) → FeeTurn → EntryMap
entries_left base_fee turn = map_after_fee base_fee turn.entire turn.entries

unfoldable pub fee_turns : (base_fee : ℕ) → List TransactionEnvelope → (fee_pool : ℤ) → EntryMap → List FeeTurn
fee_turns base_fee [] fee_pool m = []
fee_turns base_fee (entire ∷ others) fee_pool m =
    record { entire = entire; fee_pool = fee_pool; entries = m }
    ∷ fee_turns base_fee others (fee_pool +ℤ fee_of base_fee entire m) (map_after_fee base_fee entire m)

-- the fees of a set in the order in which they are taken
abbrev pub fee_turns_of : Setting → TransactionSet → EntryMap → List FeeTurn
fee_turns_of setting set m =
    fee_turns (set_base_fee setting.header set.txs) (envelopes_in_order set) setting.header.fee_pool m

-- a fee is moved to the fee pool, which has so much more
pub record IsFeeConserved (id_pool base_fee : ℕ) (turn : FeeTurn) : Type 0 where
  pub lumens : lumens_with (fee_pool_left base_fee turn) (entries_left base_fee turn)
      ≡ lumens_with turn.fee_pool turn.entries
  pub taken : IsTaken id_pool turn.entire turn.entries (entries_left base_fee turn) (fee_in base_fee turn)

abbrev pub fee_moved : (base_fee : ℕ) → FeeTurn → Move
fee_moved base_fee turn = fee_move turn.entire (fee_in base_fee turn)

-- ---- each transaction

-- all that a set moves, and each operation that it runs, is by one of its transactions in its turn
pub record IsByTurns (setting : Setting) (set : TransactionSet) (m : EntryMap) : Type 0 where
  pub fees : (fees_taken_of setting set m).moves
      ≡ map (fee_moved (set_base_fee setting.header set.txs)) (fee_turns_of setting set m)
  pub moves : (set_done setting set m).moves
      ≡ flat_map (λ turn. (turn_applied setting turn).moves) (turns_of setting set m)
  pub steps : (set_done setting set m).steps
      ≡ flat_map (λ turn. (turn_applied setting turn).steps) (turns_of setting set m)

-- each fee, and then each transaction by its operations
pub record AreEachConserved (setting : Setting) (set : TransactionSet) (m : EntryMap) : Type 0 where
  pub turns : IsByTurns setting set m
  pub fees : All (λ turn. IsFeeConserved setting.header.id_pool (set_base_fee setting.header set.txs) turn)
      (fee_turns_of setting set m)
  pub operations : All (λ turn. IsTurnConserved setting turn) (turns_of setting set m)

abbrev pub EachConserves : Type 0
EachConserves = (setting : Setting) (set : TransactionSet) (m : EntryMap) → CanClose setting set m
    → AreEachConserved setting set m
