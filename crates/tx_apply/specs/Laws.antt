-- The laws of complete sets: what they leave is settled, lumens are conserved, the supply of each other asset changes
-- by what is issued and redeemed alone, each holder has what it had and what the moves give it, and each operation
-- leaves each account at least 0 available, or what it had.
use Rattle.std.specs.Prelude.{◌≡◌, ◌≢◌, ℕ, ◌+◌, ℤ, ◌<◌, ◌≤◌, ◌+ℤ◌, false, All, List, [], ◌∷◌, ◌++◌, length}
use Rattle.ledger_types.specs.declared.asset.Asset.{Asset}
use Rattle.ledger_types.specs.declared.asset.Asset.TheVariants as asset
use Rattle.op_types.specs.declared.operation.Operation.{Operation}
use Rattle.op_types.specs.declared.transaction.TransactionEnvelope.{TransactionEnvelope}
use Rattle.op_types.specs.declared.transaction.TransactionSet.{TransactionSet}
use Rattle.entry_map.specs.EntryMap.{EntryMap}
use Rattle.op_laws.specs.entry_sums.Sums.{total}
use Rattle.op_laws.specs.legal_rules.Legal.{IsLegal}
use Rattle.op_laws.specs.legal_rules.Supply.{held}
use Rattle.op_form.specs.Sequences.{last_seq}
use Rattle.op_laws.specs.Laws.{IsFit, IsLawful}
use Rattle.op_form.specs.Done.{Holder, FeePool, Move}
use Rattle.op_laws.specs.Moves.{gained, holding, is_issuer, issued}
use Rattle.op_laws.specs.Underway.{IsSettled, LeavesSettled, AreDrawn}
use Rattle.tx_apply.specs.Operations.{operations_of}
use Rattle.tx_apply.specs.Fees.{fee_of, fee_move, map_after_fee}
use Rattle.tx_apply.specs.Running.{Step}
use Rattle.tx_apply.specs.Set.{Setting, envelope_applied, envelopes_in_order, set_done, fee_pool_after}
use Rattle.tx_apply.specs.Set.{fees_taken_of}
use Rattle.tx_apply.specs.Transaction.{Applied}

-- ---- what sets are applied to

-- the operations' numbers are those of their types
abbrev pub AreFit : List Operation → Type 0
AreFit operations = All (λ operation. IsFit operation.body) operations

abbrev pub AreAllFit : List TransactionEnvelope → Type 0
AreAllFit envelopes = All (λ entire. AreFit (operations_of entire)) envelopes

-- so many ids more fit an int64 (offerID in Stellar-ledger-entries.x)
abbrev pub CanDraw : (count id_pool : ℕ) → Type 0
CanDraw count id_pool = id_pool + count ≤ 9223372036854775807

-- what the next close needs of a state and a set, besides the rules that it tests
pub record CanClose (setting : Setting) (set : TransactionSet) (m : EntryMap) : Type 0 where
  pub legal : IsLegal setting.header m
  pub seq : setting.header.ledger_seq < last_seq
  pub fit : AreAllFit set.txs

-- ---- what holders have

-- what a holder has of an asset, where the fee pool has so much
abbrev pub holding_with : (fee_pool : ℤ) → Asset → Holder → EntryMap → ℤ
holding_with fee_pool asset.Native FeePool m = fee_pool
holding_with fee_pool x holder m = holding x holder m

-- Each holder, the fee pool among them, has what it had and what the moves give it; an asset's issuer apart.
abbrev pub AreAllDescribed : (pool : ℤ) → (old : EntryMap) → (pool_after : ℤ) → (new : EntryMap) → List Move → Type 0
AreAllDescribed pool old pool_after new moves = (x : Asset) (holder : Holder) → is_issuer x holder ≡ false
    → holding_with pool_after x holder new ≡ (holding_with pool x holder old +ℤ gained x holder moves)

-- ---- the laws

-- a fee is moved to the fee pool, and nothing else is moved
pub record IsTaken (id_pool : ℕ) (entire : TransactionEnvelope) (m after : EntryMap) (fee : ℤ) : Type 0 where
  pub settled : IsSettled id_pool after
  pub lumens : (total (held asset.Native) after +ℤ fee) ≡ total (held asset.Native) m
  pub others : (x : Asset) → x ≢ asset.Native → total (held x) after ≡ total (held x) m
  pub described : (pool : ℤ) → AreAllDescribed pool m (pool +ℤ fee) after (fee_move entire fee ∷ [])

abbrev pub FeesConserve : Type 0
FeesConserve = (id_pool base_fee : ℕ) (entire : TransactionEnvelope) (m : EntryMap) → IsSettled id_pool m
    → IsTaken id_pool entire m (map_after_fee base_fee entire m) (fee_of base_fee entire m)

-- after its fee a transaction moves what its moves say, and no lumens are made or lost
abbrev pub TransactionsConserve : Type 0
TransactionsConserve = (setting : Setting) (id_pool : ℕ) (entire : TransactionEnvelope) (m : EntryMap)
    → IsSettled id_pool m → setting.header.ledger_seq < last_seq → AreFit (operations_of entire)
    → LeavesSettled (envelope_applied setting id_pool entire m).id_pool m
    (envelope_applied setting id_pool entire m).entries (envelope_applied setting id_pool entire m).moves

-- ---- each transaction of a set

-- a transaction, and what those before it left
pub record Turn : Type 0 where
  pub entire : TransactionEnvelope
  pub id_pool : ℕ
  pub entries : EntryMap

-- what the transaction of a turn does
abbrev pub turn_applied : Setting → Turn → Applied
turn_applied setting turn = envelope_applied setting turn.id_pool turn.entire turn.entries

unfoldable pub turns : Setting → (id_pool : ℕ) → List TransactionEnvelope → EntryMap → List Turn
turns setting id_pool [] m = []
turns setting id_pool (entire ∷ others) m =
    record { entire = entire; id_pool = id_pool; entries = m }
    ∷ turns setting (envelope_applied setting id_pool entire m).id_pool others
    (envelope_applied setting id_pool entire m).entries

-- the transactions of a set in the order in which they are applied, after all fees
abbrev pub turns_of : Setting → TransactionSet → EntryMap → List Turn
turns_of setting set m =
    turns setting setting.header.id_pool (envelopes_in_order set) (fees_taken_of setting set m).entries

-- a transaction conserves lumens after its fee, and moves what its moves say of all else
pub record IsTurnConserved (setting : Setting) (turn : Turn) : Type 0 where
  pub lumens : total (held asset.Native) (turn_applied setting turn).entries ≡ total (held asset.Native) turn.entries
  pub leaves : LeavesSettled (turn_applied setting turn).id_pool turn.entries (turn_applied setting turn).entries
      (turn_applied setting turn).moves

-- each transaction of a set that is accepted
abbrev pub TurnsConserve : Type 0
TurnsConserve = (setting : Setting) (set : TransactionSet) (m : EntryMap) → CanClose setting set m
    → All (λ turn. IsTurnConserved setting turn) (turns_of setting set m)

-- ---- complete sets

-- the operations of all transactions
unfoldable pub operation_total : List TransactionEnvelope → ℕ
operation_total [] = 0
operation_total (entire ∷ others) = length (operations_of entire) + operation_total others

-- all that a set moves: the fees first
abbrev pub moves_of : Setting → TransactionSet → EntryMap → List Move
moves_of setting set m = (fees_taken_of setting set m).moves ++ (set_done setting set m).moves

-- what a set leaves
pub record IsConserved (setting : Setting) (set : TransactionSet) (m : EntryMap) : Type 0 where
  pub settled : IsSettled (set_done setting set m).id_pool (set_done setting set m).entries
  pub ids : AreDrawn (operation_total (envelopes_in_order set)) setting.header.id_pool
      (set_done setting set m).id_pool
  pub lumens : (total (held asset.Native) (set_done setting set m).entries +ℤ fee_pool_after setting set m)
      ≡ setting.header.total_coins
  pub supply : (x : Asset) → x ≢ asset.Native → total (held x) (set_done setting set m).entries
      ≡ total (held x) m +ℤ issued x (set_done setting set m).moves
  pub described : AreAllDescribed setting.header.fee_pool m (fee_pool_after setting set m)
      (set_done setting set m).entries
      (moves_of setting set m)

abbrev pub SetsConserve : Type 0
SetsConserve = (setting : Setting) (set : TransactionSet) (m : EntryMap) → CanClose setting set m
    → IsConserved setting set m

-- Each operation that is run leaves each account an available balance of at least 0, or of what it had; also one whose
-- transaction is undone.
abbrev pub AreLawful : List Step → Type 0
AreLawful steps = All (λ step. IsLawful step.ctx step.entries step.done) steps

abbrev pub OperationsAreLawful : Type 0
OperationsAreLawful = (setting : Setting) (set : TransactionSet) (m : EntryMap) → CanClose setting set m
    → AreLawful (set_done setting set m).steps
