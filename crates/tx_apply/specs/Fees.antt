-- The fees of the transactions of a set (TransactionFrame::processFeeSeqNum in stellar-core).
use Rattle.std.specs.Prelude.{ℕ, ℤ, pos, neg_ℤ, ◌+ℤ◌, List, [], ◌∷◌}
use Rattle.op_types.specs.declared.transaction.TransactionEnvelope.{TransactionEnvelope}
use Rattle.entry_map.specs.EntryMap.{EntryMap}
use Rattle.fee_rules.specs.Envelopes.{fee_source_of}
use Rattle.fee_rules.specs.Fees.{fee_charged}
use Rattle.ledger_types.specs.declared.asset.Asset.TheVariants.{Native}
use Rattle.op_laws.specs.legal_rules.Payments.{with_paid}
use Rattle.op_form.specs.Done.{OfAccount, FeePool, Move}
use Rattle.op_laws.specs.legal_rules.Supply.{lumens_at}

-- the fee of a transaction, of what its fee source has
abbrev pub fee_of : (base_fee : ℕ) → TransactionEnvelope → EntryMap → ℤ
fee_of base_fee envelope m = pos (fee_charged base_fee envelope (lumens_at m (fee_source_of envelope)))

abbrev pub map_after_fee : (base_fee : ℕ) → TransactionEnvelope → EntryMap → EntryMap
map_after_fee base_fee envelope m =
    with_paid (fee_source_of envelope) (neg_ℤ (fee_of base_fee envelope m)) m

-- a fee goes to the fee pool
abbrev pub fee_move : TransactionEnvelope → ℤ → Move
fee_move envelope fee =
    record { from = OfAccount (fee_source_of envelope); to = FeePool; asset = Native; amount = fee }

-- the fees of transactions, what they move, and the entries after them
pub record FeesTaken : Type 0 where
  pub fees : List ℤ
  pub moves : List Move
  pub entries : EntryMap

abbrev pub after_fee : TransactionEnvelope → ℤ → FeesTaken → FeesTaken
after_fee envelope fee rest =
    record { fees = fee ∷ rest.fees; moves = fee_move envelope fee ∷ rest.moves; entries = rest.entries }

-- each in turn
unfoldable pub fees_taken : (base_fee : ℕ) → List TransactionEnvelope → EntryMap → FeesTaken
fees_taken base_fee [] m = record { fees = []; moves = []; entries = m }
fees_taken base_fee (envelope ∷ envelopes) m =
    after_fee envelope (fee_of base_fee envelope m)
    (fees_taken base_fee envelopes (map_after_fee base_fee envelope m))

-- what fees add up to
unfoldable pub sum_of : List ℤ → ℤ
sum_of [] = pos 0
sum_of (fee ∷ fees) = fee +ℤ sum_of fees
