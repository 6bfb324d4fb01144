-- What a set charges (TxSetFrame::getBaseFee and TransactionFrame::getFee in stellar-core).
use Rattle.std.specs.Prelude.{ℕ, ◌+◌, ◌-◌, ◌*◌, ◌/◌, min, max, nat_lt, nat_eq, ℤ, List, [], ◌∷◌, Bool, Option, Some}
use Rattle.std.specs.Prelude.{None}
use Rattle.std.specs.Prelude.{if◌then◌else◌}
use Rattle.std.specs.List.{sum_by}
use Rattle.ledger_types.specs.declared.header.LedgerHeader.{LedgerHeader}
use Rattle.op_types.specs.declared.transaction.TransactionEnvelope.{TransactionEnvelope}
use Rattle.fee_rules.specs.Envelopes.{bid_of, operation_count, not_below_0}

-- a quotient, rounded up
abbrev pub ceil_div : ℕ → ℕ → ℕ
ceil_div a b = (a + (b - 1)) / b

-- a set of more operations than 100 below the most that a set may have
abbrev pub is_in_surge : ℕ → List TransactionEnvelope → Bool
is_in_surge max_tx_set_size envelopes = nat_lt (max_tx_set_size - 100) (sum_by operation_count envelopes)

-- the lesser of two bids an operation, where there are two
abbrev pub lesser_bid : ℕ → Option ℕ → ℕ
lesser_bid bid None = bid
lesser_bid bid (Some other) = min bid other

abbrev pub with_bid : TransactionEnvelope → Option ℕ → Option ℕ
with_bid envelope least =
    if nat_eq (operation_count envelope) 0 then least
    else Some (lesser_bid (ceil_div (bid_of envelope) (operation_count envelope)) least)

-- the least bid an operation of the transactions that have operations, rounded up
unfoldable pub least_bid : List TransactionEnvelope → Option ℕ
least_bid [] = None
least_bid (envelope ∷ envelopes) = with_bid envelope (least_bid envelopes)

abbrev pub bid_or : ℕ → Option ℕ → ℕ
bid_or base_fee None = base_fee
bid_or base_fee (Some bid) = bid

-- what an operation of the set costs at most, in stroops: the header's fee, or the least bid of a surge-priced set
abbrev pub set_base_fee : LedgerHeader → List TransactionEnvelope → ℕ
set_base_fee header envelopes =
    if is_in_surge header.max_tx_set_size envelopes then bid_or header.base_fee (least_bid envelopes)
    else header.base_fee

-- what a transaction is charged: never more than its bid, nor than the account of its fee source has
abbrev pub fee_charged : ℕ → TransactionEnvelope → ℤ → ℕ
fee_charged base_fee envelope balance =
    min (not_below_0 balance) (min (bid_of envelope) (base_fee * max 1 (operation_count envelope)))
