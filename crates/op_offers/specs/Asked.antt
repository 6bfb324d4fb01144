-- What an operation on offers asks for, whatever its type (ManageOfferOpFrameBase in stellar-core).
use Rattle.std.specs.Prelude.{pos, int_le, int_lt, not, Bool, ◌||◌, ◌&&◌, Some, None}
use Rattle.std.specs.Ordering.{int_eq, is_eq}
use Rattle.ledger_types.specs.declared.price.Price.{Price}
use Rattle.ledger_types.specs.KeyOrder.{asset_cmp}
use Rattle.op_types.specs.declared.offer_ops.ManageSellOfferOp.{ManageSellOfferOp}
use Rattle.op_types.specs.declared.offer_ops.CreatePassiveSellOfferOp.{CreatePassiveSellOfferOp}
use Rattle.op_types.specs.declared.offer_ops.ManageBuyOfferOp.{ManageBuyOfferOp}
use Rattle.valid_values.specs.Assets.{is_valid_asset}
use Rattle.op_offers.specs.declared.ask.Ask.{Ask}

abbrev pub inverse : Price → Price
inverse price = record { n = price.d; d = price.n }

abbrev pub ask_to_sell : ManageSellOfferOp → Ask
ask_to_sell op =
    record {
      selling = op.selling;
      buying = op.buying;
      amount = op.amount;
      sells = Some op.amount;
      buys = None;
      price = op.price;
      offer_id = op.offer_id;
      flags = 0;
    }

-- a new offer, which is passive
abbrev pub ask_passively : CreatePassiveSellOfferOp → Ask
ask_passively op =
    record {
      selling = op.selling;
      buying = op.buying;
      amount = op.amount;
      sells = Some op.amount;
      buys = None;
      price = op.price;
      offer_id = pos 0;
      flags = 1;
    }

-- The operation's price is what is given for one unit of what is bought.
abbrev pub ask_to_buy : ManageBuyOfferOp → Ask
ask_to_buy op =
    record {
      selling = op.selling;
      buying = op.buying;
      amount = op.buy_amount;
      sells = None;
      buys = Some op.buy_amount;
      price = inverse op.price;
      offer_id = op.offer_id;
      flags = 0;
    }

-- the assets are no pair that can be traded
abbrev pub is_no_pair : Ask → Bool
is_no_pair ask =
    not (is_valid_asset ask.selling) || (not (is_valid_asset ask.buying) || is_eq (asset_cmp ask.selling ask.buying))

-- a number is out of its range
abbrev pub is_out_of_range : Ask → Bool
is_out_of_range ask =
    int_lt ask.amount (pos 0) || (int_le ask.price.n (pos 0) || (int_le ask.price.d (pos 0)
    || (int_lt ask.offer_id (pos 0) || (int_eq ask.amount (pos 0) && int_eq ask.offer_id (pos 0)))))

-- a field of the operation is not valid
abbrev pub is_malformed : Ask → Bool
is_malformed ask = is_no_pair ask || is_out_of_range ask
