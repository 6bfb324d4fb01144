-- Operations on offers put and answer what can be written.
use Rattle.bucket_levels.specs.entry_map.EntryMap.{EntryMap}
use Rattle.close_laws.proofs.Bytes.{AreOfferBytes, IsId}
use Rattle.close_laws.proofs.ShortOffers.{offer_short}
use Rattle.close_laws.proofs.Written.{IsAnswer, IsReported, all_reported, amount_encoded, left_bytes, of_bytes}
use Rattle.close_laws.proofs.Written.{writing}
use Rattle.close_rules.specs.State.{IsEncoded}
use Rattle.close_rules.specs.entry_slots.Accounts.{HasAccount}
use Rattle.close_rules.specs.ledger_types.declared.claim_atom.ClaimAtom.{ClaimAtom}
use Rattle.close_rules.specs.ledger_types.declared.ids.AccountId.{AccountId}
use Rattle.close_rules.specs.ledger_types.declared.price.Price.{Price}
use Rattle.close_rules.specs.op_offers.Asked.{ask_passively, ask_to_buy, ask_to_sell, inverse}
use Rattle.close_rules.specs.op_offers.Managing.{Changed, Effect, Made, offer_asked}
use Rattle.close_rules.specs.op_offers.Operations.{answer_of, effect_of}
use Rattle.close_rules.specs.op_offers.Selling.{Asked, offer_left}
use Rattle.close_rules.specs.op_offers.declared.answers.Kind.{Kind}
use Rattle.close_rules.specs.op_offers.declared.ask.Ask.{Ask}
use Rattle.close_rules.specs.op_types.declared.offer_ops.CreatePassiveSellOfferOp.{CreatePassiveSellOfferOp}
use Rattle.close_rules.specs.op_types.declared.offer_ops.ManageBuyOfferOp.{ManageBuyOfferOp}
use Rattle.close_rules.specs.op_types.declared.offer_ops.ManageSellOfferOp.{ManageSellOfferOp}
use Rattle.close_rules.specs.op_types.declared.offer_results.ManageOfferEffect.{ManageOfferEffect}
use Rattle.close_rules.specs.op_types.declared.offer_results.ManageOfferResult.{ManageOfferResult}
use Rattle.close_rules.specs.reserve_rules.Reserve.{greatest_i64}
use Rattle.close_rules.specs.sponsor_rules.declared.context.Ctx.{Ctx}
use Rattle.close_rules.specs.tx_apply.Laws.{CanDraw}
use Rattle.close_rules.specs.xdr_core.Combinators.{list}
use Rattle.close_rules.specs.xdr_core.Leaves.{i64}
use Rattle.close_rules.specs.xdr_results.Answers.{manage_offer_effect, manage_offer_result, manage_offer_success}
use Rattle.close_rules.specs.xdr_results.Results.{operation_result, operation_result_tr}
use Rattle.close_rules.specs.xdr_tx.Operations.{create_passive_sell_offer_op, manage_buy_offer_op}
use Rattle.close_rules.specs.xdr_tx.Operations.{manage_sell_offer_op, operation_body}
use Rattle.op_laws.specs.Underway.{IsUnderway}
use Rattle.std.proofs.Common.{arith, suc, zero}
use Rattle.std.proofs.lemmas.Int.{ints}
use Rattle.std.proofs.lemmas.List.Elements.{All-nil}
use Rattle.std.specs.Prelude.{All, List, [], length, pos, ℕ, ℤ, ◌+◌, ◌≤ℤ◌, ◌≤◌}
use Rattle.op_offers.proofs.ManagedHold.{DoesAskFit}
use Rattle.op_offers.proofs.OfferSteps.{DoesSaleAnswer}
use Rattle.close_rules.specs.op_offers.declared.answers.Kind.TheVariants as kind
use Rattle.close_rules.specs.op_types.declared.offer_results.ManageOfferEffect.TheVariants as effect
use Rattle.close_rules.specs.op_types.declared.offer_results.ManageOfferResult.TheVariants as manage
use Rattle.close_rules.specs.op_types.declared.operation.OperationBody.TheVariants as operation
use Rattle.close_rules.specs.op_types.declared.operation_result.OperationResult.TheVariants.{Inner}
use Rattle.close_rules.specs.xdr_entries.Basic as basic

-- ---- what is asked for

-- what is asked for can be written
pub record IsAskBytes (ask : Ask) : Type 0 where
  pub selling : IsEncoded basic.asset ask.selling
  pub buying : IsEncoded basic.asset ask.buying
  pub price : IsEncoded basic.price ask.price

inverse_encoded : (price : Price) → IsEncoded basic.price price → IsEncoded basic.price (inverse price)
unfolding basic.price
inverse_encoded price encoded = record {
  within = (encoded.within.1, encoded.within.0);
  sized = (encoded.sized.1, encoded.sized.0);
}

pub sale_asked : (op : ManageSellOfferOp) → IsEncoded operation_body (operation.ManageSellOffer op)
    → IsAskBytes (ask_to_sell op)
unfolding operation_body manage_sell_offer_op
sale_asked op encoded = record {
  selling = record { within = encoded.within.0; sized = encoded.sized.0 };
  buying = record { within = encoded.within.1.0; sized = encoded.sized.1.0 };
  price = record { within = encoded.within.1.1.1.0; sized = encoded.sized.1.1.1.0 };
}

pub passive_asked : (op : CreatePassiveSellOfferOp) → IsEncoded operation_body (operation.CreatePassiveSellOffer op)
    → IsAskBytes (ask_passively op)
unfolding operation_body create_passive_sell_offer_op
passive_asked op encoded = record {
  selling = record { within = encoded.within.0; sized = encoded.sized.0 };
  buying = record { within = encoded.within.1.0; sized = encoded.sized.1.0 };
  price = record { within = encoded.within.1.1.1; sized = encoded.sized.1.1.1 };
}

pub purchase_asked : (op : ManageBuyOfferOp) → IsEncoded operation_body (operation.ManageBuyOffer op)
    → IsAskBytes (ask_to_buy op)
unfolding operation_body manage_buy_offer_op
purchase_asked op encoded = record {
  selling = record { within = encoded.within.0; sized = encoded.sized.0 };
  buying = record { within = encoded.within.1.0; sized = encoded.sized.1.0 };
  price = inverse_encoded op.price (record { within = encoded.within.1.1.1.0; sized = encoded.sized.1.1.1.0 });
}

none_is_least : pos 0 ≤ℤ greatest_i64
none_is_least = omega (arith, ints)

offer_asked_bytes : (source : AccountId) (ask : Ask) (id : ℤ) (flags : ℕ) → IsId source → IsAskBytes ask
    → IsEncoded i64 id → AreOfferBytes (offer_asked source ask id flags)
offer_asked_bytes source ask id flags named asks encoded = record {
  id = named;
  offer_id = encoded;
  selling = asks.selling;
  buying = asks.buying;
  amount = amount_encoded 0 none_is_least;
  price = asks.price;
}

-- what holds before an operation: one more id can be written
pub record CanTrade (ctx : Ctx) (m : EntryMap) : Type 0 where
  pub under : IsUnderway ctx m
  pub exists : HasAccount m ctx.op_source
  pub next : CanDraw 1 ctx.id_pool

pub asks_fit : (ctx : Ctx) (ask : Ask) → IsId ctx.op_source → IsAskBytes ask → DoesAskFit of_bytes ctx ask
asks_fit ctx ask id asks = record {
  new = λ within. offer_asked_bytes ctx.op_source ask (pos (ctx.id_pool + 1)) ask.flags id asks
      (amount_encoded (ctx.id_pool + 1) (within tt));
  old = λ was bytes. offer_asked_bytes ctx.op_source ask was.offer_id was.flags id asks bytes.offer_id;
}

-- ---- what is answered

offered : (of : Kind) (code : ManageOfferResult) → manage_offer_result.within code
    → IsAnswer (Inner (answer_of of code))
unfolding operation_result operation_result_tr
offered kind.Sell code within = record { within = within }
offered kind.Passive code within = record { within = within }
offered kind.Buy code within = record { within = within }

effect_within : (what : Effect) (asked : Asked) (amount : ℕ) → AreOfferBytes asked.offer → asked.offer.flags ≤ 1
    → pos amount ≤ℤ greatest_i64 → manage_offer_effect.within (effect_of what asked amount)
unfolding manage_offer_effect
effect_within what asked zero bytes flags few = tt
effect_within Made asked (suc n) bytes flags few =
    (offer_short (offer_left asked (suc n)) (left_bytes (suc n) asked.offer few bytes) flags).within
effect_within Changed asked (suc n) bytes flags few =
    (offer_short (offer_left asked (suc n)) (left_bytes (suc n) asked.offer few bytes) flags).within

success_within : (atoms : List ClaimAtom) (what : ManageOfferEffect) → length atoms ≤ 1000 → All IsReported atoms
    → manage_offer_effect.within what
    → manage_offer_result.within (manage.Success (record { offers_claimed = atoms; offer = what }))
unfolding manage_offer_result manage_offer_success list
success_within atoms what few reported within = ((fewer few, all_reported atoms reported), within)
  where
    fewer : {n : ℕ} → n ≤ 1000 → n ≤ 4294967295
    fewer le = omega arith

deleted_within : manage_offer_effect.within effect.Deleted
unfolding manage_offer_effect
deleted_within = tt

none_claimed : 0 ≤ 1000
none_claimed = omega arith

pub sales_answer : (of : Kind) → DoesSaleAnswer writing of
sales_answer of = record {
  removed = offered of (manage.Success (record { offers_claimed = []; offer = effect.Deleted }))
      (success_within [] effect.Deleted none_claimed (All-nil IsReported) deleted_within);
  traded = λ what asked done sold fits flags. offered of
      (manage.Success (record { offers_claimed = done.crossed.atoms; offer = effect_of what asked done.amount }))
      (success_within done.crossed.atoms (effect_of what asked done.amount) sold.few sold.reported
      (effect_within what asked done.amount fits.offer (flags tt) (sold.amount tt)));
}
