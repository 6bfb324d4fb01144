-- What each operation asks a walk for can be written, so that what it leaves and answers can be.
use Rattle.bucket_levels.specs.entry_map.EntryMap.{EntryMap}
use Rattle.op_laws.proofs.AllSteps.{Asked, FlagAsked, OfferAsked, any_left}
use Rattle.close_laws.proofs.Bytes.{AreAccountBytes, IsClaimant, IsId, IsIdIf, IsKey, KeepsAccounts}
use Rattle.close_laws.proofs.Bytes.{no_id, no_third, some_id}
use Rattle.close_laws.proofs.BytesPredicates.{claimants_fixed, unconditional_claimant}
use Rattle.close_laws.proofs.Digests.{hash_encoded}
use Rattle.close_laws.proofs.Encoded.{each_encoded}
use Rattle.close_laws.proofs.Written.{IsAnswer, IsLineAsset, amount_encoded, of_bytes, writing}
use Rattle.close_laws.proofs.WrittenOffers.{CanTrade, IsAskBytes, asks_fit, passive_asked, purchase_asked, sale_asked}
use Rattle.close_laws.proofs.WrittenOffers.{sales_answer}
use Rattle.close_laws.proofs.WrittenPaths.{received_arrived, received_named, sent_arrived, sent_named}
use Rattle.close_rules.specs.State.{IsEncoded}
use Rattle.close_rules.specs.ledger_types.Ids.{account_of}
use Rattle.close_rules.specs.ledger_types.declared.asset.Asset.{Asset}
use Rattle.close_rules.specs.ledger_types.declared.asset.ChangeTrustAsset.{ChangeTrustAsset}
use Rattle.close_rules.specs.ledger_types.declared.ids.AccountId.{AccountId}
use Rattle.close_rules.specs.ledger_types.declared.ids.Hash.{Hash}
use Rattle.close_rules.specs.ledger_types.declared.predicate.ClaimPredicate.TheVariants.{Unconditional}
use Rattle.close_rules.specs.ledger_types.declared.signer.Signer.{Signer}
use Rattle.close_rules.specs.offer_exchange.Exchange.{unlimited}
use Rattle.close_rules.specs.op_form.Assets.{line_asset_of}
use Rattle.close_rules.specs.op_offers.Asked.{ask_passively, ask_to_buy, ask_to_sell}
use Rattle.close_rules.specs.op_offers.Calls.{IsManageable}
use Rattle.close_rules.specs.op_offers.declared.answers.Kind.{Kind}
use Rattle.close_rules.specs.op_offers.declared.ask.Ask.{Ask}
use Rattle.close_rules.specs.op_types.declared.account_ops.CreateAccountOp.{CreateAccountOp}
use Rattle.close_rules.specs.op_types.declared.account_ops.ManageDataOp.{ManageDataOp}
use Rattle.close_rules.specs.op_types.declared.account_ops.SetOptionsOp.{SetOptionsOp}
use Rattle.close_rules.specs.op_types.declared.balance_ops.CreateClaimableBalanceOp.{CreateClaimableBalanceOp}
use Rattle.close_rules.specs.op_types.declared.operation.OperationBody.{OperationBody}
use Rattle.close_rules.specs.op_types.declared.trust_ops.AllowTrustOp.{AllowTrustOp}
use Rattle.close_rules.specs.op_types.declared.trust_ops.ChangeTrustOp.{ChangeTrustOp}
use Rattle.close_rules.specs.op_types.declared.trust_ops.SetTrustLineFlagsOp.{SetTrustLineFlagsOp}
use Rattle.close_rules.specs.reserve_rules.Reserve.{greatest_i64}
use Rattle.close_rules.specs.sponsor_rules.declared.context.Ctx.{Ctx}
use Rattle.close_rules.specs.xdr_core.Combinators.{constant, option}
use Rattle.close_rules.specs.xdr_core.Format.{IsBytes}
use Rattle.close_rules.specs.xdr_core.Leaves.{fixed, i64, var}
use Rattle.close_rules.specs.xdr_core.Xdr.{optional}
use Rattle.close_rules.specs.xdr_entries.Basic.{change_trust_asset, claimable_balance_id, hash, signer, signer_key}
use Rattle.close_rules.specs.xdr_entries.Entries.{claimant}
use Rattle.close_rules.specs.xdr_results.Answers.{create_claimable_balance_result}
use Rattle.close_rules.specs.xdr_results.Results.{operation_result, operation_result_tr}
use Rattle.close_rules.specs.xdr_tx.Operations.{allow_trust_op, change_trust_op, create_account_op}
use Rattle.close_rules.specs.xdr_tx.Operations.{create_claimable_balance_op, manage_data_op, operation_body}
use Rattle.close_rules.specs.xdr_tx.Operations.{set_options_op, set_trust_line_flags_op}
use Rattle.op_laws.proofs.Settled.{underway_manageable}
use Rattle.op_laws.specs.AnyOperation.{any_operation}
use Rattle.std.proofs.Common.{arith, refl, subst, suc, zero, ◌<◌}
use Rattle.std.proofs.lemmas.Bool.Decides.{nat_tests}
use Rattle.std.proofs.lemmas.Int.{ints}
use Rattle.std.proofs.lemmas.List.Elements.{All-cons, All-nil}
use Rattle.std.specs.Prelude.{All, Bool, List, None, Option, Some, [], false, nat_lt, pos, slice_index, true}
use Rattle.std.specs.Prelude.{unwrap_or, ℕ, ℤ, ◌+◌, ◌||◌, ◌∷◌, ◌≡◌, ◌≤ℤ◌, ◌≤◌}
use Rattle.sponsor_rules.proofs.Entries.{Fits}
use Rattle.op_form.proofs.Walks.{Before, Left}
use Rattle.op_flags.proofs.RevokedHold.{DoBalancesFit}
use Rattle.op_trust.proofs.ShareTrustSteps.{DoLinesFit, DoesTrustFit}
use Rattle.op_flags.proofs.SharesGiven.{can_revoke}
use Rattle.close_rules.specs.ledger_types.declared.asset.Asset.TheVariants as plain
use Rattle.close_rules.specs.ledger_types.declared.asset.ChangeTrustAsset.TheVariants as asked
use Rattle.close_rules.specs.op_account.CreateAccount as creating
use Rattle.close_rules.specs.op_claim.CreateClaimableBalance as balances
use Rattle.close_rules.specs.op_offers.declared.answers.Kind.TheVariants as kind
use Rattle.close_rules.specs.op_options.OptionTests as tests
use Rattle.close_rules.specs.op_options.SetOptions as options
use Rattle.close_rules.specs.op_types.declared.balance_results.CreateClaimableBalanceResult.TheVariants as create
use Rattle.close_rules.specs.op_types.declared.operation.OperationBody.TheVariants as body
use Rattle.close_rules.specs.xdr_entries.Basic as basic

-- ---- accounts

no_bytes : IsBytes []
no_bytes i = omega arith

new_domain : IsEncoded (var 32) []
unfolding var
new_domain = record { within = omega arith; sized = no_bytes }

four_bytes : (a b c d : ℕ) → a < 256 → b < 256 → c < 256 → d < 256 → IsEncoded (fixed 4) (a ∷ b ∷ c ∷ d ∷ [])
unfolding fixed
four_bytes a b c d first second third last = record { within = refl; sized = each }
  where
    each : IsBytes (a ∷ b ∷ c ∷ d ∷ [])
    each zero = first
    each (suc zero) = second
    each (suc (suc zero)) = third
    each (suc (suc (suc zero))) = last
    each (suc (suc (suc (suc i)))) = no_bytes i

destination_id : (op : CreateAccountOp) → IsEncoded operation_body (body.CreateAccount op) → IsId op.destination
unfolding operation_body create_account_op
destination_id op encoded = record { within = encoded.within.0; sized = encoded.sized.0 }

new_account_bytes : (ctx : Ctx) (op : CreateAccountOp) → IsId op.destination
    → AreAccountBytes (creating.new_account ctx op)
new_account_bytes ctx op id = record {
  id = id;
  inflation_dest = no_id;
  home_domain = new_domain;
  thresholds = four_bytes 1 0 0 0 (omega arith) (omega arith) (omega arith) (omega arith);
  signers = All-nil IsKey;
  sponsors = All-nil IsIdIf;
  third = no_third;
  selling = omega (arith, ints);
}

-- ---- data

name_encoded : (op : ManageDataOp) → IsEncoded operation_body (body.ManageData op) → IsEncoded (var 64) op.data_name
unfolding operation_body manage_data_op
name_encoded op encoded = record { within = encoded.within.0; sized = encoded.sized.0 }

value_encoded : (op : ManageDataOp) → IsEncoded operation_body (body.ManageData op)
    → IsEncoded (optional (var 64)) op.data_value
unfolding operation_body manage_data_op
value_encoded op encoded = record { within = encoded.within.1; sized = encoded.sized.1 }

given_value : (value : List ℕ) → IsEncoded (optional (var 64)) (Some value) → IsEncoded (var 64) value
unfolding option
given_value value encoded = record { within = encoded.within; sized = encoded.sized }

-- ---- options

pub record AreOptions (op : SetOptionsOp) : Type 0 where
  pub inflation_dest : IsIdIf op.inflation_dest
  pub home_domain : IsEncoded (optional (var 32)) op.home_domain
  pub signer : IsEncoded (optional signer) op.signer

options_encoded : (op : SetOptionsOp) → IsEncoded operation_body (body.SetOptions op) → AreOptions op
unfolding operation_body set_options_op
options_encoded op encoded = record {
  inflation_dest = record { within = encoded.within.0; sized = encoded.sized.0 };
  home_domain = record { within = encoded.within.1.1.1.1.1.1.1.0; sized = encoded.sized.1.1.1.1.1.1.1.0 };
  signer = record { within = encoded.within.1.1.1.1.1.1.1.1; sized = encoded.sized.1.1.1.1.1.1.1.1 };
}

given_signer : (one : Signer) → IsEncoded (optional signer) (Some one) → IsEncoded signer_key one.key
unfolding option signer
given_signer one encoded = record { within = encoded.within.0; sized = encoded.sized.0 }

-- no weight or threshold that is given is above 255
four_false : (a b c d : Bool) → (((a || b) || c) || d) ≡ false
    → (a ≡ false) × (b ≡ false) × (c ≡ false) × (d ≡ false)
four_false true b c d e = absurd (cc)
four_false false true c d e = absurd (cc)
four_false false false true d e = absurd (cc)
four_false false false false true e = absurd (cc)
four_false false false false false e = (refl, refl, refl, refl)

byte_or : (given : Option ℕ) (was : ℕ) → was < 256 → tests.is_too_great given ≡ false → unwrap_or given was < 256
byte_or None was below great = below
byte_or (Some n) was below great = not_above n great
  where
    not_above : (n : ℕ) → nat_lt 255 n ≡ false → n < 256
    not_above n other = grind (arith, nat_tests)

threshold_bytes : (was : List ℕ) → IsEncoded (fixed 4) was → IsBytes was
unfolding fixed
threshold_bytes was encoded = encoded.sized

new_thresholds : (op : SetOptionsOp) (was : List ℕ) → tests.is_out_of_range op ≡ false → IsEncoded (fixed 4) was
    → IsEncoded (fixed 4) (options.new_thresholds op was)
new_thresholds op was range encoded =
    let bytes = threshold_bytes was encoded in
    let none = four_false (tests.is_too_great op.master_weight) (tests.is_too_great op.low_threshold)
    (tests.is_too_great op.med_threshold) (tests.is_too_great op.high_threshold) range in
    four_bytes (unwrap_or op.master_weight (slice_index was 0)) (unwrap_or op.low_threshold (slice_index was 1))
    (unwrap_or op.med_threshold (slice_index was 2)) (unwrap_or op.high_threshold (slice_index was 3))
    (byte_or op.master_weight (slice_index was 0) (bytes 0) none.0)
    (byte_or op.low_threshold (slice_index was 1) (bytes 1) none.1)
    (byte_or op.med_threshold (slice_index was 2) (bytes 2) none.2)
    (byte_or op.high_threshold (slice_index was 3) (bytes 3) none.3)

given_id : (given was : Option AccountId) → IsIdIf given → IsIdIf was → IsIdIf (options.given_or given was)
given_id None was new old = old
given_id (Some id) was new old = new

given_domain : (given : Option (List ℕ)) (was : List ℕ) → IsEncoded (optional (var 32)) given → IsEncoded (var 32) was
    → IsEncoded (var 32) (unwrap_or given was)
unfolding option
given_domain None was new old = old
given_domain (Some domain) was new old = record { within = new.within; sized = new.sized }

with_options_bytes : (op : SetOptionsOp) → AreOptions op → tests.is_out_of_range op ≡ false
    → KeepsAccounts (options.with_options op)
with_options_bytes op given range account bytes = record {
  id = bytes.id;
  inflation_dest = given_id op.inflation_dest account.inflation_dest given.inflation_dest bytes.inflation_dest;
  home_domain = given_domain op.home_domain account.home_domain given.home_domain bytes.home_domain;
  thresholds = new_thresholds op account.thresholds range bytes.thresholds;
  signers = bytes.signers;
  sponsors = bytes.sponsors;
  third = bytes.third;
  selling = bytes.selling;
}

none_is_least : pos 0 ≤ℤ greatest_i64
none_is_least = omega (arith, ints)

-- ---- lines

line_encoded : (op : ChangeTrustOp) → IsEncoded operation_body (body.ChangeTrust op)
    → IsEncoded change_trust_asset op.line
unfolding operation_body change_trust_op
line_encoded op encoded = record { within = encoded.within.0; sized = encoded.sized.0 }

lines_fit : (ctx : Ctx) (limit : ℤ) (held : Asset) → IsId ctx.op_source → IsLineAsset (line_asset_of held)
    → DoLinesFit of_bytes ctx limit held
lines_fit ctx limit held id encoded = λ issuer. record { body = record { id = id; asset = encoded }; sponsor = no_id }

trust_fits : (ctx : Ctx) (limit : ℤ) (of : ChangeTrustAsset) → IsId ctx.op_source → IsEncoded change_trust_asset of
    → DoesTrustFit of_bytes ctx limit of
unfolding change_trust_asset basic.trust_line_asset
trust_fits ctx limit asked.Native id encoded = lines_fit ctx limit plain.Native id (record { within = tt; sized = tt })
trust_fits ctx limit (asked.Alphanum4 code issuer) id encoded =
    lines_fit ctx limit (plain.Alphanum4 code issuer) id (record { within = encoded.within; sized = encoded.sized })
trust_fits ctx limit (asked.Alphanum12 code issuer) id encoded =
    lines_fit ctx limit (plain.Alphanum12 code issuer) id (record { within = encoded.within; sized = encoded.sized })
trust_fits ctx limit (asked.PoolShare params) id encoded =
    let pool = hash_encoded _ in (
      record {
        body = record { id = id; asset = record { within = pool.within; sized = pool.sized } };
        sponsor = no_id;
      },
      record {
        body = record {
          id = pool;
          params = record { within = encoded.within; sized = encoded.sized };
          reserve_a = none_is_least;
          reserve_b = none_is_least;
          shares = none_is_least;
          lines = none_is_least;
        };
        sponsor = no_id;
      },
    )

allowed_trustor : (op : AllowTrustOp) → IsEncoded operation_body (body.AllowTrust op) → IsId op.trustor
unfolding operation_body allow_trust_op
allowed_trustor op encoded = record { within = encoded.within.0; sized = encoded.sized.0 }

set_trustor : (op : SetTrustLineFlagsOp) → IsEncoded operation_body (body.SetTrustLineFlags op) → IsId op.trustor
unfolding operation_body set_trust_line_flags_op
set_trustor op encoded = record { within = encoded.within.0; sized = encoded.sized.0 }

-- ---- balances

pub id_encoded : (digest : Hash) → IsEncoded hash digest → IsEncoded claimable_balance_id (record { 0 = digest })
unfolding claimable_balance_id constant
id_encoded digest encoded = record { within = (tt, encoded.within); sized = (tt, encoded.sized) }

pub new_id_encoded : (ctx : Ctx) → IsEncoded claimable_balance_id (balances.new_id ctx)
new_id_encoded ctx = id_encoded _ (hash_encoded _)

record IsAsked (op : CreateClaimableBalanceOp) : Type 0 where
  asset : IsEncoded basic.asset op.asset
  amount : IsEncoded i64 op.amount
  claimants : All IsClaimant op.claimants

balance_asked : (op : CreateClaimableBalanceOp) → IsEncoded operation_body (body.CreateClaimableBalance op)
    → IsAsked op
unfolding operation_body create_claimable_balance_op
balance_asked op encoded = record {
  asset = record { within = encoded.within.0; sized = encoded.sized.0 };
  amount = record { within = encoded.within.1.0; sized = encoded.sized.1.0 };
  claimants = each_encoded 10 claimant op.claimants
      (record { within = encoded.within.1.1; sized = encoded.sized.1.1 });
}

new_balance_bytes : (ctx : Ctx) (op : CreateClaimableBalanceOp) (clawback : Bool) → IsAsked op
    → Fits of_bytes.of (balances.new_balance ctx op clawback)
new_balance_bytes ctx op clawback asked = record {
  body = record {
    id = new_id_encoded ctx;
    claimants = claimants_fixed ctx.close_time op.claimants asked.claimants;
    asset = asked.asset;
    amount = asked.amount;
  };
  sponsor = no_id;
}

new_id_answer : (ctx : Ctx) → IsAnswer (balances.answer (create.Success (balances.new_id ctx)))
unfolding operation_result operation_result_tr create_claimable_balance_result
new_id_answer ctx = record { within = (new_id_encoded ctx).within }

amount_high : (n : ℕ) → n ≤ unlimited → pos n ≤ℤ greatest_i64
amount_high n le = omega (arith, ints)

-- the balances in which shares are left
left_balances : (ctx : Ctx) (trustor : AccountId) → IsId trustor → DoBalancesFit of_bytes ctx trustor
left_balances ctx trustor id = λ pool payer held amount m asset few. record {
  body = record {
    id = id_encoded _ (hash_encoded _);
    claimants = All-cons IsClaimant (record { destination = trustor; predicate = Unconditional }) []
        (unconditional_claimant trustor id) (All-nil IsClaimant);
    asset = asset;
    amount = amount_encoded amount (amount_high amount (few tt));
  };
  sponsor = no_id;
}

-- ---- any operation

module _ (ctx : Ctx) (m : EntryMap) (can : CanTrade ctx m) (id : IsId ctx.op_source) where
  its_manageable : IsManageable ctx m
  its_manageable = underway_manageable ctx m can.under can.exists (amount_high (ctx.id_pool + 1) can.next)

  offer_asked : (of : Kind) (ask : Ask) → IsAskBytes ask → OfferAsked writing ctx m of ask
  offer_asked of ask asks = (λ asked. its_manageable, asks_fit ctx ask id asks, sales_answer of)

  flags_asked : (trustor : AccountId) → IsId trustor → FlagAsked writing ctx m trustor
  flags_asked trustor named = (
    left_balances ctx trustor named,
    some_id trustor named,
    λ asked. can_revoke ctx.id_pool trustor m can.under.settled.legal,
  )

  pub asked_encoded : (of : OperationBody) → IsEncoded operation_body of → Asked writing ctx m of
  asked_encoded (body.CreateAccount op) encoded = new_account_bytes ctx op (destination_id op encoded)
  asked_encoded (body.SetOptions op) encoded =
      let given = options_encoded op encoded in
      (λ good. given_key op.signer given.signer, with_options_bytes op given)
    where
      given_key : (o : Option Signer) → IsEncoded (optional signer) o → (one : Signer) → o ≡ Some one
          → IsEncoded signer_key one.key
      given_key o encoded one is = given_signer one (subst (IsEncoded (optional signer)) is encoded)
  asked_encoded (body.ManageData op) encoded = λ value is.
      let its = given_value value (subst (IsEncoded (optional (var 64))) is (value_encoded op encoded)) in (
        record { body = record { id = id; name = name_encoded op encoded; value = its }; sponsor = no_id },
        λ d bytes. record { id = bytes.id; name = bytes.name; value = its },
      )
  asked_encoded (body.ManageSellOffer op) encoded = offer_asked kind.Sell (ask_to_sell op) (sale_asked op encoded)
  asked_encoded (body.CreatePassiveSellOffer op) encoded =
      offer_asked kind.Passive (ask_passively op) (passive_asked op encoded)
  asked_encoded (body.ManageBuyOffer op) encoded = offer_asked kind.Buy (ask_to_buy op) (purchase_asked op encoded)
  asked_encoded (body.PathPaymentStrictReceive op) encoded =
      let its = received_named op encoded in (
        λ asked. can.under.settled.legal,
        its.named,
        λ atoms few reported. received_arrived atoms (account_of op.destination) op.dest_asset op.dest_amount (few tt)
            reported its.id its.named.to.within,
      )
  asked_encoded (body.PathPaymentStrictSend op) encoded =
      let its = sent_named op encoded in (
        λ asked. can.under.settled.legal,
        its.named,
        λ amount atoms few reported. sent_arrived atoms (account_of op.destination) op.dest_asset amount
            (few tt) reported
            its.id its.named.to.within,
      )
  asked_encoded (body.ChangeTrust op) encoded = trust_fits ctx op.limit op.line id (line_encoded op encoded)
  asked_encoded (body.AllowTrust op) encoded = flags_asked op.trustor (allowed_trustor op encoded)
  asked_encoded (body.SetTrustLineFlags op) encoded = flags_asked op.trustor (set_trustor op encoded)
  asked_encoded (body.CreateClaimableBalance op) encoded = (
    some_id ctx.op_source id,
    λ clawback. new_balance_bytes ctx op clawback (balance_asked op encoded),
    new_id_answer ctx,
  )
  asked_encoded (body.BeginSponsoringFutureReserves op) encoded = some_id ctx.op_source id
  asked_encoded other encoded = tt

  pub any_written : (of : OperationBody) → IsEncoded operation_body of → Before writing ctx m
      → Left writing (any_operation ctx of m)
  any_written of encoded before = any_left writing ctx m before of (asked_encoded of encoded)
