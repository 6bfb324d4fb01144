-- What the operations do is short.
use Rattle.sample_ledger.proofs.Prelude as prelude
use prelude.{ℕ, ◌<◌, ◌≤◌, ◌^◌, List, [], length, pos, Some, arith, ints, codes, IsBytes, u32, Asset, OperationBody}
use prelude.{change_trust_asset, pool_params, claimable_balance_id, claimant, claimant_fields, operation_body}
use prelude.{payment_op, manage_data_op, change_trust_op, set_options_op, liquidity_pool_deposit_op, clawback_op}
use prelude.{create_claimable_balance_op, claim_claimable_balance_op, begin_sponsoring_future_reserves_op}
use prelude.{manage_sell_offer_op, path_payment_strict_send_op, account_id, account_count}
use Rattle.ledger_types.specs.declared.asset.Asset.TheVariants as asset
use Rattle.ledger_types.specs.declared.predicate.ClaimPredicate.TheVariants as predicate
use Rattle.ledger_types.specs.declared.predicate.ClaimPredicate.TheViews.{out-ClaimPredicate}
use Rattle.op_types.specs.declared.operation.OperationBody.TheVariants as op
use Rattle.xdr_entries.specs.Basic as basic
use Rattle.xdr_entries.specs.Predicates.{predicate_below, claim_predicate, level_fields, level_part, level_arms}
use Rattle.xdr_entries.specs.Predicates.{unconditional}
use Rattle.value_hashes.specs.xdr_tx.Operations as form
use Rattle.sample_ledger.specs.Records as spec
use Rattle.sample_ledger.proofs.Bytes.{bytes_listed, word_fits}
use Rattle.sample_ledger.proofs.Parts as parts
use Rattle.sample_ledger.proofs.Parts.{id_short, muxed_short, hash_short, usd_short, native_short, amount_short}
use Rattle.sample_ledger.proofs.Short as short
use Rattle.sample_ledger.proofs.Short.{IsShort, IsShortPart}

abbrev pub IsShortBody : OperationBody → Type 0
IsShortBody body = IsShort operation_body 200 body

abbrev pub IsShortAsset : Asset → Type 0
IsShortAsset of = IsShort basic.asset 50 of

body_short : {n : ℕ} {body : OperationBody} → IsShortPart (form.body_part body) n → n ≤ 200 → IsShortBody body
unfolding operation_body
body_short made few = short.longer 200 (short.short_union form.body_part form.body_arms made) few

-- ---- payments and offers

pub payment_short : (seed to : ℕ) (of : Asset) (amount : ℕ) → to < account_count → amount < 2 ^ 63 → IsShortAsset of
    → IsShortBody (spec.payment seed to of amount)
unfolding payment_op
payment_short seed to of amount below fits held =
    body_short (short.short_arm form.payment_arm (short.short_struct form.payment_op_fields
    (short.short_both (muxed_short seed to below) (short.short_both held (amount_short amount fits))))) (omega arith)

pub sell_short : (selling buying : Asset) (amount n : ℕ) → amount < 2 ^ 63 → n < 2 ^ 31 → IsShortAsset selling
    → IsShortAsset buying → IsShortBody (spec.sell selling buying amount n)
unfolding manage_sell_offer_op
sell_short selling buying amount n fits few sold bought =
    body_short (short.short_arm form.manage_sell_offer_arm (short.short_struct form.manage_sell_offer_op_fields
    (short.short_both sold (short.short_both bought (short.short_both (amount_short amount fits)
    (short.short_both (parts.price_short n 1000 few (omega arith)) (amount_short 0 (omega arith)))))))) (omega arith)

pub send_path_short : (seed to amount : ℕ) → to < account_count → amount < 2 ^ 63
    → IsShortBody (spec.send_path seed to amount)
unfolding path_payment_strict_send_op
send_path_short seed to amount below fits =
    body_short (short.short_arm form.path_payment_strict_send_arm
    (short.short_struct form.path_payment_strict_send_op_fields
    (short.short_both native_short (short.short_both (amount_short amount fits)
    (short.short_both (muxed_short seed to below) (short.short_both (usd_short seed)
    (short.short_both (amount_short 1 (omega arith))
    (short.short_list 5 0 basic.asset 50 [] (omega arith) (omega arith) tt)))))))) (omega arith)

pub claw_back_short : (seed from : ℕ) → from < account_count → IsShortBody (spec.claw_back seed from)
unfolding clawback_op
claw_back_short seed from below =
    body_short (short.short_arm form.clawback_arm (short.short_struct form.clawback_op_fields
    (short.short_both (usd_short seed) (short.short_both (muxed_short seed from below)
    (amount_short 5 (omega arith)))))) (omega arith)

-- ---- accounts and their data

pub data_short : (name value : List ℕ) → length name ≤ 64 → IsBytes name → length value ≤ 64 → IsBytes value
    → IsShortBody (op.ManageData (record { data_name = name; data_value = Some value }))
unfolding manage_data_op
data_short name value named name_fits long value_fits =
    body_short (short.short_arm form.manage_data_arm (short.short_struct form.manage_data_op_fields
    (short.short_both (short.short_var 64 64 name named (omega arith) name_fits)
    (short.short_some (short.short_var 64 64 value long (omega arith) value_fits))))) (omega arith)

pub note_short : (k : ℕ) → IsShortBody (spec.note k)
unfolding u32
note_short k =
    let name = codes "note" in
    data_short name (u32.encoding k) (omega arith) (bytes_listed name (omega arith)) (omega arith) (word_fits k)

pub domain_short : IsShortBody spec.name_domain
unfolding set_options_op
domain_short =
    let name = codes "example.org" in
    let number = short.short_none u32 in
    body_short (short.short_arm form.set_options_arm (short.short_struct form.set_options_op_fields
    (short.short_both (short.short_none basic.account_id) (short.short_both number (short.short_both number
    (short.short_both number (short.short_both number (short.short_both number (short.short_both number
    (short.short_both
    (short.short_some (short.short_var 32 11 name (omega arith) (omega arith) (bytes_listed name (omega arith))))
    (short.short_none basic.signer))))))))))) (omega arith)

-- ---- trust lines and pools

pub trust_usd_short : (seed : ℕ) → IsShortBody (spec.trust_usd seed)
unfolding change_trust_op change_trust_asset
trust_usd_short seed =
    body_short (short.short_arm form.change_trust_arm (short.short_struct form.change_trust_op_fields
    (short.short_both
    (short.short_union basic.change_trust_asset_part basic.change_trust_asset_arms
    (short.short_arm basic.change_alphanum4 (parts.code_short seed)))
    (amount_short 1000000000000000 (omega arith))))) (omega arith)

params_short : (seed : ℕ)
    → IsShort pool_params 108 (record { asset_a = asset.Native; asset_b = spec.usd seed; fee = pos 30 })
unfolding pool_params
params_short seed =
    short.short_struct basic.pool_params_fields (short.short_marked (pos 0) (short.short_both native_short
    (short.short_both (usd_short seed) (short.short_i32 (pos 30) (grind (arith, ints))))))

pub trust_pool_short : (seed : ℕ) → IsShortBody (spec.trust_pool seed)
unfolding change_trust_op change_trust_asset
trust_pool_short seed =
    body_short (short.short_arm form.change_trust_arm (short.short_struct form.change_trust_op_fields
    (short.short_both
    (short.short_union basic.change_trust_asset_part basic.change_trust_asset_arms
    (short.short_arm basic.change_pool (params_short seed)))
    (amount_short 1000000000000000 (omega arith))))) (omega arith)

pub deposit_short : (seed : ℕ) → IsShortBody (spec.deposit seed)
unfolding liquidity_pool_deposit_op
deposit_short seed =
    let amount = amount_short 100000000 (omega arith) in
    body_short (short.short_arm form.liquidity_pool_deposit_arm
    (short.short_struct form.liquidity_pool_deposit_op_fields
    (short.short_both (hash_short _) (short.short_both amount (short.short_both amount
    (short.short_both (parts.price_short 1 2 (omega arith) (omega arith))
    (parts.price_short 2 1 (omega arith) (omega arith)))))))) (omega arith)

-- ---- claimable balances

predicate_short : IsShort claim_predicate 4 predicate.Unconditional
unfolding predicate_below out-ClaimPredicate denote.Hole.Carrier.out
predicate_short =
    let below = predicate_below 31 in
    short.short_struct level_fields
    (short.short_union (level_part below) (level_arms below) (short.short_arm unconditional short.short_empty))

claimant_short : (seed : ℕ)
    → IsShort claimant 47 (record { destination = account_id seed 7; predicate = predicate.Unconditional })
unfolding claimant
claimant_short seed =
    short.short_struct claimant_fields (short.short_marked (pos 0)
    (short.short_both (id_short seed 7 (omega arith)) (short.short_entire predicate_short)))

pub claimable_short : (seed : ℕ) → IsShortBody (spec.claimable seed)
unfolding create_claimable_balance_op
claimable_short seed =
    body_short (short.short_arm form.create_claimable_balance_arm
    (short.short_struct form.create_claimable_balance_op_fields
    (short.short_both (usd_short seed) (short.short_both (amount_short 10 (omega arith))
    (short.short_list 10 1 claimant 47 _ (omega arith) (omega arith) (claimant_short seed, tt)))))) (omega arith)

pub claim_short : (seed k : ℕ) → IsShortBody (spec.claim seed k)
unfolding claim_claimable_balance_op claimable_balance_id
claim_short seed k =
    body_short (short.short_arm form.claim_claimable_balance_arm
    (short.short_struct form.claim_claimable_balance_op_fields
    (short.short_struct basic.balance_id_fields (short.short_marked (pos 0) (hash_short _))))) (omega arith)

-- ---- sponsorship

pub begin_short : (seed account : ℕ) → account < account_count
    → IsShortBody (op.BeginSponsoringFutureReserves (record { sponsored_id = account_id seed account }))
unfolding begin_sponsoring_future_reserves_op
begin_short seed account below =
    body_short (short.short_arm form.begin_sponsoring_future_reserves_arm
    (short.short_struct form.begin_sponsoring_future_reserves_op_fields (id_short seed account below))) (omega arith)

pub end_short : IsShortBody op.EndSponsoringFutureReserves
end_short = body_short (short.short_arm form.end_sponsoring_future_reserves_arm short.short_empty) (omega arith)
