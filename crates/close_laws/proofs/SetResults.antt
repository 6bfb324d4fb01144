-- The results of sets keep the bounds on lengths.
use Rattle.close_laws.proofs.Prelude as prelude
use prelude.{ℕ, suc, ◌+◌, ◌≤◌, refl, List, [], ◌∷◌, length, All, Option, Some, None, Bool, true, false}
use prelude.{if◌then◌else◌, not, nat_eq, arith, ◌&&◌, All-nil, All-cons, All-head, All-tail, AllByRecursion, list_all}
use prelude.{AccountId, Hash, Operation, OperationBody, OperationResult, Transaction, FeeBumpTransaction}
use prelude.{TransactionEnvelope, TransactionOutcome, i64, fixed, constant, list, list_of, hash, account_id}
use prelude.{claimable_balance_id, asset, operation_result_tr, operation_result, inner_transaction_outcome}
use prelude.{inner_transaction_result, inner_transaction_result_pair, transaction_outcome, transaction_result}
use prelude.{transaction_result_pair, transaction_result_set, EntryMap, account_at, Tests, first_fault, Ctx}
use prelude.{map_after_removing_preauth, HeldSignature, apply_order_of, Low, AllLawful, TransactionLaws, LegalSettles}
use prelude.{signed_hash_of, transaction_hash_of, operations_of, done_at, Ran, run, Setting, ctx_in}
use prelude.{all_held, envelope_applied, result_pair, all_applied, envelopes_in_order, fees_taken_of, Auth, Auths}
use prelude.{auth_of, auths_of, auth_result, auth_results, are_used, all_at, setting_in}
use Rattle.std.proofs.Common.{ℤ}
use Rattle.close_rules.specs.op_types.declared.operation.OperationBody.TheVariants as body
use Rattle.close_rules.specs.op_types.declared.transaction.TransactionEnvelope.TheVariants as envelope
use Rattle.close_rules.specs.op_types.declared.transaction_result.TransactionOutcome.TheVariants as outcome
use Rattle.close_rules.specs.op_types.declared.transaction_result.TransactionResultPair.{TransactionResultPair}
use Rattle.close_rules.specs.xdr_results.Answers as answer
use Rattle.close_rules.specs.op_form.DefaultResults.{default_result}
use Rattle.close_rules.specs.tx_apply.Checks as checks
use Rattle.close_rules.specs.tx_apply.FeeBump as bump
use Rattle.close_rules.specs.op_types.InnerOutcome.{inner_outcome}
use Rattle.close_rules.specs.tx_apply.InnerResult.{inner_pair, bump_outcome}
use Rattle.close_rules.specs.tx_apply.Transaction as spec
use Rattle.close_laws.specs.Results.{ResultsAreEncoded}
use Rattle.close_laws.proofs.EncodedSets.{set_encoded, envelopes_few, time_fits}
use Rattle.close_laws.proofs.FewDrawn.{HasFew, set_few, envelopes_len}
use Rattle.close_laws.proofs.Digests.{hash_len}
use Rattle.close_laws.proofs.Written.{IsAnswer, bad_auth}
use Rattle.close_laws.proofs.BytesSets.{AreRunning, here_done, rest_running, IsBegun}
use Rattle.close_laws.proofs.BytesSets.{begun_running, begun_after, MayApply, begun_v1, begun_bump, MayApplyAll}
use Rattle.close_laws.proofs.BytesSets.{may_first, may_others, set_begun}
use Rattle.close_laws.proofs.NextEntries.{map_bytes}
use Rattle.close_laws.proofs.NextLegal.{can_close}

-- ---- results of operations

defaults : (of : OperationBody) → IsAnswer (default_result of)
unfolding operation_result operation_result_tr list account_id claimable_balance_id asset hash fixed constant i64
    answer.path_payment_success answer.simple_payment_result answer.manage_offer_success answer.manage_offer_effect
    answer.create_account_result answer.payment_result answer.path_payment_strict_receive_result
    answer.path_payment_strict_send_result answer.manage_offer_result answer.set_options_result
    answer.change_trust_result answer.allow_trust_result answer.account_merge_result answer.inflation_result
    answer.manage_data_result answer.bump_sequence_result answer.create_claimable_balance_result
    answer.claim_claimable_balance_result answer.begin_sponsoring_future_reserves_result
    answer.end_sponsoring_future_reserves_result answer.revoke_sponsorship_result answer.clawback_result
    answer.clawback_claimable_balance_result answer.set_trust_line_flags_result answer.liquidity_pool_deposit_result
    answer.liquidity_pool_withdraw_result
defaults (body.CreateAccount op) = record { within = tt }
defaults (body.Payment op) = record { within = tt }
defaults (body.PathPaymentStrictReceive op) =
    record { within = ((omega arith, tt), ((tt, refl), (tt, tt))) }
defaults (body.ManageSellOffer op) = record { within = ((omega arith, tt), tt) }
defaults (body.CreatePassiveSellOffer op) = record { within = ((omega arith, tt), tt) }
defaults (body.SetOptions op) = record { within = tt }
defaults (body.ChangeTrust op) = record { within = tt }
defaults (body.AllowTrust op) = record { within = tt }
defaults (body.AccountMerge op) = record { within = tt }
defaults body.Inflation = record { within = (omega arith, tt) }
defaults (body.ManageData op) = record { within = tt }
defaults (body.BumpSequence op) = record { within = tt }
defaults (body.ManageBuyOffer op) = record { within = ((omega arith, tt), tt) }
defaults (body.PathPaymentStrictSend op) = record { within = ((omega arith, tt), ((tt, refl), (tt, tt))) }
defaults (body.CreateClaimableBalance op) = record { within = (tt, refl) }
defaults (body.ClaimClaimableBalance op) = record { within = tt }
defaults (body.BeginSponsoringFutureReserves op) = record { within = tt }
defaults body.EndSponsoringFutureReserves = record { within = tt }
defaults (body.RevokeSponsorship op) = record { within = tt }
defaults (body.Clawback op) = record { within = tt }
defaults (body.ClawbackClaimableBalance op) = record { within = tt }
defaults (body.SetTrustLineFlags op) = record { within = tt }
defaults (body.LiquidityPoolDeposit op) = record { within = tt }
defaults (body.LiquidityPoolWithdraw op) = record { within = tt }

-- results that can be written, no more than there are operations
record AreAnswers (most : ℕ) (results : List OperationResult) : Type 0 where
  few : length results ≤ most
  all : All IsAnswer results

one_answer : (most : ℕ) (result : OperationResult) (results : List OperationResult) → IsAnswer result
    → AreAnswers most results → AreAnswers (suc most) (result ∷ results)
one_answer most result results here rest = record {
  few = more rest.few;
  all = All-cons IsAnswer result results here rest.all;
}
  where
    more : length results ≤ most → suc (length results) ≤ suc most
    more le = omega arith

no_answers : (most : ℕ) → AreAnswers most []
no_answers most = record { few = omega arith; all = All-nil IsAnswer }

auth_answers : (passes : List Bool) (operations : List Operation)
    → AreAnswers (length operations) (auth_results passes operations)
unfolding auth_results
auth_answers [] operations = no_answers (length operations)
auth_answers (passes ∷ more) [] = no_answers 0
auth_answers (passes ∷ more) (of ∷ operations) =
    one_answer (length operations) (auth_result passes of) (auth_results more operations) (by passes)
    (auth_answers more operations)
  where
    by : (b : Bool) → IsAnswer (auth_result b of)
    by true = defaults of.body
    by false = bad_auth

run_answers : AllLawful → (ctx : Ctx) (source : AccountId) (index : ℕ) (operations : List Operation) (m : EntryMap)
    → AreRunning ctx source operations m
    → AreAnswers (length operations) (run ctx source index operations m).results
unfolding run
run_answers all ctx source index [] m running = no_answers 0
run_answers all ctx source index (of ∷ operations) m running =
    let first = done_at ctx source index of m in
    one_answer (length operations) first.result (run first.ctx source (index + 1) operations first.entries).results
    (here_done ctx source index of operations m running).answer
    (run_answers all first.ctx source (index + 1) operations first.entries
    (rest_running ctx source index of operations m running all))

-- ---- outcomes of transactions

-- an outcome that can be written
record IsOutcome (end : TransactionOutcome) : Type 0 where
  within : transaction_outcome.within end

-- one that has no fee bump in it
record IsPlain (end : TransactionOutcome) : Type 0 where
  itself : transaction_outcome.within end
  inner : inner_transaction_outcome.within (inner_outcome end)

all_within : (results : List OperationResult) → All IsAnswer results → AllByRecursion operation_result.within results
all_within [] all = tt
all_within (result ∷ results) all =
    ((All-head IsAnswer result results all).within, all_within results (All-tail IsAnswer result results all))

results_within : (results : List OperationResult) → AreAnswers 100 results
    → (list_of 4294967295 operation_result).within results
unfolding list
results_within results answers = (few answers.few, all_within results answers.all)
  where
    few : {n : ℕ} → n ≤ 100 → n ≤ 4294967295
    few le = omega arith

succeeded : (results : List OperationResult) → AreAnswers 100 results → IsPlain (outcome.Success results)
unfolding transaction_outcome inner_transaction_outcome
succeeded results answers = record { itself = results_within results answers; inner = results_within results answers }

failed : (results : List OperationResult) → AreAnswers 100 results → IsPlain (outcome.Failed results)
unfolding transaction_outcome inner_transaction_outcome
failed results answers = record { itself = results_within results answers; inner = results_within results answers }

fewer : (a b : ℕ) (results : List OperationResult) → a ≤ b → AreAnswers a results → AreAnswers b results
fewer a b results le answers = record { few = at_most answers.few le; all = answers.all }
  where
    at_most : {n : ℕ} → n ≤ a → a ≤ b → n ≤ b
    at_most low high = omega arith

-- ---- one transaction

abbrev MaybePlain : Option TransactionOutcome → Type 0
MaybePlain None = Unit {0}
MaybePlain (Some end) = IsPlain end

abbrev AllPlain : Tests TransactionOutcome → Type 0
AllPlain [] = Unit {0}
AllPlain (test ∷ tests) = IsPlain test.1 × AllPlain tests

first_plain : (tests : Tests TransactionOutcome) → AllPlain tests → MaybePlain (first_fault tests)
first_plain [] all = tt
first_plain (test ∷ tests) all = either test.0 (first_plain tests all.1)
  where
    either : (b : Bool) → MaybePlain (first_fault tests) → MaybePlain (if b then Some test.1 else first_fault tests)
    either true rest = all.0
    either false rest = rest

malformed : IsPlain outcome.Malformed
unfolding transaction_outcome inner_transaction_outcome
malformed = record { itself = tt; inner = tt }

bad_min_seq_age_or_gap : IsPlain outcome.BadMinSeqAgeOrGap
unfolding transaction_outcome inner_transaction_outcome
bad_min_seq_age_or_gap = record { itself = tt; inner = tt }

missing_operation : IsPlain outcome.MissingOperation
unfolding transaction_outcome inner_transaction_outcome
missing_operation = record { itself = tt; inner = tt }

too_early : IsPlain outcome.TooEarly
unfolding transaction_outcome inner_transaction_outcome
too_early = record { itself = tt; inner = tt }

too_late : IsPlain outcome.TooLate
unfolding transaction_outcome inner_transaction_outcome
too_late = record { itself = tt; inner = tt }

insufficient_fee : IsPlain outcome.InsufficientFee
unfolding transaction_outcome inner_transaction_outcome
insufficient_fee = record { itself = tt; inner = tt }

no_source : IsPlain outcome.NoAccount
unfolding transaction_outcome inner_transaction_outcome
no_source = record { itself = tt; inner = tt }

bad_seq : IsPlain outcome.BadSeq
unfolding transaction_outcome inner_transaction_outcome
bad_seq = record { itself = tt; inner = tt }

no_auth : IsPlain outcome.BadAuth
unfolding transaction_outcome inner_transaction_outcome
no_auth = record { itself = tt; inner = tt }

bad_auth_extra : IsPlain outcome.BadAuthExtra
unfolding transaction_outcome inner_transaction_outcome
bad_auth_extra = record { itself = tt; inner = tt }

insufficient_balance : IsPlain outcome.InsufficientBalance
unfolding transaction_outcome inner_transaction_outcome
insufficient_balance = record { itself = tt; inner = tt }

bad_sponsorship : IsPlain outcome.BadSponsorship
unfolding transaction_outcome inner_transaction_outcome
bad_sponsorship = record { itself = tt; inner = tt }

not_supported : IsPlain outcome.NotSupported
unfolding transaction_outcome inner_transaction_outcome
not_supported = record { itself = tt; inner = tt }

fault_plain : (own source : Option TransactionOutcome) → MaybePlain own → MaybePlain source
    → MaybePlain (checks.fault_or own source)
fault_plain None source first next = next
fault_plain (Some fault) source first next = first

early_plain : (pays : Bool) (base_fee : ℕ) (ctx : Ctx) (tx : Transaction) (m : EntryMap)
    → MaybePlain (checks.early_fault pays base_fee ctx tx m)
early_plain pays base_fee ctx tx m =
    fault_plain (first_fault (checks.own_tests pays base_fee ctx tx))
    (first_fault (checks.source_tests ctx tx (account_at m (checks.source_account tx))))
    (first_plain (checks.own_tests pays base_fee ctx tx)
    (not_supported, (malformed, (missing_operation, (too_early, (too_late, (insufficient_fee, tt)))))))
    (first_plain (checks.source_tests ctx tx (account_at m (checks.source_account tx))) (no_source, (bad_seq, tt)))

either_plain : (b : Bool) (x y : Option TransactionOutcome) → MaybePlain x → MaybePlain y
    → MaybePlain (if b then x else y)
either_plain true x y here there = here
either_plain false x y here there = there

auths_plain : (operations : List Operation) (auths : Auths) → length operations ≤ 100
    → MaybePlain (checks.outcome_of_auths operations auths)
auths_plain operations auths few =
    either_plain (list_all (λ passes. passes) auths.passes)
    (if are_used auths.signatures then None else Some outcome.BadAuthExtra)
    (Some (outcome.Failed (auth_results auths.passes operations)))
    (either_plain (are_used auths.signatures) None (Some outcome.BadAuthExtra) tt bad_auth_extra)
    (failed (auth_results auths.passes operations)
    (fewer (length operations) 100 _ few (auth_answers auths.passes operations)))

late_plain : (pays : Bool) (ctx : Ctx) (hash : Hash) (tx : Transaction) (m : EntryMap) (auth : Auth)
    → length tx.operations ≤ 100 → MaybePlain (checks.outcome_after_auth pays ctx hash tx m auth)
late_plain pays ctx hash tx m auth few =
    either_plain (not auth.passes) (Some outcome.BadAuth) _ no_auth
    (either_plain (pays && checks.is_poor ctx (account_at m (checks.source_account tx)))
    (Some outcome.InsufficientBalance) _ insufficient_balance
    (auths_plain tx.operations (auths_of hash (checks.source_account tx) m auth.signatures tx.operations) few))

judged_plain : (pays : Bool) (ctx : Ctx) (hash : Hash) (signatures : List HeldSignature) (tx : Transaction)
    (m : EntryMap) (fault : Option TransactionOutcome) → length tx.operations ≤ 100 → MaybePlain fault
    → MaybePlain (checks.judged_by pays ctx hash signatures tx m fault).outcome
judged_plain pays ctx digest signatures tx m (Some fault) few plain = plain
judged_plain pays ctx digest signatures tx m None few plain =
    let used = checks.map_after_seq_num ctx tx m in
    either_plain (checks.is_bad_min_seq_age_or_gap ctx tx.cond (account_at m (checks.source_account tx)))
    (Some outcome.BadMinSeqAgeOrGap) (checks.late_outcome pays ctx digest signatures tx used) bad_min_seq_age_or_gap
    (late_plain pays ctx digest tx used (checks.transaction_auth digest signatures tx used) few)

either_applied : (b : Bool) (x y : spec.Applied) → IsPlain x.outcome → IsPlain y.outcome
    → IsPlain (if b then x else y).outcome
either_applied true x y here there = here
either_applied false x y here there = there

ran_plain : (ctx : Ctx) (m : EntryMap) (ran : Ran) → AreAnswers 100 ran.results
    → IsPlain (spec.settled ctx m ran).outcome
ran_plain ctx m ran answers =
    either_applied ran.succeeds (spec.succeeded ctx m ran) (spec.undone (outcome.Failed ran.results) ctx m ran.steps)
    (either_applied (nat_eq (length ran.ctx.sponsorships) 0) _
    (spec.undone outcome.BadSponsorship ctx m ran.steps) (succeeded ran.results answers) bad_sponsorship)
    (failed ran.results answers)

applied_plain : AllLawful → (ctx : Ctx) (tx : Transaction) (m : EntryMap) (end : Option TransactionOutcome)
    → length tx.operations ≤ 100 → MaybePlain end → AreRunning ctx (checks.source_account tx) tx.operations m
    → IsPlain (spec.applied_or_ended ctx tx m end).outcome
applied_plain all ctx tx m (Some end) few plain running = plain
applied_plain all ctx tx m None few plain running =
    let ran = run ctx (checks.source_account tx) 0 tx.operations m in
    ran_plain ctx m ran
    (fewer (length tx.operations) 100 ran.results few
    (run_answers all ctx (checks.source_account tx) 0 tx.operations m running))

transaction_plain : TransactionLaws → (pays : Bool) (base_fee : ℕ) (ctx : Ctx) (hash : Hash)
    (signatures : List HeldSignature) (tx : Transaction) (m : EntryMap) → length tx.operations ≤ 100 → IsBegun ctx tx m
    → IsPlain (spec.transaction_applied pays base_fee ctx hash signatures tx m).outcome
transaction_plain laws pays base_fee ctx hash signatures tx m few begun =
    let checked = checks.judged pays base_fee ctx hash signatures tx m in
    applied_plain laws.operations ctx tx
    (spec.map_without_used hash (checks.source_account tx) tx.operations checked.entries)
    checked.outcome few
    (judged_plain pays ctx hash signatures tx m (checks.early_fault pays base_fee ctx tx m) few
    (early_plain pays base_fee ctx tx m))
    (begun_running laws pays base_fee ctx hash signatures tx m begun)

-- ---- fee bumps

plain_outcome : (end : TransactionOutcome) → IsPlain end → IsOutcome end
plain_outcome end plain = record { within = plain.itself }

pair_within : (hash_is : Hash) (end : TransactionOutcome) → hash.within hash_is → IsPlain end
    → inner_transaction_result_pair.within (inner_pair hash_is end)
unfolding inner_transaction_result_pair inner_transaction_result i64 constant
pair_within hash_is end len plain = (len, (tt, (plain.inner, tt)))

bump_within : (hash_is : Hash) (end : TransactionOutcome) → hash.within hash_is → IsPlain end
    → IsOutcome (bump_outcome hash_is end)
unfolding transaction_outcome
bump_within hash_is (outcome.Success results) len plain = record { within = pair_within hash_is _ len plain }
bump_within hash_is other len plain = record { within = pair_within hash_is _ len plain }

either_outcome : (b : Bool) (x y : spec.Applied) → IsOutcome x.outcome → IsOutcome y.outcome
    → IsOutcome (if b then x else y).outcome
either_outcome true x y here there = here
either_outcome false x y here there = there

module _ (laws : TransactionLaws) (base_fee : ℕ) (ctx : Ctx) (signed : bump.BumpSigned) (tx : FeeBumpTransaction)
    (len : hash.within signed.inner_hash) (few : length tx.inner_tx.tx.operations ≤ 100) where
  past_auth : (after : List HeldSignature) (m : EntryMap) → IsBegun ctx tx.inner_tx.tx m
      → IsOutcome (bump.applied_after_auth base_fee ctx signed tx after m).outcome
  past_auth after m begun =
      either_outcome (checks.is_poor ctx (account_at m (bump.payer_of tx)))
      (spec.ended outcome.InsufficientBalance ctx m)
      (if are_used after then bump.inner_applied base_fee ctx signed tx m else spec.ended outcome.BadAuthExtra ctx m)
      (plain_outcome outcome.InsufficientBalance insufficient_balance)
      (either_outcome (are_used after) (bump.inner_applied base_fee ctx signed tx m)
      (spec.ended outcome.BadAuthExtra ctx m)
      (bump_within signed.inner_hash _ len
      (transaction_plain laws false base_fee ctx signed.inner_hash signed.inner_signatures tx.inner_tx.tx m few begun))
      (plain_outcome outcome.BadAuthExtra bad_auth_extra))

  by_auth : (m : EntryMap) (auth : Auth) → IsBegun ctx tx.inner_tx.tx m
      → IsOutcome (bump.applied_by_auth base_fee ctx signed tx m auth).outcome
  by_auth m auth begun =
      either_outcome (not auth.passes) (spec.ended outcome.BadAuth ctx m)
      (bump.applied_after_auth base_fee ctx signed tx auth.signatures
      (map_after_removing_preauth (bump.payer_of tx) signed.hash m)) (plain_outcome outcome.BadAuth no_auth)
      (past_auth auth.signatures (map_after_removing_preauth (bump.payer_of tx) signed.hash m)
      (begun_after laws ctx tx.inner_tx.tx (bump.payer_of tx) signed.hash m begun))

  by_fault : (m : EntryMap) (fault : Option TransactionOutcome) → MaybePlain fault → IsBegun ctx tx.inner_tx.tx m
      → IsOutcome (bump.applied_by_fault base_fee ctx signed tx m fault).outcome
  by_fault m (Some fault) plain begun = plain_outcome fault plain
  by_fault m None plain begun = by_auth m (auth_of signed.hash Low signed.signatures m (bump.payer_of tx)) begun

  bump_answers : (m : EntryMap) → IsBegun ctx tx.inner_tx.tx m
      → IsOutcome (bump.bump_applied base_fee ctx signed tx m).outcome
  bump_answers m begun =
      by_fault m (first_fault (bump.payer_tests base_fee tx (account_at m (bump.payer_of tx))))
      (first_plain (bump.payer_tests base_fee tx (account_at m (bump.payer_of tx))) (insufficient_fee, (no_source, tt)))
      begun

-- ---- envelopes

envelope_answers : TransactionLaws → (setting : Setting) (id_pool : ℕ) (entire : TransactionEnvelope) (m : EntryMap)
    → length (operations_of entire) ≤ 100 → MayApply setting id_pool entire m
    → IsOutcome (envelope_applied setting id_pool entire m).outcome
unfolding envelope_applied
envelope_answers laws setting id_pool (envelope.V0 signed) m few may = plain_outcome outcome.NotSupported not_supported
envelope_answers laws setting id_pool (envelope.V1 signed) m few may =
    plain_outcome _ (transaction_plain laws true setting.header.base_fee (ctx_in setting id_pool (envelope.V1 signed))
    (signed_hash_of setting.network (envelope.V1 signed))
    (all_held (signed_hash_of setting.network (envelope.V1 signed)) setting.vouches signed.signatures) signed.tx m few
    (begun_v1 setting id_pool signed m may))
envelope_answers laws setting id_pool (envelope.FeeBump signed) m few may =
    bump_answers laws setting.header.base_fee (ctx_in setting id_pool (envelope.FeeBump signed))
    (bump.signed_by (signed_hash_of setting.network (envelope.FeeBump signed))
    (all_held (signed_hash_of setting.network (envelope.FeeBump signed)) setting.vouches signed.signatures)
    (transaction_hash_of setting.network signed.tx.inner_tx.tx)
    (all_held (transaction_hash_of setting.network signed.tx.inner_tx.tx) setting.vouches
    signed.tx.inner_tx.signatures)) signed.tx
    (hash_len _) few m (begun_bump setting id_pool signed m may)

signed_hash_len : (network : Hash) (entire : TransactionEnvelope) → hash.within (signed_hash_of network entire)
signed_hash_len network (envelope.V0 signed) = hash_len _
signed_hash_len network (envelope.V1 signed) = hash_len _
signed_hash_len network (envelope.FeeBump signed) = hash_len _

result_within : (setting : Setting) (entire : TransactionEnvelope) (fee : ℤ) (end : TransactionOutcome) → IsOutcome end
    → transaction_result_pair.within (result_pair setting entire fee end)
unfolding transaction_result_pair transaction_result i64 constant
result_within setting entire fee end within =
    (signed_hash_len setting.network entire, (tt, (within.within, tt)))

-- results that can be written, no more than there are envelopes
record AreResults (most : ℕ) (results : List TransactionResultPair) : Type 0 where
  few : length results ≤ most
  all : AllByRecursion transaction_result_pair.within results

all_results : TransactionLaws → (setting : Setting) (id_pool : ℕ) (envelopes : List TransactionEnvelope)
    (fees : List ℤ) (m : EntryMap) → All HasFew envelopes → MayApplyAll setting id_pool envelopes m
    → AreResults (length envelopes) (all_applied setting id_pool envelopes fees m).results
unfolding all_applied
all_results laws setting id_pool [] fees m few may = record { few = omega arith; all = tt }
all_results laws setting id_pool (entire ∷ others) [] m few may = record { few = omega arith; all = tt }
all_results laws setting id_pool (entire ∷ others) (fee ∷ fees) m few may =
    let first = envelope_applied setting id_pool entire m in
    let rest = all_results laws setting first.id_pool others fees first.entries (All-tail HasFew entire others few)
    (may_others setting id_pool entire others m may laws) in
    record {
      few = one_more rest.few;
      all = (
        result_within setting entire fee first.outcome
            (envelope_answers laws setting id_pool entire m (All-head HasFew entire others few)
            (may_first setting id_pool entire others m may)),
        rest.all,
      );
    }
  where
    one_more : {n k : ℕ} → n ≤ k → suc n ≤ suc k
    one_more le = omega arith

-- ---- sets

pub results_are_encoded : TransactionLaws → LegalSettles → ResultsAreEncoded
unfolding transaction_result_set list
results_are_encoded laws settles s closing can =
    let set = closing.tx_set in
    let encoded = set_encoded closing can.encoded in
    let begun = set_begun laws settles (setting_in s closing) set s.entries (can_close s closing can)
    (time_fits closing can.encoded) encoded can.few
    (map_bytes s.entries can.state.entries) in
    let results = all_results laws (setting_in s closing) s.header.id_pool (envelopes_in_order set)
    (fees_taken_of (setting_in s closing) set s.entries).fees
    (fees_taken_of (setting_in s closing) set s.entries).entries
    (all_at HasFew set.txs (apply_order_of set) (set_few set encoded)) begun in
    (few_enough results.few (envelopes_len set) (envelopes_few set encoded), results.all)
  where
    few_enough : {a b c : ℕ} → a ≤ b → b ≤ c → c ≤ 4294967295 → a ≤ 4294967295
    few_enough first second last = omega arith
