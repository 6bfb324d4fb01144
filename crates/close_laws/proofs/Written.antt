-- What operations leave and answer can be written.
use Rattle.close_laws.proofs.AccountBytes.{count_bytes, liable_bytes, numbers, seq_num_bytes, set_signer}
use Rattle.close_laws.proofs.AccountBytes.{signer_at_bytes, signer_sponsor_bytes, without_signer_bytes}
use Rattle.close_laws.proofs.Bytes.{AreAccountBytes, AreBalanceBytes, AreBytes, AreDataBytes, AreEntryBytes}
use Rattle.close_laws.proofs.Bytes.{AreLineBytes, AreOfferBytes, ArePoolBytes, IsContextBytes, IsId, IsIdIf}
use Rattle.close_laws.proofs.Bytes.{IsOpener, IsThird, id_of_some, no_id, open_sponsor_id}
use Rattle.close_laws.proofs.ShortIds.{fits_i64}
use Rattle.close_rules.proofs.entry_sums_proofs.Lookups.{erase_each, put_each}
use Rattle.close_rules.proofs.ledger_types_proofs.Arithmetic.{natural_nonnegative}
use Rattle.close_rules.specs.State.{IsEncoded}
use Rattle.close_rules.specs.ledger_types.declared.asset.Asset.{Asset}
use Rattle.close_rules.specs.ledger_types.declared.asset.PoolParams.{PoolParams}
use Rattle.close_rules.specs.ledger_types.declared.asset.TrustLineAsset.{TrustLineAsset}
use Rattle.close_rules.specs.ledger_types.declared.claim_atom.ClaimAtom.{ClaimAtom}
use Rattle.close_rules.specs.ledger_types.declared.ids.Hash.{Hash}
use Rattle.close_rules.specs.ledger_types.declared.offer.OfferEntry.{OfferEntry}
use Rattle.close_rules.specs.op_types.declared.operation_result.OperationResult.{OperationResult}
use Rattle.close_rules.specs.op_types.declared.operation_result.OperationResultTr.{OperationResultTr}
use Rattle.close_rules.specs.reserve_rules.Reserve.{greatest_i64}
use Rattle.close_rules.specs.sponsor_rules.declared.context.Ctx.{Ctx}
use Rattle.close_rules.specs.sponsor_rules.declared.context.Sponsorship.{Sponsorship}
use Rattle.close_rules.specs.xdr_core.Leaves.{i64}
use Rattle.close_rules.specs.xdr_entries.Basic.{signer_key}
use Rattle.close_rules.specs.xdr_results.Answers.{claim_atom}
use Rattle.close_rules.specs.xdr_results.Results.{operation_result, operation_result_tr}
use Rattle.std.proofs.Common.{drop, subst, suc, sym, take}
use Rattle.std.proofs.lemmas.List.Elements.{All-append, All-cons, All-drop, All-head, All-nil, All-tail, All-take}
use Rattle.std.specs.List.{AllByRecursion, remove}
use Rattle.std.specs.Prelude.{All, List, Some, [], pos, ℕ, ℤ, ◌++◌, ◌∷◌, ◌≤ℤ◌}
use Rattle.sponsor_rules.proofs.Entries.{Invariant}
use Rattle.op_form.proofs.Steps.{IsBare}
use Rattle.op_form.proofs.Walks.{Logic}
use Rattle.close_rules.specs.ledger_types.declared.claim_atom.ClaimAtom.TheVariants as atom
use Rattle.close_rules.specs.op_types.declared.account_results.AccountMergeResult.TheVariants as merge
use Rattle.close_rules.specs.op_types.declared.balance_results.CreateClaimableBalanceResult.TheVariants as create
use Rattle.close_rules.specs.op_types.declared.offer_results.ManageOfferResult.TheVariants as manage
use Rattle.close_rules.specs.op_types.declared.operation_result.OperationResult.TheVariants as result
use Rattle.close_rules.specs.op_types.declared.operation_result.OperationResultTr.TheVariants as tr
use Rattle.close_rules.specs.op_types.declared.payment_results.PathPaymentStrictReceiveResult.TheVariants as got_code
use Rattle.close_rules.specs.op_types.declared.payment_results.PathPaymentStrictSendResult.TheVariants as sent_code
use Rattle.close_rules.specs.xdr_entries.Basic as basic
use Rattle.close_rules.specs.xdr_results.Answers as answers

-- ---- entries

abbrev pub IsLineAsset : TrustLineAsset → Type 0
IsLineAsset held = IsEncoded basic.trust_line_asset held

pub amount_encoded : (n : ℕ) → pos n ≤ℤ greatest_i64 → IsEncoded i64 (pos n)
unfolding i64
amount_encoded n le = record { within = tt; sized = fits_i64 (pos n) (natural_nonnegative n) le }

pub left_bytes : (n : ℕ) (o : OfferEntry) → pos n ≤ℤ greatest_i64 → AreOfferBytes o
    → AreOfferBytes (record o { amount = pos n })
left_bytes n o le bytes = record {
  id = bytes.id;
  offer_id = bytes.offer_id;
  selling = bytes.selling;
  buying = bytes.buying;
  amount = amount_encoded n le;
  price = bytes.price;
}

pub pool_assets : (params : PoolParams) → IsEncoded basic.pool_params params
    → IsEncoded basic.asset params.asset_a × IsEncoded basic.asset params.asset_b
unfolding basic.pool_params
pool_assets params encoded = (
  record { within = encoded.within.1.0; sized = encoded.sized.1.0 },
  record { within = encoded.within.1.1.0; sized = encoded.sized.1.1.0 },
)

-- ---- what is reported of trades

-- an offer or a pool that was traded with, as it is reported
pub record IsReported (one : ClaimAtom) : Type 0 where
  pub within : claim_atom.within one

pub all_reported : (atoms : List ClaimAtom) → All IsReported atoms → AllByRecursion claim_atom.within atoms
all_reported [] all = tt
all_reported (one ∷ atoms) all =
    ((All-head IsReported one atoms all).within, all_reported atoms (All-tail IsReported one atoms all))

pub crossed_reported : (o : OfferEntry) (wheat sheep : ℤ) → AreOfferBytes o
    → IsReported (atom.OrderBook o.seller_id o.offer_id o.selling wheat o.buying sheep)
unfolding claim_atom i64
crossed_reported o wheat sheep bytes =
    record { within = (bytes.id.within, (tt, ((bytes.selling.within, tt), (bytes.buying.within, tt)))) }

pub swapped_reported : (id : Hash) (wheat sheep : Asset) (sold bought : ℤ) → basic.hash.within id
    → IsEncoded basic.asset wheat → IsEncoded basic.asset sheep
    → IsReported (atom.LiquidityPool id wheat sold sheep bought)
unfolding claim_atom i64
swapped_reported id wheat sheep sold bought named first second =
    record { within = (named, ((first.within, tt), (second.within, tt))) }

-- ---- the entries

abbrev pub of_bytes : Invariant
of_bytes = record {
  of = record {
    Account = AreAccountBytes;
    Line = AreLineBytes;
    Offer = AreOfferBytes;
    Data = AreDataBytes;
    Balance = AreBalanceBytes;
    Pool = ArePoolBytes;
    Sponsor = IsIdIf;
    Key = λ k. IsEncoded signer_key k;
    Extension = IsThird;
    Named = λ held. IsEncoded basic.asset held;
  };
  Holds = AreBytes;
  Goes = λ k. Unit {0};
  others = λ k other. tt;
  found = λ m k e each there. let bytes = each k e there in record { body = bytes.body; sponsor = bytes.sponsor };
  putting = λ m e each fits.
      put_each (λ k x. AreEntryBytes x) m e each (record { body = fits.body; sponsor = fits.sponsor });
  erasing = λ m k each goes. erase_each (λ q x. AreEntryBytes x) m k each;
  Asks = Unit {0};
  nobody = no_id;
  counted = count_bytes;
  numbered = λ balance seq_num a bytes. numbers a (record a { balance = balance; seq_num = seq_num }) bytes;
  sequenced = seq_num_bytes;
  signed = signer_at_bytes;
  unsigned = without_signer_bytes;
  sponsored = signer_sponsor_bytes;
  weighed = set_signer;
  liable = λ owed a within bytes. liable_bytes owed a (within tt bytes.selling) bytes;
  same_line = λ t s same asset bytes.
      record { id = subst IsId (sym same) bytes.id; asset = subst IsLineAsset (sym asset) bytes.asset };
  pooled = λ a b shares lines p bound bytes. record {
    id = bytes.id;
    params = bytes.params;
    reserve_a = (bound tt).reserve_a bytes.reserve_a;
    reserve_b = (bound tt).reserve_b bytes.reserve_b;
    shares = (bound tt).total bytes.shares;
    lines = (bound tt).counted bytes.lines;
  };
  pool_assets = λ p bytes. pool_assets p.params bytes.params;
  pool_bounds = λ p bytes asks. (bytes.reserve_a, bytes.reserve_b);
  offer_left = λ n o facts. left_bytes n o (facts tt).0 (facts tt).1;
  Reported = IsReported;
  crossed = λ o wheat sheep bytes. crossed_reported o wheat sheep (bytes tt);
  swapped = λ p id wheat sheep sold bought first second own bytes.
      swapped_reported id wheat sheep sold bought (subst (λ x. basic.hash.within x) (own tt) bytes.id.within) first
      second;
}

-- ---- answers

-- a result that can be written
pub record IsAnswer (of : OperationResult) : Type 0 where
  pub within : operation_result.within of

pub bare : (of : OperationResultTr) → IsBare of → IsAnswer (result.Inner of)
unfolding operation_result operation_result_tr answers.create_account_result answers.payment_result
    answers.path_payment_strict_receive_result answers.path_payment_strict_send_result answers.manage_offer_result
    answers.set_options_result answers.change_trust_result answers.allow_trust_result answers.account_merge_result
    answers.manage_data_result answers.bump_sequence_result answers.create_claimable_balance_result
    answers.claim_claimable_balance_result answers.begin_sponsoring_future_reserves_result
    answers.end_sponsoring_future_reserves_result answers.revoke_sponsorship_result answers.clawback_result
    answers.clawback_claimable_balance_result answers.set_trust_line_flags_result
    answers.liquidity_pool_deposit_result answers.liquidity_pool_withdraw_result i64
bare (tr.AccountMerge (merge.Success amount)) plain = record { within = tt }
bare (tr.Inflation of) plain = absurd plain
bare (tr.PathPaymentStrictReceive (got_code.Success done)) plain = absurd plain
bare (tr.PathPaymentStrictReceive (got_code.NoIssuer held)) plain = absurd plain
bare (tr.PathPaymentStrictSend (sent_code.Success done)) plain = absurd plain
bare (tr.PathPaymentStrictSend (sent_code.NoIssuer held)) plain = absurd plain
bare (tr.ManageSellOffer (manage.Success done)) plain = absurd plain
bare (tr.CreatePassiveSellOffer (manage.Success done)) plain = absurd plain
bare (tr.ManageBuyOffer (manage.Success done)) plain = absurd plain
bare (tr.CreateClaimableBalance (create.Success id)) plain = absurd plain
bare other plain = record { within = tt }

pub no_account : IsAnswer result.NoAccount
unfolding operation_result
no_account = record { within = tt }

pub bad_auth : IsAnswer result.BadAuth
unfolding operation_result
bad_auth = record { within = tt }

pub others : IsAnswer result.NotSupported × IsAnswer result.TooManySubentries × IsAnswer result.TooManySponsoring
    × IsAnswer result.ExceededWorkLimit
unfolding operation_result
others = (record { within = tt }, record { within = tt }, record { within = tt }, record { within = tt })

-- ---- the context

pub opened_sponsors : (ctx : Ctx) (one : Sponsorship) → IsIdIf (Some one.sponsor) → IsContextBytes ctx
    → IsContextBytes (record ctx { sponsorships = ctx.sponsorships ++ one ∷ [] })
opened_sponsors ctx one named bytes = record {
  all = All-append IsOpener ctx.sponsorships (one ∷ []) bytes.all
      (All-cons IsOpener one [] (id_of_some one.sponsor named) (All-nil IsOpener));
  extension = bytes.extension;
}

pub closed_sponsors : (ctx : Ctx) (index : ℕ) → IsContextBytes ctx
    → IsContextBytes (record ctx { sponsorships = remove ctx.sponsorships index })
closed_sponsors ctx index bytes = record {
  all = All-append IsOpener (take index ctx.sponsorships) (drop (suc index) ctx.sponsorships)
      (All-take IsOpener index ctx.sponsorships bytes.all)
      (All-drop IsOpener (suc index) ctx.sponsorships bytes.all);
  extension = bytes.extension;
}

abbrev pub writing : Logic
writing = record {
  inv = of_bytes;
  Context = IsContextBytes;
  answers = record {
    Answer = IsAnswer;
    bare = bare;
    no_account = no_account;
    not_supported = others.0;
    too_many_subentries = others.1;
    too_many_sponsoring = others.2;
    exceeded = others.3;
  };
  sponsor = open_sponsor_id;
  extension = λ ctx bytes. bytes.extension;
  opened = opened_sponsors;
  closed = closed_sponsors;
  drawn = λ ctx ids bytes. record { all = bytes.all; extension = bytes.extension };
}
