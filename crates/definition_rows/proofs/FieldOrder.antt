-- Values built by the names of their fields and variants, and the encoding of each: which of two fields of one type
-- comes first, and which of two arms of one body has which discriminant, is the choice of a format, which its reader
-- and its writer only follow. The encodings were laid out by hand from the protocol's XDR.
--
-- Fields of the variants of ClaimAtom are given here by position; that these are their names is in the contracts of
-- `atom_of` in trade_cross/src/progress.rt and trade_cross/src/pool_swap.rt.
use Rattle.definition_rows.proofs.Prelude as prelude
use prelude.{◌≡◌, refl, ℕ, pos, true, ◌&&◌, List, [], ◌∷◌, ◌++◌, start_of, AccountId, Hash, Asset, roll-ClaimPredicate}
use prelude.{ClaimPredicate-F, AccountEntry, TrustLineEntry, OfferEntry, DataEntry, LiquidityPoolEntry, LedgerHeader}
use prelude.{liabilities, pool_params, price, signer_key, claim_predicate, account_extension_v2, account_entry}
use prelude.{trust_line_entry, offer_entry, data_entry, liquidity_pool_entry, bucket_entry, set_options_op}
use prelude.{path_payment_strict_receive_op, path_payment_strict_send_op, manage_sell_offer_op, manage_buy_offer_op}
use prelude.{create_passive_sell_offer_op, set_trust_line_flags_op, liquidity_pool_deposit_op}
use prelude.{liquidity_pool_withdraw_op, time_bounds, memo, claim_atom, manage_offer_effect, operation_result_tr}
use prelude.{inner_transaction_outcome, transaction_outcome, ledger_upgrade, ledger_header}
use Rattle.std.specs.Prelude.{replicate, codes, Some, None, Ok}
use Rattle.ledger_types.specs.declared.ids.MuxedAccount.{MuxedAccount}
use Rattle.ledger_types.specs.declared.ids.MuxedAccount.TheVariants as muxed
use Rattle.ledger_types.specs.declared.signer.SignerKey.TheVariants as signer
use Rattle.ledger_types.specs.declared.asset.Asset.TheVariants as asset
use Rattle.ledger_types.specs.declared.asset.TrustLineAsset.TheVariants as line
use Rattle.ledger_types.specs.declared.asset.PoolParams.{PoolParams}
use Rattle.ledger_types.specs.declared.price.Price.{Price}
use Rattle.ledger_types.specs.declared.entry.LedgerEntry.{LedgerEntry}
use Rattle.ledger_types.specs.declared.entry.LedgerEntryBody.TheVariants as body
use Rattle.ledger_types.specs.declared.bucket.BucketEntry.TheVariants as bucket
use Rattle.ledger_types.specs.declared.header.LedgerUpgrade.TheVariants as upgrade
use Rattle.ledger_types.specs.declared.claim_atom.ClaimAtom.{ClaimAtom}
use Rattle.ledger_types.specs.declared.claim_atom.ClaimAtom.TheVariants as atoms
use Rattle.op_types.specs.declared.transaction.Memo.TheVariants as memos
use Rattle.op_types.specs.declared.account_ops.SetOptionsOp.{SetOptionsOp}
use Rattle.op_types.specs.declared.payment_ops.PathPaymentStrictReceiveOp.{PathPaymentStrictReceiveOp}
use Rattle.op_types.specs.declared.payment_ops.PathPaymentStrictSendOp.{PathPaymentStrictSendOp}
use Rattle.op_types.specs.declared.offer_ops.ManageSellOfferOp.{ManageSellOfferOp}
use Rattle.op_types.specs.declared.offer_ops.ManageBuyOfferOp.{ManageBuyOfferOp}
use Rattle.op_types.specs.declared.offer_ops.CreatePassiveSellOfferOp.{CreatePassiveSellOfferOp}
use Rattle.op_types.specs.declared.trust_ops.SetTrustLineFlagsOp.{SetTrustLineFlagsOp}
use Rattle.op_types.specs.declared.pool_ops.LiquidityPoolDepositOp.{LiquidityPoolDepositOp}
use Rattle.op_types.specs.declared.pool_ops.LiquidityPoolWithdrawOp.{LiquidityPoolWithdrawOp}
use Rattle.op_types.specs.declared.offer_results.ManageOfferEffect.TheVariants as effects
use Rattle.op_types.specs.declared.offer_results.ManageOfferResult.TheVariants as manage_offer
use Rattle.op_types.specs.declared.operation_result.OperationResultTr.TheVariants as run
use Rattle.op_types.specs.declared.transaction_result.InnerTransactionOutcome.TheVariants as inner
use Rattle.op_types.specs.declared.transaction_result.InnerTransactionResultPair.{InnerTransactionResultPair}
use Rattle.op_types.specs.declared.transaction_result.TransactionOutcome.TheVariants as outcome
use Rattle.definition_rows.proofs.Rows.{hex}
use Rattle.definition_rows.proofs.Readings.{is_encoding}
use Rattle.definition_rows.proofs.Opened.{entries_formats, transactions_formats, results_formats, headers_formats}

-- ---- parts

-- the key or hash that is one byte over and over
abbrev repeated : ℕ → List ℕ
repeated byte = replicate 32 byte

abbrev account : ℕ → AccountId
account byte = record { 0 = repeated byte }

abbrev hash_of_byte : ℕ → Hash
hash_of_byte byte = record { 0 = repeated byte }

abbrev destination : ℕ → MuxedAccount
destination byte = muxed.Ed25519 (repeated byte)

-- USD of the issuer whose key is 0x11 over and over
abbrev usd : Asset
usd = asset.Alphanum4 (codes "USD" ++ 0 ∷ []) (account 0x11)

-- a pool of lumens and USD
abbrev params : PoolParams
params = record { asset_a = asset.Native; asset_b = usd; fee = pos 30 }

abbrev price_of : ℕ → ℕ → Price
price_of n d = record { n = pos n; d = pos d }

-- an offer of lumens for USD
abbrev offer : OfferEntry
offer = record {
  seller_id = account 0x01;
  offer_id = pos 2;
  selling = asset.Native;
  buying = usd;
  amount = pos 3;
  price = price_of 4 5;
  flags = 6;
}

abbrev offer_in_ledger : LedgerEntry
offer_in_ledger = record { last_modified_ledger_seq = 7; body = body.Offer offer; ext = None }

-- ---- parts of ledger entries, and items of buckets

-- an account without signers
abbrev plain_account : AccountEntry
plain_account = record {
  account_id = account 0x01;
  balance = pos 1;
  seq_num = pos 2;
  num_sub_entries = 3;
  inflation_dest = None;
  flags = 4;
  home_domain = [];
  thresholds = 5 ∷ 6 ∷ 7 ∷ 8 ∷ [];
  signers = [];
  ext = None;
}

-- a trust line in the shares of a pool
abbrev pool_line : TrustLineEntry
pool_line = record {
  account_id = account 0x01;
  asset = line.PoolShare (hash_of_byte 0x21);
  balance = pos 1;
  limit = pos 2;
  flags = 3;
  ext = None;
}

abbrev named_data : DataEntry
named_data = record { account_id = account 0x01; data_name = codes "name"; data_value = [] }

abbrev pool : LiquidityPoolEntry
pool = record {
  pool_id = hash_of_byte 0x21;
  params = params;
  reserve_a = pos 1;
  reserve_b = pos 2;
  total_pool_shares = pos 3;
  pool_shares_trust_line_count = pos 4;
}

fields_of_entries : (is_encoding price (price_of 1 2) (hex "0000000100000002")
    && is_encoding liabilities (record { buying = pos 1; selling = pos 2 }) (hex "00000000000000010000000000000002")
    && is_encoding pool_params params
    (hex "00000000000000000000000155534400000000001111111111111111111111111111111111111111111111111111111111111111"
    ++ hex "0000001e")
    && is_encoding account_extension_v2
    (record { num_sponsored = 1; num_sponsoring = 2; signer_sponsoring_ids = []; ext = None })
    (hex "00000001000000020000000000000000")
    && is_encoding account_extension_v2 (record {
      num_sponsored = 1;
      num_sponsoring = 2;
      signer_sponsoring_ids = [];
      ext = Some (record { seq_ledger = 3; seq_time = 4 });
    })
    (hex "00000001000000020000000000000003000000000000000300000000" ++ hex "00000004")
    && is_encoding account_entry plain_account
    (hex "00000000010101010101010101010101010101010101010101010101010101010101010100000000000000010000000000000002"
    ++ hex "00000003000000000000000400000000050607080000000000000000")
    && is_encoding trust_line_entry pool_line
    (hex "00000000010101010101010101010101010101010101010101010101010101010101010100000003212121212121212121212121"
    ++ hex "2121212121212121212121212121212121212121000000000000000100000000000000020000000300000000")
    && is_encoding offer_entry offer
    (hex "00000000010101010101010101010101010101010101010101010101010101010101010100000000000000020000000000000001"
    ++ hex "55534400000000001111111111111111111111111111111111111111111111111111111111111111000000000000000300000004"
    ++ hex "000000050000000600000000")
    && is_encoding data_entry named_data
    (hex "000000000101010101010101010101010101010101010101010101010101010101010101000000046e616d650000000000000000")
    && is_encoding liquidity_pool_entry pool
    (hex "21212121212121212121212121212121212121212121212121212121212121210000000000000000000000015553440000000000"
    ++ hex "11111111111111111111111111111111111111111111111111111111111111110000001e00000000000000010000000000000002"
    ++ hex "00000000000000030000000000000004")
    && is_encoding signer_key (signer.PreAuthTx (hash_of_byte 1))
    (hex "000000010101010101010101010101010101010101010101010101010101010101010101")
    && is_encoding signer_key (signer.HashX (hash_of_byte 1))
    (hex "000000020101010101010101010101010101010101010101010101010101010101010101")
    && is_encoding signer_key (signer.SignedPayload (repeated 1) (2 ∷ 3 ∷ 4 ∷ 5 ∷ 6 ∷ []))
    (hex "00000003010101010101010101010101010101010101010101010101010101010101010100000005020304050600" ++ hex "0000")
    && is_encoding bucket_entry (bucket.Live offer_in_ledger)
    (hex "00000000000000070000000200000000010101010101010101010101010101010101010101010101010101010101010100000000"
    ++ hex "00000002000000000000000155534400000000001111111111111111111111111111111111111111111111111111111111111111"
    ++ hex "00000000000000030000000400000005000000060000000000000000")
    && is_encoding bucket_entry (bucket.Init offer_in_ledger)
    (hex "00000002000000070000000200000000010101010101010101010101010101010101010101010101010101010101010100000000"
    ++ hex "00000002000000000000000155534400000000001111111111111111111111111111111111111111111111111111111111111111"
    ++ hex "00000000000000030000000400000005000000060000000000000000")) ≡ true
unfolding hex is_encoding entries_formats
fields_of_entries = refl

-- ---- predicates

-- the predicate that the bytes begin with, four of the zero bytes after it where it has eight
variants_of_predicates : (claim_predicate.read (start_of (hex "000000010000000000000000"))
    ≡ Ok (roll-ClaimPredicate (ClaimPredicate-F.And []), record { at = 8; rest = 0 ∷ 0 ∷ 0 ∷ 0 ∷ [] }))
    × (claim_predicate.read (start_of (hex "000000020000000000000000"))
    ≡ Ok (roll-ClaimPredicate (ClaimPredicate-F.Or []), record { at = 8; rest = 0 ∷ 0 ∷ 0 ∷ 0 ∷ [] }))
    × (claim_predicate.read (start_of (hex "000000040000000000000001"))
    ≡ Ok (roll-ClaimPredicate (ClaimPredicate-F.BeforeAbsoluteTime (pos 1)), record { at = 12; rest = [] }))
    × (claim_predicate.read (start_of (hex "000000050000000000000001"))
    ≡ Ok (roll-ClaimPredicate (ClaimPredicate-F.BeforeRelativeTime (pos 1)), record { at = 12; rest = [] }))
unfolding hex entries_formats
variants_of_predicates = (refl, refl, refl, refl)

-- ---- headers and upgrades

-- a header whose numbers and hashes all differ
abbrev header : LedgerHeader
header = record {
  ledger_version = 1;
  previous_ledger_hash = hash_of_byte 2;
  scp_value = record { tx_set_hash = hash_of_byte 3; close_time = 4; upgrades = []; ext = None };
  tx_set_result_hash = hash_of_byte 5;
  bucket_list_hash = hash_of_byte 6;
  ledger_seq = 7;
  total_coins = pos 8;
  fee_pool = pos 9;
  inflation_seq = 10;
  id_pool = 11;
  base_fee = 12;
  base_reserve = 13;
  max_tx_set_size = 14;
  skip_list = hash_of_byte 15 ∷ hash_of_byte 16 ∷ hash_of_byte 17 ∷ hash_of_byte 18 ∷ [];
  ext = None;
}

fields_of_headers : (is_encoding ledger_upgrade (upgrade.Version 7) (hex "0000000100000007")
    && is_encoding ledger_upgrade (upgrade.BaseFee 7) (hex "0000000200000007")
    && is_encoding ledger_upgrade (upgrade.MaxTxSetSize 7) (hex "0000000300000007")
    && is_encoding ledger_upgrade (upgrade.BaseReserve 7) (hex "0000000400000007")
    && is_encoding ledger_upgrade (upgrade.Flags 7) (hex "0000000500000007")
    && is_encoding ledger_header header
    (hex "00000001020202020202020202020202020202020202020202020202020202020202020203030303030303030303030303030303"
    ++ hex "03030303030303030303030303030303000000000000000400000000000000000505050505050505050505050505050505050505"
    ++ hex "05050505050505050505050506060606060606060606060606060606060606060606060606060606060606060000000700000000"
    ++ hex "0000000800000000000000090000000a000000000000000b0000000c0000000d0000000e0f0f0f0f0f0f0f0f0f0f0f0f0f0f0f0f"
    ++ hex "0f0f0f0f0f0f0f0f0f0f0f0f0f0f0f0f101010101010101010101010101010101010101010101010101010101010101011111111"
    ++ hex "11111111111111111111111111111111111111111111111111111111121212121212121212121212121212121212121212121212"
    ++ hex "121212121212121200000000")) ≡ true
unfolding hex is_encoding headers_formats
fields_of_headers = refl

-- ---- operations, and parts of transactions

-- each number, and nothing else
abbrev options : SetOptionsOp
options = record {
  inflation_dest = None;
  clear_flags = Some 1;
  set_flags = Some 2;
  master_weight = Some 3;
  low_threshold = Some 4;
  med_threshold = Some 5;
  high_threshold = Some 6;
  home_domain = None;
  signer = None;
}

abbrev strict_receive : PathPaymentStrictReceiveOp
strict_receive = record {
  send_asset = asset.Native;
  send_max = pos 1;
  destination = destination 0x01;
  dest_asset = usd;
  dest_amount = pos 2;
  path = [];
}

abbrev strict_send : PathPaymentStrictSendOp
strict_send = record {
  send_asset = asset.Native;
  send_amount = pos 1;
  destination = destination 0x01;
  dest_asset = usd;
  dest_min = pos 2;
  path = [];
}

abbrev sell_offer : ManageSellOfferOp
sell_offer =
    record { selling = asset.Native; buying = usd; amount = pos 1; price = price_of 2 3; offer_id = pos 4 }

abbrev buy_offer : ManageBuyOfferOp
buy_offer =
    record { selling = asset.Native; buying = usd; buy_amount = pos 1; price = price_of 2 3; offer_id = pos 4 }

abbrev passive_offer : CreatePassiveSellOfferOp
passive_offer = record { selling = asset.Native; buying = usd; amount = pos 1; price = price_of 2 3 }

abbrev line_flags : SetTrustLineFlagsOp
line_flags = record { trustor = account 0x01; asset = usd; clear_flags = 1; set_flags = 2 }

abbrev deposit : LiquidityPoolDepositOp
deposit = record {
  pool_id = hash_of_byte 0x21;
  max_amount_a = pos 1;
  max_amount_b = pos 2;
  min_price = price_of 3 4;
  max_price = price_of 5 6;
}

abbrev withdrawal : LiquidityPoolWithdrawOp
withdrawal =
    record { pool_id = hash_of_byte 0x21; amount = pos 1; min_amount_a = pos 2; min_amount_b = pos 3 }

fields_of_transactions : (is_encoding time_bounds (record { min_time = 1; max_time = 2 })
    (hex "00000000000000010000000000000002")
    && is_encoding memo (memos.Hash (hash_of_byte 1))
    (hex "000000030101010101010101010101010101010101010101010101010101010101010101")
    && is_encoding memo (memos.Return (hash_of_byte 1))
    (hex "000000040101010101010101010101010101010101010101010101010101010101010101")
    && is_encoding set_options_op options
    (hex "00000000000000010000000100000001000000020000000100000003000000010000000400000001000000050000000100000006"
    ++ hex "0000000000000000")
    && is_encoding path_payment_strict_receive_op strict_receive
    (hex "00000000000000000000000100000000010101010101010101010101010101010101010101010101010101010101010100000001"
    ++ hex "55534400000000001111111111111111111111111111111111111111111111111111111111111111000000000000000200000000")
    && is_encoding path_payment_strict_send_op strict_send
    (hex "00000000000000000000000100000000010101010101010101010101010101010101010101010101010101010101010100000001"
    ++ hex "55534400000000001111111111111111111111111111111111111111111111111111111111111111000000000000000200000000")
    && is_encoding manage_sell_offer_op sell_offer
    (hex "00000000000000015553440000000000111111111111111111111111111111111111111111111111111111111111111100000000"
    ++ hex "0000000100000002000000030000000000000004")
    && is_encoding manage_buy_offer_op buy_offer
    (hex "00000000000000015553440000000000111111111111111111111111111111111111111111111111111111111111111100000000"
    ++ hex "0000000100000002000000030000000000000004")
    && is_encoding create_passive_sell_offer_op passive_offer
    (hex "00000000000000015553440000000000111111111111111111111111111111111111111111111111111111111111111100000000"
    ++ hex "000000010000000200000003")
    && is_encoding set_trust_line_flags_op line_flags
    (hex "00000000010101010101010101010101010101010101010101010101010101010101010100000001555344000000000011111111"
    ++ hex "111111111111111111111111111111111111111111111111111111110000000100000002")
    && is_encoding liquidity_pool_deposit_op deposit
    (hex "21212121212121212121212121212121212121212121212121212121212121210000000000000001000000000000000200000003"
    ++ hex "000000040000000500000006")
    && is_encoding liquidity_pool_withdraw_op withdrawal
    (hex "21212121212121212121212121212121212121212121212121212121212121210000000000000001000000000000000200000000"
    ++ hex "00000003")) ≡ true
unfolding hex is_encoding transactions_formats
fields_of_transactions = refl

-- ---- what operations and transactions answer

-- lumens were sold, and USD bought
abbrev atom_v0 : ClaimAtom
atom_v0 = atoms.V0 (repeated 0x01) (pos 1) asset.Native (pos 2) usd (pos 3)

abbrev atom_order_book : ClaimAtom
atom_order_book = atoms.OrderBook (account 0x01) (pos 1) asset.Native (pos 2) usd (pos 3)

abbrev atom_pool : ClaimAtom
atom_pool = atoms.LiquidityPool (hash_of_byte 0x21) asset.Native (pos 1) usd (pos 2)

-- the result of an inner transaction that came too early
abbrev inner_pair : InnerTransactionResultPair
inner_pair = record {
  transaction_hash = hash_of_byte 0x21;
  result = record { fee_charged = pos 1; outcome = inner.TooEarly };
}

fields_of_results : (is_encoding claim_atom atom_v0
    (hex "00000000010101010101010101010101010101010101010101010101010101010101010100000000000000010000000000000000"
    ++ hex "00000002000000015553440000000000111111111111111111111111111111111111111111111111111111111111111100000000"
    ++ hex "00000003")
    && is_encoding claim_atom atom_order_book
    (hex "00000001000000000101010101010101010101010101010101010101010101010101010101010101000000000000000100000000"
    ++ hex "00000000000000020000000155534400000000001111111111111111111111111111111111111111111111111111111111111111"
    ++ hex "0000000000000003")
    && is_encoding claim_atom atom_pool
    (hex "00000002212121212121212121212121212121212121212121212121212121212121212100000000000000000000000100000001"
    ++ hex "555344000000000011111111111111111111111111111111111111111111111111111111111111110000000000000002")
    && is_encoding manage_offer_effect (effects.Created offer)
    (hex "00000000000000000101010101010101010101010101010101010101010101010101010101010101000000000000000200000000"
    ++ hex "00000001555344000000000011111111111111111111111111111111111111111111111111111111111111110000000000000003"
    ++ hex "00000004000000050000000600000000")
    && is_encoding manage_offer_effect (effects.Updated offer)
    (hex "00000001000000000101010101010101010101010101010101010101010101010101010101010101000000000000000200000000"
    ++ hex "00000001555344000000000011111111111111111111111111111111111111111111111111111111111111110000000000000003"
    ++ hex "00000004000000050000000600000000")
    && is_encoding operation_result_tr (run.ManageSellOffer manage_offer.Malformed) (hex "00000003ffffffff")
    && is_encoding operation_result_tr (run.CreatePassiveSellOffer manage_offer.Malformed) (hex "00000004ffffffff")
    && is_encoding operation_result_tr (run.ManageBuyOffer manage_offer.Malformed) (hex "0000000cffffffff")
    && is_encoding inner_transaction_outcome (inner.Success []) (hex "0000000000000000")
    && is_encoding inner_transaction_outcome (inner.Failed []) (hex "ffffffff00000000")
    && is_encoding transaction_outcome (outcome.Success []) (hex "0000000000000000")
    && is_encoding transaction_outcome (outcome.Failed []) (hex "ffffffff00000000")
    && is_encoding transaction_outcome (outcome.FeeBumpInnerSuccess inner_pair)
    (hex "0000000121212121212121212121212121212121212121212121212121212121212121210000000000000001fffffffe00000000")
    && is_encoding transaction_outcome (outcome.FeeBumpInnerFailed inner_pair)
    (hex "fffffff3212121212121212121212121212121212121212121212121212121212121212100000000"
    ++ hex "00000001fffffffe00000000")) ≡ true
unfolding hex is_encoding results_formats
fields_of_results = refl
