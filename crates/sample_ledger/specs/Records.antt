-- The records that close the ledgers of a sample: record k closes ledger k + 1, with one transaction of each account.
use Rattle.std.specs.Prelude.{ℕ, pos, ◌+◌, ◌-◌, ◌*◌, ◌%◌, ◌/◌, ◌==◌, nat_le, Bool, ◌&&◌, ◌||◌, if◌then◌else◌, List, []}
use Rattle.std.specs.Prelude.{◌∷◌, ◌++◌, drop, map, length, None, Some, codes}
use Rattle.std.specs.List.{range_with_len}
use Rattle.byteorder.specs.Endian.{big_number}
use Rattle.sha2.specs.Sha256.{sha256}
use Rattle.xdr_core.specs.Leaves.{u32}
use Rattle.ledger_types.specs.declared.ids.Hash.{Hash}
use Rattle.ledger_types.specs.declared.asset.Asset.{Asset}
use Rattle.ledger_types.specs.declared.asset.Asset.TheVariants as asset
use Rattle.ledger_types.specs.declared.asset.ChangeTrustAsset.TheVariants as line
use Rattle.ledger_types.specs.declared.predicate.ClaimPredicate.TheVariants as predicate
use Rattle.ledger_types.specs.declared.header.LedgerHeader.{LedgerHeader}
use Rattle.ledger_types.specs.declared.price.Price.{Price}
use Rattle.op_types.specs.declared.operation.Operation.{Operation}
use Rattle.op_types.specs.declared.operation.OperationBody.{OperationBody}
use Rattle.op_types.specs.declared.operation.OperationBody.TheVariants as op
use Rattle.op_types.specs.declared.preconditions.Preconditions.TheVariants as conditions
use Rattle.op_types.specs.declared.transaction.Memo.TheVariants as memo
use Rattle.op_types.specs.declared.transaction.DecoratedSignature.{DecoratedSignature}
use Rattle.op_types.specs.declared.transaction.Transaction.{Transaction}
use Rattle.op_types.specs.declared.transaction.TransactionEnvelope.{TransactionEnvelope}
use Rattle.op_types.specs.declared.transaction.TransactionEnvelope.TheVariants as envelope
use Rattle.op_types.specs.declared.transaction.TransactionSet.{TransactionSet}
use Rattle.xdr_header.specs.declared.record.CloseRecord.{CloseRecord}
use Rattle.hash_ids.specs.Ids.{balance_id_of, pool_id_of}
use Rattle.value_hashes.specs.Hashes.{ledger_hash_of}
use Rattle.fee_rules.specs.SetHash.{hash_of_set}
use Rattle.sample_ledger.specs.Accounts.{sample_text, account_id, muxed_account, secret}
use Rattle.sample_ledger.specs.Image.{account_count}

-- ---- assets

-- that of account 0
abbrev pub usd : (seed : ℕ) → Asset
usd seed = asset.Alphanum4 (codes "USD" ++ 0 ∷ []) (account_id seed 0)

abbrev pub pool_of : (seed : ℕ) → Hash
pool_of seed = pool_id_of asset.Native (usd seed)

-- ---- operations

-- of the transaction's source, or of another account
abbrev pub own : OperationBody → Operation
own body = record { source_account = None; body = body }

abbrev pub by : (seed account : ℕ) → OperationBody → Operation
by seed account body = record { source_account = Some (muxed_account seed account); body = body }

abbrev pub payment : (seed to : ℕ) → Asset → (amount : ℕ) → OperationBody
payment seed to asset amount =
    op.Payment (record { destination = muxed_account seed to; asset = asset; amount = pos amount })

-- the record's number, as four bytes
abbrev pub note : (k : ℕ) → OperationBody
note k = op.ManageData (record { data_name = codes "note"; data_value = Some (u32.encoding k) })

abbrev pub trust_usd : (seed : ℕ) → OperationBody
trust_usd seed = op.ChangeTrust (record {
  line = line.Alphanum4 (codes "USD" ++ 0 ∷ []) (account_id seed 0);
  limit = pos 1000000000000000;
})

abbrev pub trust_pool : (seed : ℕ) → OperationBody
trust_pool seed = op.ChangeTrust (record {
  line = line.PoolShare (record { asset_a = asset.Native; asset_b = usd seed; fee = pos 30 });
  limit = pos 1000000000000000;
})

abbrev pub name_domain : OperationBody
name_domain = op.SetOptions (record {
  inflation_dest = None;
  clear_flags = None;
  set_flags = None;
  master_weight = None;
  low_threshold = None;
  med_threshold = None;
  high_threshold = None;
  home_domain = Some (codes "example.org");
  signer = None;
})

abbrev pub price : (n d : ℕ) → Price
price n d = record { n = pos n; d = pos d }

abbrev pub deposit : (seed : ℕ) → OperationBody
deposit seed = op.LiquidityPoolDeposit (record {
  pool_id = pool_of seed;
  max_amount_a = pos 100000000;
  max_amount_b = pos 100000000;
  min_price = price 1 2;
  max_price = price 2 1;
})

-- account 8 has data that account 0 pays for
abbrev pub gift : (seed : ℕ) → List Operation
gift seed =
    own (op.BeginSponsoringFutureReserves (record { sponsored_id = account_id seed 8 }))
    ∷ by seed 8 (op.ManageData (record { data_name = codes "gift"; data_value = Some (1 ∷ []) }))
    ∷ by seed 8 op.EndSponsoringFutureReserves ∷ []

abbrev pub claw_back : (seed from : ℕ) → OperationBody
claw_back seed from =
    op.Clawback (record { asset = usd seed; from = muxed_account seed from; amount = pos 5 })

-- for account 7
abbrev pub claimable : (seed : ℕ) → OperationBody
claimable seed = op.CreateClaimableBalance (record {
  asset = usd seed;
  amount = pos 10;
  claimants = record { destination = account_id seed 7; predicate = predicate.Unconditional } ∷ [];
})

-- of the balance that account 0 made two records before
abbrev pub claim : (seed k : ℕ) → OperationBody
claim seed k = op.ClaimClaimableBalance (record {
  balance_id = record { 0 = balance_id_of (account_id seed 0) (pos (k - 2)) 0 };
})

-- ---- what accounts do from record 6 on

-- whether account 7 claims in a record
abbrev pub is_claim : (k : ℕ) → Bool
is_claim k = (k % 10 == 7) && nat_le 17 k

unfoldable pub issuer_turn : (seed k : ℕ) → Operation
issuer_turn seed k =
    if k % 10 == 0 then own (claw_back seed (1 + k / 10 % 8))
    else if k % 10 == 5 then own (claimable seed)
    else if is_claim k then by seed 7 (claim seed k)
    else own (payment seed (1 + k % 8) (usd seed) 1000)

unfoldable pub draw : (seed k account : ℕ) → ℕ
draw seed k account = big_number 8 (sha256 (sample_text (codes "draw") (seed ∷ k ∷ account ∷ [])))

abbrev pub sell : (selling buying : Asset) → (amount n : ℕ) → OperationBody
sell selling buying amount n = op.ManageSellOffer (record {
  selling = selling;
  buying = buying;
  amount = pos amount;
  price = price n 1000;
  offer_id = pos 0;
})

abbrev pub send_path : (seed to amount : ℕ) → OperationBody
send_path seed to amount = op.PathPaymentStrictSend (record {
  send_asset = asset.Native;
  send_amount = pos amount;
  destination = muxed_account seed to;
  dest_asset = usd seed;
  dest_min = pos 1;
  path = [];
})

-- the operation that a drawn number gives, with its amount, another account and a price
unfoldable pub drawn_turn : (seed v : ℕ) → OperationBody
drawn_turn seed v =
    let amount = 1 + v / 8 % 1000 in
    let other = 1 + v / 8192 % 8 in
    let n = 900 + v / 65536 % 200 in
    if v % 5 == 0 then payment seed other asset.Native (1000 * amount)
    else if v % 5 == 1 then payment seed other (usd seed) amount
    else if v % 5 == 2 then sell (usd seed) asset.Native amount n
    else if v % 5 == 3 then sell asset.Native (usd seed) amount n
    else send_path seed other amount

-- ---- transactions

-- what an account's transaction does, in a record
unfoldable pub issuer_operations : (seed k : ℕ) → List Operation
issuer_operations seed k =
    if k == 1 then own name_domain ∷ []
    else if k == 2 then map (λ to. own (payment seed to (usd seed) 1000000000)) (range_with_len 1 8)
    else if (k == 3) || (k == 4) then own (note k) ∷ []
    else if k == 5 then gift seed
    else issuer_turn seed k ∷ []

unfoldable pub other_operation : (seed k account : ℕ) → OperationBody
other_operation seed k account =
    if k == 1 then trust_usd seed
    else if k == 3 then trust_pool seed
    else if (k == 4) && (account == 1) then deposit seed
    else if nat_le k 5 then note k
    else drawn_turn seed (draw seed k account)

unfoldable pub operations_of : (seed k account : ℕ) → List Operation
operations_of seed k account =
    if account == 0 then issuer_operations seed k else own (other_operation seed k account) ∷ []

-- the accounts among the sources of a transaction and its operations, rising
unfoldable pub signers_of : (k account : ℕ) → List ℕ
signers_of k account =
    if account == 0 then if k == 5 then 0 ∷ 8 ∷ [] else if is_claim k then 0 ∷ 7 ∷ [] else 0 ∷ []
    else account ∷ []

-- by the hash-x signer of an account
abbrev pub signature : (seed account : ℕ) → DecoratedSignature
signature seed account =
    record { hint = drop 28 (sha256 (secret seed account)); signature = secret seed account }

abbrev pub transaction_of : (seed k account : ℕ) → Transaction
transaction_of seed k account = record {
  source_account = muxed_account seed account;
  fee = 100 * length (operations_of seed k account);
  seq_num = pos k;
  cond = conditions.None;
  memo = memo.None;
  operations = operations_of seed k account;
}

unfoldable pub envelope_of : (seed k account : ℕ) → TransactionEnvelope
envelope_of seed k account = envelope.V1 (record {
  tx = transaction_of seed k account;
  signatures = map (signature seed) (signers_of k account);
})

-- ---- the record

abbrev pub set_of : (seed k : ℕ) → LedgerHeader → TransactionSet
set_of seed k header = record {
  previous_ledger_hash = ledger_hash_of header;
  txs = map (envelope_of seed k) (range_with_len 0 account_count);
}

-- after the ledger of this header
abbrev pub record_of : (seed k : ℕ) → LedgerHeader → CloseRecord
record_of seed k header = record {
  ledger_seq = k + 1;
  tx_set = set_of seed k header;
  scp_value = record {
    tx_set_hash = hash_of_set (set_of seed k header);
    close_time = 1000 + 5 * k;
    upgrades = [];
    ext = None;
  };
  vouches = None;
}
