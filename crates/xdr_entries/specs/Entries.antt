-- The formats of ledger entries (Stellar-ledger-entries.x of protocol 19).
use Rattle.std.specs.Prelude.{ℕ, ℤ, pos, List, [], ◌∷◌, Option, refl}
use Rattle.xdr_core.specs.declared.fault.XdrFault.{XdrFault}
use Rattle.xdr_core.specs.Leaves.{u32, u64, i32, i64, fixed, var}
use Rattle.xdr_core.specs.Combinators.{◌⨾◌, Fields, struct_of, marked, closed, entire, Arm, Part, part}
use Rattle.xdr_core.specs.Xdr.{Xdr, tag, optional, list_of, union_of, extension_of}
use Rattle.ledger_types.specs.declared.bounds.TheConstants.{MAX_SIGNERS, MAX_HOME_DOMAIN_LEN}
use Rattle.ledger_types.specs.declared.ids.AccountId.{AccountId}
use Rattle.ledger_types.specs.declared.ids.Hash.{Hash}
use Rattle.ledger_types.specs.declared.ids.ClaimableBalanceId.{ClaimableBalanceId}
use Rattle.ledger_types.specs.declared.signer.Signer.{Signer}
use Rattle.ledger_types.specs.declared.asset.Asset.{Asset}
use Rattle.ledger_types.specs.declared.asset.TrustLineAsset.{TrustLineAsset}
use Rattle.ledger_types.specs.declared.asset.PoolParams.{PoolParams}
use Rattle.ledger_types.specs.declared.price.Price.{Price}
use Rattle.ledger_types.specs.declared.price.Liabilities.{Liabilities}
use Rattle.ledger_types.specs.declared.predicate.ClaimPredicate.{ClaimPredicate}
use Rattle.ledger_types.specs.declared.account.AccountEntryExtensionV3.{AccountEntryExtensionV3}
use Rattle.ledger_types.specs.declared.account.AccountEntryExtensionV2.{AccountEntryExtensionV2}
use Rattle.ledger_types.specs.declared.account.AccountEntryExtensionV1.{AccountEntryExtensionV1}
use Rattle.ledger_types.specs.declared.account.AccountEntry.{AccountEntry}
use Rattle.ledger_types.specs.declared.trust_line.TrustLineEntryExtensionV2.{TrustLineEntryExtensionV2}
use Rattle.ledger_types.specs.declared.trust_line.TrustLineEntryExtensionV1.{TrustLineEntryExtensionV1}
use Rattle.ledger_types.specs.declared.trust_line.TrustLineEntry.{TrustLineEntry}
use Rattle.ledger_types.specs.declared.offer.OfferEntry.{OfferEntry}
use Rattle.ledger_types.specs.declared.data_entry.DataEntry.{DataEntry}
use Rattle.ledger_types.specs.declared.claimable_balance.Claimant.{Claimant}
use Rattle.ledger_types.specs.declared.claimable_balance.ClaimableBalanceEntryExtensionV1.{
  ClaimableBalanceEntryExtensionV1,
}
use Rattle.ledger_types.specs.declared.claimable_balance.ClaimableBalanceEntry.{ClaimableBalanceEntry}
use Rattle.ledger_types.specs.declared.liquidity_pool.LiquidityPoolEntry.{LiquidityPoolEntry}
use Rattle.ledger_types.specs.declared.entry.LedgerEntryBody.{LedgerEntryBody}
use Rattle.ledger_types.specs.declared.entry.LedgerEntryBody.TheVariants as body
use Rattle.ledger_types.specs.declared.entry.LedgerEntryExtensionV1.{LedgerEntryExtensionV1}
use Rattle.ledger_types.specs.declared.entry.LedgerEntry.{LedgerEntry}
use Rattle.xdr_entries.specs.Basic.{arm, hash, account_id, claimable_balance_id, signer, asset, trust_line_asset}
use Rattle.xdr_entries.specs.Basic.{pool_params, price, liabilities}
use Rattle.xdr_entries.specs.Predicates.{claim_predicate}

-- ---- accounts

abbrev pub account_v3_fields : Fields (ℕ × ℕ) AccountEntryExtensionV3
account_v3_fields = record {
  to = λ v. record { seq_ledger = v.0; seq_time = v.1 };
  from = λ e. (e.seq_ledger, e.seq_time);
  there = λ _. refl;
  back = λ _. refl;
}

-- AccountEntryExtensionV3, which begins with an extension of its own whose one arm is 0
unfoldable pub account_extension_v3 : Xdr AccountEntryExtensionV3
account_extension_v3 = struct_of account_v3_fields (marked (tag (pos 0)) (u32 ⨾ u64))

abbrev pub account_v2_fields : Fields (ℕ × (ℕ × (List (Option AccountId) × Option AccountEntryExtensionV3)))
    AccountEntryExtensionV2
account_v2_fields = record {
  to = λ (sponsored, (sponsoring, (ids, ext))).
      record { num_sponsored = sponsored; num_sponsoring = sponsoring; signer_sponsoring_ids = ids; ext = ext };
  from = λ e. (e.num_sponsored, (e.num_sponsoring, (e.signer_sponsoring_ids, e.ext)));
  there = λ _. refl;
  back = λ _. refl;
}

unfoldable pub account_extension_v2 : Xdr AccountEntryExtensionV2
account_extension_v2 =
    struct_of account_v2_fields
    (u32 ⨾ u32 ⨾ list_of MAX_SIGNERS (optional account_id) ⨾ extension_of (pos 3) account_extension_v3)

abbrev pub account_v1_fields : Fields (Liabilities × Option AccountEntryExtensionV2) AccountEntryExtensionV1
account_v1_fields = record {
  to = λ v. record { liabilities = v.0; ext = v.1 };
  from = λ e. (e.liabilities, e.ext);
  there = λ _. refl;
  back = λ _. refl;
}

unfoldable pub account_extension_v1 : Xdr AccountEntryExtensionV1
account_extension_v1 = struct_of account_v1_fields (liabilities ⨾ extension_of (pos 2) account_extension_v2)

-- the fields of an account up to its flags
abbrev pub AccountHead : Type 0
AccountHead = AccountId × (ℤ × (ℤ × (ℕ × (Option AccountId × ℕ))))

unfoldable pub account_head : Xdr AccountHead
account_head = account_id ⨾ i64 ⨾ i64 ⨾ u32 ⨾ optional account_id ⨾ u32

-- the fields of an account from its home domain on
abbrev pub AccountTail : Type 0
AccountTail = List ℕ × (List ℕ × (List Signer × Option AccountEntryExtensionV1))

unfoldable pub account_tail : Xdr AccountTail
account_tail =
    var MAX_HOME_DOMAIN_LEN ⨾ fixed 4 ⨾ list_of MAX_SIGNERS signer ⨾ extension_of (pos 1) account_extension_v1

abbrev pub account_fields : Fields (AccountHead × AccountTail) AccountEntry
account_fields = record {
  to = λ (
    (id, (balance, (seq_num, (num_sub_entries, (inflation_dest, flags))))),
    (home_domain, (thresholds, (signers, ext))),
  ). record {
    account_id = id;
    balance = balance;
    seq_num = seq_num;
    num_sub_entries = num_sub_entries;
    inflation_dest = inflation_dest;
    flags = flags;
    home_domain = home_domain;
    thresholds = thresholds;
    signers = signers;
    ext = ext;
  };
  from = λ a. (
    (a.account_id, (a.balance, (a.seq_num, (a.num_sub_entries, (a.inflation_dest, a.flags))))),
    (a.home_domain, (a.thresholds, (a.signers, a.ext))),
  );
  there = λ _. refl;
  back = λ _. refl;
}

unfoldable pub account_entry : Xdr AccountEntry
account_entry = struct_of account_fields (account_head ⨾ account_tail)

-- ---- trust lines

abbrev pub line_v2_fields : Fields ℤ TrustLineEntryExtensionV2
line_v2_fields = record {
  to = λ n. record { liquidity_pool_use_count = n };
  from = λ e. e.liquidity_pool_use_count;
  there = λ _. refl;
  back = λ _. refl;
}

unfoldable pub trust_line_extension_v2 : Xdr TrustLineEntryExtensionV2
trust_line_extension_v2 = struct_of line_v2_fields (closed i32 (tag (pos 0)))

abbrev pub line_v1_fields : Fields (Liabilities × Option TrustLineEntryExtensionV2) TrustLineEntryExtensionV1
line_v1_fields = record {
  to = λ v. record { liabilities = v.0; ext = v.1 };
  from = λ e. (e.liabilities, e.ext);
  there = λ _. refl;
  back = λ _. refl;
}

unfoldable pub trust_line_extension_v1 : Xdr TrustLineEntryExtensionV1
trust_line_extension_v1 = struct_of line_v1_fields (liabilities ⨾ extension_of (pos 2) trust_line_extension_v2)

abbrev pub line_fields : Fields (AccountId × (TrustLineAsset × (ℤ × (ℤ × (ℕ × Option TrustLineEntryExtensionV1)))))
    TrustLineEntry
line_fields = record {
  to = λ (id, (asset, (balance, (limit, (flags, ext))))).
      record { account_id = id; asset = asset; balance = balance; limit = limit; flags = flags; ext = ext };
  from = λ t. (t.account_id, (t.asset, (t.balance, (t.limit, (t.flags, t.ext)))));
  there = λ _. refl;
  back = λ _. refl;
}

unfoldable pub trust_line_entry : Xdr TrustLineEntry
trust_line_entry =
    struct_of line_fields
    (account_id ⨾ trust_line_asset ⨾ i64 ⨾ i64 ⨾ u32 ⨾ extension_of (pos 1) trust_line_extension_v1)

-- ---- offers

abbrev pub offer_fields : Fields (AccountId × (ℤ × (Asset × (Asset × (ℤ × (Price × ℕ)))))) OfferEntry
offer_fields = record {
  to = λ (seller, (offer, (selling, (buying, (amount, (price, flags)))))). record {
    seller_id = seller;
    offer_id = offer;
    selling = selling;
    buying = buying;
    amount = amount;
    price = price;
    flags = flags;
  };
  from = λ o. (o.seller_id, (o.offer_id, (o.selling, (o.buying, (o.amount, (o.price, o.flags))))));
  there = λ _. refl;
  back = λ _. refl;
}

unfoldable pub offer_entry : Xdr OfferEntry
offer_entry = struct_of offer_fields (account_id ⨾ i64 ⨾ asset ⨾ asset ⨾ i64 ⨾ price ⨾ closed u32 (tag (pos 0)))

-- ---- data

abbrev pub data_fields : Fields (AccountId × (List ℕ × List ℕ)) DataEntry
data_fields = record {
  to = λ (id, (name, value)). record { account_id = id; data_name = name; data_value = value };
  from = λ d. (d.account_id, (d.data_name, d.data_value));
  there = λ _. refl;
  back = λ _. refl;
}

unfoldable pub data_entry : Xdr DataEntry
data_entry = struct_of data_fields (account_id ⨾ var 64 ⨾ closed (var 64) (tag (pos 0)))

-- ---- claimable balances

abbrev pub claimant_fields : Fields (AccountId × ClaimPredicate) Claimant
claimant_fields = record {
  to = λ v. record { destination = v.0; predicate = v.1 };
  from = λ c. (c.destination, c.predicate);
  there = λ _. refl;
  back = λ _. refl;
}

-- Claimant, whose one arm is CLAIMANT_TYPE_V0
unfoldable pub claimant : Xdr Claimant
claimant = struct_of claimant_fields (marked (tag (pos 0)) (account_id ⨾ entire claim_predicate))

abbrev pub balance_v1_fields : Fields ℕ ClaimableBalanceEntryExtensionV1
balance_v1_fields = record {
  to = λ flags. record { flags = flags };
  from = λ e. e.flags;
  there = λ _. refl;
  back = λ _. refl;
}

unfoldable pub claimable_balance_extension_v1 : Xdr ClaimableBalanceEntryExtensionV1
claimable_balance_extension_v1 = struct_of balance_v1_fields (marked (tag (pos 0)) u32)

abbrev pub balance_fields : Fields
    (ClaimableBalanceId × (List Claimant × (Asset × (ℤ × Option ClaimableBalanceEntryExtensionV1))))
    ClaimableBalanceEntry
balance_fields = record {
  to = λ (id, (claimants, (asset, (amount, ext)))).
      record { balance_id = id; claimants = claimants; asset = asset; amount = amount; ext = ext };
  from = λ b. (b.balance_id, (b.claimants, (b.asset, (b.amount, b.ext))));
  there = λ _. refl;
  back = λ _. refl;
}

unfoldable pub claimable_balance_entry : Xdr ClaimableBalanceEntry
claimable_balance_entry = struct_of balance_fields
    (claimable_balance_id ⨾ list_of 10 claimant ⨾ asset ⨾ i64 ⨾ extension_of (pos 1) claimable_balance_extension_v1)

-- ---- liquidity pools

abbrev pub pool_fields : Fields (Hash × (PoolParams × (ℤ × (ℤ × (ℤ × ℤ))))) LiquidityPoolEntry
pool_fields = record {
  to = λ (id, (params, (reserve_a, (reserve_b, (shares, lines))))). record {
    pool_id = id;
    params = params;
    reserve_a = reserve_a;
    reserve_b = reserve_b;
    total_pool_shares = shares;
    pool_shares_trust_line_count = lines;
  };
  from = λ p. (
    p.pool_id,
    (p.params, (p.reserve_a, (p.reserve_b, (p.total_pool_shares, p.pool_shares_trust_line_count)))),
  );
  there = λ _. refl;
  back = λ _. refl;
}

-- LiquidityPoolEntry: its body has the discriminant of the parameters, LIQUIDITY_POOL_CONSTANT_PRODUCT, and begins with
-- them
unfoldable pub liquidity_pool_entry : Xdr LiquidityPoolEntry
liquidity_pool_entry = struct_of pool_fields (hash ⨾ pool_params ⨾ i64 ⨾ i64 ⨾ i64 ⨾ i64)

-- ---- entries

abbrev pub account_arm : Arm XdrFault LedgerEntryBody
account_arm = arm (pos 0) account_entry body.Account

abbrev pub trust_line_arm : Arm XdrFault LedgerEntryBody
trust_line_arm = arm (pos 1) trust_line_entry body.TrustLine

abbrev pub offer_arm : Arm XdrFault LedgerEntryBody
offer_arm = arm (pos 2) offer_entry body.Offer

abbrev pub data_arm : Arm XdrFault LedgerEntryBody
data_arm = arm (pos 3) data_entry body.Data

abbrev pub claimable_balance_arm : Arm XdrFault LedgerEntryBody
claimable_balance_arm = arm (pos 4) claimable_balance_entry body.ClaimableBalance

abbrev pub liquidity_pool_arm : Arm XdrFault LedgerEntryBody
liquidity_pool_arm = arm (pos 5) liquidity_pool_entry body.LiquidityPool

abbrev pub body_arms : List (Arm XdrFault LedgerEntryBody)
body_arms = account_arm ∷ trust_line_arm ∷ offer_arm ∷ data_arm ∷ claimable_balance_arm ∷ liquidity_pool_arm ∷ []

abbrev pub body_part : LedgerEntryBody → Part XdrFault LedgerEntryBody
body_part (body.Account entry) = part account_arm entry
body_part (body.TrustLine entry) = part trust_line_arm entry
body_part (body.Offer entry) = part offer_arm entry
body_part (body.Data entry) = part data_arm entry
body_part (body.ClaimableBalance entry) = part claimable_balance_arm entry
body_part (body.LiquidityPool entry) = part liquidity_pool_arm entry

unfoldable pub ledger_entry_body : Xdr LedgerEntryBody
ledger_entry_body = union_of body_part body_arms

abbrev pub entry_v1_fields : Fields (Option AccountId) LedgerEntryExtensionV1
entry_v1_fields = record {
  to = λ id. record { sponsoring_id = id };
  from = λ e. e.sponsoring_id;
  there = λ _. refl;
  back = λ _. refl;
}

unfoldable pub ledger_entry_extension_v1 : Xdr LedgerEntryExtensionV1
ledger_entry_extension_v1 = struct_of entry_v1_fields (closed (optional account_id) (tag (pos 0)))

abbrev pub entry_fields : Fields (ℕ × (LedgerEntryBody × Option LedgerEntryExtensionV1)) LedgerEntry
entry_fields = record {
  to = λ (seq, (body, ext)). record { last_modified_ledger_seq = seq; body = body; ext = ext };
  from = λ e. (e.last_modified_ledger_seq, (e.body, e.ext));
  there = λ _. refl;
  back = λ _. refl;
}

unfoldable pub ledger_entry : Xdr LedgerEntry
ledger_entry = struct_of entry_fields (u32 ⨾ ledger_entry_body ⨾ extension_of (pos 1) ledger_entry_extension_v1)
