-- The formats of ledger headers and of what a ledger closes with (Stellar-ledger.x of protocols 18 and 19, over
-- RFC 4506).
use Rattle.std.specs.Prelude.{ℕ, ℤ, pos, List, [], ◌∷◌, Option, refl}
use Rattle.xdr_core.specs.declared.fault.XdrFault.{XdrFault}
use Rattle.xdr_core.specs.Leaves.{u32, u64, i64, var}
use Rattle.xdr_core.specs.Combinators.{◌⨾◌, Fields, struct_of, entire, closed, times, Arm, Part, part}
use Rattle.xdr_core.specs.Xdr.{Xdr, tag, list_of, union_of, extension_of}
use Rattle.ledger_types.specs.declared.ids.AccountId.{AccountId}
use Rattle.ledger_types.specs.declared.ids.Hash.{Hash}
use Rattle.ledger_types.specs.declared.header.LedgerCloseValueSignature.{LedgerCloseValueSignature}
use Rattle.ledger_types.specs.declared.header.StellarValue.{StellarValue}
use Rattle.ledger_types.specs.declared.header.LedgerUpgrade.{LedgerUpgrade}
use Rattle.ledger_types.specs.declared.header.LedgerUpgrade.TheVariants as upgrade
use Rattle.ledger_types.specs.declared.header.LedgerHeaderExtensionV1.{LedgerHeaderExtensionV1}
use Rattle.ledger_types.specs.declared.header.LedgerHeader.{LedgerHeader}
use Rattle.xdr_entries.specs.Basic.{arm, hash, account_id}
use Rattle.xdr_header.specs.declared.header.Counts.{Counts}
use Rattle.xdr_header.specs.declared.header.Limits.{Limits}

-- ---- values

abbrev pub value_signature_fields : Fields (AccountId × List ℕ) LedgerCloseValueSignature
value_signature_fields = record {
  to = λ v. record { node_id = v.0; signature = v.1 };
  from = λ s. (s.node_id, s.signature);
  there = λ _. refl;
  back = λ _. refl;
}

unfoldable pub ledger_close_value_signature : Xdr LedgerCloseValueSignature
ledger_close_value_signature = struct_of value_signature_fields (account_id ⨾ var 64)

abbrev pub value_fields : Fields (Hash × (ℕ × (List (List ℕ) × Option LedgerCloseValueSignature))) StellarValue
value_fields = record {
  to = λ (hash, (time, (upgrades, ext))). record {
    tx_set_hash = hash;
    close_time = time;
    upgrades = upgrades;
    ext = ext;
  };
  from = λ v. (v.tx_set_hash, (v.close_time, (v.upgrades, v.ext)));
  there = λ _. refl;
  back = λ _. refl;
}

unfoldable pub stellar_value : Xdr StellarValue
stellar_value =
    struct_of value_fields (hash ⨾ u64 ⨾ list_of 6 (var 128) ⨾ extension_of (pos 1) ledger_close_value_signature)

-- ---- upgrades

abbrev pub upgrade_version : Arm XdrFault LedgerUpgrade
upgrade_version = arm (pos 1) u32 upgrade.Version

abbrev pub upgrade_base_fee : Arm XdrFault LedgerUpgrade
upgrade_base_fee = arm (pos 2) u32 upgrade.BaseFee

abbrev pub upgrade_max_tx_set_size : Arm XdrFault LedgerUpgrade
upgrade_max_tx_set_size = arm (pos 3) u32 upgrade.MaxTxSetSize

abbrev pub upgrade_base_reserve : Arm XdrFault LedgerUpgrade
upgrade_base_reserve = arm (pos 4) u32 upgrade.BaseReserve

abbrev pub upgrade_flags : Arm XdrFault LedgerUpgrade
upgrade_flags = arm (pos 5) u32 upgrade.Flags

abbrev pub upgrade_arms : List (Arm XdrFault LedgerUpgrade)
upgrade_arms = upgrade_version ∷ upgrade_base_fee ∷ upgrade_max_tx_set_size ∷ upgrade_base_reserve ∷ upgrade_flags ∷ []

abbrev pub upgrade_part : LedgerUpgrade → Part XdrFault LedgerUpgrade
upgrade_part (upgrade.Version n) = part upgrade_version n
upgrade_part (upgrade.BaseFee n) = part upgrade_base_fee n
upgrade_part (upgrade.MaxTxSetSize n) = part upgrade_max_tx_set_size n
upgrade_part (upgrade.BaseReserve n) = part upgrade_base_reserve n
upgrade_part (upgrade.Flags n) = part upgrade_flags n

unfoldable pub ledger_upgrade : Xdr LedgerUpgrade
ledger_upgrade = union_of upgrade_part upgrade_arms

-- ---- headers

abbrev pub header_v1_fields : Fields ℕ LedgerHeaderExtensionV1
header_v1_fields = record {
  to = λ flags. record { flags = flags };
  from = λ e. e.flags;
  there = λ _. refl;
  back = λ _. refl;
}

unfoldable pub ledger_header_extension_v1 : Xdr LedgerHeaderExtensionV1
ledger_header_extension_v1 = struct_of header_v1_fields (closed u32 (tag (pos 0)))

-- what bounds the next ledgers, and what follows it in a header
abbrev pub limits_fields : Fields (ℕ × (ℕ × (ℕ × (List Hash × Option LedgerHeaderExtensionV1)))) Limits
limits_fields = record {
  to = λ (base_fee, (base_reserve, (size, (skips, ext)))). record {
    base_fee = base_fee;
    base_reserve = base_reserve;
    max_tx_set_size = size;
    skip_list = skips;
    ext = ext;
  };
  from = λ l. (l.base_fee, (l.base_reserve, (l.max_tx_set_size, (l.skip_list, l.ext))));
  there = λ _. refl;
  back = λ _. refl;
}

unfoldable pub limits : Xdr Limits
limits =
    struct_of limits_fields
    (u32 ⨾ u32 ⨾ u32 ⨾ times 4 hash ⨾ extension_of (pos 1) ledger_header_extension_v1)

abbrev pub limits_of : LedgerHeader → Limits
limits_of h = record {
  base_fee = h.base_fee;
  base_reserve = h.base_reserve;
  max_tx_set_size = h.max_tx_set_size;
  skip_list = h.skip_list;
  ext = h.ext;
}

-- what a header counts, and what follows that
abbrev pub counts_fields : Fields (ℕ × (ℤ × (ℤ × (ℕ × (ℕ × Limits))))) Counts
counts_fields = record {
  to = λ (seq, (coins, (fees, (inflation, (ids, after))))). record {
    ledger_seq = seq;
    total_coins = coins;
    fee_pool = fees;
    inflation_seq = inflation;
    id_pool = ids;
    limits = after;
  };
  from = λ c. (c.ledger_seq, (c.total_coins, (c.fee_pool, (c.inflation_seq, (c.id_pool, c.limits)))));
  there = λ _. refl;
  back = λ _. refl;
}

unfoldable pub counts : Xdr Counts
counts = struct_of counts_fields (u32 ⨾ i64 ⨾ i64 ⨾ u32 ⨾ u64 ⨾ limits)

abbrev pub counts_of : LedgerHeader → Counts
counts_of h = record {
  ledger_seq = h.ledger_seq;
  total_coins = h.total_coins;
  fee_pool = h.fee_pool;
  inflation_seq = h.inflation_seq;
  id_pool = h.id_pool;
  limits = limits_of h;
}

-- what closed a ledger, and what follows it in its header
abbrev pub closing_parts : LedgerHeader → StellarValue × (Hash × (Hash × Counts))
closing_parts h = (h.scp_value, (h.tx_set_result_hash, (h.bucket_list_hash, counts_of h)))

abbrev pub header_fields : Fields (ℕ × (Hash × (StellarValue × (Hash × (Hash × Counts))))) LedgerHeader
header_fields = record {
  to = λ (version, (previous, (value, (results, (buckets, after))))). record {
    ledger_version = version;
    previous_ledger_hash = previous;
    scp_value = value;
    tx_set_result_hash = results;
    bucket_list_hash = buckets;
    ledger_seq = after.ledger_seq;
    total_coins = after.total_coins;
    fee_pool = after.fee_pool;
    inflation_seq = after.inflation_seq;
    id_pool = after.id_pool;
    base_fee = after.limits.base_fee;
    base_reserve = after.limits.base_reserve;
    max_tx_set_size = after.limits.max_tx_set_size;
    skip_list = after.limits.skip_list;
    ext = after.limits.ext;
  };
  from = λ h. (h.ledger_version, (h.previous_ledger_hash, closing_parts h));
  there = λ _. refl;
  back = λ _. refl;
}

unfoldable pub ledger_header : Xdr LedgerHeader
ledger_header = struct_of header_fields (u32 ⨾ hash ⨾ entire stellar_value ⨾ hash ⨾ hash ⨾ counts)
