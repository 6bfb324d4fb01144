-- The header after a close is in its ranges.
use Rattle.close_laws.proofs.Prelude.{◌≡◌, ℕ, ◌+◌, ◌*◌, ◌^◌, ◌<◌, ◌≤◌, refl, List, [], ◌∷◌, map, All, Option, Some}
use Rattle.close_laws.proofs.Prelude.{None, arith, All-head, All-tail, pos, ◌≤ℤ◌, Hash, LedgerHeader, LedgerUpgrade}
use Rattle.close_laws.proofs.Prelude.{CloseRecord, TransactionEnvelope, EntryMap, IsHeaderInRange, upgrade_in, upgraded}
use Rattle.close_laws.proofs.Prelude.{upgraded_if, all_upgraded, finished, map_after_fee, fees_taken, sum_of}
use Rattle.close_laws.proofs.Prelude.{ClosingState, record_fault, applied_in, filled_header, upgraded_header}
use Rattle.close_laws.proofs.Prelude.{add_nonnegative, natural_add_nonnegative, natural_nonnegative}
use Rattle.close_rules.specs.ledger_types.declared.header.LedgerUpgrade.TheVariants as upgrade
use Rattle.close_rules.specs.legal_rules.Headers.{IsSupported}
use Rattle.close_laws.proofs.Unrefused.{IsGood, IsGoodRead, upgrades_good}

-- ---- upgrades

supported : (n : ℕ) → n ≡ 19 → IsSupported n
supported n is = (omega arith, omega arith)

range_upgraded : (h : LedgerHeader) (asked : LedgerUpgrade) → IsGood asked → IsHeaderInRange h
    → IsHeaderInRange (upgraded h asked)
range_upgraded h (upgrade.Version n) good range = record {
  version = supported n good;
  seq_low = range.seq_low;
  seq_high = range.seq_high;
  base_fee = range.base_fee;
  base_reserve = range.base_reserve;
  total_coins = range.total_coins;
  fee_pool = range.fee_pool;
  id_pool = range.id_pool;
  flags = range.flags;
}
range_upgraded h (upgrade.BaseFee n) good range = record {
  version = range.version;
  seq_low = range.seq_low;
  seq_high = range.seq_high;
  base_fee = good;
  base_reserve = range.base_reserve;
  total_coins = range.total_coins;
  fee_pool = range.fee_pool;
  id_pool = range.id_pool;
  flags = range.flags;
}
range_upgraded h (upgrade.MaxTxSetSize n) good range = record {
  version = range.version;
  seq_low = range.seq_low;
  seq_high = range.seq_high;
  base_fee = range.base_fee;
  base_reserve = range.base_reserve;
  total_coins = range.total_coins;
  fee_pool = range.fee_pool;
  id_pool = range.id_pool;
  flags = range.flags;
}
range_upgraded h (upgrade.BaseReserve n) good range = record {
  version = range.version;
  seq_low = range.seq_low;
  seq_high = range.seq_high;
  base_fee = range.base_fee;
  base_reserve = good;
  total_coins = range.total_coins;
  fee_pool = range.fee_pool;
  id_pool = range.id_pool;
  flags = range.flags;
}
range_upgraded h (upgrade.Flags n) good range = record {
  version = range.version;
  seq_low = range.seq_low;
  seq_high = range.seq_high;
  base_fee = range.base_fee;
  base_reserve = range.base_reserve;
  total_coins = range.total_coins;
  fee_pool = range.fee_pool;
  id_pool = range.id_pool;
  flags = good;
}

-- what no upgrade changes: numbers, and the value that the ledger closes with
pub record KeepsCounts (was h : LedgerHeader) : Type 0 where
  pub ledger_seq : h.ledger_seq ≡ was.ledger_seq
  pub total_coins : h.total_coins ≡ was.total_coins
  pub fee_pool : h.fee_pool ≡ was.fee_pool
  pub id_pool : h.id_pool ≡ was.id_pool
  pub scp_value : h.scp_value ≡ was.scp_value

counts_upgraded : (was h : LedgerHeader) (asked : LedgerUpgrade) → KeepsCounts was h
    → KeepsCounts was (upgraded h asked)
counts_upgraded was h (upgrade.Version n) kept = record {
  ledger_seq = kept.ledger_seq;
  total_coins = kept.total_coins;
  fee_pool = kept.fee_pool;
  id_pool = kept.id_pool;
  scp_value = kept.scp_value;
}
counts_upgraded was h (upgrade.BaseFee n) kept = record {
  ledger_seq = kept.ledger_seq;
  total_coins = kept.total_coins;
  fee_pool = kept.fee_pool;
  id_pool = kept.id_pool;
  scp_value = kept.scp_value;
}
counts_upgraded was h (upgrade.MaxTxSetSize n) kept = record {
  ledger_seq = kept.ledger_seq;
  total_coins = kept.total_coins;
  fee_pool = kept.fee_pool;
  id_pool = kept.id_pool;
  scp_value = kept.scp_value;
}
counts_upgraded was h (upgrade.BaseReserve n) kept = record {
  ledger_seq = kept.ledger_seq;
  total_coins = kept.total_coins;
  fee_pool = kept.fee_pool;
  id_pool = kept.id_pool;
  scp_value = kept.scp_value;
}
counts_upgraded was h (upgrade.Flags n) kept = record {
  ledger_seq = kept.ledger_seq;
  total_coins = kept.total_coins;
  fee_pool = kept.fee_pool;
  id_pool = kept.id_pool;
  scp_value = kept.scp_value;
}

-- no upgrade is one to an earlier version
version_upgraded : (was h : LedgerHeader) (asked : LedgerUpgrade) → IsGood asked → IsHeaderInRange h
    → was.ledger_version ≤ h.ledger_version → was.ledger_version ≤ (upgraded h asked).ledger_version
version_upgraded was h (upgrade.Version n) good range le = let high = range.version.1 in omega arith
version_upgraded was h (upgrade.BaseFee n) good range le = le
version_upgraded was h (upgrade.MaxTxSetSize n) good range le = le
version_upgraded was h (upgrade.BaseReserve n) good range le = le
version_upgraded was h (upgrade.Flags n) good range le = le

-- a header in its ranges, of no earlier version, with these counts
pub record IsUpgradedFrom (was h : LedgerHeader) : Type 0 where
  pub range : IsHeaderInRange h
  pub version : was.ledger_version ≤ h.ledger_version
  pub counts : KeepsCounts was h

upgraded_once : (was h : LedgerHeader) (asked : Option LedgerUpgrade) → IsGoodRead asked → IsUpgradedFrom was h
    → IsUpgradedFrom was (upgraded_if h asked)
upgraded_once was h None good from = absurd good
upgraded_once was h (Some asked) good from =
    record {
      range = range_upgraded h asked good from.range;
      version = version_upgraded was h asked good from.range from.version;
      counts = counts_upgraded was h asked from.counts;
    }

upgraded_all : (was h : LedgerHeader) (asked : List (Option LedgerUpgrade)) → All IsGoodRead asked
    → IsUpgradedFrom was h → IsUpgradedFrom was (all_upgraded h asked)
upgraded_all was h [] good from = from
upgraded_all was h (first ∷ others) good from =
    upgraded_all was (upgraded_if h first) others (All-tail IsGoodRead first others good)
    (upgraded_once was h first (All-head IsGoodRead first others good) from)

-- ---- fees

-- fees add up to no less than nothing
pub fees_low : (base : ℕ) (envelopes : List TransactionEnvelope) (m : EntryMap)
    → pos 0 ≤ℤ sum_of (fees_taken base envelopes m).fees
unfolding fees_taken sum_of
fees_low base [] m = (natural_nonnegative 0)
fees_low base (envelope ∷ envelopes) m =
    natural_add_nonnegative _ _ (fees_low base envelopes (map_after_fee base envelope m))

-- ---- the header

pub one_above : (seq : ℕ) → seq < 2147483647 → seq + 1 ≤ 2147483647
one_above seq below = omega arith

pub above_0 : (seq : ℕ) → 1 ≤ seq + 1
above_0 seq = omega arith

-- fewer ids are drawn than a ledger may draw
pub ids_few : (seq was now : ℕ) → was ≤ seq * 2 ^ 32 → now ≤ was + 1677721600 → now ≤ (seq + 1) * 2 ^ 32
ids_few seq was now low few = omega arith

filled_range : (s : ClosingState) (closing : CloseRecord) → IsHeaderInRange s.header → s.header.ledger_seq < 2147483647
    → (applied_in s closing).id_pool ≤ s.header.id_pool + 1677721600 → IsHeaderInRange (filled_header s closing)
filled_range s closing range seq few = record {
  version = range.version;
  seq_low = above_0 s.header.ledger_seq;
  seq_high = one_above s.header.ledger_seq seq;
  base_fee = range.base_fee;
  base_reserve = range.base_reserve;
  total_coins = range.total_coins;
  fee_pool = add_nonnegative s.header.fee_pool _ range.fee_pool (fees_low _ _ s.entries);
  id_pool = ids_few s.header.ledger_seq s.header.id_pool (applied_in s closing).id_pool range.id_pool few;
  flags = range.flags;
}

finished_range : (was h : LedgerHeader) (list_hash : Hash) → IsUpgradedFrom was h
    → IsUpgradedFrom was (finished h list_hash)
finished_range was h list_hash from = record {
  range = record {
    version = from.range.version;
    seq_low = from.range.seq_low;
    seq_high = from.range.seq_high;
    base_fee = from.range.base_fee;
    base_reserve = from.range.base_reserve;
    total_coins = from.range.total_coins;
    fee_pool = from.range.fee_pool;
    id_pool = from.range.id_pool;
    flags = from.range.flags;
  };
  version = from.version;
  counts = record {
    ledger_seq = from.counts.ledger_seq;
    total_coins = from.counts.total_coins;
    fee_pool = from.counts.fee_pool;
    id_pool = from.counts.id_pool;
    scp_value = from.counts.scp_value;
  };
}

-- what upgrades leave counts what the set leaves
all_counts : (was h : LedgerHeader) (asked : List (Option LedgerUpgrade)) → KeepsCounts was h
    → KeepsCounts was (all_upgraded h asked)
all_counts was h [] kept = kept
all_counts was h (None ∷ others) kept = all_counts was h others kept
all_counts was h (Some asked ∷ others) kept =
    all_counts was (upgraded h asked) others (counts_upgraded was h asked kept)

-- the header counts what the set leaves, whatever hash the levels have
pub next_counts : (s : ClosingState) (closing : CloseRecord) (list_hash : Hash)
    → KeepsCounts (filled_header s closing) (finished (upgraded_header s closing) list_hash)
next_counts s closing list_hash =
    let kept = all_counts (filled_header s closing) (filled_header s closing)
    (map upgrade_in closing.scp_value.upgrades)
    (record { ledger_seq = refl; total_coins = refl; fee_pool = refl; id_pool = refl; scp_value = refl }) in
    record {
      ledger_seq = kept.ledger_seq;
      total_coins = kept.total_coins;
      fee_pool = kept.fee_pool;
      id_pool = kept.id_pool;
      scp_value = kept.scp_value;
    }

-- the header is in its ranges and counts what the set leaves, whatever hash the levels have
pub next_range : (s : ClosingState) (closing : CloseRecord) (list_hash : Hash) → IsHeaderInRange s.header
    → record_fault s closing ≡ None → s.header.ledger_seq < 2147483647
    → (applied_in s closing).id_pool ≤ s.header.id_pool + 1677721600
    → IsUpgradedFrom (filled_header s closing) (finished (upgraded_header s closing) list_hash)
next_range s closing list_hash range none seq few =
    finished_range (filled_header s closing) (upgraded_header s closing) list_hash
    (upgraded_all (filled_header s closing) (filled_header s closing) (map upgrade_in closing.scp_value.upgrades)
    (upgrades_good s closing none) record {
      range = filled_range s closing range seq few;
      version = omega arith;
      counts = record { ledger_seq = refl; total_coins = refl; fee_pool = refl; id_pool = refl; scp_value = refl };
    })
