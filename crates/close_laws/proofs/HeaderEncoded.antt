-- The header after a close can be written.
use Rattle.close_laws.proofs.Prelude as prelude
use prelude.{◌≡◌, ℕ, ◌*◌, ◌^◌, ◌<◌, ◌≤◌, refl, sym, ap, subst, ◌∙◌, List, [], ◌∷◌, length, map, All, Option, Some, None}
use prelude.{Ok, Err, Bool, true, false, if◌then◌else◌, arith, ints, All-head, All-tail, All-map, All-from_recursion}
use prelude.{◌+ℤ◌, ◌≤ℤ◌, FitsSigned, w64, Hash, LedgerHeader, LedgerUpgrade, XdrFault, IsBytes, u32, u64, i64, var}
use prelude.{Reading, start_of, constant, extension, times, list_of, extension_of, hash, CloseRecord, stellar_value}
use prelude.{ledger_upgrade, ledger_header_extension_v1, limits, counts, ledger_header, close_record}
use prelude.{ledger_upgrade_laws, total, header_flags_in, IsHeaderInRange, held, SettledHeld, if_complete}
use prelude.{read_complete, upgrade_in, upgraded, upgraded_if, all_upgraded, sets_first, moves_first, moves_second}
use prelude.{moves_third, hash_at, skip_list_after, finished, SetsConserve, ClosingState, IsEncoded, applied_in}
use prelude.{filled_header, upgraded_header, IsClosable}
use Rattle.std.proofs.Common.{ℤ, pos}
use Rattle.close_rules.specs.legal_rules.Headers.{IsSupported}
use Rattle.close_rules.specs.ledger_types.declared.asset.Asset.TheVariants as asset
use Rattle.close_rules.specs.ledger_types.declared.header.LedgerHeaderExtensionV1.{LedgerHeaderExtensionV1}
use Rattle.close_rules.specs.ledger_types.declared.header.LedgerUpgrade.TheVariants as upgrade
use Rattle.close_rules.specs.ledger_types.declared.header.StellarValue.{StellarValue}
use Rattle.close_laws.specs.Header.{NextHeaderIsEncoded}
use Rattle.close_laws.proofs.Encoded.{each_encoded}
use Rattle.close_laws.proofs.Digests.{hash_encoded}
use Rattle.close_laws.proofs.NextLegal.{conserved, upgraded_from}

-- ---- upgrades that were read

abbrev IsFit : LedgerUpgrade → Type 0
IsFit (upgrade.BaseFee n) = n < 4294967296
IsFit (upgrade.MaxTxSetSize n) = n < 4294967296
IsFit (upgrade.BaseReserve n) = n < 4294967296
IsFit other = Unit {0}

abbrev IsFitRead : Option LedgerUpgrade → Type 0
IsFitRead None = Unit {0}
IsFitRead (Some asked) = IsFit asked

u32_fits : (n : ℕ) → u32.sized n → n < 4294967296
unfolding u32
u32_fits n sized = omega arith

upgrade_fits : (asked : LedgerUpgrade) → ledger_upgrade.sized asked → IsFit asked
unfolding ledger_upgrade
upgrade_fits (upgrade.Version n) sized = tt
upgrade_fits (upgrade.BaseFee n) sized = u32_fits n sized
upgrade_fits (upgrade.MaxTxSetSize n) sized = u32_fits n sized
upgrade_fits (upgrade.BaseReserve n) sized = u32_fits n sized
upgrade_fits (upgrade.Flags n) sized = tt

entire_fits : (asked : LedgerUpgrade) (rest : List ℕ) → IsFit asked → IsFitRead (if_complete asked rest)
entire_fits asked [] fits = fits
entire_fits asked (byte ∷ rest) fits = tt

reading_fits : (bytes : List ℕ) (read : Reading XdrFault LedgerUpgrade) → IsBytes bytes
    → ledger_upgrade.read (start_of bytes) ≡ read → IsFitRead (read_complete read)
reading_fits bytes (Err wrong) fits is = tt
reading_fits bytes (Ok x) fits is =
    entire_fits x.0 x.1.rest
    (upgrade_fits x.0 (ledger_upgrade_laws.lawful.takes (start_of bytes) x.1 x.0 fits is).sized)

read_fits : (bytes : List ℕ) → IsEncoded (var 128) bytes → IsFitRead (upgrade_in bytes)
unfolding var
read_fits bytes encoded = reading_fits bytes (ledger_upgrade.read (start_of bytes)) encoded.sized refl

value_encoded : (closing : CloseRecord) → IsEncoded close_record closing → IsEncoded stellar_value closing.scp_value
unfolding close_record
value_encoded closing encoded = record { within = encoded.within.1.1.1.0; sized = encoded.sized.1.1.0 }

upgrades_encoded : (value : StellarValue) → IsEncoded stellar_value value
    → IsEncoded (list_of 6 (var 128)) value.upgrades
unfolding stellar_value
upgrades_encoded value encoded = record { within = encoded.within.1.1.0; sized = encoded.sized.1.1.0 }

upgrades_fit : (value : StellarValue) → IsEncoded stellar_value value → All IsFitRead (map upgrade_in value.upgrades)
upgrades_fit value encoded =
    All-map IsFitRead upgrade_in value.upgrades
    (λ k d within. read_fits _ (each_encoded 6 (var 128) value.upgrades (upgrades_encoded value encoded) k d within))

-- ---- what upgrades leave

-- the parts of a header that can be written, whatever else it counts
record AreParts (h : LedgerHeader) : Type 0 where
  previous : IsEncoded hash h.previous_ledger_hash
  value : IsEncoded stellar_value h.scp_value
  results : IsEncoded hash h.tx_set_result_hash
  inflation_seq : h.inflation_seq < 4294967296
  base_fee : h.base_fee < 4294967296
  base_reserve : h.base_reserve < 4294967296
  size : h.max_tx_set_size < 4294967296
  skips : IsEncoded (times 4 hash) h.skip_list

parts_upgraded : (h : LedgerHeader) (asked : LedgerUpgrade) → IsFit asked → AreParts h → AreParts (upgraded h asked)
parts_upgraded h (upgrade.Version n) fits parts = record {
  previous = parts.previous;
  value = parts.value;
  results = parts.results;
  inflation_seq = parts.inflation_seq;
  base_fee = parts.base_fee;
  base_reserve = parts.base_reserve;
  size = parts.size;
  skips = parts.skips;
}
parts_upgraded h (upgrade.BaseFee n) fits parts = record {
  previous = parts.previous;
  value = parts.value;
  results = parts.results;
  inflation_seq = parts.inflation_seq;
  base_fee = fits;
  base_reserve = parts.base_reserve;
  size = parts.size;
  skips = parts.skips;
}
parts_upgraded h (upgrade.MaxTxSetSize n) fits parts = record {
  previous = parts.previous;
  value = parts.value;
  results = parts.results;
  inflation_seq = parts.inflation_seq;
  base_fee = parts.base_fee;
  base_reserve = parts.base_reserve;
  size = fits;
  skips = parts.skips;
}
parts_upgraded h (upgrade.BaseReserve n) fits parts = record {
  previous = parts.previous;
  value = parts.value;
  results = parts.results;
  inflation_seq = parts.inflation_seq;
  base_fee = parts.base_fee;
  base_reserve = fits;
  size = parts.size;
  skips = parts.skips;
}
parts_upgraded h (upgrade.Flags n) fits parts = record {
  previous = parts.previous;
  value = parts.value;
  results = parts.results;
  inflation_seq = parts.inflation_seq;
  base_fee = parts.base_fee;
  base_reserve = parts.base_reserve;
  size = parts.size;
  skips = parts.skips;
}

parts_upgraded_if : (h : LedgerHeader) (asked : Option LedgerUpgrade) → IsFitRead asked → AreParts h
    → AreParts (upgraded_if h asked)
parts_upgraded_if h None fits parts = parts
parts_upgraded_if h (Some asked) fits parts = parts_upgraded h asked fits parts

parts_all_upgraded : (h : LedgerHeader) (asked : List (Option LedgerUpgrade)) → All IsFitRead asked → AreParts h
    → AreParts (all_upgraded h asked)
parts_all_upgraded h [] fits parts = parts
parts_all_upgraded h (first ∷ others) fits parts =
    parts_all_upgraded (upgraded_if h first) others (All-tail IsFitRead first others fits)
    (parts_upgraded_if h first (All-head IsFitRead first others fits) parts)

-- ---- the skip list

four_encoded : (a b c d : Hash) → IsEncoded hash a → IsEncoded hash b → IsEncoded hash c → IsEncoded hash d
    → IsEncoded (times 4 hash) (a ∷ b ∷ c ∷ d ∷ [])
unfolding times
four_encoded a b c d first second third last = record {
  within = (refl, (first.within, (second.within, (third.within, (last.within, tt)))));
  sized = (first.sized, (second.sized, (third.sized, (last.sized, tt))));
}

hash_of_list : (hashes : List Hash) (i : ℕ) → i < 4 → IsEncoded (times 4 hash) hashes
    → IsEncoded hash (hash_at hashes i)
unfolding times
hash_of_list hashes i lt encoded = record {
  within = All-from_recursion hash.within hashes encoded.within.1 i (record { 0 = [] }) (inside encoded.within.0);
  sized = All-from_recursion hash.sized hashes encoded.sized i (record { 0 = [] }) (inside encoded.within.0);
}
  where
    inside : length hashes ≡ 4 → i < length hashes
    inside is = omega (arith, lt, is)

either_hash : (b : Bool) (x y : Hash) → IsEncoded hash x → IsEncoded hash y → IsEncoded hash (if b then x else y)
either_hash true x y here there = here
either_hash false x y here there = there

skips_encoded : (seq : ℕ) (list_hash : Hash) (old : List Hash) → IsEncoded hash list_hash
    → IsEncoded (times 4 hash) old → IsEncoded (times 4 hash) (skip_list_after seq list_hash old)
skips_encoded seq list_hash old new encoded =
    let first = hash_of_list old 0 (omega arith) encoded in
    let second = hash_of_list old 1 (omega arith) encoded in
    let third = hash_of_list old 2 (omega arith) encoded in
    let last = hash_of_list old 3 (omega arith) encoded in
    four_encoded _ _ _ _ (either_hash (sets_first seq) list_hash (hash_at old 0) new first)
    (either_hash (moves_first seq) (hash_at old 0) (hash_at old 1) first second)
    (either_hash (moves_second seq) (hash_at old 1) (hash_at old 2) second third)
    (either_hash (moves_third seq) (hash_at old 2) (hash_at old 3) third last)

-- ---- complete headers

u32_encoded : (n : ℕ) → n < 4294967296 → IsEncoded u32 n
unfolding u32
u32_encoded n lt = record { within = tt; sized = omega arith }

u64_encoded : (n : ℕ) → n < 18446744073709551616 → IsEncoded u64 n
unfolding u64
u64_encoded n lt = record { within = tt; sized = omega arith }

i64_encoded : (n : ℤ) → FitsSigned w64 n → IsEncoded i64 n
unfolding i64
i64_encoded n fits = record { within = tt; sized = fits }

flags_encoded : (ext : LedgerHeaderExtensionV1) → ext.flags ≤ 7 → IsEncoded ledger_header_extension_v1 ext
unfolding ledger_header_extension_v1 constant
flags_encoded ext le =
    let flags = u32_encoded ext.flags (omega arith) in
    record { within = (flags.within, tt); sized = (flags.sized, tt) }

ext_encoded : (ext : Option LedgerHeaderExtensionV1) → header_flags_in ext ≤ 7
    → IsEncoded (extension_of (pos 1) ledger_header_extension_v1) ext
unfolding extension
ext_encoded None le = record { within = tt; sized = tt }
ext_encoded (Some ext) le =
    let flags = flags_encoded ext le in
    record { within = flags.within; sized = flags.sized }

-- a header of parts that can be written, in its ranges, with these sums of lumens and this hash of its levels
header_encoded : (h : LedgerHeader) → AreParts h → IsHeaderInRange h → FitsSigned w64 h.total_coins
    → FitsSigned w64 h.fee_pool → IsEncoded hash h.bucket_list_hash → IsEncoded ledger_header h
unfolding ledger_header counts limits
header_encoded h parts range coins pool buckets =
    let version = u32_encoded h.ledger_version (of_version range.version) in
    let seq = u32_encoded h.ledger_seq (of_seq range.seq_high) in
    let total = i64_encoded h.total_coins coins in
    let fees = i64_encoded h.fee_pool pool in
    let inflation = u32_encoded h.inflation_seq parts.inflation_seq in
    let ids = u64_encoded h.id_pool (of_ids range.seq_high range.id_pool) in
    let base_fee = u32_encoded h.base_fee parts.base_fee in
    let base_reserve = u32_encoded h.base_reserve parts.base_reserve in
    let size = u32_encoded h.max_tx_set_size parts.size in
    let ext = ext_encoded h.ext range.flags in
    record {
      within = (
        version.within,
        (
          parts.previous.within,
          (
            parts.value.within,
            (
              parts.results.within,
              (
                buckets.within,
                (
                  seq.within,
                  (
                    total.within,
                    (
                      fees.within,
                      (
                        inflation.within,
                        (
                          ids.within,
                          (base_fee.within, (base_reserve.within, (size.within, (parts.skips.within, ext.within)))),
                        ),
                      ),
                    ),
                  ),
                ),
              ),
            ),
          ),
        ),
      );
      sized = (
        version.sized,
        (
          parts.previous.sized,
          (
            parts.value.sized,
            (
              parts.results.sized,
              (
                buckets.sized,
                (
                  seq.sized,
                  (
                    total.sized,
                    (
                      fees.sized,
                      (
                        inflation.sized,
                        (
                          ids.sized,
                          (base_fee.sized, (base_reserve.sized, (size.sized, (parts.skips.sized, ext.sized)))),
                        ),
                      ),
                    ),
                  ),
                ),
              ),
            ),
          ),
        ),
      );
    }
  where
    of_version : IsSupported h.ledger_version → h.ledger_version < 4294967296
    of_version supported = let high = supported.1 in omega arith

    of_seq : h.ledger_seq ≤ 2147483647 → h.ledger_seq < 4294967296
    of_seq le = omega arith

    of_ids : h.ledger_seq ≤ 2147483647 → h.id_pool ≤ h.ledger_seq * 2 ^ 32 → h.id_pool < 18446744073709551616
    of_ids le ids = omega arith

-- the parts of a header that can be written
old_coins : (h : LedgerHeader) → IsEncoded ledger_header h → FitsSigned w64 h.total_coins
unfolding ledger_header counts i64
old_coins h encoded = encoded.sized.1.1.1.1.1.1.0

old_inflation : (h : LedgerHeader) → IsEncoded ledger_header h → h.inflation_seq < 4294967296
unfolding ledger_header counts
old_inflation h encoded = u32_fits h.inflation_seq encoded.sized.1.1.1.1.1.1.1.1.0

old_base_fee : (h : LedgerHeader) → IsEncoded ledger_header h → h.base_fee < 4294967296
unfolding ledger_header counts limits
old_base_fee h encoded = u32_fits h.base_fee encoded.sized.1.1.1.1.1.1.1.1.1.1.0

old_base_reserve : (h : LedgerHeader) → IsEncoded ledger_header h → h.base_reserve < 4294967296
unfolding ledger_header counts limits
old_base_reserve h encoded = u32_fits h.base_reserve encoded.sized.1.1.1.1.1.1.1.1.1.1.1.0

old_size : (h : LedgerHeader) → IsEncoded ledger_header h → h.max_tx_set_size < 4294967296
unfolding ledger_header counts limits
old_size h encoded = u32_fits h.max_tx_set_size encoded.sized.1.1.1.1.1.1.1.1.1.1.1.1.0

old_skips : (h : LedgerHeader) → IsEncoded ledger_header h → IsEncoded (times 4 hash) h.skip_list
unfolding ledger_header counts limits
old_skips h encoded = record {
  within = encoded.within.1.1.1.1.1.1.1.1.1.1.1.1.1.0;
  sized = encoded.sized.1.1.1.1.1.1.1.1.1.1.1.1.1.0;
}

filled_parts : (s : ClosingState) (closing : CloseRecord) → IsClosable s closing → AreParts (filled_header s closing)
filled_parts s closing can = record {
  previous = hash_encoded _;
  value = value_encoded closing can.encoded;
  results = hash_encoded _;
  inflation_seq = old_inflation s.header can.state.header;
  base_fee = old_base_fee s.header can.state.header;
  base_reserve = old_base_reserve s.header can.state.header;
  size = old_size s.header can.state.header;
  skips = old_skips s.header can.state.header;
}

finished_parts : (h : LedgerHeader) (list_hash : Hash) → IsEncoded hash list_hash → AreParts h
    → AreParts (finished h list_hash)
finished_parts h list_hash new parts = record {
  previous = parts.previous;
  value = parts.value;
  results = parts.results;
  inflation_seq = parts.inflation_seq;
  base_fee = parts.base_fee;
  base_reserve = parts.base_reserve;
  size = parts.size;
  skips = skips_encoded h.ledger_seq list_hash h.skip_list new parts.skips;
}

-- a fee pool is no more than all lumens
pool_fits : (held pool coins : ℤ) → pos 0 ≤ℤ held → (held +ℤ pool) ≡ coins → pos 0 ≤ℤ pool → FitsSigned w64 coins
    → FitsSigned w64 pool
pool_fits held pool coins low is least fits = grind (arith, ints, fits, is, low, least)

pub next_header_is_encoded : SetsConserve → SettledHeld → NextHeaderIsEncoded
next_header_is_encoded conserve least s closing list_hash can new =
    let from = upgraded_from conserve s closing can list_hash in
    let worked = conserved conserve s closing can in
    let parts =
    parts_all_upgraded (filled_header s closing) (map upgrade_in closing.scp_value.upgrades)
    (upgrades_fit closing.scp_value (value_encoded closing can.encoded)) (filled_parts s closing can) in
    let coins = old_coins s.header can.state.header in
    header_encoded (finished (upgraded_header s closing) list_hash)
    (finished_parts (upgraded_header s closing) list_hash new parts) from.range
    (subst (FitsSigned w64) (sym from.counts.total_coins) coins)
    (pool_fits (total (held asset.Native) (applied_in s closing).entries)
    (finished (upgraded_header s closing) list_hash).fee_pool s.header.total_coins
    (least (applied_in s closing).id_pool (applied_in s closing).entries worked.settled)
    (ap (λ (n : ℤ). total (held asset.Native) (applied_in s closing).entries +ℤ n) from.counts.fee_pool
    ∙ worked.lumens) from.range.fee_pool coins) new
