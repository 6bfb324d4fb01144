-- Ids, hashes, assets, prices and amounts are short.
use Rattle.sample_ledger.proofs.Prelude.{ℕ, ◌<◌, ◌^◌, List, [], ◌∷◌, ◌++◌, pos, refl, arith, ints, codes, sha256}
use Rattle.sample_ledger.proofs.Prelude.{length-sha256, i64, fixed, ◌⨾◌, hash, hash_fields, account_id_fields}
use Rattle.sample_ledger.proofs.Prelude.{muxed_part, muxed_arms, muxed_ed25519, asset_part, asset_arms, native}
use Rattle.sample_ledger.proofs.Prelude.{alphanum4, price, price_fields, key_bytes, account_id, account_count}
use Rattle.ledger_types.specs.declared.asset.Asset.TheVariants as asset
use Rattle.xdr_entries.specs.Basic as basic
use Rattle.hash_ids.specs.Ids.{hash_of}
use Rattle.sample_ledger.specs.Accounts.{muxed_account}
use Rattle.sample_ledger.specs.Records as spec
use Rattle.sample_ledger.proofs.Lengths.{key_len}
use Rattle.sample_ledger.proofs.Bytes.{bytes_listed, hash_fits, key_fits}
use Rattle.sample_ledger.proofs.Short as short
use Rattle.sample_ledger.proofs.Short.{IsShort}

-- ---- ids and hashes

key_short : (seed account : ℕ) → account < account_count → IsShort (fixed 32) 35 (key_bytes seed account)
key_short seed account below =
    short.short_fixed 32 (key_bytes seed account) (key_len seed account) (key_fits seed account below)

pub id_short : (seed account : ℕ) → account < account_count → IsShort basic.account_id 39 (account_id seed account)
unfolding basic.account_id
id_short seed account below =
    short.short_struct account_id_fields (short.short_marked (pos 0) (key_short seed account below))

pub muxed_short : (seed account : ℕ) → account < account_count
    → IsShort basic.muxed_account 39 (muxed_account seed account)
unfolding basic.muxed_account
muxed_short seed account below =
    short.short_union muxed_part muxed_arms (short.short_arm muxed_ed25519 (key_short seed account below))

pub hash_short : (text : List ℕ) → IsShort hash 35 (hash_of text)
unfolding hash
hash_short text =
    short.short_struct hash_fields (short.short_fixed 32 (sha256 text) (length-sha256 text) (hash_fits text))

-- ---- assets

pub code_short : (seed : ℕ)
    → IsShort (fixed 4 ⨾ basic.account_id) 46 (codes "USD" ++ 0 ∷ [], account_id seed 0)
code_short seed =
    let code = codes "USD" ++ 0 ∷ [] in
    short.short_both (short.short_fixed 4 code refl (bytes_listed code (omega arith))) (id_short seed 0 (omega arith))

pub usd_short : (seed : ℕ) → IsShort basic.asset 50 (spec.usd seed)
unfolding basic.asset
usd_short seed = short.short_union asset_part asset_arms (short.short_arm alphanum4 (code_short seed))

pub native_short : IsShort basic.asset 50 asset.Native
unfolding basic.asset
native_short =
    short.longer 50 (short.short_union asset_part asset_arms (short.short_arm native short.short_empty)) (omega arith)

-- ---- numbers

pub amount_short : (n : ℕ) → n < 2 ^ 63 → IsShort i64 8 (pos n)
amount_short n fits = short.short_i64 (pos n) (grind (arith, ints))

pub price_short : (n d : ℕ) → n < 2 ^ 31 → d < 2 ^ 31 → IsShort price 8 (spec.price n d)
unfolding price
price_short n d few many =
    short.short_struct price_fields (short.short_both (short.short_i32 (pos n) (grind (arith, ints)))
    (short.short_i32 (pos d) (grind (arith, ints))))
