-- Keys in their order, and the key of an entry of each type, worked out by hand. The contracts of `keys_are_ordered`
-- and of `LedgerEntry::key` name these definitions.
use Rattle.definition_rows.proofs.Prelude.{◌≡◌, refl, pos, negsuc, List, [], ◌∷◌, replicate, Bool, true, ◌&&◌, codes}
use Rattle.definition_rows.proofs.Prelude.{is_lt, AccountId, Hash, AccountEntry, TrustLineEntry, OfferEntry, DataEntry}
use Rattle.definition_rows.proofs.Prelude.{LiquidityPoolEntry, LedgerKey, key_cmp}
use Rattle.ledger_types.specs.declared.asset.TrustLineAsset.TheVariants as line
use Rattle.ledger_types.specs.declared.claimable_balance.ClaimableBalanceEntry.{ClaimableBalanceEntry}
use Rattle.ledger_types.specs.declared.entry.LedgerEntryBody.TheVariants as body
use Rattle.ledger_types.specs.declared.key.LedgerKey.TheVariants as key
use Rattle.ledger_types.specs.Keys.{key_of_body}

abbrev low : AccountId
low = record { 0 = replicate 32 0x7f }

abbrev high : AccountId
high = record { 0 = replicate 32 0x80 }

abbrev hash : Hash
hash = record { 0 = replicate 32 5 }

-- each key is below the next one
abbrev are_rising : List LedgerKey → Bool
are_rising [] = true
are_rising (key ∷ []) = true
are_rising (first ∷ second ∷ keys) = is_lt (key_cmp first second) && are_rising (second ∷ keys)

keys_are_ordered_by_type_and_then_by_fields : are_rising
    (key.Account low
    ∷ key.Account high
    ∷ key.TrustLine low line.Native
    ∷ key.TrustLine low (line.PoolShare hash)
    ∷ key.TrustLine high line.Native
    ∷ key.Offer low (negsuc 0)
    ∷ key.Offer low (pos 1)
    ∷ key.Offer high (negsuc 1)
    ∷ key.ClaimableBalance (record { 0 = hash })
    ∷ key.LiquidityPool hash
    ∷ []) ≡ true
keys_are_ordered_by_type_and_then_by_fields = refl

-- between an offer and a claimable balance
abbrev are_rising_between : LedgerKey → LedgerKey → Bool
are_rising_between first second =
    are_rising (key.Offer high (pos 1) ∷ first ∷ second ∷ key.ClaimableBalance (record { 0 = hash }) ∷ [])

keys_of_data_are_ordered_by_account_and_then_by_bytes : (
    are_rising_between (key.Data low (codes "a")) (key.Data low (codes "ab"))
    && are_rising_between (key.Data low (codes "ab")) (key.Data low (codes "b"))
    && are_rising_between (key.Data low (codes "b")) (key.Data high (codes "a"))) ≡ true
keys_of_data_are_ordered_by_account_and_then_by_bytes = refl

-- whatever its other fields have
an_entry_has_the_key_of_its_type : (account : AccountEntry) (held : TrustLineEntry) (offer : OfferEntry)
    (data_entry : DataEntry) (balance : ClaimableBalanceEntry) (pool : LiquidityPoolEntry)
    → (key_of_body (body.Account (record account { account_id = low })) ≡ key.Account low)
    × (key_of_body (body.TrustLine (record held { account_id = low; asset = line.PoolShare hash }))
    ≡ key.TrustLine low (line.PoolShare hash))
    × (key_of_body (body.Offer (record offer { seller_id = low; offer_id = pos 9 })) ≡ key.Offer low (pos 9))
    × (key_of_body (body.Data (record data_entry { account_id = low; data_name = codes "name" }))
    ≡ key.Data low (codes "name"))
    × (key_of_body (body.ClaimableBalance (record balance { balance_id = record { 0 = hash } }))
    ≡ key.ClaimableBalance (record { 0 = hash }))
    × (key_of_body (body.LiquidityPool (record pool { pool_id = hash })) ≡ key.LiquidityPool hash)
an_entry_has_the_key_of_its_type account held offer data_entry balance pool = (refl, refl, refl, refl, refl, refl)
