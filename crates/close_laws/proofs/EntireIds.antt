-- Ids of accounts have 32 bytes wherever entries have encodings, or the bytes of such.
use Rattle.std.proofs.Common.{◌≡◌, length, Some, subst}
use Rattle.std.specs.FinMap.{get}
use Rattle.close_rules.specs.ledger_types.declared.ids.AccountId.{AccountId}
use Rattle.close_rules.specs.ledger_types.declared.key.LedgerKey.{LedgerKey}
use Rattle.close_rules.specs.ledger_types.declared.entry.LedgerEntry.{LedgerEntry}
use Rattle.close_rules.specs.ledger_types.declared.entry.LedgerEntryBody.{LedgerEntryBody}
use Rattle.close_rules.specs.ledger_types.declared.entry.LedgerEntryBody.TheVariants as body
use Rattle.close_rules.specs.ledger_types.Keys.{key_of, key_of_body}
use Rattle.bucket_levels.specs.entry_map.EntryMap.{EntryMap}
use Rattle.close_rules.specs.entry_changes.Encodable.{HasEntireId, HaveEntireIds}
use Rattle.close_laws.proofs.Prelude.{account_id, constant, fixed}
use Rattle.close_laws.proofs.Bytes.{IsId, AreBodyBytes, AreBytes}

id_entire : (id : AccountId) → IsId id → length id.0 ≡ 32
unfolding account_id constant fixed
id_entire id is = is.within.1

body_entire : (b : LedgerEntryBody) → AreBodyBytes b → HasEntireId (key_of_body b)
body_entire (body.Account account) bytes = id_entire account.account_id bytes.id
body_entire (body.TrustLine line) bytes = tt
body_entire (body.Offer offer) bytes = tt
body_entire (body.Data entry) bytes = tt
body_entire (body.ClaimableBalance balance) bytes = tt
body_entire (body.LiquidityPool pool) bytes = tt

pub ids_entire : (m : EntryMap) → ((k : LedgerKey) (e : LedgerEntry) → get m k ≡ Some e → key_of e ≡ k) → AreBytes m
    → HaveEntireIds m
ids_entire m keyed bytes k e there = subst HasEntireId (keyed k e there) (body_entire e.body (bytes k e there).body)
