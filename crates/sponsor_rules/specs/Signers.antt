-- Adding, removing and moving a signer: the new map, or why there is none (CAP-0033; SponsorshipUtils in stellar-core).
-- A signer counts as a subentry, and its sponsor is at its index among those of the account's signers.
use Rattle.std.specs.Prelude.{ℕ, Option, Some, None, Result, Ok}
use Rattle.ledger_types.specs.declared.ids.AccountId.{AccountId}
use Rattle.ledger_types.specs.declared.ids.Hash.{Hash}
use Rattle.ledger_types.specs.declared.signer.Signer.{Signer}
use Rattle.ledger_types.specs.declared.signer.SignerKey.{SignerKey}
use Rattle.ledger_types.specs.declared.signer.SignerKey.TheVariants.{PreAuthTx}
use Rattle.ledger_types.specs.declared.account.AccountEntry.{AccountEntry}
use Rattle.reserve_rules.specs.entry_map.EntryMap.{EntryMap}
use Rattle.reserve_rules.specs.entry_slots.Accounts.{account_at, with_account}
use Rattle.reserve_rules.specs.entry_slots.Tests.{unless_first}
use Rattle.sponsor_rules.specs.declared.context.Ctx.{Ctx}
use Rattle.sponsor_rules.specs.declared.fault.AddFault.{AddFault}
use Rattle.sponsor_rules.specs.declared.signer_index.FoundSigner.{FoundSigner}
use Rattle.sponsor_rules.specs.Paying.{map_after_charging, map_after_releasing, map_after_exchange, with_subentry}
use Rattle.sponsor_rules.specs.Paying.{without_subentry, with_other_payer}
use Rattle.sponsor_rules.specs.Payers.{open_sponsor, payer_other_than, subentry_tests_at, move_tests_at}
use Rattle.sponsor_rules.specs.SignerIndex.{found_signer, with_signer, without_signer, with_signer_sponsor}

-- ---- adding

-- an account with a signer more, which counts once
abbrev pub with_counted_signer : Signer → Option AccountId → AccountEntry → AccountEntry
with_counted_signer signer sponsor account = with_signer signer sponsor (with_subentry 1 sponsor account)

abbrev pub map_with_signer : AccountId → Signer → Option AccountId → EntryMap → EntryMap
map_with_signer id signer sponsor m = with_account (map_after_charging 1 sponsor m) id
    (with_counted_signer signer sponsor)

abbrev pub map_after_adding_signer : Ctx → AccountId → Signer → EntryMap → Result EntryMap AddFault
map_after_adding_signer ctx id signer m =
    unless_first (subentry_tests_at ctx m id 1) (map_with_signer id signer (open_sponsor ctx id) m)

-- ---- removing

-- an account without the signer that was found
abbrev pub without_counted_signer : FoundSigner → AccountEntry → AccountEntry
without_counted_signer found account = without_signer found.index (without_subentry 1 found.sponsor account)

abbrev pub map_without_signer : AccountId → EntryMap → Option FoundSigner → EntryMap
map_without_signer id m None = m
map_without_signer id m (Some found) = with_account (map_after_releasing 1 found.sponsor m) id
    (without_counted_signer found)

-- nothing changes where there is no such signer
abbrev pub map_after_removing_signer : AccountId → SignerKey → EntryMap → EntryMap
map_after_removing_signer id key m = map_without_signer id m (found_signer key (account_at m id))

-- a pre-authorised signer goes with the transaction that it represents
abbrev pub map_after_removing_preauth : AccountId → Hash → EntryMap → EntryMap
map_after_removing_preauth id hash m = map_after_removing_signer id (PreAuthTx hash) m

-- ---- moving

-- an account whose signer at an index another sponsor, or none, pays for
abbrev pub with_moved_signer : ℕ → (old new : Option AccountId) → AccountEntry → AccountEntry
with_moved_signer index old new account = with_signer_sponsor index new (with_other_payer 1 old new account)

-- A signer that had no sponsor and gets none stays as it is, and nothing is tested.
abbrev pub map_after_moving_signer_between : Ctx → AccountId → ℕ → (old new : Option AccountId) → EntryMap
    → Result EntryMap AddFault
map_after_moving_signer_between ctx id index None None m = Ok m
map_after_moving_signer_between ctx id index old new m =
    unless_first (move_tests_at ctx m id new 1) (with_account (map_after_exchange 1 old new m) id
    (with_moved_signer index old new))

abbrev pub map_after_moving_found : Ctx → AccountId → Option AccountId → EntryMap → Option FoundSigner
    → Result EntryMap AddFault
map_after_moving_found ctx id payer m None = Ok m
map_after_moving_found ctx id payer m (Some found) =
    map_after_moving_signer_between ctx id found.index found.sponsor (payer_other_than id payer) m

-- nothing changes where there is no such signer
abbrev pub map_after_moving_signer : Ctx → AccountId → SignerKey → Option AccountId → EntryMap
    → Result EntryMap AddFault
map_after_moving_signer ctx id key payer m = map_after_moving_found ctx id payer m (found_signer key (account_at m id))
