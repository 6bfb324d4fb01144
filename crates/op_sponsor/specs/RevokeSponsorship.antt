-- REVOKE_SPONSORSHIP (RevokeSponsorshipOpFrame in stellar-core; CAP-0033).
use Rattle.std.specs.Prelude.{ℕ, ◌&&◌, ◌||◌, not, ◌∷◌, [], pos, int_le, nat_eq, is_some, Bool, true, false, length}
use Rattle.std.specs.Prelude.{Option}
use Rattle.std.specs.Prelude.{Some, None}
use Rattle.std.specs.FinMap.{get}
use Rattle.ledger_types.specs.declared.ids.AccountId.{AccountId}
use Rattle.ledger_types.specs.declared.asset.Asset.TheVariants as asset
use Rattle.ledger_types.specs.declared.asset.TrustLineAsset.{TrustLineAsset}
use Rattle.ledger_types.specs.declared.asset.TrustLineAsset.TheVariants as line
use Rattle.ledger_types.specs.declared.entry.LedgerEntry.{LedgerEntry}
use Rattle.ledger_types.specs.declared.key.LedgerKey.{LedgerKey}
use Rattle.ledger_types.specs.declared.key.LedgerKey.TheVariants as key
use Rattle.ledger_types.specs.declared.signer.SignerKey.{SignerKey}
use Rattle.op_types.specs.declared.operation_result.OperationResult.{OperationResult}
use Rattle.op_types.specs.declared.operation_result.OperationResult.TheVariants.{Inner}
use Rattle.op_types.specs.declared.operation_result.OperationResultTr.TheVariants as tr
use Rattle.op_types.specs.declared.sponsor_ops.RevokeSponsorshipOp.{RevokeSponsorshipOp}
use Rattle.op_types.specs.declared.sponsor_ops.RevokeSponsorshipOp.TheVariants as revoked
use Rattle.op_types.specs.declared.sponsor_results.RevokeSponsorshipResult.{RevokeSponsorshipResult}
use Rattle.op_types.specs.declared.sponsor_results.RevokeSponsorshipResult.TheVariants as revoke
use Rattle.valid_values.specs.Assets.{is_valid_asset}
use Rattle.valid_values.specs.Texts.{is_valid_text}
use Rattle.entry_map.specs.EntryMap.{EntryMap}
use Rattle.entry_slots.specs.Accounts.{account_at}
use Rattle.entry_slots.specs.Balances.{balance_in}
use Rattle.entry_slots.specs.EntrySponsor.{sponsor_of}
use Rattle.entry_slots.specs.Tests.{Tests}
use Rattle.sponsor_rules.specs.declared.context.Ctx.{Ctx}
use Rattle.sponsor_rules.specs.declared.signer_index.FoundSigner.{FoundSigner}
use Rattle.sponsor_rules.specs.Charge.{owner_of}
use Rattle.sponsor_rules.specs.Moving.{map_after_moving}
use Rattle.sponsor_rules.specs.Payers.{is_same_account, open_sponsor}
use Rattle.sponsor_rules.specs.SignerIndex.{found_signer}
use Rattle.sponsor_rules.specs.Signers.{map_after_moving_signer}
use Rattle.op_form.specs.Done.{Attempt}
use Rattle.op_form.specs.Steps.{unless_refused, after_charge, after_some, success}

abbrev pub answer : RevokeSponsorshipResult → OperationResult
answer code = Inner (tr.RevokeSponsorship code)

-- ---- keys

-- lines are held in valid credit assets of others and in shares of pools
abbrev pub is_held : AccountId → TrustLineAsset → Bool
is_held id line.Native = false
is_held id (line.Alphanum4 code issuer) =
    is_valid_asset (asset.Alphanum4 code issuer) && not (is_same_account issuer id)
is_held id (line.Alphanum12 code issuer) =
    is_valid_asset (asset.Alphanum12 code issuer) && not (is_same_account issuer id)
is_held id (line.PoolShare pool) = true

-- no entry that has a payer exists under the key in any ledger
abbrev pub is_malformed : LedgerKey → Bool
is_malformed (key.Account id) = false
is_malformed (key.TrustLine id asset) = not (is_held id asset)
is_malformed (key.Offer seller offer_id) = int_le offer_id (pos 0)
is_malformed (key.Data id name) = nat_eq (length name) 0 || not (is_valid_text name)
is_malformed (key.ClaimableBalance id) = false
is_malformed (key.LiquidityPool id) = true

-- ---- who may revoke

-- an account pays for a thing: as its sponsor, or as its owner where it has none
abbrev pub is_payer : AccountId → (sponsor owner : Option AccountId) → Bool
is_payer id (Some sponsor) owner = is_same_account sponsor id
is_payer id None (Some owner) = is_same_account owner id
is_payer id None None = false

-- ---- entries

-- A claimable balance names no owner, so it can't go back to one.
abbrev pub entry_tests : Ctx → LedgerEntry → Tests OperationResult
entry_tests ctx entry =
    (not (is_payer ctx.op_source (sponsor_of entry) (owner_of entry.body)), answer revoke.NotSponsor)
    ∷ (
      is_some (balance_in entry.body) && not (is_some (open_sponsor ctx ctx.op_source)),
      answer revoke.OnlyTransferable,
    )
    ∷ []

-- The open sponsor of the source pays from now on, unless that is the owner, and else the owner. What has no sponsor
-- and gets none stays.
abbrev pub entry_moved : Ctx → LedgerKey → EntryMap → Attempt
entry_moved ctx key m =
    after_charge (map_after_moving ctx key (open_sponsor ctx ctx.op_source) m) (answer revoke.LowReserve)
    (λ moved. success ctx (answer revoke.Success) moved [])

abbrev pub entry_revoked : Ctx → LedgerKey → EntryMap → Option LedgerEntry → Attempt
entry_revoked ctx key m found =
    after_some found (answer revoke.DoesNotExist)
    (λ entry. unless_refused (entry_tests ctx entry) (entry_moved ctx key m))

abbrev pub revoke_entry : Ctx → LedgerKey → EntryMap → Attempt
revoke_entry ctx key m =
    unless_refused ((is_malformed key, answer revoke.Malformed) ∷ []) (entry_revoked ctx key m (get m key))

-- ---- signers

abbrev pub signer_tests : Ctx → AccountId → FoundSigner → Tests OperationResult
signer_tests ctx id signer = (not (is_payer ctx.op_source signer.sponsor (Some id)), answer revoke.NotSponsor) ∷ []

abbrev pub signer_moved : Ctx → AccountId → SignerKey → EntryMap → Attempt
signer_moved ctx id key m =
    after_charge (map_after_moving_signer ctx id key (open_sponsor ctx ctx.op_source) m) (answer revoke.LowReserve)
    (λ moved. success ctx (answer revoke.Success) moved [])

abbrev pub signer_revoked : Ctx → AccountId → SignerKey → EntryMap → Option FoundSigner → Attempt
signer_revoked ctx id key m found =
    after_some found (answer revoke.DoesNotExist)
    (λ signer. unless_refused (signer_tests ctx id signer) (signer_moved ctx id key m))

-- an account that doesn't exist has no signer
abbrev pub revoke_signer : Ctx → AccountId → SignerKey → EntryMap → Attempt
revoke_signer ctx id key m = signer_revoked ctx id key m (found_signer key (account_at m id))

-- ---- the operation

abbrev pub revoke_sponsorship : Ctx → RevokeSponsorshipOp → EntryMap → Attempt
revoke_sponsorship ctx (revoked.LedgerEntry key) m = revoke_entry ctx key m
revoke_sponsorship ctx (revoked.Signer id key) m = revoke_signer ctx id key m
