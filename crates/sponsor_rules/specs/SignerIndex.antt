-- Where signers are, and an account with other signers.
use Rattle.std.specs.Prelude.{ℕ, List, Option, Some, None, slice_set}
use Rattle.std.specs.List.{insert, remove, position, prefix_len}
use Rattle.std.specs.Ordering.{is_lt, is_eq}
use Rattle.ledger_types.specs.declared.ids.AccountId.{AccountId}
use Rattle.ledger_types.specs.declared.signer.Signer.{Signer}
use Rattle.ledger_types.specs.declared.signer.SignerKey.{SignerKey}
use Rattle.ledger_types.specs.declared.account.AccountEntry.{AccountEntry}
use Rattle.ledger_types.specs.declared.account.AccountEntryExtensionV1.{AccountEntryExtensionV1}
use Rattle.ledger_types.specs.declared.account.AccountEntryExtensionV2.{AccountEntryExtensionV2}
use Rattle.ledger_types.specs.KeyOrder.{signer_key_cmp}
use Rattle.reserve_rules.specs.entry_slots.AccountExtensions.{signer_sponsor}
use Rattle.sponsor_rules.specs.declared.signer_index.FoundSigner.{FoundSigner}

-- ---- indices

-- the index of a new signer: after the signers at the start that have lower keys
abbrev pub index_for : SignerKey → List Signer → ℕ
index_for key signers = prefix_len (λ signer. is_lt (signer_key_cmp signer.key key)) signers

-- the index of the signer with a key
unfoldable pub index_of : SignerKey → List Signer → Option ℕ
index_of key signers = position (λ signer. is_eq (signer_key_cmp signer.key key)) signers

abbrev pub found_at : AccountEntry → Option ℕ → Option FoundSigner
found_at account None = None
found_at account (Some index) = Some (record { index = index; sponsor = signer_sponsor account index })

-- the index of the signer with a key, and who pays for it
abbrev pub found_signer : SignerKey → Option AccountEntry → Option FoundSigner
found_signer key None = None
found_signer key (Some account) = found_at account (index_of key account.signers)

-- ---- an account with other signers

abbrev pub with_sponsors_in : (List (Option AccountId) → List (Option AccountId)) → Option AccountEntryExtensionV2
    → Option AccountEntryExtensionV2
with_sponsors_in change None = None
with_sponsors_in change (Some ext) = Some (record ext { signer_sponsoring_ids = change ext.signer_sponsoring_ids })

-- an extension with other sponsors of signers, where there is one
abbrev pub with_sponsors : (List (Option AccountId) → List (Option AccountId)) → Option AccountEntryExtensionV1
    → Option AccountEntryExtensionV1
with_sponsors change None = None
with_sponsors change (Some ext) = Some (record ext { ext = with_sponsors_in change ext.ext })

abbrev pub with_signer_at : ℕ → Signer → Option AccountId → AccountEntry → AccountEntry
with_signer_at index signer sponsor account =
    record account {
      signers = insert account.signers index signer;
      ext = with_sponsors (λ sponsors. insert sponsors index sponsor) account.ext;
    }

-- An account with one signer more. A sponsor is recorded where the account has the extension, which it gets as its
-- count is raised.
abbrev pub with_signer : Signer → Option AccountId → AccountEntry → AccountEntry
with_signer signer sponsor account = with_signer_at (index_for signer.key account.signers) signer sponsor account

-- an account without the signer at an index
abbrev pub without_signer : ℕ → AccountEntry → AccountEntry
without_signer index account =
    record account {
      signers = remove account.signers index;
      ext = with_sponsors (λ sponsors. remove sponsors index) account.ext;
    }

-- an account whose signer at an index has another sponsor, or none
abbrev pub with_signer_sponsor : ℕ → Option AccountId → AccountEntry → AccountEntry
with_signer_sponsor index sponsor account =
    record account { ext = with_sponsors (λ sponsors. slice_set sponsors index sponsor) account.ext }
