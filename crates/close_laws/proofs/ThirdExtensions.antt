-- Changes of counts, liabilities and sponsors of signers leave an account's third extension: what holds of it, and of
-- none, goes on holding.
use Rattle.close_rules.specs.entry_slots.AccountExtensions.{is_nothing, second_in, sponsorship_in, third_in}
use Rattle.close_rules.specs.entry_slots.AccountExtensions.{with_liabilities_in}
use Rattle.close_rules.specs.ledger_types.declared.account.AccountEntryExtensionV1.{AccountEntryExtensionV1}
use Rattle.close_rules.specs.ledger_types.declared.account.AccountEntryExtensionV2.{AccountEntryExtensionV2}
use Rattle.close_rules.specs.ledger_types.declared.account.AccountEntryExtensionV3.{AccountEntryExtensionV3}
use Rattle.close_rules.specs.ledger_types.declared.ids.AccountId.{AccountId}
use Rattle.close_rules.specs.ledger_types.declared.price.Liabilities.{Liabilities}
use Rattle.close_rules.specs.ledger_types.declared.signer.Signer.{Signer}
use Rattle.close_rules.specs.sponsor_rules.SignerIndex.{with_sponsors, with_sponsors_in}
use Rattle.std.specs.Prelude.{Bool, List, None, Option, Some, false, if◌then◌else◌, true}

module _ (P : Option AccountEntryExtensionV3 → Type 0) (none : P None) where
  pub sponsorship_third : (signers : List Signer) (ext : Option AccountEntryExtensionV2) → P (third_in ext)
      → P (sponsorship_in signers ext).ext
  sponsorship_third signers None third = third
  sponsorship_third signers (Some ext) third = third

  added_third : (b : Bool) (owed : Liabilities)
      → P (third_in (second_in (if b then None else Some (record { liabilities = owed; ext = None }))))
  added_third true owed = none
  added_third false owed = none

  pub liable_third : (owed : Liabilities) (ext : Option AccountEntryExtensionV1) → P (third_in (second_in ext))
      → P (third_in (second_in (with_liabilities_in owed ext)))
  liable_third owed None third = added_third (is_nothing owed) owed
  liable_third owed (Some ext) third = third

  changed_third : (change : List (Option AccountId) → List (Option AccountId))
      (second : Option AccountEntryExtensionV2) → P (third_in second) → P (third_in (with_sponsors_in change second))
  changed_third change None third = third
  changed_third change (Some ext) third = third

  pub sponsors_third : (change : List (Option AccountId) → List (Option AccountId))
      (ext : Option AccountEntryExtensionV1) → P (third_in (second_in ext))
      → P (third_in (second_in (with_sponsors change ext)))
  sponsors_third change None third = third
  sponsors_third change (Some ext) third = changed_third change ext.ext third
