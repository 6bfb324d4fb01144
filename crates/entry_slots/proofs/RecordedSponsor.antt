-- What an entry says of its sponsor once one is recorded.
use Rattle.entry_slots.proofs.Prelude.{◌≡◌, refl, Option, Some, None, AccountId}
use Rattle.entry_map.specs.ledger_types.declared.entry.LedgerEntryExtensionV1.{LedgerEntryExtensionV1}
use Rattle.entry_slots.specs.EntrySponsor.{sponsor_in, with_sponsor_in}

-- the sponsor that was recorded, or none
pub recorded_sponsor : (sponsor : Option AccountId) (ext : Option LedgerEntryExtensionV1)
    → sponsor_in (with_sponsor_in sponsor ext) ≡ sponsor
recorded_sponsor None None = refl
recorded_sponsor None (Some ext) = refl
recorded_sponsor (Some id) ext = refl
