-- Who is recorded as paying an entry's reserve (CAP-0033).
use Rattle.std.specs.Prelude.{Option, Some, None}
use Rattle.entry_map.specs.ledger_types.declared.ids.AccountId.{AccountId}
use Rattle.entry_map.specs.ledger_types.declared.entry.LedgerEntry.{LedgerEntry}
use Rattle.entry_map.specs.ledger_types.declared.entry.LedgerEntryExtensionV1.{LedgerEntryExtensionV1}

abbrev pub sponsor_in : Option LedgerEntryExtensionV1 → Option AccountId
sponsor_in None = None
sponsor_in (Some ext) = ext.sponsoring_id

-- who is recorded as paying the entry's reserve, if somebody is
abbrev pub sponsor_of : LedgerEntry → Option AccountId
sponsor_of entry = sponsor_in entry.ext

-- an extension that names a sponsor, or none
abbrev pub sponsor_ext : Option AccountId → LedgerEntryExtensionV1
sponsor_ext sponsor = record { sponsoring_id = sponsor }

abbrev pub with_sponsor_in : Option AccountId → Option LedgerEntryExtensionV1 → Option LedgerEntryExtensionV1
with_sponsor_in None None = None
with_sponsor_in sponsor ext = Some (sponsor_ext sponsor)

-- An entry with another sponsor, or none. The extension is added for a sponsor, and never dropped.
abbrev pub with_sponsor : Option AccountId → LedgerEntry → LedgerEntry
with_sponsor sponsor entry = record entry { ext = with_sponsor_in sponsor entry.ext }
