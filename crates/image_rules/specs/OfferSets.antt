-- Sets of the ids of offers.
use Rattle.std.specs.Prelude.{◌≡◌, ℤ, pos, ◌+ℤ◌, Bool, true, false, if◌then◌else◌}
use Rattle.std.specs.BTreeSet.{BTreeSet, contains}
use Rattle.std.specs.Ordering.{int_cmp}
use Rattle.ledger_types.specs.declared.entry.LedgerEntryBody.{LedgerEntryBody}
use Rattle.close_rules.specs.legal_rules.OfferIds.{offer_with_in}

-- 1 for an id that is in a set
abbrev pub id_among : BTreeSet ℤ → ℤ → ℤ
id_among ids id = if contains int_cmp ids id then pos 1 else pos 0

-- an entry brings no id that was there, and each that it brings is there then; or it brings one that was there
abbrev pub Brings : BTreeSet ℤ → BTreeSet ℤ → LedgerEntryBody → Bool → Type 0
Brings old new b true = (id : ℤ) → id_among new id ≡ (id_among old id +ℤ offer_with_in id b)
Brings old new b false = (id : ℤ) × (id_among old id ≡ pos 1) × (offer_with_in id b ≡ pos 1)
