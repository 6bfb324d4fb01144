-- Offers have distinct ids.
use Rattle.std.specs.Prelude.{ℤ, pos, ◌≤ℤ◌, if◌then◌else◌}
use Rattle.std.specs.Ordering.{is_eq, int_cmp}
use Rattle.hash_ids.specs.ledger_types.declared.entry.LedgerEntryBody.{LedgerEntryBody}
use Rattle.hash_ids.specs.ledger_types.declared.entry.LedgerEntryBody.TheVariants as body
use Rattle.entry_sums.specs.entry_map.EntryMap.{EntryMap}
use Rattle.entry_sums.specs.Sums.{Weight, total}

-- 1 for an offer with this id
abbrev pub offer_with_in : ℤ → LedgerEntryBody → ℤ
offer_with_in id (body.Offer offer) = if is_eq (int_cmp offer.offer_id id) then pos 1 else pos 0
offer_with_in id other = pos 0

abbrev pub offer_with : ℤ → Weight
offer_with id e = offer_with_in id e.body

-- no two offers have the same id
abbrev pub AreOffersApart : EntryMap → Type 0
AreOffersApart m = (id : ℤ) → total (offer_with id) m ≤ℤ pos 1
