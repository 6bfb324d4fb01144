-- Open sponsorships, and whose entries they may pay for (CAP-0033).
use Rattle.std.specs.Prelude.{◌≡◌, ◌≢◌, All, Some}
use Rattle.std.specs.List.{AllPairs}
use Rattle.hash_ids.specs.ledger_types.declared.ids.AccountId.{AccountId}
use Rattle.entry_sums.specs.entry_map.EntryMap.{EntryMap}
use Rattle.sponsor_laws.specs.entry_slots.Accounts.{HasAccount}
use Rattle.sponsor_laws.specs.sponsor_rules.declared.context.Ctx.{Ctx}
use Rattle.sponsor_laws.specs.sponsor_rules.Payers.{open_sponsor}

-- what holds of the sponsorships that are open: no account is sponsored in two of them or by itself, and each sponsor
-- exists
pub record AreSponsorshipsSound (ctx : Ctx) (m : EntryMap) : Type 0 where
  pub once : AllPairs (λ x y. x.sponsored ≢ y.sponsored) ctx.sponsorships
  pub other : All (λ x. x.sponsor ≢ x.sponsored) ctx.sponsorships
  pub exist : All (λ x. HasAccount m x.sponsor) ctx.sponsorships

-- an account's open sponsor exists, and is another account
pub record IsSponsorReady (ctx : Ctx) (owner : AccountId) (m : EntryMap) : Type 0 where
  pub exists : (sponsor : AccountId) → open_sponsor ctx owner ≡ Some sponsor → HasAccount m sponsor
  pub other : (sponsor : AccountId) → open_sponsor ctx owner ≡ Some sponsor → sponsor ≢ owner
