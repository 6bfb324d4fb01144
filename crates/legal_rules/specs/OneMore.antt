-- One subentry more that is counted than exists: an offer whose reserve is paid before it is known what rests of it.
use Rattle.std.specs.Prelude.{◌≡◌, ◌≢◌, ℕ, ℤ, pos, neg_ℤ, ◌≤ℤ◌, Option, Some, Ok, if◌then◌else◌}
use Rattle.std.specs.FinMap.{get}
use Rattle.hash_ids.specs.ledger_types.declared.ids.AccountId.{AccountId}
use Rattle.hash_ids.specs.ledger_types.declared.key.LedgerKey.{LedgerKey}
use Rattle.hash_ids.specs.ledger_types.declared.key.LedgerKey.TheVariants as key
use Rattle.entry_sums.specs.entry_map.EntryMap.{EntryMap}
use Rattle.sponsor_laws.specs.entry_slots.Accounts.{HasAccount}
use Rattle.sponsor_laws.specs.sponsor_rules.declared.context.Ctx.{Ctx}
use Rattle.sponsor_laws.specs.sponsor_rules.Adding.{map_after_counting_subentry}
use Rattle.sponsor_laws.specs.sponsor_rules.Payers.{open_sponsor}
use Rattle.sponsor_laws.specs.sponsor_rules.Removing.{map_after_discounting}
use Rattle.sponsor_laws.specs.Sums.{is_there}
use Rattle.legal_rules.specs.Aggregates.{Subentries, Sponsoring, Sponsored, View}
use Rattle.legal_rules.specs.EntryKeys.{for_account}
use Rattle.legal_rules.specs.EntryLaws.{AreReservesSettled}
use Rattle.legal_rules.specs.OfferLaws.{AreTradesSettled}
use Rattle.legal_rules.specs.Owing.{Owed, nothing_owed, IsLegalOwing}
use Rattle.legal_rules.specs.Sponsorships.{IsSponsorReady}

-- what aggregates owe where one subentry of an account, for which a sponsor may pay, is counted and doesn't exist: more
-- is stated than is counted
abbrev pub one_more : AccountId → Option AccountId → Owed
one_more id sponsor Subentries k = neg_ℤ (for_account k (Some id) 1)
one_more id sponsor Sponsored k = neg_ℤ (for_account k (Some id) (if is_there sponsor then 1 else 0))
one_more id sponsor Sponsoring k = neg_ℤ (for_account k sponsor 1)
one_more id sponsor kind k = pos 0

-- No aggregate owes anything, and where more subentries are stated than are counted, no more are paid for by others.
pub record IsOwedRightly (owed : Owed) : Type 0 where
  pub reserves : AreReservesSettled owed
  pub trades : AreTradesSettled owed
  pub covered : (k : LedgerKey) → owed Subentries k ≤ℤ owed Sponsored k

abbrev pub OneMoreIsRight : Type 0
OneMoreIsRight = (id : AccountId) (sponsor : Option AccountId) → IsOwedRightly (one_more id sponsor)

-- A subentry is counted that doesn't exist. What is under other keys than accounts' is as it was.
abbrev pub SubentriesCounted : Type 0
SubentriesCounted =
    (v : View) (id_pool : ℕ) (sum : ℤ) (ctx : Ctx) (owner : AccountId) (m new : EntryMap)
    → IsLegalOwing v id_pool nothing_owed sum m → HasAccount m owner → IsSponsorReady ctx owner m
    → map_after_counting_subentry ctx owner 1 m ≡ Ok new
    → IsLegalOwing v id_pool (one_more owner (open_sponsor ctx owner)) sum new
    × ((k : LedgerKey) → ((x : AccountId) → k ≢ key.Account x) → get new k ≡ get m k)

-- It isn't counted any more.
abbrev pub SubentriesFreed : Type 0
SubentriesFreed =
    (v : View) (id_pool : ℕ) (sum : ℤ) (id : AccountId) (sponsor : Option AccountId) (m : EntryMap)
    → IsLegalOwing v id_pool (one_more id sponsor) sum m → ((x : AccountId) → sponsor ≡ Some x → x ≢ id)
    → IsLegalOwing v id_pool nothing_owed sum (map_after_discounting id 1 sponsor m)
