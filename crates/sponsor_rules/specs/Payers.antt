-- Who pays a reserve, and whether it can (CAP-0033; SponsorshipUtils in stellar-core).
use Rattle.std.specs.Prelude.{◌≡◌, ℕ, ◌+◌, ◌*◌, ◌≤◌, pos, nat_lt, Bool, false, ◌||◌, [], ◌∷◌, Option, Some, None}
use Rattle.std.specs.Prelude.{if◌then◌else◌}
use Rattle.std.specs.List.{find}
use Rattle.std.specs.Option.{option_map}
use Rattle.std.specs.Ordering.{is_lt, int_cmp}
use Rattle.std.specs.Str.{bytes_eq}
use Rattle.ledger_types.specs.declared.ids.AccountId.{AccountId}
use Rattle.ledger_types.specs.declared.account.AccountEntry.{AccountEntry}
use Rattle.reserve_rules.specs.entry_map.EntryMap.{EntryMap}
use Rattle.reserve_rules.specs.entry_slots.Accounts.{account_at}
use Rattle.reserve_rules.specs.entry_slots.AccountExtensions.{num_sponsored}
use Rattle.reserve_rules.specs.entry_slots.Tests.{Tests}
use Rattle.reserve_rules.specs.Reserve.{available}
use Rattle.sponsor_rules.specs.declared.count.Count.TheVariants.{SubEntries, Sponsoring}
use Rattle.sponsor_rules.specs.declared.context.Ctx.{Ctx}
use Rattle.sponsor_rules.specs.declared.fault.AddFault.{AddFault}
use Rattle.sponsor_rules.specs.declared.fault.AddFault.TheVariants.{TooManySubentries, TooManySponsoring}
use Rattle.sponsor_rules.specs.declared.fault.AddFault.TheVariants.{LowReserve}
use Rattle.sponsor_rules.specs.Counting.{count_if}

-- ---- open sponsorships

abbrev pub is_same_account : AccountId → AccountId → Bool
is_same_account a b = bytes_eq a.0 b.0

-- who opened a sponsorship for an account, if somebody did
unfoldable pub open_sponsor : Ctx → AccountId → Option AccountId
open_sponsor ctx id =
    option_map (λ sponsorship. sponsorship.sponsor)
    (find (λ sponsorship. is_same_account sponsorship.sponsored id) ctx.sponsorships)

abbrev pub payer_by : AccountId → Option AccountId → AccountId
payer_by owner None = owner
payer_by owner (Some sponsor) = sponsor

-- who pays for what an account adds: its open sponsor, else itself
abbrev pub payer_of : Ctx → AccountId → AccountId
payer_of ctx owner = payer_by owner (open_sponsor ctx owner)

-- the payer, where that is another account than the owner
abbrev pub payer_other_than : AccountId → Option AccountId → Option AccountId
payer_other_than owner None = None
payer_other_than owner (Some payer) = if is_same_account payer owner then None else Some payer

-- ---- the tests of a payer, of accounts that may be missing

-- an owner would have more than 1000 subentries with k more
abbrev pub is_full : Option AccountEntry → ℕ → Bool
is_full owner k = nat_lt 1000 (count_if SubEntries owner + k)

-- with k reserves more, an account's subentries and the reserves that it pays as a sponsor would not fit 32 bits
-- together
abbrev pub is_over : Option AccountEntry → ℕ → Bool
is_over payer k = nat_lt 4294967295 (count_if SubEntries payer + count_if Sponsoring payer + k)

-- an account can't spend k reserves
abbrev pub is_short : ℕ → Option AccountEntry → ℕ → Bool
is_short base_reserve None k = false
is_short base_reserve (Some payer) k = is_lt (int_cmp (available payer base_reserve) (pos (k * base_reserve)))

abbrev pub payer_tests : ℕ → Option AccountEntry → ℕ → Tests AddFault
payer_tests base_reserve payer k = (is_over payer k, TooManySponsoring) ∷
    (is_short base_reserve payer k, LowReserve) ∷ []

abbrev pub subentry_tests : ℕ → (owner payer : Option AccountEntry) → ℕ → Tests AddFault
subentry_tests base_reserve owner payer k =
    (is_full owner k, TooManySubentries)
    ∷ (is_over payer k || is_over owner k, TooManySponsoring)
    ∷ (is_short base_reserve payer k, LowReserve)
    ∷ []

-- ---- the same tests of the accounts in a map

-- the tests of a payer that isn't the owner of a subentry
abbrev pub payer_tests_at : Ctx → EntryMap → AccountId → ℕ → Tests AddFault
payer_tests_at ctx m payer k = payer_tests ctx.base_reserve (account_at m payer) k

-- the tests of a subentry that is added
abbrev pub subentry_tests_at : Ctx → EntryMap → AccountId → ℕ → Tests AddFault
subentry_tests_at ctx m owner k = subentry_tests ctx.base_reserve (account_at m owner)
    (account_at m (payer_of ctx owner)) k

-- the tests of something that moves to another payer, or to its owner
abbrev pub move_tests_at : Ctx → EntryMap → AccountId → Option AccountId → ℕ → Tests AddFault
move_tests_at ctx m owner None k = (is_short ctx.base_reserve (account_at m owner) k, LowReserve) ∷ []
move_tests_at ctx m owner (Some payer) k = payer_tests_at ctx m payer k

-- ---- what an account has to meet before others pay for it

-- two reserves more of it can be paid by others
pub record IsReadyAccount (account : AccountEntry) : Type 0 where
  pub sponsored : num_sponsored account ≤ 4294967293

-- the account with this id is ready, if it exists
abbrev pub IsReady : EntryMap → AccountId → Type 0
IsReady m id = (account : AccountEntry) → account_at m id ≡ Some account → IsReadyAccount account
