-- What the tests of a payer say, once they let a change through.
use Rattle.sponsor_laws.proofs.Prelude as prelude
use prelude.{◌≡◌, ◌≢◌, refl, sym, ap, subst, ◌∙◌, ℕ, ◌+◌, ◌≤◌, Bool, true, false, ◌||◌, [], ◌∷◌, Option, Some, None, Ok}
use prelude.{arith, if◌then◌else◌, ltb-false, AccountId, EntryMap, Count, SubEntries, Sponsoring, Ctx, account_at}
use prelude.{HasAccount, Tests, first_fault, unless_fault, unless_first, count_at, count_if, is_full, is_over, is_short}
use prelude.{payer_of, payer_tests_at, subentry_tests_at, is_same_account, is_this, total, same_account}
use Rattle.std.proofs.lemmas.Bool.{or_parts}
use Rattle.sponsor_rules.specs.declared.fault.AddFault.{AddFault}
use Rattle.sponsor_rules.specs.declared.fault.AddFault.TheVariants.{TooManySubentries, TooManySponsoring}
use Rattle.sponsor_rules.specs.declared.fault.AddFault.TheVariants.{LowReserve}
use Rattle.sponsor_laws.proofs.Even.{IsEven, sums_of, all_few, all_fit, this_is}

-- ---- tests that let a change through

unless_first_same : (tests : Tests AddFault) (m new : EntryMap) → unless_first tests m ≡ Ok new
    → (first_fault tests ≡ None) × (m ≡ new)
unless_first_same tests m new is = elim (first_fault tests) as (λ o. first_fault tests ≡ o → unless_fault o m ≡ Ok new
    → (first_fault tests ≡ None) × (m ≡ new)) [
      | None ↦ λ none done. (none, cc)
      | Some fault ↦ λ some done. absurd (cc)
    ] refl is

first_passed : (b : Bool) (fault : AddFault) (tests : Tests AddFault) → first_fault ((b, fault) ∷ tests) ≡ None
    → (b ≡ false) × (first_fault tests ≡ None)
first_passed true fault tests is = absurd (cc)
first_passed false fault tests is = (refl, is)

pub done_by : (tests : Tests AddFault) (m new : EntryMap) → unless_first tests m ≡ Ok new → m ≡ new
done_by tests m new is = (unless_first_same tests m new is).1

-- a payer that passed
pub payer_passed : (ctx : Ctx) (m : EntryMap) (payer : AccountId) (k : ℕ) (after new : EntryMap)
    → unless_first (payer_tests_at ctx m payer k) after ≡ Ok new → is_over (account_at m payer) k ≡ false
payer_passed ctx m payer k after new is = (first_passed (is_over (account_at m payer) k) TooManySponsoring
    ((is_short ctx.base_reserve (account_at m payer) k, LowReserve) ∷ [])
    (unless_first_same (payer_tests_at ctx m payer k) after new is).0).0

-- an owner and a payer that passed
pub record HavePassed (ctx : Ctx) (m : EntryMap) (id : AccountId) (k : ℕ) : Type 0 where
  pub not_full : is_full (account_at m id) k ≡ false
  pub payer : is_over (account_at m (payer_of ctx id)) k ≡ false
  pub owner : is_over (account_at m id) k ≡ false

pub have_passed : (ctx : Ctx) (m : EntryMap) (owner : AccountId) (k : ℕ) (after new : EntryMap)
    → unless_first (subentry_tests_at ctx m owner k) after ≡ Ok new → HavePassed ctx m owner k
have_passed ctx m owner k after new is =
    let short : Tests AddFault =
    (is_short ctx.base_reserve (account_at m (payer_of ctx owner)) k, LowReserve) ∷ [] in
    let full = first_passed (is_full (account_at m owner) k) TooManySubentries ((
      is_over
          (account_at m (payer_of ctx owner)) k || is_over (account_at m owner) k,
      TooManySponsoring,
    ) ∷ short)
    (unless_first_same (subentry_tests_at ctx m owner k) after new is).0 in
    let over = or_parts (is_over (account_at m (payer_of ctx owner)) k) (is_over (account_at m owner) k)
    (first_passed (is_over (account_at m (payer_of ctx owner)) k || is_over
    (account_at m owner) k) TooManySponsoring short full.1).0 in
    record { not_full = full.0; payer = over.0; owner = over.1 }

-- ---- room

count_at_total : (m : EntryMap) (id : AccountId) (count : Count) → IsEven m → HasAccount m id
    → count_at m id count ≡ total count id m
count_at_total m id count h exists = ap (count_if count) exists.1 ∙ sums_of m h id exists.0 count exists.1

pub has_few : (m : EntryMap) (id : AccountId) (k : ℕ) → IsEven m → HasAccount m id → is_full (account_at m id) k ≡ false
    → total SubEntries id m + k ≤ 1000
has_few m id k h exists not_full = let count = count_at_total m id SubEntries h exists in
    let le = ltb-false _ _ not_full in omega arith

pub has_room : (m : EntryMap) (id : AccountId) (k : ℕ) → IsEven m → HasAccount m id
    → is_over (account_at m id) k ≡ false → total SubEntries id m + total Sponsoring id m + k ≤ 4294967295
has_room m id k h exists not_over =
    let subs = count_at_total m id SubEntries h exists in
    let pays = count_at_total m id Sponsoring h exists in
    let le = ltb-false _ _ not_over in
    omega arith

one_more : (b : Bool) (t k n : ℕ) → (b ≡ true → t + k ≤ n) → t ≤ n → t + (if b then k else 0) ≤ n
one_more true t k n more le = more refl
one_more false t k n more le = omega arith

one_of_two : (b c : Bool) (t k n : ℕ) → (b ≡ true → t + k ≤ n) → (c ≡ true → t + k ≤ n) → (b ≡ true → c ≡ true → ⊥)
    → t ≤ n → t + ((if b then k else 0) + (if c then k else 0)) ≤ n
one_of_two true true t k n first second apart le = absurd (apart refl refl)
one_of_two true false t k n first second apart le = let more = first refl in omega arith
one_of_two false true t k n first second apart le = let more = second refl in omega arith
one_of_two false false t k n first second apart le = omega arith

-- an account with room for k subentries more has few, and so has each other one
pub few_more : (m : EntryMap) (owner id : AccountId) (k : ℕ) → IsEven m → total SubEntries owner m + k ≤ 1000
    → total SubEntries id m + (if is_same_account owner id then k else 0) ≤ 1000
few_more m owner id k h le = one_more (is_same_account owner id) (total SubEntries id m) k 1000
    (λ is. subst (λ x. total SubEntries x m + k ≤ 1000) (same_account owner id is) le) (all_few m id h)

abbrev pub HasRoom : EntryMap → AccountId → ℕ → Type 0
HasRoom m id k = total SubEntries id m + total Sponsoring id m + k ≤ 4294967295

-- a payer with room pays for k more
pub pays_more : (m : EntryMap) (id : AccountId) (payer : Option AccountId) (k : ℕ) → IsEven m
    → ((s : AccountId) → payer ≡ Some s → HasRoom m s k)
    → total SubEntries id m + total Sponsoring id m + (if is_this id payer then k else 0) ≤ 4294967295
pays_more m id payer k h room = one_more (is_this id payer) (total SubEntries id m + total Sponsoring id m) k 4294967295
    (λ is. room id (this_is id payer is)) (all_fit m id h)

-- an owner with room has k subentries more, which another one with room may pay
pub both_more : (m : EntryMap) (id owner : AccountId) (payer : Option AccountId) (k : ℕ) → IsEven m → HasRoom m owner k
    → ((s : AccountId) → payer ≡ Some s → HasRoom m s k × (s ≢ owner))
    → total SubEntries id m + total Sponsoring id m +
    ((if is_same_account owner id then k else 0) + (if is_this id payer then k else 0)) ≤ 4294967295
both_more m id owner payer k h owner_room room = one_of_two (is_same_account owner id) (is_this id payer)
    (total SubEntries id m + total Sponsoring id m) k 4294967295
    (λ is. subst (λ x. HasRoom m x k) (same_account owner id is) owner_room)
    (λ is. (room id (this_is id payer is)).0)
    (λ owns pays. (room id (this_is id payer pays)).1 (sym (same_account owner id owns)))
    (all_fit m id h)
