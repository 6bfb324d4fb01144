-- What adding, moving and removing leave of the accounts of a map.
use Rattle.legal_rules.proofs.Prelude as prelude
use prelude.{◌≡◌, ◌≢◌, refl, sym, ap, subst, ◌∙◌, ℕ, ◌*◌, ◌≤◌, true, false, ◌||◌, [], ◌∷◌, Option, Some, None, Ok}
use prelude.{arith, ints, ℤ, pos, ◌+ℤ◌, ◌≤ℤ◌, get, AccountId, Asset, AccountEntry, LedgerEntry, LedgerKey, key_of}
use prelude.{EntryMap, put, erase, account_of, account_at, with_account, with_sponsor, Tests, first_fault, part}
use prelude.{erase_each, available, Ctx, with_more, with_less, map_with_recorded, map_with_sponsor}
use prelude.{map_with_other_payer, map_after_moving_between, map_after_charging, map_after_releasing}
use prelude.{map_after_exchange, with_other_payer, with_subentry, without_subentry, sponsored_entry, map_after_counting}
use prelude.{map_after_adding_subentry, is_same_account, is_full, is_over, is_short, payer_of, payer_tests_at}
use prelude.{move_tests_at, subentry_tests_at, payer_by, open_sponsor, same_account, apart_accounts, with_count_keeps}
use prelude.{core_kept, KeepsCore, held, IsKeyed, none_more, under_key, erase_elsewhere, put_elsewhere, add_zero}
use prelude.{at_most_trans}
use Rattle.hash_ids.specs.ledger_types.declared.key.LedgerKey.TheVariants as key
use Rattle.sponsor_laws.specs.sponsor_rules.declared.fault.AddFault.{AddFault}
use Rattle.sponsor_laws.specs.sponsor_rules.declared.fault.AddFault.TheVariants.{TooManySubentries, TooManySponsoring}
use Rattle.sponsor_laws.specs.sponsor_rules.declared.fault.AddFault.TheVariants.{LowReserve}
use Rattle.sponsor_laws.specs.sponsor_rules.declared.count.Count.TheVariants as count
use Rattle.legal_rules.proofs.Indices.{account_after, account_elsewhere}
use Rattle.legal_rules.proofs.ReservesLeft.{pays_more, pays_less, pays_from, other_payer_charged, available_still}
use Rattle.legal_rules.proofs.ReservesLeft.{enough_of}
use Rattle.legal_rules.proofs.ReservesLeft.{next_still, next_covers, subentry_charged, no_subentry_charged}
use Rattle.legal_rules.proofs.Holdings.{still_holds, none_under, put_same}
use Rattle.legal_rules.proofs.Holdings.{erase_holds}
use Rattle.legal_rules.proofs.Leaving.{IsNext, Leaves, leaves_itself, leaves_as, keeps_both, accounts_kept}
use Rattle.legal_rules.proofs.Leaving.{account_kept}
use Rattle.legal_rules.proofs.Leaving.{no_account_changed, put_accounts, keyed_put}
use Rattle.legal_rules.proofs.Passed.{first_passed}
use Rattle.legal_rules.proofs.Passed.{unless_first_ok}

-- ---- tests

-- a payer of k reserves had them
pub payer_had : (ctx : Ctx) (m : EntryMap) (payer : AccountId) (k : ℕ)
    → first_fault (payer_tests_at ctx m payer k) ≡ None → (a : AccountEntry) → account_at m payer ≡ Some a
    → pos (k * ctx.base_reserve) ≤ℤ available a ctx.base_reserve
payer_had ctx m payer k none a exists =
    let short : Tests AddFault = (is_short ctx.base_reserve (account_at m payer) k, LowReserve) ∷ [] in
    let over = first_passed (is_over (account_at m payer) k) TooManySponsoring short none in
    let test = first_passed (is_short ctx.base_reserve (account_at m payer) k) LowReserve [] over.1 in
    enough_of ctx.base_reserve k a (ap (λ o. is_short ctx.base_reserve o k) (sym exists) ∙ test.0)

pub owner_had : (ctx : Ctx) (m : EntryMap) (owner : AccountId) (k : ℕ)
    → first_fault (move_tests_at ctx m owner None k) ≡ None → (a : AccountEntry) → account_at m owner ≡ Some a
    → pos (k * ctx.base_reserve) ≤ℤ available a ctx.base_reserve
owner_had ctx m owner k none a exists =
    let test = first_passed (is_short ctx.base_reserve (account_at m owner) k) LowReserve [] none in
    enough_of ctx.base_reserve k a (ap (λ o. is_short ctx.base_reserve o k) (sym exists) ∙ test.0)

pub subentry_payer_had : (ctx : Ctx) (m : EntryMap) (owner : AccountId) (k : ℕ)
    → first_fault (subentry_tests_at ctx m owner k) ≡ None → (a : AccountEntry)
    → account_at m (payer_of ctx owner) ≡ Some a → pos (k * ctx.base_reserve) ≤ℤ available a ctx.base_reserve
subentry_payer_had ctx m owner k none a exists =
    let payer = account_at m (payer_of ctx owner) in
    let short : Tests AddFault = (is_short ctx.base_reserve payer k, LowReserve) ∷ [] in
    let full = first_passed (is_full (account_at m owner) k) TooManySubentries ((
      is_over payer k || is_over (account_at m owner) k,
      TooManySponsoring,
    ) ∷ short) none in
    let over = first_passed (is_over payer k || is_over (account_at m owner) k) TooManySponsoring short full.1 in
    let test = first_passed (is_short ctx.base_reserve payer k) LowReserve [] over.1 in
    enough_of ctx.base_reserve k a (ap (λ o. is_short ctx.base_reserve o k) (sym exists) ∙ test.0)

-- ---- payers

abbrev HadEnough : ℕ → ℕ → Option AccountId → EntryMap → Type 0
HadEnough base k t m = (x : AccountId) → t ≡ Some x → (a : AccountEntry) → account_at m x ≡ Some a
    → pos (k * base) ≤ℤ available a base

pub charging_kept : (base k : ℕ) (t : Option AccountId) (m : EntryMap) → IsKeyed m → HadEnough base k t m
    → Leaves base none_more m (map_after_charging k t m)
charging_kept base k None m keyed had = leaves_itself base m keyed
charging_kept base k (Some x) m keyed had = account_kept base m keyed x (with_more count.Sponsoring k)
    (λ a exists. next_covers base k a (with_more count.Sponsoring k a) (pays_more k a) (had x refl a exists))

pub releasing_kept : (base k : ℕ) (s : Option AccountId) (m : EntryMap) → IsKeyed m
    → Leaves base none_more m (map_after_releasing k s m)
releasing_kept base k None m keyed = leaves_itself base m keyed
releasing_kept base k (Some x) m keyed = account_kept base m keyed x (with_less count.Sponsoring k)
    (λ a exists. next_still base a (with_less count.Sponsoring k a) (pays_less k a))

-- an account after a payer of k reserves was released
pub record IsReleased (base : ℕ) (m : EntryMap) (x : AccountId) (b : AccountEntry) : Type 0 where
  pub was : AccountEntry
  pub existed : account_at m x ≡ Some was
  pub more : available was base ≤ℤ available b base
  pub subentries : b.num_sub_entries ≡ was.num_sub_entries
  pub core : KeepsCore was b

itself_released : (base : ℕ) (m : EntryMap) (x : AccountId) (b : AccountEntry) → account_at m x ≡ Some b
    → IsReleased base m x b
itself_released base m x b exists = record {
  was = b;
  existed = exists;
  more = itself (available b base);
  subentries = refl;
  core = core_kept b;
}
  where
    itself : (n : ℤ) → n ≤ℤ n
    itself n = omega (arith, ints)

released_from : (base k : ℕ) (y : AccountId) (m : EntryMap) → IsKeyed m → (x : AccountId) (b : AccountEntry)
    → account_at (with_account m y (with_less count.Sponsoring k)) x ≡ Some b → (o : Option AccountEntry)
    → account_at m y ≡ o → IsReleased base m x b
released_from base k y m keyed x b there None none = itself_released base m x b
    (sym (ap (λ n. account_at n x) (no_account_changed m y (with_less count.Sponsoring k) none)) ∙ there)
released_from base k y m keyed x b there (Some a) exists =
    let f = with_less count.Sponsoring k in
    let named = (pays_less k a).core.id in
    elim (is_same_account x y) as (λ t. is_same_account x y ≡ t → IsReleased base m x b) [
      | true ↦ λ is.
          let same = same_account x y is in
          let here = account_after m y f a keyed exists named in
          let at = ap (account_at (with_account m y f)) (sym same) in
          let now : f a ≡ b = cc in
          record {
            was = a;
            existed = ap (account_at m) same ∙ exists;
            more = subst (λ c. available a base ≤ℤ available c base) now (available_still base a (f a) (pays_less k a));
            subentries = ap (λ (c : AccountEntry). c.num_sub_entries) (sym now)
                ∙ with_count_keeps count.Sponsoring count.SubEntries _ a (λ e. absurd (cc e));
            core = subst (KeepsCore a) now (pays_less k a).core;
          }
      | false ↦ λ is. itself_released base m x b
          (sym (account_elsewhere m y f a keyed exists named x (apart_accounts x y is)) ∙ there)
    ] refl

pub released_at : (base k : ℕ) (s : Option AccountId) (m : EntryMap) → IsKeyed m → (x : AccountId) (b : AccountEntry)
    → account_at (map_after_releasing k s m) x ≡ Some b → IsReleased base m x b
released_at base k None m keyed x b there = itself_released base m x b there
released_at base k (Some y) m keyed x b there = released_from base k y m keyed x b there (account_at m y) refl

-- who had enough has it after a payer was released
still_had : (base k : ℕ) (s t : Option AccountId) (m : EntryMap) → IsKeyed m → HadEnough base k t m
    → HadEnough base k t (map_after_releasing k s m)
still_had base k s t m keyed had x is b there =
    let r = released_at base k s m keyed x b there in
    at_most_trans (pos (k * base)) (available r.was base) (available b base) (had x is r.was r.existed) r.more

pub exchange_kept : (base k : ℕ) (s t : Option AccountId) (m : EntryMap) → IsKeyed m → HadEnough base k t m
    → Leaves base none_more m (map_after_exchange k s t m)
exchange_kept base k s t m keyed had =
    let first = releasing_kept base k s m keyed in
    keeps_both base m (map_after_releasing k s m) (map_after_exchange k s t m) first
    (charging_kept base k t (map_after_releasing k s m) first.keyed (still_had base k s t m keyed had))

-- ---- entries

-- what is put or erased under the key of no account leaves the accounts
pub put_beside : (m : EntryMap) (e : LedgerEntry) → ((id : AccountId) → key.Account id ≢ key_of e) → (id : AccountId)
    → account_at (put m e) id ≡ account_at m id
unfolding account_at
put_beside m e apart id = ap account_of (put_elsewhere m e (key.Account id) (apart id))

pub erase_beside : (m : EntryMap) (k : LedgerKey) (id : AccountId) → key.Account id ≢ k
    → account_at (erase m k) id ≡ account_at m id
unfolding account_at
erase_beside m k id apart = ap account_of (erase_elsewhere m k (key.Account id) apart)

-- what an entry held is gone with it
pub erased_left : (base : ℕ) (m : EntryMap) (k : LedgerKey) (amounts : Asset → ℤ) → IsKeyed m
    → ((id : AccountId) → key.Account id ≢ k) → ((x : Asset) → (part (held x) (get m k) +ℤ amounts x) ≡ pos 0)
    → Leaves base (under_key k amounts) m (erase m k)
erased_left base m k amounts keyed apart none = accounts_kept base (under_key k amounts) m (erase m k)
    (erase_each (λ q e. key_of e ≡ q) m k keyed) (λ id. erase_beside m k id (apart id))
    (erase_holds m k amounts none)

-- an entry that held nothing
pub erased_kept : (base : ℕ) (m : EntryMap) (k : LedgerKey) → IsKeyed m → ((id : AccountId) → key.Account id ≢ k)
    → ((x : Asset) → part (held x) (get m k) ≡ pos 0) → Leaves base none_more m (erase m k)
erased_kept base m k keyed apart none = leaves_as base (under_key k (λ x. pos 0)) none_more m (erase m k)
    (erased_left base m k (λ x. pos 0) keyed apart (λ x. add_zero (part (held x) (get m k)) ∙ none x))
    (none_under k (λ x. pos 0) (λ x. refl))

recorded_kept : (base : ℕ) (m : EntryMap) (k : LedgerKey) (t : Option AccountId) → IsKeyed m
    → (o : Option LedgerEntry) → get m k ≡ o → Leaves base none_more m (map_with_recorded m t o)
recorded_kept base m k t keyed None there = leaves_itself base m keyed
recorded_kept base m k t keyed (Some e) there = accounts_kept base none_more m (put m (with_sponsor t e))
    (keyed_put m (with_sponsor t e) keyed)
    (put_accounts m (with_sponsor t e) (sym (ap account_of (ap (get m) (keyed k e there) ∙ there))))
    (put_same m (with_sponsor t e) (λ x. sym (ap (part (held x)) (ap (get m) (keyed k e there) ∙ there))))

pub sponsor_kept : (base : ℕ) (m : EntryMap) (k : LedgerKey) (t : Option AccountId) → IsKeyed m
    → Leaves base none_more m (map_with_sponsor k t m)
unfolding map_with_sponsor
sponsor_kept base m k t keyed = recorded_kept base m k t keyed (get m k) refl

-- ---- what moves

-- an owner has enough, or others pay
abbrev pub OwnerHad : ℕ → ℕ → (old new : Option AccountId) → AccountId → EntryMap → Type 0
OwnerHad base k (Some s) None owner m = (a : AccountEntry) → account_at m owner ≡ Some a
    → pos (k * base) ≤ℤ available a base
OwnerHad base k old new owner m = Unit {0}

-- the next account of an owner for whom another one, or himself, pays
pub next_payer : (base k : ℕ) (s t : Option AccountId) (owner : AccountId) (m : EntryMap) → IsKeyed m
    → OwnerHad base k s t owner m → (a : AccountEntry)
    → account_at (map_after_exchange k s t m) owner ≡ Some a → IsNext base (pos 0) a (with_other_payer k s t a)
next_payer base k None None owner m keyed had a exists = next_still base a (with_other_payer k None None a)
    (other_payer_charged k None None a)
next_payer base k None (Some x) owner m keyed had a exists = next_still base a (with_other_payer k None (Some x) a)
    (other_payer_charged k None (Some x) a)
next_payer base k (Some y) None owner m keyed had a exists =
    let r = released_at base k (Some y) m keyed owner a exists in
    next_covers base k a (with_other_payer k (Some y) None a) (other_payer_charged k (Some y) None a)
    (at_most_trans (pos (k * base)) (available r.was base) (available a base) (had r.was r.existed) r.more)
next_payer base k (Some y) (Some x) owner m keyed had a exists = next_still base a
    (with_other_payer k (Some y) (Some x) a) (other_payer_charged k (Some y) (Some x) a)

-- Payers are exchanged, and then the owner's account is changed.
pub exchanged_kept : (base k : ℕ) (s t : Option AccountId) (owner : AccountId) (f : AccountEntry → AccountEntry)
    (m : EntryMap) → IsKeyed m → HadEnough base k t m
    → ((a : AccountEntry) → account_at (map_after_exchange k s t m) owner ≡ Some a → IsNext base (pos 0) a (f a))
    → Leaves base none_more m (with_account (map_after_exchange k s t m) owner f)
exchanged_kept base k s t owner f m keyed had next =
    let first = exchange_kept base k s t m keyed had in
    let now = map_after_exchange k s t m in
    keeps_both base m now (with_account now owner f) first (account_kept base now first.keyed owner f next)

-- a payer that is there passed the tests, and so did an owner who gets it back
pub payers_had : (ctx : Ctx) (m : EntryMap) (owner : AccountId) (k : ℕ) (s t : Option AccountId)
    → first_fault (move_tests_at ctx m owner t k) ≡ None
    → HadEnough ctx.base_reserve k t m × OwnerHad ctx.base_reserve k s t owner m
payers_had ctx m owner k None None none = (λ x is. absurd (cc), tt)
payers_had ctx m owner k (Some y) None none = (λ x is. absurd (cc), owner_had ctx m owner k none)
payers_had ctx m owner k None (Some x) none = (
  (λ z is. let same : x ≡ z = cc in subst (λ w. (a : AccountEntry) → account_at m w ≡ Some a
      → pos (k * ctx.base_reserve) ≤ℤ available a ctx.base_reserve) same (payer_had ctx m x k none)),
  tt,
)
payers_had ctx m owner k (Some y) (Some x) none = (
  (λ z is. let same : x ≡ z = cc in subst (λ w. (a : AccountEntry) → account_at m w ≡ Some a
      → pos (k * ctx.base_reserve) ≤ℤ available a ctx.base_reserve) same (payer_had ctx m x k none)),
  tt,
)

module _ (ctx : Ctx) (k : LedgerKey) (owner : AccountId) (n : ℕ) (m new : EntryMap) (keyed : IsKeyed m) where
  abbrev base : ℕ
  base = ctx.base_reserve

  moved_so : (s t : Option AccountId) → first_fault (move_tests_at ctx m owner t n) ≡ None
      → map_with_sponsor k t (map_with_other_payer owner n s t m) ≡ new → Leaves base none_more m new
  moved_so s t none is =
      let had = payers_had ctx m owner n s t none in
      let now = map_with_other_payer owner n s t m in
      let first = exchanged_kept base n s t owner (with_other_payer n s t) m keyed had.0
      (next_payer base n s t owner m keyed had.1) in
      subst (Leaves base none_more m) is (keeps_both base m now (map_with_sponsor k t now) first
      (sponsor_kept base now k t first.keyed))

  pub moved_between : (s t : Option AccountId) → map_after_moving_between ctx k owner n s t m ≡ Ok new
      → Leaves base none_more m new
  moved_between None None done = let same : m ≡ new = cc in
      subst (Leaves base none_more m) same (leaves_itself base m keyed)
  moved_between None (Some x) done = let test = unless_first_ok (move_tests_at ctx m owner (Some x) n) _ new done in
      moved_so None (Some x) test.0 test.1
  moved_between (Some y) None done = let test = unless_first_ok (move_tests_at ctx m owner None n) _ new done in
      moved_so (Some y) None test.0 test.1
  moved_between (Some y) (Some x) done = let test = unless_first_ok (move_tests_at ctx m owner (Some x) n) _ new done in
      moved_so (Some y) (Some x) test.0 test.1

-- ---- what is added

-- the payer had enough, and so had an owner who pays himself
charged_next : (ctx : Ctx) (m : EntryMap) (owner : AccountId) (k : ℕ)
    → first_fault (subentry_tests_at ctx m owner k) ≡ None → (t : Option AccountId) → open_sponsor ctx owner ≡ t
    → (a : AccountEntry) → account_at (map_after_charging k t m) owner ≡ Some a
    → IsNext ctx.base_reserve (pos 0) a (with_subentry k t a)
charged_next ctx m owner k none None is a exists = next_covers ctx.base_reserve k a (with_subentry k None a)
    (subentry_charged k None a)
    (subentry_payer_had ctx m owner k none a (ap (λ o. account_at m (payer_by owner o)) is ∙ exists))
charged_next ctx m owner k none (Some x) is a exists = next_still ctx.base_reserve a (with_subentry k (Some x) a)
    (subentry_charged k (Some x) a)

charged_had : (ctx : Ctx) (m : EntryMap) (owner : AccountId) (k : ℕ)
    → first_fault (subentry_tests_at ctx m owner k) ≡ None → (t : Option AccountId) → open_sponsor ctx owner ≡ t
    → HadEnough ctx.base_reserve k t m
charged_had ctx m owner k none t is x same a exists = subentry_payer_had ctx m owner k none a
    (ap (λ o. account_at m (payer_by owner o)) (is ∙ same) ∙ exists)

-- a payer, if there is one, is charged
pub charging_left : (ctx : Ctx) (m : EntryMap) (owner : AccountId) (k : ℕ) → IsKeyed m
    → first_fault (subentry_tests_at ctx m owner k) ≡ None
    → Leaves ctx.base_reserve none_more m (map_after_charging k (open_sponsor ctx owner) m)
charging_left ctx m owner k keyed none = charging_kept ctx.base_reserve k (open_sponsor ctx owner) m keyed
    (charged_had ctx m owner k none (open_sponsor ctx owner) refl)

-- A payer, if there is one, is charged, and then the owner's account is changed.
pub charged_kept : (ctx : Ctx) (m : EntryMap) (owner : AccountId) (k : ℕ) → IsKeyed m
    → first_fault (subentry_tests_at ctx m owner k) ≡ None → (f : AccountEntry → AccountEntry)
    → ((a : AccountEntry) → account_at (map_after_charging k (open_sponsor ctx owner) m) owner ≡ Some a
    → IsNext ctx.base_reserve (pos 0) a (with_subentry k (open_sponsor ctx owner) a)
    → IsNext ctx.base_reserve (pos 0) a (f a))
    → Leaves ctx.base_reserve none_more m
    (with_account (map_after_charging k (open_sponsor ctx owner) m) owner f)
charged_kept ctx m owner k keyed none f on =
    let t = open_sponsor ctx owner in
    let now = map_after_charging k t m in
    let first = charging_left ctx m owner k keyed none in
    keeps_both ctx.base_reserve m now (with_account now owner f) first
    (account_kept ctx.base_reserve now first.keyed owner f
    (λ a exists. on a exists (charged_next ctx m owner k none t refl a exists)))

sponsored_key : (t : Option AccountId) (e : LedgerEntry) → key_of (sponsored_entry t e) ≡ key_of e
sponsored_key None e = refl
sponsored_key (Some x) e = refl

sponsored_held : (t : Option AccountId) (e : LedgerEntry) (x : Asset) → held x (sponsored_entry t e) ≡ held x e
sponsored_held None e x = refl
sponsored_held (Some sponsor) e x = refl

-- a line, an offer or data is added that holds nothing, where nothing was held
pub subentry_kept : (ctx : Ctx) (m : EntryMap) (owner : AccountId) (k : ℕ) (e : LedgerEntry) (new : EntryMap)
    → IsKeyed m → ((id : AccountId) → key.Account id ≢ key_of e) → ((x : Asset) → held x e ≡ pos 0)
    → ((x : Asset) → part (held x) (get m (key_of e)) ≡ pos 0) → map_after_adding_subentry ctx e owner k m ≡ Ok new
    → Leaves ctx.base_reserve none_more m new
subentry_kept ctx m owner k e new keyed apart none free done =
    let t = open_sponsor ctx owner in
    let now = map_after_counting owner k t m in
    let added = sponsored_entry t e in
    let test = unless_first_ok (subentry_tests_at ctx m owner k) (put now added) new done in
    let first = charged_kept ctx m owner k keyed test.0 (with_subentry k t) (λ a exists next. next) in
    subst (Leaves ctx.base_reserve none_more m) test.1
    (keeps_both ctx.base_reserve m now (put now added) first
    (accounts_kept ctx.base_reserve none_more now (put now added) (keyed_put now added first.keyed)
    (put_beside now added (λ id same. apart id (same ∙ sponsored_key t e)))
    (put_same now added (λ x. sponsored_held t e x ∙ none x
    ∙ sym (ap (λ q. part (held x) (get now q)) (sponsored_key t e) ∙ still_holds m now first.holds (key_of e) x
    ∙ free x)))))

-- ---- what is removed

-- A payer, if there is one, is released, and then the owner's account is changed, which had k subentries.
pub discharged_kept : (base k : ℕ) (owner : AccountId) (s : Option AccountId) (m : EntryMap) → IsKeyed m
    → ((a : AccountEntry) → account_at m owner ≡ Some a → k ≤ a.num_sub_entries) → (f : AccountEntry → AccountEntry)
    → ((a : AccountEntry) → IsNext base (pos 0) a (without_subentry k s a) → IsNext base (pos 0) a (f a))
    → Leaves base none_more m (with_account (map_after_releasing k s m) owner f)
discharged_kept base k owner s m keyed had f on =
    let now = map_after_releasing k s m in
    let first = releasing_kept base k s m keyed in
    keeps_both base m now (with_account now owner f) first (account_kept base now first.keyed owner f (λ a exists.
    let r = released_at base k s m keyed owner a exists in
    on a (next_still base a (without_subentry k s a) (no_subentry_charged k s a
    (subst (λ n. k ≤ n) (sym r.subentries) (had r.was r.existed))))))

-- ---- what is left of a payer

-- an account after a payer of k reserves was charged: of what it had no more is available
pub record IsChargedFrom (base : ℕ) (m : EntryMap) (x : AccountId) (b : AccountEntry) : Type 0 where
  pub was : AccountEntry
  pub existed : account_at m x ≡ Some was
  pub less : available b base ≤ℤ available was base

itself_charged : (base : ℕ) (m : EntryMap) (x : AccountId) (b : AccountEntry) → account_at m x ≡ Some b
    → IsChargedFrom base m x b
itself_charged base m x b exists = record { was = b; existed = exists; less = itself (available b base) }
  where
    itself : (n : ℤ) → n ≤ℤ n
    itself n = omega (arith, ints)

charged_from : (base k : ℕ) (y : AccountId) (m : EntryMap) → IsKeyed m → (x : AccountId) (b : AccountEntry)
    → account_at (with_account m y (with_more count.Sponsoring k)) x ≡ Some b → (o : Option AccountEntry)
    → account_at m y ≡ o → IsChargedFrom base m x b
charged_from base k y m keyed x b there None none = itself_charged base m x b
    (sym (ap (λ n. account_at n x) (no_account_changed m y (with_more count.Sponsoring k) none)) ∙ there)
charged_from base k y m keyed x b there (Some a) exists =
    let f = with_more count.Sponsoring k in
    let named = (pays_more k a).core.id in
    elim (is_same_account x y) as (λ t. is_same_account x y ≡ t → IsChargedFrom base m x b) [
      | true ↦ λ is.
          let same = same_account x y is in
          let here = account_after m y f a keyed exists named in
          let at = ap (account_at (with_account m y f)) (sym same) in
          let now : f a ≡ b = cc in
          record {
            was = a;
            existed = ap (account_at m) same ∙ exists;
            less = subst (λ c. available c base ≤ℤ available a base) now (pays_from base k a);
          }
      | false ↦ λ is. itself_charged base m x b
          (sym (account_elsewhere m y f a keyed exists named x (apart_accounts x y is)) ∙ there)
    ] refl

pub charged_at : (base k : ℕ) (t : Option AccountId) (m : EntryMap) → IsKeyed m → (x : AccountId) (b : AccountEntry)
    → account_at (map_after_charging k t m) x ≡ Some b → IsChargedFrom base m x b
charged_at base k None m keyed x b there = itself_charged base m x b there
charged_at base k (Some y) m keyed x b there = charged_from base k y m keyed x b there (account_at m y) refl
