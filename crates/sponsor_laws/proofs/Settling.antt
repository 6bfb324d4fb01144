-- A map whose counts moved, after one entry is put or taken away so that each count is its sum again.
use Rattle.sponsor_laws.proofs.Prelude.{◌≡◌, ◌≢◌, ◌⊎◌, inl, inr, refl, sym, ap, subst, ◌∙◌, ◌+◌, ◌≤◌, true, false, cond}
use Rattle.sponsor_laws.proofs.Prelude.{length, Option, Some, None, Contains, arith, eq_by_cmp, get, AccountId}
use Rattle.sponsor_laws.proofs.Prelude.{AccountEntry, LedgerEntry, LedgerKey, key_of, key_cmp, keys_total, keys_exact}
use Rattle.sponsor_laws.proofs.Prelude.{EntryMap, put, erase, same_itself, Count, SubEntries, Sponsoring, account_in}
use Rattle.sponsor_laws.proofs.Prelude.{HasAccount, count_in, HasItems, total, counted_for, erase_get, put_get}
use Rattle.sponsor_laws.proofs.Prelude.{put_there, same_keys, account_under}
use Rattle.sponsor_rules.specs.ledger_types.declared.key.LedgerKey.TheVariants as key
use Rattle.sponsor_laws.proofs.Totals.{part_of, sum_in-remove}
use Rattle.sponsor_laws.proofs.Accounts.{as_many, has_items}
use Rattle.sponsor_laws.proofs.Even.{AreOwn, IsEven, Names, account_of_entry, account_key, account_entry, exists_in}
use Rattle.sponsor_laws.proofs.Even.{all_few, all_fit}
use Rattle.sponsor_laws.proofs.Shifts.{Shift, no_shift, Alike, AlikeEntries, IsShifted, same_owner, same_counted}
use Rattle.sponsor_laws.proofs.Shifts.{account_before, account_after, entry_before, entry_after}
use Rattle.sponsor_laws.proofs.Changes.{put_total}

pub names_before : (p q : Shift) (x y : LedgerEntry) (id : AccountId) → AlikeEntries p q x y → Names y id → Names x id
names_before p q x y id h (inl owns) = inl (sym (same_owner p q x.body y.body h.bodies) ∙ owns)
names_before p q x y id h (inr (inl pays)) = inr (inl (sym h.sponsor ∙ pays))
names_before p q x y id h (inr (inr n)) =
    let was = account_before p q x.body y.body n.account h.bodies n.is in
    inr (inr (record {
      account = was.0;
      is = was.1;
      sponsor = subst (λ xs. Contains xs (Some id)) was.2.parts.sponsors n.sponsor;
    }))

part_alike : (p q : Shift) (count : Count) (id : AccountId) (x y : Option LedgerEntry) → Alike p q x y
    → part_of (counted_for count id) y ≡ part_of (counted_for count id) x
part_alike p q count id None None h = refl
part_alike p q count id None (Some y) h = absurd h
part_alike p q count id (Some x) None h = absurd h
part_alike p q count id (Some x) (Some y) h = same_counted p q count id x y h

pub exists_after : (p q : Shift) (old m : EntryMap) (id : AccountId) → IsShifted p q old m → HasAccount old id
    → HasAccount m id
exists_after p q old m id h exists =
    let entry = account_entry old id exists.0 exists.1 in
    let now = entry_after p q old m (key.Account id) entry.0 h entry.1.0 in
    let account = account_after p q entry.0.body now.0.body exists.0 now.2.bodies entry.1.1 in
    (account.0, exists_in m id now.0 account.0 now.1 account.1)

-- what a new entry must meet
pub record IsSettledEntry (p q : Shift) (old new : EntryMap) (k : LedgerKey) (e : LedgerEntry) : Type 0 where
  pub own : key_of e ≡ k
  pub sums : (account : AccountEntry) (count : Count) → account_in e.body ≡ Some account
      → count_in count account + q count account.account_id
      ≡ total count account.account_id old + p count account.account_id
  pub items : (account : AccountEntry) → account_in e.body ≡ Some account → HasItems account
  pub names : (id : AccountId) → Names e id → HasAccount new id

-- `new` is `m` with something else under a key, or nothing, and that settles what counts moved by
pub record Settles (p q : Shift) (old m new : EntryMap) (k : LedgerKey) (after : Option LedgerEntry) : Type 0 where
  pub got : (x : LedgerKey) → get new x ≡ cond (eq_by_cmp key_cmp x k) after (get m x)
  pub summed : (count : Count) (id : AccountId) → total count id new + part_of (counted_for count id) (get m k)
      ≡ total count id m + part_of (counted_for count id) after
  pub balanced : (count : Count) (id : AccountId) → HasAccount new id
      → p count id + part_of (counted_for count id) (get old k) ≡ q count id + part_of (counted_for count id) after
  pub entry : (e : LedgerEntry) → after ≡ Some e → IsSettledEntry p q old new k e
  pub rest : (x : LedgerKey) (e : LedgerEntry) (id : AccountId) → x ≢ k → get old x ≡ Some e → Names e id
      → HasAccount new id
  pub few : (id : AccountId) → HasAccount new id → total SubEntries id old + p SubEntries id ≤ 1000 + q SubEntries id
  pub fits : (id : AccountId) → HasAccount new id
      → total SubEntries id old + total Sponsoring id old + (p SubEntries id + p Sponsoring id) ≤ 4294967295 +
      (q SubEntries id + q Sponsoring id)

module _ (p q : Shift) (old m new : EntryMap) (k : LedgerKey) (after : Option LedgerEntry) (even : IsEven old)
    (h : IsShifted p q old m) (s : Settles p q old m new k after) where
  total_new : (count : Count) (id : AccountId) → HasAccount new id
      → total count id new + q count id ≡ total count id old + p count id
  total_new count id exists =
      let summed = s.summed count id in
      let balanced = s.balanced count id exists in
      let before = part_alike p q count id (get old k) (get m k) (h.entries k) in
      let same = h.totals count id in
      omega arith

  abbrev From : LedgerKey → LedgerEntry → Type 0
  From x e = ((x ≡ k) × (after ≡ Some e)) ⊎ ((x ≢ k) × (get m x ≡ Some e))

  from : (x : LedgerKey) (e : LedgerEntry) → get new x ≡ Some e → From x e
  from x e there =
      elim (eq_by_cmp key_cmp x k) as (λ b. eq_by_cmp key_cmp x k ≡ b → cond b after (get m x) ≡ Some e → From x e) [
        | true ↦ λ tied is. inl (same_keys x k tied, is)
        | false ↦ λ apart is. inr ((λ same. let tied = ap (λ y. eq_by_cmp key_cmp y k) same ∙ same_itself k in cc), is)
      ] refl (sym (s.got x) ∙ there)

  own_new : AreOwn new
  own_new x e there = elim (from x e there) [
    | inl here ↦ (s.entry e here.1).own
        ∙ sym here.0
    | inr other ↦ h.own x e other.1
  ]

  sums_new : (x : LedgerKey) (e : LedgerEntry) (account : AccountEntry) (count : Count) → get new x ≡ Some e
      → account_in e.body ≡ Some account → count_in count account ≡ total count account.account_id new
  sums_new x e account count there is =
      let sum = total_new count account.account_id (account, account_of_entry new x e account own_new there is) in
      elim (from x e there) [
        | inl here ↦ let settled = (s.entry e here.1).sums account count is in omega arith
        | inr other ↦
            let was_entry = entry_before p q old m x e h other.1 in
            let was = account_before p q was_entry.0.body e.body account was_entry.2.bodies is in
            let moved = was.2.counts count in
            let before = even.sums x was_entry.0 was.0 count was_entry.1 was.1 in
            let at : total count account.account_id old ≡ total count was.0.account_id old =
            ap (λ i. total count i old) was.2.parts.id in
            let p_at : p count account.account_id ≡ p count was.0.account_id = ap (p count) was.2.parts.id in
            let q_at : q count account.account_id ≡ q count was.0.account_id = ap (q count) was.2.parts.id in
            omega arith
      ]

  items_new : (x : LedgerKey) (e : LedgerEntry) (account : AccountEntry) → get new x ≡ Some e
      → account_in e.body ≡ Some account → HasItems account
  items_new x e account there is = elim (from x e there) [
    | inl here ↦ (s.entry e here.1).items account is
    | inr other ↦
        let was_entry = entry_before p q old m x e h other.1 in
        let was = account_before p q was_entry.0.body e.body account was_entry.2.bodies is in
        has_items account (ap length was.2.parts.sponsors ∙ as_many was.0
        (even.items x was_entry.0 was.0 was_entry.1 was.1) ∙ sym (ap length was.2.parts.signers))
  ]

  names_new : (x : LedgerKey) (e : LedgerEntry) (id : AccountId) → get new x ≡ Some e → Names e id → HasAccount new id
  names_new x e id there names = elim (from x e there) [
    | inl here ↦ (s.entry e here.1).names id names
    | inr other ↦
        let was = entry_before p q old m x e h other.1 in
        s.rest x was.0 id other.0 was.1 (names_before p q was.0 e id was.2 names)
  ]

  settled : IsEven new
  settled = record {
    own = own_new;
    sums = sums_new;
    items = items_new;
    names = names_new;
    few = λ id exists. let sum = total_new SubEntries id exists in let le = s.few id exists in omega arith;
    fits = λ id exists. let subs = total_new SubEntries id exists in let pays = total_new Sponsoring id exists in
        let le = s.fits id exists in omega arith;
  }

-- ---- taken away

pub erase_total : (m : EntryMap) (k : LedgerKey) (e : LedgerEntry) (count : Count) (id : AccountId) → get m k ≡ Some e
    → total count id (erase m k) + counted_for count id e ≡ total count id m
erase_total m k e count id there = sum_in-remove keys_total (counted_for count id) keys_exact m k e there

pub exists_erased : (m : EntryMap) (k : LedgerKey) (id : AccountId) → key.Account id ≢ k → HasAccount m id
    → HasAccount (erase m k) id
exists_erased m k id apart exists =
    let entry = account_entry m id exists.0 exists.1 in
    let left : get (erase m k) (key.Account id) ≡ get m (key.Account id) = erase_get m k (key.Account id)
    ∙ elim (eq_by_cmp key_cmp (key.Account id) k) as (λ b. eq_by_cmp key_cmp (key.Account id) k ≡ b
    → cond b None (get m (key.Account id)) ≡ get m (key.Account id)) [
      | true ↦ λ tied. absurd (apart (same_keys _ k tied))
      | false ↦ λ h. refl
    ] refl in
    (exists.0, exists_in (erase m k) id entry.0 exists.0 (left ∙ entry.1.0) entry.1.1)

-- an entry is taken away, for which counts went down
pub erased : (q : Shift) (old m : EntryMap) (k : LedgerKey) (e : LedgerEntry) → IsEven old → IsShifted no_shift q old m
    → get old k ≡ Some e
    → ((count : Count) (id : AccountId) → HasAccount (erase m k) id → counted_for count id e ≡ q count id)
    → ((x : LedgerKey) (y : LedgerEntry) (id : AccountId) → x ≢ k → get old x ≡ Some y → Names y id
    → HasAccount (erase m k) id) → IsEven (erase m k)
erased q old m k e even h there balanced rest = settled no_shift q old m (erase m k) k None even h (record {
  got = erase_get m k;
  summed = λ count id.
      let now = entry_after no_shift q old m k e h there in
      let part : part_of (counted_for count id) (get m k) ≡ counted_for count id now.0 =
      ap (part_of (counted_for count id)) now.1 in
      let sum = erase_total m k now.0 count id now.1 in
      omega arith;
  balanced = λ count id exists. let part : part_of (counted_for count id) (get old k) ≡ counted_for count id e =
      ap (part_of (counted_for count id)) there in let is = balanced count id exists in omega arith;
  entry = λ x is. absurd (cc);
  rest = rest;
  few = λ id exists. let le = all_few old id even in omega arith;
  fits = λ id exists. let le = all_fit old id even in omega arith;
})

-- ---- put

pub exists_put : (m : EntryMap) (e : LedgerEntry) (id : AccountId) → HasAccount m id → HasAccount (put m e) id
exists_put m e id exists =
    let entry = account_entry m id exists.0 exists.1 in
    elim (eq_by_cmp key_cmp (key.Account id) (key_of e)) as (λ b. eq_by_cmp key_cmp (key.Account id) (key_of e) ≡ b
    → get (put m e) (key.Account id) ≡ cond b (Some e) (get m (key.Account id)) → HasAccount (put m e) id) [
      | true ↦ λ tied is. let new = account_under id e.body (sym (same_keys _ (key_of e) tied)) in
          (new.0, exists_in (put m e) id e new.0 is (ap account_in new.1))
      | false ↦ λ apart is. (exists.0, exists_in (put m e) id entry.0 exists.0 (is ∙ entry.1.0) entry.1.1)
    ] refl (put_get m e (key.Account id))

pub exists_inserted : (m : EntryMap) (e : LedgerEntry) (account : AccountEntry) → account_in e.body ≡ Some account
    → HasAccount (put m e) account.account_id
exists_inserted m e account is = (
  account,
  exists_in (put m e) account.account_id e account
      (ap (get (put m e)) (sym (account_key e.body account is)) ∙ put_there m e) is,
)

-- what an entry that is put must meet, for which counts went up by p and down by q
pub record IsLocated (p q : Shift) (old m : EntryMap) (e : LedgerEntry) : Type 0 where
  pub balanced : (count : Count) (id : AccountId) → p count id + part_of (counted_for count id) (get old (key_of e))
      ≡ q count id + counted_for count id e
  pub sums : (account : AccountEntry) (count : Count) → account_in e.body ≡ Some account
      → count_in count account + q count account.account_id
      ≡ total count account.account_id old + p count account.account_id
  pub items : (account : AccountEntry) → account_in e.body ≡ Some account → HasItems account
  pub names : (id : AccountId) → Names e id → HasAccount (put m e) id
  pub few : (id : AccountId) → total SubEntries id old + p SubEntries id ≤ 1000 + q SubEntries id
  pub fits : (id : AccountId) → total SubEntries id old + total Sponsoring id old +
      (p SubEntries id + p Sponsoring id) ≤ 4294967295 + (q SubEntries id + q Sponsoring id)

pub inserted : (p q : Shift) (old m : EntryMap) (e : LedgerEntry) → IsEven old → IsShifted p q old m
    → IsLocated p q old m e → IsEven (put m e)
inserted p q old m e even h s = settled p q old m (put m e) (key_of e) (Some e) even h (record {
  got = put_get m e;
  summed = put_total m e;
  balanced = λ count id exists. s.balanced count id;
  entry = λ x is. let same : e ≡ x = cc in subst (IsSettledEntry p q old (put m e) (key_of e)) same
      (record { own = refl; sums = s.sums; items = s.items; names = s.names });
  rest = λ x y id apart at names. exists_put m e id (exists_after p q old m id h (even.names x y id at names));
  few = λ id exists. s.few id;
  fits = λ id exists. s.fits id;
})
