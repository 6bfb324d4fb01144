-- A map whose counts moved, after an account's signers are edited so that each count is its sum again.
use Rattle.sponsor_laws.proofs.Prelude as prelude
use prelude.{◌≡◌, inl, inr, refl, sym, ap, subst, ◌∙◌, ℕ, ◌+◌, ◌≤◌, Bool, true, false, cond, List, length, Option, Some}
use prelude.{Contains, slice_index_or, arith, if◌then◌else◌, sum_by, count_by, get, get_or-le-sum_by, AccountId}
use prelude.{AccountEntry, LedgerEntry, key_of, key_of_body, EntryMap, put, Count, SubEntries, Sponsoring, Sponsored}
use prelude.{account_in, with_account, HasAccount, sponsor_of, multiplicity, owner_of, count_in, is_same_account}
use prelude.{HasItems, is_this, is_there, signer_sponsors, total, counted_for, is_itself}
use Rattle.sponsor_rules.specs.ledger_types.declared.entry.LedgerEntryBody.TheVariants as body
use Rattle.sponsor_rules.specs.ledger_types.declared.key.LedgerKey.TheVariants as key
use Rattle.sponsor_laws.proofs.Totals.{part_of}
use Rattle.sponsor_laws.proofs.Accounts.{share, own_part, counted_split, has_items}
use Rattle.sponsor_laws.proofs.Even.{IsEven, count_none, exists_or_not, not_this}
use Rattle.sponsor_laws.proofs.Shifts.{Shift, at_one, IsShifted, IsShiftedAccount, AlikeBodies, entry_after}
use Rattle.sponsor_laws.proofs.Changes.{IsChangedAt, changed_at}
use Rattle.sponsor_laws.proofs.Settling.{inserted, exists_after, exists_put, exists_inserted}

-- an account, made from another one, whose counts went up by p and down by q, and which settles that
pub record IsEdited (p q : Shift) (old : EntryMap) (a c : AccountEntry) : Type 0 where
  pub id : c.account_id ≡ a.account_id
  pub counts : (count : Count) → count_in count c + q count a.account_id ≡ count_in count a + p count a.account_id
  pub items : length (signer_sponsors c) ≡ length c.signers
  pub parts : (count : Count) (i : AccountId) → p count i + own_part count i (body.Account a)
      ≡ q count i + own_part count i (body.Account c)
  pub names : (i : AccountId) → Contains (signer_sponsors c) (Some i) → HasAccount old i

module _ (p q : Shift) (id : AccountId) (f : AccountEntry → AccountEntry) (old m : EntryMap) (h : IsEven old)
    (s : IsShifted p q old m) (e : LedgerEntry) (a : AccountEntry)
    (there : get old (key.Account id) ≡ Some e) (is : e.body ≡ body.Account a) (edits : (b : AccountEntry)
    → IsShiftedAccount p q a b → IsEdited p q old a (f b))
    (few : (i : AccountId) → total SubEntries i old + p SubEntries i ≤ 1000 + q SubEntries i)
    (fits : (i : AccountId) → total SubEntries i old + total Sponsoring i old +
    (p SubEntries i + p Sponsoring i) ≤ 4294967295 + (q SubEntries i + q Sponsoring i)) where
  own_id : a.account_id ≡ id
  own_id = let same : key.Account a.account_id ≡ key.Account id = sym (ap key_of_body is) ∙ h.own _ e there in cc

  module _ (x : IsChangedAt m id f) where
    now_same : (entry_after p q old m (key.Account id) e s there).0 ≡ x.entry
    now_same = let now = entry_after p q old m (key.Account id) e s there in let at = now.1 in let found = x.there in cc

    same_sponsor : sponsor_of x.entry ≡ sponsor_of e
    same_sponsor = sym (ap sponsor_of now_same) ∙ (entry_after p q old m (key.Account id) e s there).2.sponsor

    shifted_account : IsShiftedAccount p q a x.account
    shifted_account = let now = entry_after p q old m (key.Account id) e s there in
        subst (λ b. AlikeBodies p q b (body.Account x.account)) is
        (subst (AlikeBodies p q e.body) (ap (λ y. y.body) now_same ∙ x.is) now.2.bodies)

    edited_put : IsEven (put m (record x.entry { body = body.Account (f x.account) }))
    edited_put =
        let c = f x.account in
        let e' : LedgerEntry = record x.entry { body = body.Account c } in
        let edit = edits x.account shifted_account in
        let its_key : key_of e' ≡ key.Account id = ap key.Account (edit.id ∙ own_id) in
        inserted p q old m e' h s (record {
          balanced = λ count i.
              let part : part_of (counted_for count i) (get old (key_of e')) ≡ counted_for count i e =
              ap (part_of (counted_for count i)) (ap (get old) its_key ∙ there) in
              let before = counted_split count i e in
              let after = counted_split count i e' in
              let own : own_part count i e.body ≡ own_part count i (body.Account a) = ap (own_part count i) is in
              let pays : share count i 2 (Some c.account_id) (sponsor_of x.entry)
              ≡ share count i (multiplicity e.body) (owner_of e.body) (sponsor_of e) =
              (λ j. share count i 2 (Some (edit.id j)) (same_sponsor j))
              ∙ sym (ap (λ b. share count i (multiplicity b) (owner_of b) (sponsor_of e)) is) in
              let moved = edit.parts count i in
              omega arith;
          sums = λ account count holds.
              let same : c ≡ account = cc in
              subst (λ (y : AccountEntry). count_in count y + q count y.account_id
              ≡ total count y.account_id old + p count y.account_id) same (
              let sum = h.sums (key.Account id) e a count there (ap account_in is) in
              let moved = edit.counts count in
              subst (λ i. count_in count c + q count i ≡ total count i old + p count i) (sym edit.id) (omega arith));
          items = λ account holds. let same : c ≡ account = cc in subst HasItems same (has_items c edit.items);
          names = λ i names. elim names [
            | inl owns ↦ let same : c.account_id ≡ i = cc in
                subst (HasAccount (put m e')) same (exists_inserted m e' c refl)
            | inr (inl pays) ↦ exists_put m e' i (exists_after p q old m i s
                (h.names (key.Account id) e i there (inr (inl (sym same_sponsor ∙ pays)))))
            | inr (inr n) ↦ let same : c ≡ n.account = (let holds = n.is in cc) in
                exists_put m e' i (exists_after p q old m i s
                (edit.names i (subst (λ (y : AccountEntry). Contains (signer_sponsors y) (Some i))
                (sym same) n.sponsor)))
          ];
          few = few;
          fits = fits;
        })

  pub edited : IsEven (with_account m id f)
  edited = elim (changed_at m id f s.own) [
    | inl missing ↦ absurd (
        let exists = exists_after p q old m id s (h.names (key.Account id) e id there (inl (ap owner_of is
        ∙ ap Some own_id))) in
        let found = exists.1 in let none = missing.0 in cc)
    | inr x ↦ subst IsEven (sym x.is_put) (edited_put x)
  ]

-- ---- lists of sponsors

pub counted_once : (xs : List (Option AccountId)) (i : AccountId) → Contains xs (Some i) → 1 ≤ count_by (is_this i) xs
counted_once xs i has =
    let le = get_or-le-sum_by (λ (o : Option AccountId). cond (is_this i o) 1 0) xs has.0 (Some i) has.1 in
    let one : ◌≡◌ {A = ℕ} (cond (is_this i (slice_index_or xs has.0 (Some i))) 1 0) 1 =
    ap (λ o. cond (is_this i o) 1 0) has.2 ∙ ap (λ t. cond t 1 0) (is_itself i) in
    omega arith

-- where a list has one sponsor more at most, who is named in it exists
pub named_exists : (old : EntryMap) (xs more : List (Option AccountId)) (s : Option AccountId) (i : AccountId)
    → count_by (is_this i) more ≤ count_by (is_this i) xs + cond (is_this i s) 1 0
    → (s ≡ Some i → HasAccount old i) → (Contains xs (Some i) → HasAccount old i) → Contains more (Some i)
    → HasAccount old i
named_exists old xs more s i le new before has = exists_or_not (HasAccount old i) old i (λ exists. exists) (λ apart.
    let once = counted_once more i has in
    let none = count_none i xs (λ there. apart (before there)) in
    let other : ◌≡◌ {A = ℕ} (cond (is_this i s) 1 0) 0 = ap (λ t. cond t 1 0) (not_this i s (λ is. apart (new is))) in
    absurd (omega arith))

-- ---- what an account's signers count

-- the own part of an account with these signers' sponsors
abbrev pub signed : Count → AccountId → AccountId → ℕ → List (Option AccountId) → ℕ
signed SubEntries i id n xs = if is_same_account id i then n else 0
signed Sponsoring i id n xs = count_by (is_this i) xs
signed Sponsored i id n xs = if is_same_account id i then count_by is_there xs else 0

pub own_signed : (count : Count) (i : AccountId) (a : AccountEntry)
    → own_part count i (body.Account a) ≡ signed count i a.account_id (length a.signers) (signer_sponsors a)
own_signed SubEntries i a = refl
own_signed Sponsoring i a = refl
own_signed Sponsored i a = refl

one_more_if : (t : Bool) (n m k : ℕ) → m ≡ n + k → (if t then m else 0) ≡ (if t then n else 0) + (if t then k else 0)
one_more_if true n m k is = is
one_more_if false n m k is = refl

ifs_swapped : (t u : Bool) (k : ℕ) → (if t then (if u then k else 0) else 0) ≡ (if u then (if t then k else 0) else 0)
ifs_swapped true true k = refl
ifs_swapped true false k = refl
ifs_swapped false true k = refl
ifs_swapped false false k = refl

-- one signer more, whose sponsor is s
pub signed_more : (count : Count) (i id : AccountId) (n m : ℕ) (xs more : List (Option AccountId))
    (s : Option AccountId) → m ≡ n + 1
    → ((f : Option AccountId → ℕ) → sum_by f more ≡ sum_by f xs + f s)
    → signed count i id m more ≡ signed count i id n xs +
    (at_one SubEntries 1 id count i + share count i 1 (Some id) s)
signed_more SubEntries i id n m xs more s one sums = let is = one_more_if (is_same_account id i) n m 1 one in
    omega arith
signed_more Sponsoring i id n m xs more s one sums = let is = sums (λ o. cond (is_this i o) 1 0) in omega arith
signed_more Sponsored i id n m xs more s one sums =
    let is = one_more_if (is_same_account id i) (count_by is_there xs) (count_by is_there more) (cond (is_there s) 1 0)
    (sums (λ o. cond (is_there o) 1 0)) in
    let other = ifs_swapped (is_same_account id i) (is_there s) 1 in
    omega arith

-- a signer that had the sponsor s has the sponsor t
pub signed_other : (count : Count) (i id : AccountId) (n : ℕ) (xs more : List (Option AccountId))
    (s t : Option AccountId) → ((f : Option AccountId → ℕ) → sum_by f more + f s ≡ sum_by f xs + f t)
    → signed count i id n more + share count i 1 (Some id) s ≡ signed count i id n xs + share count i 1 (Some id) t
signed_other SubEntries i id n xs more s t sums = refl
signed_other Sponsoring i id n xs more s t sums = sums (λ o. cond (is_this i o) 1 0)
signed_other Sponsored i id n xs more s t sums =
    let old =
    one_more_if (is_same_account id i) (count_by is_there more) (count_by is_there more + cond (is_there s) 1 0)
    (cond (is_there s) 1 0) refl in
    let new = one_more_if (is_same_account id i) (count_by is_there xs) (count_by is_there more + cond (is_there s) 1 0)
    (cond (is_there t) 1 0) (sums (λ o. cond (is_there o) 1 0)) in
    let first = ifs_swapped (is_same_account id i) (is_there s) 1 in
    let second = ifs_swapped (is_same_account id i) (is_there t) 1 in
    omega arith
