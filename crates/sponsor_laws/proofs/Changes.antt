-- Raising and lowering a count of one account, and what sponsors then pay.
use Rattle.sponsor_laws.proofs.Prelude.{◌≡◌, ◌≢◌, ◌⊎◌, inl, inr, refl, sym, ap, subst, ◌∙◌, ℕ, ◌+◌, ◌-◌, ◌≤◌, true}
use Rattle.sponsor_laws.proofs.Prelude.{false, cond, Option, Some, None, arith, if◌then◌else◌, eq_by_cmp, get}
use Rattle.sponsor_laws.proofs.Prelude.{AccountId, AccountEntry, LedgerEntry, LedgerEntryBody, LedgerKey, key_of}
use Rattle.sponsor_laws.proofs.Prelude.{key_of_body, key_cmp, keys_total, EntryMap, put, same_itself, Count, SubEntries}
use Rattle.sponsor_laws.proofs.Prelude.{Sponsoring, Sponsored, account_in, account_at, with_account, count_in}
use Rattle.sponsor_laws.proofs.Prelude.{with_more, with_less, is_same_account, total, counted_for, is_itself, put_get}
use Rattle.sponsor_laws.proofs.Prelude.{same_keys, accounts_exact, entry_found, with_found, with_missing, own_key}
use Rattle.sponsor_laws.proofs.Prelude.{with_twice}
use Rattle.sponsor_rules.specs.ledger_types.declared.entry.LedgerEntryBody.TheVariants as body
use Rattle.sponsor_rules.specs.ledger_types.declared.key.LedgerKey.TheVariants as key
use Rattle.sponsor_rules.proofs.entry_map_proofs.Layers.{after_insert}
use Rattle.sponsor_laws.proofs.Totals.{part_of, sum_in-insert}
use Rattle.sponsor_laws.proofs.Accounts.{KeepsParts, keeps_twice, with_count-keeps, with_count-count, instead}
use Rattle.sponsor_laws.proofs.Accounts.{counted-keeps}
use Rattle.sponsor_laws.proofs.Even.{AreOwn, account_key, exists_in}
use Rattle.sponsor_laws.proofs.Shifts.{Shift, at_one, plus, IsShiftedAccount, AlikeBodies, Alike, IsShifted, apart_ids}
use Rattle.sponsor_laws.proofs.Shifts.{account_after, entry_after, shifted_as, alike_agree}

-- ---- the map after a put

put_own : (m : EntryMap) (e : LedgerEntry) → AreOwn m → AreOwn (put m e)
put_own m e own k x there = after_insert (λ q y. key_of y ≡ q) m (key_of e) e refl own k x there

pub put_total : (m : EntryMap) (e : LedgerEntry) (count : Count) (id : AccountId)
    → total count id (put m e) + part_of (counted_for count id) (get m (key_of e))
    ≡ total count id m + counted_for count id e
put_total m e count id = sum_in-insert keys_total (counted_for count id) m (key_of e) e

-- ---- a change of one account

-- the entry of an account, and the map with the account changed
pub record IsChangedAt (m : EntryMap) (id : AccountId) (f : AccountEntry → AccountEntry) : Type 0 where
  pub entry : LedgerEntry
  pub account : AccountEntry
  pub there : get m (key.Account id) ≡ Some entry
  pub is : entry.body ≡ body.Account account
  pub own_id : account.account_id ≡ id
  pub is_put : with_account m id f ≡ put m (record entry { body = body.Account (f account) })

abbrev pub IsMissing : EntryMap → AccountId → (AccountEntry → AccountEntry) → Type 0
IsMissing m id f = (account_at m id ≡ None) × (with_account m id f ≡ m)

pub changed_at : (m : EntryMap) (id : AccountId) (f : AccountEntry → AccountEntry) → AreOwn m
    → IsMissing m id f ⊎ IsChangedAt m id f
unfolding account_at with_account
changed_at m id f own =
    elim (account_at m id) as (λ o. account_at m id ≡ o → IsMissing m id f ⊎ IsChangedAt m id f) [
      | None ↦ λ none. inl (none, with_missing accounts_exact m (key.Account id) f none)
      | Some a ↦ λ exists.
          let found = entry_found accounts_exact m (key.Account id) a exists in
          let same : key.Account a.account_id ≡ key.Account id = sym (ap key_of_body found.1.is)
          ∙ own _ found.0 found.1.there in
          inr (record {
            entry = found.0;
            account = a;
            there = found.1.there;
            is = found.1.is;
            own_id = cc;
            is_put = with_found accounts_exact m (key.Account id) f a found.0 found.1;
          })
    ] refl

-- ---- two changes of one account

-- an account that is changed twice
pub twice : (m : EntryMap) (id : AccountId) (f g : AccountEntry → AccountEntry) → AreOwn m
    → ((a : AccountEntry) → (f a).account_id ≡ a.account_id) → ((a : AccountEntry) → (g a).account_id ≡ a.account_id)
    → with_account (with_account m id f) id g ≡ with_account m id (λ a. g (f a))
unfolding with_account
twice m id f g own keeps_f keeps_g =
    let its = λ (a : AccountEntry). own_key accounts_exact m (key.Account id) a (own (key.Account id)) in
    with_twice accounts_exact m (key.Account id) f g (λ a exists. ap key.Account (keeps_f a) ∙ its a exists)
    (λ a exists. ap key.Account (keeps_g (f a) ∙ keeps_f a) ∙ its a exists)

-- the map with a count of an account raised, or lowered
abbrev pub map_with_more : Count → ℕ → AccountId → EntryMap → EntryMap
map_with_more count k id m = with_account m id (with_more count k)

abbrev pub map_with_less : Count → ℕ → AccountId → EntryMap → EntryMap
map_with_less count k id m = with_account m id (with_less count k)

pub more_keeps : (count : Count) (k : ℕ) (a : AccountEntry) → (with_more count k a).account_id ≡ a.account_id
more_keeps count k a = (with_count-keeps count (count_in count a + k) a).id

pub less_keeps : (count : Count) (k : ℕ) (a : AccountEntry) → (with_less count k a).account_id ≡ a.account_id
less_keeps count k a = (with_count-keeps count (count_in count a - k) a).id

-- ---- a change that moves counts

module _ (p q p' q' : Shift) (id : AccountId) (f : AccountEntry → AccountEntry) (old : EntryMap) where
  abbrev pub Moves : Type 0
  Moves = (was account : AccountEntry) → account_at old id ≡ Some was → was.account_id ≡ id
      → IsShiftedAccount p q was account → IsShiftedAccount p' q' was (f account)

  abbrev pub AgreeElsewhere : Type 0
  AgreeElsewhere = (i : AccountId) → is_same_account id i ≡ false → (count : Count)
      → (p' count i ≡ p count i) × (q' count i ≡ q count i)

  moved_bodies : (x : LedgerEntryBody) (a : AccountEntry) → Moves → key_of_body x ≡ key.Account id
      → ((was : AccountEntry) → account_in x ≡ Some was → account_at old id ≡ Some was)
      → AlikeBodies p q x (body.Account a) → AlikeBodies p' q' x (body.Account (f a))
  moved_bodies (body.Account was) a moves own exists h = moves was a (exists was refl) (cc) h
  moved_bodies other a moves own exists h = absurd (cc)

  moved_entry : (x : Option LedgerEntry) (e : LedgerEntry) (a : AccountEntry) → Moves → e.body ≡ body.Account a
      → ((y : LedgerEntry) → x ≡ Some y → key_of y ≡ key.Account id) → x ≡ get old (key.Account id)
      → Alike p q x (Some e)
      → Alike p' q' x (Some (record e { body = body.Account (f a) }))
  moved_entry None e a moves is own at h = absurd h
  moved_entry (Some x) e a moves is own at h = record {
    sponsor = h.sponsor;
    bodies = moved_bodies x.body a moves (own x refl) (λ was holds. exists_in old id x was (sym at) holds)
        (subst (AlikeBodies p q x.body) is h.bodies);
  }

  -- the changed account's key
  new_key : (m : EntryMap) → ((a : AccountEntry) → KeepsParts a (f a)) → (c : IsChangedAt m id f)
      → key.Account (f c.account).account_id ≡ key.Account id
  new_key m keeps c = ap key.Account ((keeps c.account).id ∙ c.own_id)

  new_get : (m : EntryMap) → ((a : AccountEntry) → KeepsParts a (f a)) → (c : IsChangedAt m id f) (k : LedgerKey)
      → get (with_account m id f) k ≡ cond (eq_by_cmp key_cmp k (key.Account id))
      (Some (record c.entry { body = body.Account (f c.account) })) (get m k)
  new_get m keeps c k =
      let e' : LedgerEntry = record c.entry { body = body.Account (f c.account) } in
      ap (λ n. get n k) c.is_put ∙ put_get m e' k ∙ ap (λ x. cond (eq_by_cmp key_cmp k x) (Some e') (get m k))
      (new_key m keeps c)

  changed_total : (m : EntryMap) → ((a : AccountEntry) → KeepsParts a (f a)) → IsChangedAt m id f
      → (count : Count) (i : AccountId) → total count i (with_account m id f) ≡ total count i m
  changed_total m keeps c count i =
      let e' : LedgerEntry = record c.entry { body = body.Account (f c.account) } in
      let sum = put_total m e' count i in
      let new : total count i (with_account m id f) ≡ total count i (put m e') = ap (total count i) c.is_put in
      let before : part_of (counted_for count i) (get m (key_of e')) ≡ counted_for count i c.entry =
      ap (part_of (counted_for count i)) (ap (get m) (new_key m keeps c) ∙ c.there) in
      let same : counted_for count i e' ≡ counted_for count i c.entry =
      counted-keeps count i c.entry c.account (f c.account) c.is (keeps c.account) in
      omega arith

  module _ (m : EntryMap) (own : AreOwn old) (h : IsShifted p q old m) (keeps : (a : AccountEntry)
      → KeepsParts a (f a)) (moves : Moves) (elsewhere : AgreeElsewhere) where
    -- an account that exists in the old map, under its key, is still there
    still_there : (k : LedgerKey) (e : LedgerEntry) (account : AccountEntry) → get old k ≡ Some e
        → account_in e.body ≡ Some account → account_at m account.account_id ≢ None
    still_there k e account there is none =
        let at : k ≡ key.Account account.account_id = sym (own k e there) ∙ account_key e.body account is in
        let now = entry_after p q old m k e h there in
        let account_now = account_after p q e.body now.0.body account now.2.bodies is in
        let exists = exists_in m account.account_id now.0 account_now.0 (ap (get m) (sym at) ∙ now.1) account_now.1 in
        cc

    missing : IsMissing m id f → IsShifted p' q' old (with_account m id f)
    missing (none, is) = subst (IsShifted p' q' old) (sym is)
        (shifted_as p q p' q' old m (λ k e account there holds. elsewhere account.account_id
        (apart_ids id account.account_id (λ same. still_there k e account there holds (ap (account_at m) (sym same)
        ∙ none)))) h)

    changed : IsChangedAt m id f → IsShifted p' q' old (with_account m id f)
    changed c =
        let e' : LedgerEntry = record c.entry { body = body.Account (f c.account) } in
        record {
          own = subst AreOwn (sym c.is_put) (put_own m e' h.own);
          entries = λ k. subst (Alike p' q' (get old k)) (sym (new_get m keeps c k)) (
              elim (eq_by_cmp key_cmp k (key.Account id)) as (λ b. eq_by_cmp key_cmp k (key.Account id) ≡ b
              → Alike p' q' (get old k) (cond b (Some e') (get m k))) [
                | true ↦ λ tied. let at = same_keys k (key.Account id) tied in
                    moved_entry (get old k) c.entry c.account moves c.is (λ y there. own k y there
                    ∙ at) (ap (get old) at) (subst (Alike p q (get old k)) (ap (get m) at ∙ c.there) (h.entries k))
                | false ↦ λ apart. alike_agree p q p' q' (get old k) (get m k)
                    (λ e account there holds. elsewhere account.account_id (apart_ids id account.account_id (λ same.
                    let at : k ≡ key.Account id = sym (own k e there) ∙ account_key e.body account holds
                    ∙ ap key.Account (sym same) in
                    let tied = ap (λ x. eq_by_cmp key_cmp x (key.Account id)) at ∙ same_itself (key.Account id) in
                    cc))) (h.entries k)
              ] refl);
          totals = λ count i. changed_total m keeps c count i ∙ h.totals count i;
        }

    shifted_change : IsShifted p' q' old (with_account m id f)
    shifted_change = elim (changed_at m id f h.own) [ inl none ↦ missing none | inr c ↦ changed c ]

-- ---- one count

pub instead_plus : (count other : Count) (n m k : ℕ) → ((count ≡ other) → n ≡ m)
    → instead count other (n + k) m ≡ m + instead count other k 0
instead_plus SubEntries SubEntries n m k same = ap (λ x. x + k) (same refl)
instead_plus Sponsoring Sponsoring n m k same = ap (λ x. x + k) (same refl)
instead_plus Sponsored Sponsored n m k same = ap (λ x. x + k) (same refl)
instead_plus at other n m k same = omega arith

instead_minus : (count other : Count) (n m k : ℕ) → ((count ≡ other) → n ≡ m) → k ≤ n
    → instead count other (n - k) m + instead count other k 0 ≡ m
instead_minus SubEntries SubEntries n m k same le = let e = same refl in omega arith
instead_minus Sponsoring Sponsoring n m k same le = let e = same refl in omega arith
instead_minus Sponsored Sponsored n m k same le = let e = same refl in omega arith
instead_minus at other n m k same le = omega arith

instead_none : (count other : Count) → instead count other 0 0 ≡ 0
instead_none SubEntries SubEntries = refl
instead_none Sponsoring Sponsoring = refl
instead_none Sponsored Sponsored = refl
instead_none at other = refl

pub at_one_is_instead : (count other : Count) (k : ℕ) (id i : AccountId) → i ≡ id
    → at_one count k id other i ≡ instead count other k 0
at_one_is_instead count other k id i same =
    ap (λ t. instead count other (if t then k else 0) 0) (ap (is_same_account id) same
    ∙ is_itself id)

pub elsewhere_none : (count other : Count) (k : ℕ) (id i : AccountId) → is_same_account id i ≡ false
    → at_one count k id other i ≡ 0
elsewhere_none count other k id i apart = ap (λ t. instead count other (if t then k else 0) 0) apart
    ∙ instead_none count other

module _ (p q : Shift) (count : Count) (k : ℕ) (id : AccountId) (old m : EntryMap) (own : AreOwn old)
    (h : IsShifted p q old m) where
  pub shifted_raise : IsShifted (plus p (at_one count k id)) q old (map_with_more count k id m)
  shifted_raise = shifted_change p q (plus p (at_one count k id)) q id (with_more count k) old m own h
      (λ a. with_count-keeps count (count_in count a + k) a)
      (λ was account exists same s. record {
        parts = keeps_twice was account (with_more count k account) s.parts
            (with_count-keeps count (count_in count account + k) account);
        counts = λ other.
            let is = with_count-count count other (count_in count account + k) account in
            let moved = instead_plus count other (count_in count account) (count_in other account) k
            (λ e. ap (λ c. count_in c account) e) in
            let at = at_one_is_instead count other k id was.account_id same in
            let before = s.counts other in
            omega arith;
      })
      (λ i apart other. let none = elsewhere_none count other k id i apart in (omega arith, refl))

  pub shifted_lower : ((was : AccountEntry) → account_at old id ≡ Some was
      → q count id + k ≤ count_in count was + p count id)
      → IsShifted p (plus q (at_one count k id)) old (map_with_less count k id m)
  shifted_lower enough = shifted_change p q p (plus q (at_one count k id)) id (with_less count k) old m own h
      (λ a. with_count-keeps count (count_in count a - k) a)
      (λ was account exists same s. record {
        parts = keeps_twice was account (with_less count k account) s.parts
            (with_count-keeps count (count_in count account - k) account);
        counts = λ other.
            let is = with_count-count count other (count_in count account - k) account in
            let le : k ≤ count_in count account = (let at_id = enough was exists in let mine = s.counts count in
            let q_at = ap (q count) same in let p_at = ap (p count) same in omega arith) in
            let moved = instead_minus count other (count_in count account) (count_in other account) k
            (λ e. ap (λ c. count_in c account) e) le in
            let at = at_one_is_instead count other k id was.account_id same in
            let before = s.counts other in
            omega arith;
      })
      (λ i apart other. let none = elsewhere_none count other k id i apart in (refl, omega arith))
