-- Maps that are alike but for counts of accounts, which moved by known numbers.
use Rattle.sponsor_laws.proofs.Prelude.{◌≡◌, refl, sym, ap, subst, ◌∙◌, ℕ, ◌+◌, true, false, Option, Some, None}
use Rattle.sponsor_laws.proofs.Prelude.{if◌then◌else◌, get, AccountId, AccountEntry, LedgerEntry, LedgerEntryBody}
use Rattle.sponsor_laws.proofs.Prelude.{LedgerKey, key_of_body, EntryMap, Count, account_in, sponsor_of, multiplicity}
use Rattle.sponsor_laws.proofs.Prelude.{owner_of, count_in, is_same_account, total, counted_for, same_account}
use Rattle.sponsor_rules.specs.ledger_types.declared.entry.LedgerEntryBody.TheVariants as body
use Rattle.sponsor_rules.specs.ledger_types.declared.key.LedgerKey.TheVariants as key
use Rattle.sponsor_laws.proofs.Accounts.{KeepsParts, keeps_all, instead, share, own_part, own_part-keeps, counted_split}
use Rattle.sponsor_laws.proofs.Even.{AreOwn}

-- ---- numbers for each count of each account

abbrev pub Shift : Type 0
Shift = Count → AccountId → ℕ

-- k at one count of one account
abbrev pub at_one : Count → ℕ → AccountId → Shift
at_one count k id other i = instead count other (if is_same_account id i then k else 0) 0

abbrev pub plus : Shift → Shift → Shift
plus p q count i = p count i + q count i

abbrev pub no_shift : Shift
no_shift count i = 0

-- ---- alike

-- an account that keeps its parts; its counts went up by p and down by q
pub record IsShiftedAccount (p q : Shift) (a b : AccountEntry) : Type 0 where
  pub parts : KeepsParts a b
  pub counts : (count : Count) → count_in count b + q count a.account_id ≡ count_in count a + p count a.account_id

abbrev pub AlikeBodies : (p q : Shift) → (a b : LedgerEntryBody) → Type 0
AlikeBodies p q (body.Account a) (body.Account b) = IsShiftedAccount p q a b
AlikeBodies p q (body.Account a) other = ⊥
AlikeBodies p q other b = b ≡ other

pub record AlikeEntries (p q : Shift) (x y : LedgerEntry) : Type 0 where
  pub sponsor : sponsor_of y ≡ sponsor_of x
  pub bodies : AlikeBodies p q x.body y.body

abbrev pub Alike : (p q : Shift) → (old new : Option LedgerEntry) → Type 0
Alike p q None None = Unit {0}
Alike p q None (Some y) = ⊥
Alike p q (Some x) None = ⊥
Alike p q (Some x) (Some y) = AlikeEntries p q x y

pub record IsShifted (p q : Shift) (old new : EntryMap) : Type 0 where
  pub own : AreOwn new
  pub entries : (k : LedgerKey) → Alike p q (get old k) (get new k)
  pub totals : (count : Count) (id : AccountId) → total count id new ≡ total count id old

-- ---- what alike entries share

module _ (p q : Shift) where
  pub same_key : (a b : LedgerEntryBody) → AlikeBodies p q a b → key_of_body b ≡ key_of_body a
  same_key (body.Account a) (body.Account b) h = ap key.Account h.parts.id
  same_key (body.Account a) other h = absurd h
  same_key other b h = ap key_of_body h

  pub same_owner : (a b : LedgerEntryBody) → AlikeBodies p q a b → owner_of b ≡ owner_of a
  same_owner (body.Account a) (body.Account b) h = ap Some h.parts.id
  same_owner (body.Account a) other h = absurd h
  same_owner other b h = ap owner_of h

  pub same_multiplicity : (a b : LedgerEntryBody) → AlikeBodies p q a b → multiplicity b ≡ multiplicity a
  same_multiplicity (body.Account a) (body.Account b) h = refl
  same_multiplicity (body.Account a) other h = absurd h
  same_multiplicity other b h = ap multiplicity h

  pub same_own_part : (count : Count) (id : AccountId) (a b : LedgerEntryBody) → AlikeBodies p q a b
      → own_part count id b ≡ own_part count id a
  same_own_part count id (body.Account a) (body.Account b) h = own_part-keeps count id a b h.parts
  same_own_part count id (body.Account a) other h = absurd h
  same_own_part count id other b h = ap (own_part count id) h

  pub same_counted : (count : Count) (id : AccountId) (x y : LedgerEntry) → AlikeEntries p q x y
      → counted_for count id y ≡ counted_for count id x
  same_counted count id x y h = counted_split count id y
      ∙ (λ i. share count id (same_multiplicity x.body y.body h.bodies i) (same_owner x.body y.body h.bodies i)
      (h.sponsor i) + same_own_part count id x.body y.body h.bodies i)
      ∙ sym (counted_split count id x)

  -- the account before the one in an alike body
  pub account_before : (a b : LedgerEntryBody) (account : AccountEntry) → AlikeBodies p q a b
      → account_in b ≡ Some account → (was : AccountEntry) × (account_in a ≡ Some was)
      × IsShiftedAccount p q was account
  account_before (body.Account a) (body.Account b) account h is = let same : b ≡ account = cc in
      (a, refl, subst (IsShiftedAccount p q a) same h)
  account_before (body.Account a) other account h is = absurd h
  account_before other b account h is = absurd (let none : account_in b ≡ None = ap account_in h in cc)

  pub account_after : (a b : LedgerEntryBody) (account : AccountEntry) → AlikeBodies p q a b
      → account_in a ≡ Some account → (now : AccountEntry) × (account_in b ≡ Some now)
      × IsShiftedAccount p q account now
  account_after (body.Account a) (body.Account b) account h is = let same : a ≡ account = cc in
      (b, refl, subst (λ x. IsShiftedAccount p q x b) same h)
  account_after (body.Account a) other account h is = absurd h
  account_after other b account h is = absurd (cc)

pub apart_ids : (id i : AccountId) → (id ≡ i → ⊥) → is_same_account id i ≡ false
apart_ids id i apart = elim (is_same_account id i) as (λ b. is_same_account id i ≡ b
    → b ≡ false) [ true ↦ λ h. absurd (apart (same_account id i h)) | false ↦ λ h. refl ] refl

entries_of : (p q : Shift) (x y : Option LedgerEntry) (e : LedgerEntry) → Alike p q x y → x ≡ Some e
    → (now : LedgerEntry) × (y ≡ Some now) × AlikeEntries p q e now
entries_of p q None y e h is = absurd (cc)
entries_of p q (Some x) None e h is = absurd h
entries_of p q (Some x) (Some y) e h is = let same : x ≡ e = cc in (y, refl, subst (λ z. AlikeEntries p q z y) same h)

entries_before : (p q : Shift) (x y : Option LedgerEntry) (e : LedgerEntry) → Alike p q x y → y ≡ Some e
    → (was : LedgerEntry) × (x ≡ Some was) × AlikeEntries p q was e
entries_before p q x None e h is = absurd (cc)
entries_before p q None (Some y) e h is = absurd h
entries_before p q (Some x) (Some y) e h is = let same : y ≡ e = cc in (x, refl, subst (AlikeEntries p q x) same h)

-- the entry that is now where one was, and the other way round
pub entry_after : (p q : Shift) (old new : EntryMap) (k : LedgerKey) (e : LedgerEntry) → IsShifted p q old new
    → get old k ≡ Some e → (now : LedgerEntry) × (get new k ≡ Some now) × AlikeEntries p q e now
entry_after p q old new k e h there = entries_of p q (get old k) (get new k) e (h.entries k) there

pub entry_before : (p q : Shift) (old new : EntryMap) (k : LedgerKey) (e : LedgerEntry) → IsShifted p q old new
    → get new k ≡ Some e → (was : LedgerEntry) × (get old k ≡ Some was) × AlikeEntries p q was e
entry_before p q old new k e h there = entries_before p q (get old k) (get new k) e (h.entries k) there

-- ---- no shift

alike_bodies_itself : (b : LedgerEntryBody) → AlikeBodies no_shift no_shift b b
alike_bodies_itself (body.Account a) = record { parts = keeps_all a; counts = λ count. refl }
alike_bodies_itself other = refl

alike_itself : (x : Option LedgerEntry) → Alike no_shift no_shift x x
alike_itself None = tt
alike_itself (Some x) = record { sponsor = refl; bodies = alike_bodies_itself x.body }

pub unshifted : (m : EntryMap) → AreOwn m → IsShifted no_shift no_shift m m
unshifted m own = record { own = own; entries = λ k. alike_itself (get m k); totals = λ count id. refl }

-- ---- other numbers, where these are the same for the accounts that there are

module _ (p q p' q' : Shift) where
  abbrev pub Agree : AccountId → Type 0
  Agree id = (count : Count) → (p' count id ≡ p count id) × (q' count id ≡ q count id)

  bodies_agree : (a b : LedgerEntryBody) → ((account : AccountEntry) → account_in a ≡ Some account
      → Agree account.account_id) → AlikeBodies p q a b → AlikeBodies p' q' a b
  bodies_agree (body.Account a) (body.Account b) agree h = record {
    parts = h.parts;
    counts = λ count. let same = agree a refl count in ap (λ n. count_in count b + n) same.1 ∙ h.counts count
        ∙ ap (λ n. count_in count a + n) (sym same.0);
  }
  bodies_agree (body.Account a) other agree h = absurd h
  bodies_agree other b agree h = h

  pub alike_agree : (x y : Option LedgerEntry) → ((e : LedgerEntry) (account : AccountEntry) → x ≡ Some e
      → account_in e.body ≡ Some account → Agree account.account_id) → Alike p q x y → Alike p' q' x y
  alike_agree None None agree h = tt
  alike_agree None (Some y) agree h = absurd h
  alike_agree (Some x) None agree h = absurd h
  alike_agree (Some x) (Some y) agree h = record {
    sponsor = h.sponsor;
    bodies = bodies_agree x.body y.body (λ account is. agree x account refl is) h.bodies;
  }

  pub shifted_as : (old new : EntryMap) → ((k : LedgerKey) (e : LedgerEntry) (account : AccountEntry)
      → get old k ≡ Some e → account_in e.body ≡ Some account → Agree account.account_id)
      → IsShifted p q old new → IsShifted p' q' old new
  shifted_as old new agree h = record {
    own = h.own;
    entries = λ k. alike_agree (get old k) (get new k) (agree k) (h.entries k);
    totals = h.totals;
  }
