-- A state within a transaction after one entry is changed in its place.
use Rattle.legal_rules.proofs.Prelude as prelude
use prelude.{◌≡◌, refl, sym, ap, subst, ◌∙◌, true, false, cond, Some, arith, ints, ℤ, ◌+ℤ◌, ◌-ℤ◌, get, AccountId, Hash}
use prelude.{AccountEntry, LedgerEntry, LedgerKey, key_of, EntryMap, put, account_at, with_account, Weight, part}
use prelude.{EachEntry, put_each, total_put, is_key, Kind, View, held, lumens_of, offer_with, params_in, params_of}
use prelude.{pools_in, weight, Owed, nothing_owed, plus, IsLegalWith, put_get, add_zero, changes_add, same_keys}
use prelude.{account_kind, IsEntryOf, accounts_exact, entry_exists, entry_found, with_found, own_key}
use Rattle.hash_ids.specs.ledger_types.declared.entry.LedgerEntryBody.TheVariants as body
use Rattle.hash_ids.specs.ledger_types.declared.key.LedgerKey.TheVariants as key
use Rattle.legal_rules.proofs.Numbers.{moved_by, no_more_than, difference}

-- ---- the entry of an account

abbrev pub IsAccountEntry : EntryMap → AccountId → AccountEntry → LedgerEntry → Type 0
IsAccountEntry m id a e = IsEntryOf account_kind m (key.Account id) a e

pub account_entry : (m : EntryMap) (id : AccountId) (a : AccountEntry) → account_at m id ≡ Some a
    → (e : LedgerEntry) × IsAccountEntry m id a e
unfolding account_at
account_entry m id a h = entry_found accounts_exact m (key.Account id) a h

pub account_exists : (m : EntryMap) (id : AccountId) (a : AccountEntry) (e : LedgerEntry) → IsAccountEntry m id a e
    → account_at m id ≡ Some a
unfolding account_at
account_exists m id a e here = entry_exists accounts_exact m (key.Account id) a e here

abbrev pub with_body : LedgerEntry → AccountEntry → LedgerEntry
with_body e b = record e { body = body.Account b }

pub with_account_is : (m : EntryMap) (id : AccountId) (f : AccountEntry → AccountEntry) (a : AccountEntry)
    (e : LedgerEntry) → IsAccountEntry m id a e → with_account m id f ≡ put m (with_body e (f a))
unfolding with_account
with_account_is m id f a e here = with_found accounts_exact m (key.Account id) f a e here

-- ---- an entry in place of another one

-- an entry that is in another's place, with which aggregates owe so much more
pub record IsReplaced (v : View) (more : Owed) (e e' : LedgerEntry) : Type 0 where
  pub own : key_of e' ≡ key_of e
  pub params : params_in e'.body ≡ params_in e.body
  pub offers : (id : ℤ) → offer_with id e' ≡ offer_with id e
  pub aggregates : (kind : Kind) (k : LedgerKey) → weight v kind k e' ≡ (weight v kind k e +ℤ more kind k)

module _ (v : View) (P : LedgerEntry → Type 0) (owed more : Owed) (sum : ℤ) (m : EntryMap) (k : LedgerKey)
    (e e' : LedgerEntry) (there : get m k ≡ Some e) (legal : IsLegalWith v P owed sum m)
    (move : IsReplaced v more e e') (holds : P e') where
  its_key : key_of e' ≡ k
  its_key = move.own ∙ legal.keyed k e there

  old_part : (f : Weight) → part f (get m (key_of e')) ≡ f e
  old_part f = ap (λ q. part f (get m q)) its_key ∙ ap (part f) there

  same_params : (id : Hash) → pools_in (put m e') id ≡ pools_in m id
  same_params id = ap params_of (put_get m e' (key.LiquidityPool id))
      ∙ elim (is_key (key.LiquidityPool id) (key_of e')) as (λ b. is_key (key.LiquidityPool id) (key_of e') ≡ b
      → params_of (cond b (Some e') (get m (key.LiquidityPool id))) ≡ params_of (get m (key.LiquidityPool id))) [
        | true ↦ λ tied. move.params
            ∙ sym (ap params_of (ap (get m) (same_keys _ _ tied ∙ its_key) ∙ there))
        | false ↦ λ apart. refl
      ] refl

  pub replace_legal : IsLegalWith v P (plus owed more) (sum +ℤ (held v.asset e' -ℤ held v.asset e)) (put m e')
  replace_legal = record {
    params = λ id. same_params id ∙ legal.params id;
    keyed = put_each (λ q x. key_of x ≡ q) m e' legal.keyed refl;
    entries = put_each (λ q x. P x) m e' legal.entries holds;
    offers = λ id. no_more_than _ _ _ _ (total_put (offer_with id) m e')
        (move.offers id ∙ sym (old_part (offer_with id))) (legal.offers id);
    aggregates = λ kind q.
        moved_by _ _ _ _ (more kind q) (total_put (weight v kind q) m e')
        (move.aggregates kind q ∙ ap (λ w. w +ℤ more kind q) (sym (old_part (weight v kind q))))
        ∙ ap (λ n. n +ℤ more kind q) (legal.aggregates kind q);
    supply =
        moved_by _ _ _ _ (held v.asset e' -ℤ held v.asset e) (total_put (held v.asset) m e')
        (difference (held v.asset e) (held v.asset e')
        ∙ ap (λ w. w +ℤ (held v.asset e' -ℤ held v.asset e)) (sym (old_part (held v.asset))))
        ∙ ap (λ n. n +ℤ (held v.asset e' -ℤ held v.asset e)) legal.supply;
  }

-- the same with other words for what aggregates owe and for the supply
pub legal_as : (v : View) (P : LedgerEntry → Type 0) (owed other : Owed) (sum new : ℤ) (m : EntryMap)
    → IsLegalWith v P owed sum m → ((kind : Kind) (k : LedgerKey) → owed kind k ≡ other kind k) → sum ≡ new
    → IsLegalWith v P other new m
legal_as v P owed other sum new m legal same sums = record {
  params = legal.params;
  keyed = legal.keyed;
  entries = legal.entries;
  offers = legal.offers;
  aggregates = λ kind k. legal.aggregates kind k ∙ same kind k;
  supply = legal.supply ∙ sums;
}

-- ---- a change of an account

-- an account that is in another's place
pub record IsMove (more : Owed) (a b : AccountEntry) : Type 0 where
  pub id : b.account_id ≡ a.account_id
  pub aggregates : (v : View) (kind : Kind) (k : LedgerKey) (e : LedgerEntry)
      → weight v kind k (with_body e b) ≡ (weight v kind k (with_body e a) +ℤ more kind k)

-- P holds of an account's entry with b in place of a
abbrev pub KeepsRange : (LedgerEntry → Type 0) → (a b : AccountEntry) → Type 0
KeepsRange P a b = (e : LedgerEntry) → P (with_body e a) → P (with_body e b)

pub same_id_at : (m : EntryMap) (id : AccountId) (a : AccountEntry) → EachEntry (λ k e. key_of e ≡ k) m
    → account_at m id ≡ Some a → a.account_id ≡ id
unfolding account_at
same_id_at m id a keyed exists =
    let same : key.Account a.account_id ≡ key.Account id =
    own_key accounts_exact m (key.Account id) a (keyed (key.Account id)) exists in
    cc

pub body_there : (m : EntryMap) (id : AccountId) (a : AccountEntry) (e : LedgerEntry) → IsAccountEntry m id a e
    → get m (key.Account id) ≡ Some (with_body e a)
body_there m id a e here = here.there ∙ ap Some (λ i. record e { body = here.is i })

-- An account that exists is changed.
pub with_account_legal : (v : View) (P : LedgerEntry → Type 0) (owed more : Owed) (sum : ℤ) (m : EntryMap)
    (id : AccountId) (f : AccountEntry → AccountEntry) (a : AccountEntry) → IsLegalWith v P owed sum m
    → account_at m id ≡ Some a → IsMove more a (f a) → KeepsRange P a (f a)
    → IsLegalWith v P (plus owed more) (sum +ℤ (lumens_of v.asset (f a).balance -ℤ lumens_of v.asset a.balance))
    (with_account m id f)
with_account_legal v P owed more sum m id f a legal exists move keeps =
    let found = account_entry m id a exists in
    let there = body_there m id a found.0 found.1 in
    subst (IsLegalWith v P (plus owed more) (sum +ℤ (lumens_of v.asset (f a).balance -ℤ lumens_of v.asset a.balance)))
    (sym (with_account_is m id f a found.0 found.1))
    (replace_legal v P owed more sum m (key.Account id) (with_body found.0 a) (with_body found.0 (f a)) there legal
    (record {
      own = ap key.Account move.id;
      params = refl;
      offers = λ n. refl;
      aggregates = λ kind k. move.aggregates v kind k found.0;
    }) (keeps found.0 (legal.entries _ _ there)))

-- ---- a step: a change of an account that leaves its balance

pub record IsStep (P : LedgerEntry → Type 0) (more : Owed) (a b : AccountEntry) : Type 0 where
  pub move : IsMove more a b
  pub balance : b.balance ≡ a.balance
  pub keeps : KeepsRange P a b

pub no_step : (P : LedgerEntry → Type 0) (a : AccountEntry) → IsStep P nothing_owed a a
no_step P a = record {
  move = record { id = refl; aggregates = λ v kind k e. sym (add_zero _) };
  balance = refl;
  keeps = λ e was. was;
}

pub steps : (P : LedgerEntry → Type 0) (more then : Owed) (a b c : AccountEntry) → IsStep P more a b
    → IsStep P then b c → IsStep P (plus more then) a c
steps P more then a b c first second = record {
  move = record {
    id = second.move.id ∙ first.move.id;
    aggregates = λ v kind k e. changes_add _ _ _ (more kind k) (then kind k) (first.move.aggregates v kind k e)
        (second.move.aggregates v kind k e);
  };
  balance = second.balance ∙ first.balance;
  keeps = λ e was. second.keeps e (first.keeps e was);
}

pub step_as : (P : LedgerEntry → Type 0) (more other : Owed) (a b : AccountEntry) → IsStep P more a b
    → ((kind : Kind) (k : LedgerKey) → more kind k ≡ other kind k) → IsStep P other a b
step_as P more other a b step same = record {
  move = record {
    id = step.move.id;
    aggregates = λ v kind k e. step.move.aggregates v kind k e
        ∙ ap (λ n. weight v kind k (with_body e a) +ℤ n) (same kind k);
  };
  balance = step.balance;
  keeps = step.keeps;
}

kept_sum : (sum new old : ℤ) → new ≡ old → (sum +ℤ (new -ℤ old)) ≡ sum
kept_sum sum new old same = omega (arith, ints)

pub stepped : (v : View) (P : LedgerEntry → Type 0) (owed more : Owed) (sum : ℤ) (m : EntryMap) (id : AccountId)
    (f : AccountEntry → AccountEntry) (a : AccountEntry) → IsLegalWith v P owed sum m → account_at m id ≡ Some a
    → IsStep P more a (f a) → IsLegalWith v P (plus owed more) sum (with_account m id f)
stepped v P owed more sum m id f a legal exists step =
    legal_as v P (plus owed more) (plus owed more) _ sum (with_account m id f)
    (with_account_legal v P owed more sum m id f a legal exists step.move step.keeps) (λ kind k. refl)
    (kept_sum sum (lumens_of v.asset (f a).balance) (lumens_of v.asset a.balance) (ap (lumens_of v.asset) step.balance))
