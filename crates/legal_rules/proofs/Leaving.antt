-- What a change leaves of a map: what each entry holds, which accounts exist, and what is available of each.
use Rattle.legal_rules.proofs.Prelude.{◌≡◌, ◌⊎◌, inl, inr, refl, sym, ap, subst, ◌∙◌, ℕ, true, false, Option, Some}
use Rattle.legal_rules.proofs.Prelude.{None, arith, ints, ℤ, pos, ◌+ℤ◌, ◌≤ℤ◌, get, AccountId, Asset, AccountEntry}
use Rattle.legal_rules.proofs.Prelude.{LedgerEntry, LedgerKey, key_of, EntryMap, put, same_itself, account_in}
use Rattle.legal_rules.proofs.Prelude.{account_of, account_at, with_account, HasAccount, put_each, available}
use Rattle.legal_rules.proofs.Prelude.{is_same_account, same_account, apart_accounts, is_key, IsKeyed, Increase}
use Rattle.legal_rules.proofs.Prelude.{none_more, both_more, for_one, HoldsMore, IsCoveredBy, IsAfter, put_elsewhere}
use Rattle.legal_rules.proofs.Prelude.{put_there, zero_add, same_keys, accounts_exact, with_missing, EntryKind, IsExact}
use Rattle.legal_rules.proofs.Prelude.{either_way, with_entry}
use Rattle.hash_ids.specs.ledger_types.declared.key.LedgerKey.TheVariants as key
use Rattle.legal_rules.proofs.Indices.{account_after, account_elsewhere}
use Rattle.legal_rules.proofs.Holdings.{holds_itself, holds_both, holds_as, no_lumens_more, account_holds}

-- ---- one account

pub is_itself_after : (base : ℕ) (o : Option AccountEntry) → IsAfter base o o
is_itself_after base o = record { covered = λ a is. inr (a, is, omega (arith, ints)) }

module _ (base : ℕ) (old now new : Option AccountEntry) (first : IsAfter base old now) (second : IsAfter base now new)
  where
    covered_on : (a b : AccountEntry) → available a base ≤ℤ available b base → IsCoveredBy base old a
        → IsCoveredBy base old b
    covered_on a b le (inl low) = inl (omega (arith, ints))
    covered_on a b le (inr was) = let also = was.2 in inr (was.0, was.1, omega (arith, ints))

    covered_by : (b : AccountEntry) → IsCoveredBy base now b → IsCoveredBy base old b
    covered_by b (inl low) = inl low
    covered_by b (inr was) = covered_on was.0 b was.2 (first.covered was.0 was.1)

    after_both : IsAfter base old new
    after_both = record { covered = λ b is. covered_by b (second.covered b is) }

-- ---- all accounts

-- Each entry holds so much more, each account is covered, and who existed still exists.
pub record Leaves (base : ℕ) (more : Increase) (old new : EntryMap) : Type 0 where
  pub each : (id : AccountId) → IsAfter base (account_at old id) (account_at new id)
  pub holds : HoldsMore more old new
  pub exist : (id : AccountId) → HasAccount old id → HasAccount new id
  pub keyed : IsKeyed new

pub leaves_itself : (base : ℕ) (m : EntryMap) → IsKeyed m → Leaves base none_more m m
leaves_itself base m keyed = record {
  each = λ id. is_itself_after base (account_at m id);
  holds = holds_itself m;
  exist = λ id exists. exists;
  keyed = keyed;
}

pub leaves_both : (base : ℕ) (d e : Increase) (old now new : EntryMap) → Leaves base d old now → Leaves base e now new
    → Leaves base (both_more d e) old new
leaves_both base d e old now new first second = record {
  each = λ id. after_both base (account_at old id) (account_at now id) (account_at new id) (first.each id)
      (second.each id);
  holds = holds_both d e old now new first.holds second.holds;
  exist = λ id exists. second.exist id (first.exist id exists);
  keyed = second.keyed;
}

pub leaves_as : (base : ℕ) (d e : Increase) (old new : EntryMap) → Leaves base d old new
    → ((k : LedgerKey) (x : Asset) → d k x ≡ e k x) → Leaves base e old new
leaves_as base d e old new leaves same = record {
  each = leaves.each;
  holds = holds_as d e old new leaves.holds same;
  exist = leaves.exist;
  keyed = leaves.keyed;
}

-- changes by which no entry holds more
pub keeps_both : (base : ℕ) (old now new : EntryMap) → Leaves base none_more old now → Leaves base none_more now new
    → Leaves base none_more old new
keeps_both base old now new first second = leaves_as base (both_more none_more none_more) none_more old new
    (leaves_both base none_more none_more old now new first second) (λ k x. refl)

-- a change after one by which no entry holds more
pub keeps_then : (base : ℕ) (d : Increase) (old now new : EntryMap) → Leaves base none_more old now
    → Leaves base d now new → Leaves base d old new
keeps_then base d old now new first second = leaves_as base (both_more none_more d) d old new
    (leaves_both base none_more d old now new first second) (λ k x. zero_add (d k x))

-- no account changes
pub accounts_kept : (base : ℕ) (more : Increase) (old new : EntryMap) → IsKeyed new
    → ((id : AccountId) → account_at new id ≡ account_at old id) → HoldsMore more old new → Leaves base more old new
accounts_kept base more old new keyed same holds = record {
  each = λ id. subst (λ o. IsAfter base (account_at old id) o) (sym (same id))
      (is_itself_after base (account_at old id));
  holds = holds;
  exist = λ id exists. (exists.0, same id ∙ exists.1);
  keyed = keyed;
}

-- ---- a change of one entry

pub keyed_put : (m : EntryMap) (e : LedgerEntry) → IsKeyed m → IsKeyed (put m e)
keyed_put m e keyed = put_each (λ k x. key_of x ≡ k) m e keyed refl

pub keyed_after : {V : Type 0} {kind : EntryKind V} (exact : IsExact kind) (m : EntryMap) (k : LedgerKey) (f : V → V)
    → IsKeyed m → IsKeyed (with_entry kind m k f)
keyed_after {V} {kind} exact m k f keyed = either_way exact m k f IsKeyed (λ none. keyed)
    (λ e v here. keyed_put m (record e { body = kind.body_of (f v) }) keyed)

-- ---- a change of one account

-- an account in another's place, with so much more
pub record IsNext (base : ℕ) (more : ℤ) (was a : AccountEntry) : Type 0 where
  pub id : a.account_id ≡ was.account_id
  pub balance : a.balance ≡ (was.balance +ℤ more)
  pub covered : (pos 0 ≤ℤ available a base) ⊎ (available was base ≤ℤ available a base)

next_after : (base : ℕ) (more : ℤ) (was a : AccountEntry) → IsNext base more was a
    → IsAfter base (Some was) (Some a)
next_after base more was a next = record {
  covered = λ b is.
      let same : a ≡ b = cc in
      subst (IsCoveredBy base (Some was)) same (elim next.covered [
        | inl low ↦ inl low
        | inr le ↦ inr (was, refl, le)
      ]);
}

module _ (base : ℕ) (more : ℤ) (m : EntryMap) (keyed : IsKeyed m) (id : AccountId) (f : AccountEntry → AccountEntry)
    (a : AccountEntry) (exists : account_at m id ≡ Some a) (next : IsNext base more a (f a)) where
  abbrev new : EntryMap
  new = with_account m id f

  here : account_at new id ≡ Some (f a)
  here = account_after m id f a keyed exists next.id

  still_keyed : IsKeyed new
  unfolding with_account
  still_keyed = keyed_after accounts_exact m (key.Account id) f keyed

  at : (other : AccountId) → IsAfter base (account_at m other) (account_at new other)
  at other = elim (is_same_account id other) as (λ b. is_same_account id other ≡ b
      → IsAfter base (account_at m other) (account_at new other)) [
        | true ↦ λ is.
            let same = same_account id other is in
            subst (λ x. IsAfter base (account_at m x) (account_at new x)) same
            (subst (λ o. IsAfter base o (account_at new id)) (sym exists)
            (subst (λ o. IsAfter base (Some a) o) (sym here) (next_after base more a (f a) next)))
        | false ↦ λ is.
            let apart = apart_accounts id other is in
            subst (λ o. IsAfter base (account_at m other) o)
            (sym (account_elsewhere m id f a keyed exists next.id other (λ same. apart (sym same))))
            (is_itself_after base (account_at m other))
      ] refl

  exist_at : (other : AccountId) → HasAccount m other → HasAccount new other
  exist_at other there = elim (is_same_account id other) as (λ b. is_same_account id other ≡ b → HasAccount new other) [
    | true ↦ λ is. (f a, ap (account_at new) (sym (same_account id other is)) ∙ here)
    | false ↦ λ is.
        let apart = apart_accounts id other is in
        (there.0, account_elsewhere m id f a keyed exists next.id other (λ same. apart (sym same)) ∙ there.1)
  ] refl

  -- An account that exists is changed.
  pub account_changed : Leaves base (for_one id more) m new
  account_changed = record {
    each = at;
    holds = account_holds m keyed id f a exists more next.id next.balance;
    exist = exist_at;
    keyed = still_keyed;
  }

-- an account that doesn't exist isn't changed
pub no_account_changed : (m : EntryMap) (id : AccountId) (f : AccountEntry → AccountEntry) → account_at m id ≡ None
    → with_account m id f ≡ m
unfolding account_at with_account
no_account_changed m id f none = with_missing accounts_exact m (key.Account id) f none

-- an account is changed, if it exists
pub account_kept : (base : ℕ) (m : EntryMap) → IsKeyed m → (id : AccountId) (f : AccountEntry → AccountEntry)
    → ((a : AccountEntry) → account_at m id ≡ Some a → IsNext base (pos 0) a (f a))
    → Leaves base none_more m (with_account m id f)
account_kept base m keyed id f next =
    elim (account_at m id) as (λ o. account_at m id ≡ o → Leaves base none_more m (with_account m id f)) [
      | None ↦ λ none. subst (Leaves base none_more m) (sym (no_account_changed m id f none))
          (leaves_itself base m keyed)
      | Some a ↦ λ exists. leaves_as base (for_one id (pos 0)) none_more m (with_account m id f)
          (account_changed base (pos 0) m keyed id f a exists (next a exists))
          (no_lumens_more id)
    ] refl

-- ---- an entry that is put

-- an entry in the place of one with the same account in it, if there is one
pub put_accounts : (m : EntryMap) (e : LedgerEntry) → account_in e.body ≡ account_of (get m (key_of e))
    → (id : AccountId) → account_at (put m e) id ≡ account_at m id
unfolding account_at
put_accounts m e same id = elim (is_key (key.Account id) (key_of e)) as (λ b. is_key (key.Account id) (key_of e) ≡ b
    → account_of (get (put m e) (key.Account id)) ≡ account_of (get m (key.Account id))) [
      | true ↦ λ tied.
          let here : key.Account id ≡ key_of e = same_keys _ _ tied in
          ap (λ k. account_of (get (put m e) k)) here ∙ ap account_of (put_there m e) ∙ same
          ∙ ap (λ k. account_of (get m k)) (sym here)
      | false ↦ λ apart. ap account_of (put_elsewhere m e (key.Account id) (λ is.
          let tied : is_key (key.Account id) (key_of e) ≡ true = ap (is_key (key.Account id)) (sym is)
          ∙ same_itself (key.Account id) in absurd (cc)))
    ] refl
