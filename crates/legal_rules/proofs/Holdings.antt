-- What entries hold of each asset after a change: how much more under each key.
use Rattle.legal_rules.proofs.Prelude as prelude
use prelude.{◌≡◌, refl, sym, ap, subst, ◌∙◌, Bool, true, false, cond, Option, Some, None, arith, ints, ℤ, pos, neg_ℤ}
use prelude.{◌+ℤ◌, if◌then◌else◌, get, is_eq, AccountId, Asset, AccountEntry, LedgerEntry, LedgerEntryBody, LedgerKey}
use prelude.{asset_cmp, key_of, key_of_body, EntryMap, put, erase, account_in, account_of, account_at, with_account}
use prelude.{part, is_key, IsKeyed, none_more, both_more, under_key, for_one, Increase, HoldsMore, held, held_in}
use prelude.{lumens_of, lumens_in, lumens_at, erase_get, put_get, add_zero, changes_add, if_add, if_zero, same_keys}
use Rattle.hash_ids.specs.ledger_types.declared.asset.Asset.TheVariants as asset
use Rattle.hash_ids.specs.ledger_types.declared.entry.LedgerEntryBody.TheVariants as body
use Rattle.hash_ids.specs.ledger_types.declared.key.LedgerKey.TheVariants as key
use Rattle.legal_rules.proofs.Steps.{account_entry, same_id_at, with_account_is, with_body}

pub holds_itself : (m : EntryMap) → HoldsMore none_more m m
holds_itself m k x = sym (add_zero (part (held x) (get m k)))

pub holds_both : (d e : Increase) (old now new : EntryMap) → HoldsMore d old now → HoldsMore e now new
    → HoldsMore (both_more d e) old new
holds_both d e old now new first second k x =
    changes_add (part (held x) (get old k)) (part (held x) (get now k)) (part (held x) (get new k)) (d k x) (e k x)
    (first k x) (second k x)

pub holds_as : (d e : Increase) (old new : EntryMap) → HoldsMore d old new
    → ((k : LedgerKey) (x : Asset) → d k x ≡ e k x) → HoldsMore e old new
holds_as d e old new holds same k x = holds k x ∙ ap (λ n. part (held x) (get old k) +ℤ n) (same k x)

-- what holds as much as it did
pub still_holds : (old new : EntryMap) → HoldsMore none_more old new → (k : LedgerKey) (x : Asset)
    → part (held x) (get new k) ≡ part (held x) (get old k)
still_holds old new holds k x = holds k x ∙ add_zero (part (held x) (get old k))

-- none under a key
pub none_under : (at : LedgerKey) (amounts : Asset → ℤ) → ((x : Asset) → amounts x ≡ pos 0) → (k : LedgerKey)
    (x : Asset) → under_key at amounts k x ≡ none_more k x
none_under at amounts none k x = if_zero (is_key k at) (amounts x) (none x)

-- ---- an entry that is put or erased

pub put_holds : (m : EntryMap) (e : LedgerEntry) (amounts : Asset → ℤ)
    → ((x : Asset) → held x e ≡ (part (held x) (get m (key_of e)) +ℤ amounts x))
    → HoldsMore (under_key (key_of e) amounts) m (put m e)
put_holds m e amounts is k x =
    ap (part (held x)) (put_get m e k)
    ∙ elim (is_key k (key_of e)) as (λ b. is_key k (key_of e) ≡ b → part (held x) (cond b (Some e) (get m k))
    ≡ (part (held x) (get m k) +ℤ (if b then amounts x else pos 0))) [
      | true ↦ λ tied. is x
          ∙ ap (λ q. part (held x) (get m q) +ℤ amounts x) (sym (same_keys k (key_of e) tied))
      | false ↦ λ apart. sym (add_zero (part (held x) (get m k)))
    ] refl

-- an entry in the place of one that holds as much
pub put_same : (m : EntryMap) (e : LedgerEntry) → ((x : Asset) → held x e ≡ part (held x) (get m (key_of e)))
    → HoldsMore none_more m (put m e)
put_same m e same = holds_as (under_key (key_of e) (λ x. pos 0)) none_more m (put m e)
    (put_holds m e (λ x. pos 0) (λ x. same x ∙ sym (add_zero (part (held x) (get m (key_of e))))))
    (none_under (key_of e) (λ x. pos 0) (λ x. refl))

pub erase_holds : (m : EntryMap) (at : LedgerKey) (amounts : Asset → ℤ)
    → ((x : Asset) → (part (held x) (get m at) +ℤ amounts x) ≡ pos 0) → HoldsMore (under_key at amounts) m (erase m at)
erase_holds m at amounts is k x =
    ap (part (held x)) (erase_get m at k)
    ∙ elim (is_key k at) as (λ b. is_key k at ≡ b → part (held x) (cond b None (get m k))
    ≡ (part (held x) (get m k) +ℤ (if b then amounts x else pos 0))) [
      | true ↦ λ tied. sym (is x) ∙ ap (λ q. part (held x) (get m q) +ℤ amounts x) (sym (same_keys k at tied))
      | false ↦ λ apart. sym (add_zero (part (held x) (get m k)))
    ] refl

-- what is held, less as much
pub cancelled : (t : Bool) (n : ℤ) → ((if t then n else pos 0) +ℤ (if t then neg_ℤ n else pos 0)) ≡ pos 0
cancelled true n = omega (arith, ints)
cancelled false n = refl

-- ---- accounts

pub no_lumens_more : (id : AccountId) (k : LedgerKey) (x : Asset) → for_one id (pos 0) k x ≡ none_more k x
no_lumens_more id = none_under (key.Account id) (λ x. lumens_of x (pos 0))
    (λ x. if_zero (is_eq (asset_cmp x asset.Native)) (pos 0) refl)

module _ (m : EntryMap) (keyed : IsKeyed m) (id : AccountId) (f : AccountEntry → AccountEntry) (a : AccountEntry)
    (exists : account_at m id ≡ Some a) (more : ℤ) (named : (f a).account_id ≡ a.account_id)
    (balance : (f a).balance ≡ (a.balance +ℤ more)) where
  its_id : (f a).account_id ≡ id
  its_id = named ∙ same_id_at m id a keyed exists

  -- An account that exists is changed, and has so much more.
  pub account_holds : HoldsMore (for_one id more) m (with_account m id f)
  account_holds =
      let found = account_entry m id a exists in
      let e = with_body found.0 (f a) in
      subst (λ n. HoldsMore (for_one id more) m n) (sym (with_account_is m id f a found.0 found.1))
      (subst (λ q. HoldsMore (for_one q more) m (put m e)) its_id
      (put_holds m e (λ x. lumens_of x more) (λ x. ap (lumens_of x) balance
      ∙ if_add (is_eq (asset_cmp x asset.Native)) a.balance more
      ∙ ap (λ n. n +ℤ lumens_of x more) (sym (had x)))))
    where
      had : (x : Asset) → part (held x) (get m (key.Account (f a).account_id)) ≡ lumens_of x a.balance
      had x =
          let found = account_entry m id a exists in
          ap (λ q. part (held x) (get m (key.Account q))) its_id ∙ ap (part (held x)) found.1.there
          ∙ ap (held_in x) found.1.is

-- An account that exists is changed, and has what it had.
pub account_same : (m : EntryMap) → IsKeyed m → (id : AccountId) (f : AccountEntry → AccountEntry) (a : AccountEntry)
    → account_at m id ≡ Some a → (f a).account_id ≡ a.account_id → (f a).balance ≡ a.balance
    → HoldsMore none_more m (with_account m id f)
account_same m keyed id f a exists named same = holds_as (for_one id (pos 0)) none_more m (with_account m id f)
    (account_holds m keyed id f a exists (pos 0) named (same ∙ sym (add_zero a.balance))) (no_lumens_more id)

lumens_of_body : (of : LedgerEntryBody) (id : AccountId) → key_of_body of ≡ key.Account id
    → lumens_in (account_in of) ≡ held_in asset.Native of
lumens_of_body (body.Account a) id own = refl
lumens_of_body other id own = absurd (cc)

lumens_held : (o : Option LedgerEntry) (id : AccountId) → ((e : LedgerEntry) → o ≡ Some e → key_of e ≡ key.Account id)
    → lumens_in (account_of o) ≡ part (held asset.Native) o
lumens_held None id own = refl
lumens_held (Some e) id own = lumens_of_body e.body id (own e refl)

-- the lumens of an account are what its entry holds of them
pub lumens_there : (m : EntryMap) (id : AccountId) → IsKeyed m
    → lumens_at m id ≡ part (held asset.Native) (get m (key.Account id))
unfolding account_at
lumens_there m id keyed = lumens_held (get m (key.Account id)) id (keyed (key.Account id))
