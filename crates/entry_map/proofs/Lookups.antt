-- What is there after an entry is put or erased.
use Rattle.entry_map.proofs.Prelude.{◌≡◌, ◌≢◌, refl, sym, ap, ◌∙◌, true, false, cond, Some, None, eq_by_cmp, get}
use Rattle.entry_map.proofs.Prelude.{get-insert, get-remove, LedgerEntry, LedgerKey, key_of, key_cmp, keys_total}
use Rattle.entry_map.proofs.Prelude.{same_keys, EntryMap, put, erase}
use Rattle.entry_map.proofs.KeyMaps.{same_itself}

pub put_get : (m : EntryMap) (e : LedgerEntry) (k : LedgerKey)
    → get (put m e) k ≡ cond (eq_by_cmp key_cmp k (key_of e)) (Some e) (get m k)
put_get m e k = get-insert keys_total m (key_of e) e k

pub erase_get : (m : EntryMap) (k q : LedgerKey) → get (erase m k) q ≡ cond (eq_by_cmp key_cmp q k) None (get m q)
erase_get m k q = get-remove keys_total m k q

pub put_there : (m : EntryMap) (e : LedgerEntry) → get (put m e) (key_of e) ≡ Some e
put_there m e = put_get m e (key_of e) ∙ ap (λ b. cond b (Some e) (get m (key_of e))) (same_itself (key_of e))

pub apart_keys : (k q : LedgerKey) → k ≢ q → eq_by_cmp key_cmp k q ≡ false
apart_keys k q apart = elim (eq_by_cmp key_cmp k q) as (λ b. eq_by_cmp key_cmp k q ≡ b → b ≡ false)
    [ true ↦ λ tied. absurd (apart (same_keys k q tied)) | false ↦ λ h. refl ] refl

pub put_elsewhere : (m : EntryMap) (e : LedgerEntry) (k : LedgerKey) → k ≢ key_of e → get (put m e) k ≡ get m k
put_elsewhere m e k apart = put_get m e k ∙ ap (λ b. cond b (Some e) (get m k)) (apart_keys k (key_of e) apart)

pub erase_there : (m : EntryMap) (k : LedgerKey) → get (erase m k) k ≡ None
erase_there m k = erase_get m k k ∙ ap (λ b. cond b None (get m k)) (same_itself k)

pub erase_elsewhere : (m : EntryMap) (k q : LedgerKey) → q ≢ k → get (erase m k) q ≡ get m q
erase_elsewhere m k q apart = erase_get m k q ∙ ap (λ b. cond b None (get m q)) (apart_keys q k apart)

-- what is left was there before, under another key
pub left_over : (m : EntryMap) (k q : LedgerKey) (e : LedgerEntry) → get (erase m k) q ≡ Some e
    → (q ≢ k) × (get m q ≡ Some e)
left_over m k q e there = elim (eq_by_cmp key_cmp q k) as
    (λ b. eq_by_cmp key_cmp q k ≡ b → cond b None (get m q) ≡ Some e → (q ≢ k) × (get m q ≡ Some e)) [
      | true ↦ λ tied is. absurd (cc)
      | false ↦ λ apart is. (
        λ same. let none : get (erase m k) q ≡ None = ap (get (erase m k)) same
            ∙ erase_there m k in absurd (cc),
        is,
      )
    ] refl (sym (erase_get m k q) ∙ there)
