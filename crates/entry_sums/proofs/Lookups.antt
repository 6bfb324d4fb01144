-- What is there after an entry is put or erased, and what then holds of each entry.
use Rattle.entry_sums.proofs.Prelude.{◌≡◌, refl, sym, subst, ◌∙◌, true, false, cond, Some, None, eq_by_cmp, get}
use Rattle.entry_sums.proofs.Prelude.{LedgerEntry, LedgerKey, key_of, key_cmp, EntryMap, erase, EachEntry, erase_get}
use Rattle.entry_sums.proofs.Prelude.{put_get, same_keys}
use Rattle.entry_map.specs.EntryMap.{put}

-- ---- each entry

pub put_each : (P : LedgerKey → LedgerEntry → Type 0) (m : EntryMap) (e : LedgerEntry) → EachEntry P m
    → P (key_of e) e → EachEntry P (put m e)
put_each P m e each new k x there = elim (eq_by_cmp key_cmp k (key_of e)) as
    (λ b. eq_by_cmp key_cmp k (key_of e) ≡ b → cond b (Some e) (get m k) ≡ Some x → P k x) [
      | true ↦ λ tied is. let same : e ≡ x = cc in subst (P k) same
          (subst (λ q. P q e) (sym (same_keys k (key_of e) tied)) new)
      | false ↦ λ apart is. each k x is
    ] refl (sym (put_get m e k) ∙ there)

pub erase_each : (P : LedgerKey → LedgerEntry → Type 0) (m : EntryMap) (k : LedgerKey) → EachEntry P m
    → EachEntry P (erase m k)
erase_each P m k each q x there = elim (eq_by_cmp key_cmp q k) as (λ b. cond b None (get m q) ≡ Some x → P q x) [
  | true ↦ λ is. absurd (cc)
  | false ↦ λ is. each q x is
] (sym (erase_get m k q) ∙ there)
