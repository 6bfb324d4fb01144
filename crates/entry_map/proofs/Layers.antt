-- Layers of changes.
use Rattle.entry_map.proofs.Prelude.{◌≡◌, refl, sym, ap, subst, ◌∙◌, true, false, cond, List, [], ◌∷◌, Option, Some}
use Rattle.entry_map.proofs.Prelude.{None, ◌⊎◌, inl, inr, Result, Ok, Err, OnOk, OnErr, IfSome, map, Bor, option_copied}
use Rattle.entry_map.proofs.Prelude.{eq_by_cmp, empty, get, insert, from_entries, get-empty, get-insert, LedgerKey}
use Rattle.entry_map.proofs.Prelude.{LedgerEntry, key_of, key_cmp, keys_total, EntryMap, IsKeyed, put, KeyedMap}
use Rattle.entry_map.proofs.Prelude.{LayerMap, IsKeyedLayer, same_keys, if_some_at, if_some_from}

pub either_way : {T E A B P : Type 0} (r : Result T E) → OnOk r A → OnErr r B → (A → P) → (B → P) → P
either_way (Ok t) a b f g = f a
either_way (Err e) a b f g = g b

-- what holds of each key with its value, and of one that is inserted, holds after it
pub after_insert : {V : Type 0} (P : LedgerKey → V → Type 0) (m : KeyedMap V) (k : LedgerKey) (v : V) → P k v
    → ((q : LedgerKey) (w : V) → get m q ≡ Some w → P q w)
    → (q : LedgerKey) (w : V) → get (insert m k v) q ≡ Some w → P q w
after_insert P m k v here old q w h =
    elim (eq_by_cmp key_cmp q k) as (λ b. eq_by_cmp key_cmp q k ≡ b → cond b (Some v) (get m q) ≡ Some w → P q w) [
      | true ↦ λ tied is. let same : v ≡ w = cc in subst (P q) same (subst (λ x. P x v) (sym (same_keys q k tied)) here)
      | false ↦ λ apart is. old q w is
    ] refl (sym (get-insert keys_total m k v q) ∙ h)

pub keyed_empty : IsKeyedLayer empty
keyed_empty k e h = absurd (cc (h, get-empty {X = Option LedgerEntry} key_cmp k))

pub keyed_change : (l : LayerMap) (k : LedgerKey) (change : Option LedgerEntry) → IsKeyedLayer l →
    ((e : LedgerEntry) → change ≡ Some e → key_of e ≡ k) → IsKeyedLayer (insert l k change)
keyed_change l k change keyed here q e h =
    after_insert (λ x w. (y : LedgerEntry) → w ≡ Some y
    → key_of y ≡ x) l k change here (λ x w is y same. keyed x y (is ∙ ap Some same)) q (Some e) h e refl

pub keyed_absorbed : (old newer new : LayerMap) → IsKeyedLayer old → IsKeyedLayer newer → ((q : LedgerKey)
    → (get new q ≡ get newer q) ⊎ (get new q ≡ get old q)) → IsKeyedLayer new
keyed_absorbed old newer new was late each k e h =
    elim (each k) [ inl same ↦ late k e (sym same ∙ h) | inr same ↦ was k e (sym same ∙ h) ]

pub keyed_put : (m : EntryMap) (e : LedgerEntry) → IsKeyed m → IsKeyed (put m e)
keyed_put m e keyed k =
    if_some_from (λ x. key_of x ≡ k) _ (λ x is. after_insert (λ q y. key_of y
    ≡ q) m (key_of e) e refl (λ q y h. if_some_at (λ z. key_of z ≡ q) (get m q) y (keyed q) h) k x is)

abbrev pub with_key : LedgerEntry → LedgerKey × LedgerEntry
with_key e = (key_of e, e)

pub keyed_from : (es : List LedgerEntry) → IsKeyed (from_entries (map with_key es))
keyed_from [] k = subst (λ o. IfSome o (λ e. key_of e ≡ k)) (sym (get-empty key_cmp k)) tt
keyed_from (e ∷ es) k = keyed_put (from_entries (map with_key es)) e (keyed_from es) k

pub keyed_boxed : (entry boxed e : LedgerEntry) (k : LedgerKey) → k ≡ key_of entry → boxed ≡ entry → Some boxed ≡ Some e
    → key_of e ≡ k
keyed_boxed entry boxed e k own same is = cc

-- what a layer has at a key is the key's own
pub keyed_found : (l : LayerMap) (k : LedgerKey) (o : Option (Bor (Option LedgerEntry))) → IsKeyedLayer l
    → option_copied o ≡ get l k → IfSome o (λ change. IfSome change.now (λ e. key_of e ≡ k))
keyed_found l k None keyed found = tt
keyed_found l k (Some change) keyed found =
    if_some_from (λ e. key_of e ≡ k) change.now (λ e is. keyed k e (sym found ∙ ap Some is))
