-- Lists that have exactly the values of which something holds, as rows under their keys.
use Rattle.fresh_bucket.proofs.Prelude.{◌≡◌, ◌↔◌, Bool, true, false, cond, List, [], ◌∷◌, Some, None, map, refl, sym}
use Rattle.fresh_bucket.proofs.Prelude.{ap, subst, All, Contains, is_lt, is_eq, eq_by_cmp, AllByRecursion, find}
use Rattle.fresh_bucket.proofs.Prelude.{is_sorted, below_all, All-head, All-tail, LedgerKey, key_cmp, AreRising}
use Rattle.fresh_bucket.proofs.Prelude.{value_at, both, first, second, is_less, none_found, Sorted, Above}
use Rattle.fresh_bucket.proofs.Prelude.{contained_in_map, map_contains}
use Rattle.std.specs.declared.cmp.Ordering.{Ordering}
use Rattle.std.specs.declared.cmp.Ordering.TheVariants.{Less}
use Rattle.std.specs.Cmp.{tied_itself}
use Rattle.ledger_types.proofs.KeyOrdering.{keys_total}
use Rattle.entry_table.proofs.Positions.{found_at, at_of}

abbrev pub listed : {X V : Type 0} → (X → LedgerKey) → (X → V) → List X → List (LedgerKey × V)
listed key f xs = map (λ x. (key x, f x)) xs

above : {X V : Type 0} (key : X → LedgerKey) (f : X → V) (k : LedgerKey) (xs : List X)
    → All (λ q. key_cmp k q ≡ Less) (map key xs) → Above k (listed key f xs)
above key f k [] h = tt
above key f k (x ∷ xs) h = both (is_lt (key_cmp k (key x))) (below_all key_cmp k (listed key f xs))
    (is_less (key_cmp k (key x)) (All-head (λ q. key_cmp k q ≡ Less) (key x) (map key xs) h))
    (above key f k xs (All-tail (λ q. key_cmp k q ≡ Less) (key x) (map key xs) h))

pub sorted : {X V : Type 0} (key : X → LedgerKey) (f : X → V) (xs : List X) → AreRising (map key xs)
    → Sorted (listed key f xs)
sorted key f [] h = tt
sorted key f (x ∷ xs) h = both (below_all key_cmp (key x) (listed key f xs)) (is_sorted key_cmp (listed key f xs))
    (above key f (key x) xs h.0) (sorted key f xs h.1)

module _ {X V : Type 0} (key : X → LedgerKey) (f : X → V) (P : X → Type 0) (xs : List X)
    (rises : AreRising (map key xs)) (all : (x : X) → Contains xs x ↔ P x) where
  pub there : (x : X) → P x → value_at (key x) (listed key f xs) ≡ Some (f x)
  there x p =
      let h = map_contains (λ y. (key y, f y)) xs x ((all x).1 p) in
      subst (λ (y : LedgerKey × V). find key_cmp y.0 (listed key f xs) ≡ Some y.1) h.2
      (found_at (listed key f xs) h.0 (key x, f x) (sorted key f xs rises) h.1)

  pub source : (k : LedgerKey) (v : V) → value_at k (listed key f xs) ≡ Some v
      → (x : X) × P x × (key x ≡ k) × (v ≡ f x)
  source k v h =
      let x = contained_in_map (λ y. (key y, f y)) xs (k, v) (at_of (listed key f xs) k v (k, v) h) in
      (x.0, (all x.0).0 x.1, sym (ap (λ (y : LedgerKey × V). y.0) x.2), ap (λ (y : LedgerKey × V). y.1) x.2)

  pub nowhere : (k : LedgerKey) → ((x : X) → key x ≡ k → P x → ⊥) → value_at k (listed key f xs) ≡ None
  nowhere k never =
      elim (value_at k (listed key f xs)) as (λ o. value_at k (listed key f xs) ≡ o → o ≡ None) [
        | None ↦ λ h. refl
        | Some v ↦ λ h. let s = source k v h in absurd (never s.0 s.2 s.1)
      ] refl

-- ---- what is found of a row

later : {V : Type 0} (x : LedgerKey × V) (k : LedgerKey) (v : V) (xs : List (LedgerKey × V)) → Above x.0 xs
    → find key_cmp k xs ≡ Some v → (b : Bool) → eq_by_cmp key_cmp k x.0 ≡ b
    → cond b (Some x.1) (find key_cmp k xs) ≡ Some v
later x k v xs h f true tied = absurd (cc (f, none_found k x.0 xs tied h))
later x k v xs h f false tied = f

-- what holds of all that is found holds of each value
pub each_found : {V : Type 0} (P : LedgerKey → V → Type 0) (row : List (LedgerKey × V)) → Sorted row
    → ((k : LedgerKey) (v : V) → find key_cmp k row ≡ Some v → P k v) → AllByRecursion (λ x. P x.0 x.1) row
each_found P [] s h = tt
each_found P (x ∷ xs) s h = (
  h x.0 x.1 (ap (λ (o : Ordering). cond (is_eq o) (Some x.1) (find key_cmp x.0 xs)) (tied_itself keys_total x.0)),
  each_found P xs (second _ _ s)
      (λ k v f. h k v (later x k v xs (first _ _ s) f (eq_by_cmp key_cmp k x.0) refl)),
)
