-- Finite maps that have a function's values.
use Rattle.existence_laws.proofs.Prelude.{◌≡◌, Bool, true, false, cond, ◌||◌, List, [], ◌∷◌, ◌++◌, Option, Some, None}
use Rattle.existence_laws.proofs.Prelude.{refl, sym, ap, ◌∙◌, list_any, eq_by_cmp, empty, get, insert, keys, get-empty}
use Rattle.existence_laws.proofs.Prelude.{get-insert, contains_key-keys, list_any-append, LedgerKey, key_cmp}
use Rattle.existence_laws.proofs.Prelude.{keys_total, same_keys, or_parts}
use Rattle.close_laws.specs.entry_map.KeyMaps.{KeyedMap}
use Rattle.close_laws.proofs.ledger_types_proofs.Lists.{is_some_false}

-- a map that has a function's values
abbrev pub MapOf : {V : Type 0} → (LedgerKey → Option V) → Type 0
MapOf {V} f = (m : KeyedMap V) × ((k : LedgerKey) → get m k ≡ f k)

-- ---- at keys of a list

abbrev put_if : {V : Type 0} → LedgerKey → Option V → KeyedMap V → KeyedMap V
put_if k None m = m
put_if k (Some v) m = insert m k v

abbrev made_at : {V : Type 0} → (LedgerKey → Option V) → List LedgerKey → KeyedMap V
made_at f [] = empty
made_at f (k ∷ ks) = put_if k (f k) (made_at f ks)

none_where : {V : Type 0} (b : Bool) (o : Option V) → None ≡ o → cond b o None ≡ o
none_where true o none = refl
none_where false o none = none

-- a value that is put, or none, where the map has what it should have at other keys
put_more : {V : Type 0} (m : KeyedMap V) (k q : LedgerKey) (here wanted : Option V) (others : Bool)
    → get m q ≡ cond others wanted None → (b : Bool) → eq_by_cmp key_cmp q k ≡ b → (b ≡ true → here ≡ wanted)
    → get (put_if k here m) q ≡ cond (b || others) wanted None
put_more m k q None wanted others has true tied same = has ∙ none_where others wanted (same refl)
put_more m k q None wanted others has false tied same = has
put_more m k q (Some v) wanted others has true tied same =
    get-insert keys_total m k v q ∙ ap (λ (b : Bool). cond b (Some v) (get m q)) tied ∙ same refl
put_more m k q (Some v) wanted others has false tied same =
    get-insert keys_total m k v q ∙ ap (λ (b : Bool). cond b (Some v) (get m q)) tied ∙ has

get_made : {V : Type 0} (f : LedgerKey → Option V) (ks : List LedgerKey) (q : LedgerKey)
    → get (made_at f ks) q ≡ cond (list_any (eq_by_cmp key_cmp q) ks) (f q) None
get_made f [] q = get-empty key_cmp q
get_made f (k ∷ ks) q =
    put_more (made_at f ks) k q (f k) (f q) (list_any (eq_by_cmp key_cmp q) ks) (get_made f ks q)
    (eq_by_cmp key_cmp q k) refl (λ tied. ap f (sym (same_keys q k tied)))

-- what is none but at keys of a list is so much
within : {V : Type 0} (b : Bool) (o : Option V) → (b ≡ false → o ≡ None) → cond b o None ≡ o
within true o none = refl
within false o none = sym (none refl)

made_of : {V : Type 0} (f : LedgerKey → Option V) (ks : List LedgerKey)
    → ((k : LedgerKey) → list_any (eq_by_cmp key_cmp k) ks ≡ false → f k ≡ None) → MapOf f
made_of f ks none =
    (made_at f ks, λ k. get_made f ks k ∙ within (list_any (eq_by_cmp key_cmp k) ks) (f k) (none k))

-- ---- at keys of maps

pub no_value : {V : Type 0} (m : KeyedMap V) (k : LedgerKey) → list_any (eq_by_cmp key_cmp k) (keys m) ≡ false
    → get m k ≡ None
no_value m k none = is_some_false (get m k) (contains_key-keys m k ∙ none)

-- where a function has a value only where one of two maps has one, some map has its values
pub map_over : {A B V : Type 0} (a : KeyedMap A) (b : KeyedMap B) (f : LedgerKey → Option V)
    → ((k : LedgerKey) → get a k ≡ None → get b k ≡ None → f k ≡ None) → MapOf f
map_over a b f none = made_of f (keys a ++ keys b) (λ k out.
    let apart = or_parts (list_any (eq_by_cmp key_cmp k) (keys a)) (list_any (eq_by_cmp key_cmp k) (keys b))
    (sym (list_any-append (eq_by_cmp key_cmp k) (keys a) (keys b)) ∙ out) in
    none k (no_value a k apart.0) (no_value b k apart.1))
