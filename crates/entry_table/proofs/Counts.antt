-- How many entries a batch leaves.
use Rattle.entry_table.proofs.Prelude.{◌≡◌, ◌≢◌, suc, ◌+◌, Bool, true, false, cond, ◌||◌, List, [], ◌∷◌, length, map}
use Rattle.entry_table.proofs.Prelude.{Option, Some, None, refl, sym, ap, subst, ◌∙◌, arith, All, All-head, All-tail}
use Rattle.entry_table.proofs.Prelude.{Contains, Ordering, Less, is_eq, tied_itself, option_or, entries, get}
use Rattle.entry_table.proofs.Prelude.{LedgerKey, LedgerEntry, key_cmp, key_of, keys_total, same_keys, Batch, EntryMap}
use Rattle.std.proofs.Common.{◌-◌}
use Rattle.entry_table.proofs.Prelude.{◌≤◌, AreRising, none_above, value_at, is_among, with_key}
use Rattle.std.specs.FinMap.{contains_key, empty_of_len, get-empty, len, len-entries, len-insert, len-remove}
use Rattle.std.specs.Option.{is_some}
use Rattle.std.proofs.lemmas.Map.Views.{Contains-from_any}
use Rattle.entry_map.specs.Batch.{IsBatch}
use Rattle.entry_map.specs.EntryMap.{erase}
use Rattle.entry_table.specs.AfterBatch.{all_put, all_erased, after_batch}
use Rattle.entry_table.proofs.Walks.{first}
use Rattle.entry_table.proofs.Tables.{sorted_keys}
use Rattle.entry_table.proofs.AfterBatch.{get_put, get_erased}

first_in : {X : Type 0} (x : X) (xs : List X) → Contains (x ∷ xs) x
first_in x xs = (0, omega arith, refl)

later_in : {X : Type 0} (x q : X) (xs : List X) → Contains xs q → Contains (x ∷ xs) q
later_in x q xs there = (suc there.0, omega (arith, there.1), there.2)

is_there : (m : EntryMap) (k : LedgerKey) → get m k ≢ None → contains_key m k ≡ true
is_there m k there =
    elim (get m k) as (λ (o : Option LedgerEntry). o ≢ None → is_some o ≡ true) [
      | None ↦ λ none. absurd (none refl)
      | Some e ↦ λ _. refl
    ] there

-- ---- keys that are gone

one_less : (m : EntryMap) (k : LedgerKey) → get m k ≢ None → len (erase m k) + 1 ≡ len m
one_less m k there =
    let some : len m ≢ 0 = λ none. there (ap (λ (n : EntryMap). get n k) (empty_of_len m none) ∙ get-empty key_cmp k) in
    let less = len-remove keys_total m k ∙ ap (λ (b : Bool). cond b (len m - 1) (len m)) (is_there m k there) in
    omega (arith, some, less)

apart : (k : LedgerKey) (ks : List LedgerKey) → All (λ q. key_cmp k q ≡ Less) ks → is_among k ks ≡ false
apart k [] above = refl
apart k (q ∷ ks) above =
    ap (λ (o : Ordering). is_eq o || is_among k ks) (All-head (λ r. key_cmp k r ≡ Less) q ks above)
    ∙ apart k ks (All-tail (λ r. key_cmp k r ≡ Less) q ks above)

count_erased : (m : EntryMap) (ks : List LedgerKey) → AreRising ks → ((k : LedgerKey) → Contains ks k → get m k ≢ None)
    → len (all_erased m ks) + length ks ≡ len m
count_erased m [] rises there = omega arith
count_erased m (k ∷ ks) rises there =
    let others = count_erased m ks rises.1 (λ q among. there q (later_in k q ks among)) in
    let same = get_erased m ks k ∙ ap (λ (b : Bool). cond b None (get m k)) (apart k ks rises.0) in
    let less = one_less (all_erased m ks) k (λ none. there k (first_in k ks) (sym same ∙ none)) in
    omega (arith, others, less)

-- ---- new entries

not_among : (e : LedgerEntry) (es : List LedgerEntry) → AreRising (map key_of (e ∷ es))
    → value_at (key_of e) (map with_key es) ≡ None
not_among e es rises = none_above keys_total (key_of e) (key_of e) (map with_key es) (tied_itself keys_total (key_of e))
    (first _ _ (sorted_keys (e ∷ es) rises))

count_new : (m : EntryMap) (es : List LedgerEntry) → AreRising (map key_of es)
    → ((e : LedgerEntry) → Contains es e → get m (key_of e) ≡ None) → len (all_put m es) ≡ len m + length es
count_new m [] rises none = omega arith
count_new m (e ∷ es) rises none =
    let others = count_new m es rises.1 (λ x among. none x (later_in e x es among)) in
    let absent : get (all_put m es) (key_of e) ≡ None = get_put m es (key_of e)
    ∙ (λ i. option_or (not_among e es rises i) (none e (first_in e es) i)) in
    let more = len-insert keys_total (all_put m es) (key_of e) e
    ∙ ap (λ (o : Option LedgerEntry). cond (is_some o) (len (all_put m es)) (len (all_put m es) + 1)) absent in
    omega (arith, others, more)

-- ---- changed entries

or_there : (a b : Option LedgerEntry) → b ≢ None → option_or a b ≢ None
or_there None b there = there
or_there (Some e) b there = λ none. cc

stays : (m : EntryMap) (es : List LedgerEntry) (k : LedgerKey) → get m k ≢ None → get (all_put m es) k ≢ None
stays m es k there = subst (λ (o : Option LedgerEntry). o ≢ None) (sym (get_put m es k))
    (or_there (value_at k (map with_key es)) (get m k) there)

count_changed : (m : EntryMap) (es : List LedgerEntry)
    → ((e : LedgerEntry) → Contains es e → get m (key_of e) ≢ None) → len (all_put m es) ≡ len m
count_changed m [] there = refl
count_changed m (e ∷ es) there =
    len-insert keys_total (all_put m es) (key_of e) e
    ∙ ap (λ (b : Bool). cond b (len (all_put m es)) (len (all_put m es) + 1))
    (is_there (all_put m es) (key_of e) (stays m es (key_of e) (there e (first_in e es))))
    ∙ count_changed m es (λ x among. there x (later_in e x es among))

-- ---- a batch

neither : (b : Bool) → ◌≡◌ {A = Option LedgerEntry} (cond b None None) None
neither true = refl
neither false = refl

module _ (before : EntryMap) (batch : Batch) (b : IsBatch before (after_batch before batch) batch) where
  abbrev left : EntryMap
  left = all_erased before batch.dead

  not_gone : (k : LedgerKey) (e : LedgerEntry) → get (after_batch before batch) k ≡ Some e
      → is_among k batch.dead ≡ false
  not_gone k e is =
      elim (is_among k batch.dead) as (λ (d : Bool). is_among k batch.dead ≡ d → d ≡ false) [
        | true ↦ λ among.
            let gone = (b.dead k).0 (Contains-from_any same_keys k batch.dead among) in absurd (cc (gone.1, is))
        | false ↦ λ _. refl
      ] refl

  still_left : (e : LedgerEntry) → Contains batch.live e → get left (key_of e) ≢ None
  still_left e among =
      let changed = (b.live e).0 among in
      let is : get left (key_of e) ≡ Some changed.1.0 =
      get_erased before batch.dead (key_of e)
      ∙ ap (λ (d : Bool). cond d None (get before (key_of e))) (not_gone (key_of e) e changed.0) ∙ changed.1.1 in
      λ none. cc (is, none)

  gone : len left + length batch.dead ≡ len before
  gone = count_erased before batch.dead b.dead_rises (λ k among. ((b.dead k).0 among).0)

  pub gone_at_most_all : length batch.dead ≤ length (entries before)
  gone_at_most_all = omega (arith, gone, len-entries before)

  pub count_after_batch : length (entries (after_batch before batch)) + length batch.dead
      ≡ length (entries before) + length batch.init
  unfolding after_batch
  count_after_batch =
      let made = all_put left batch.init in
      let new = count_new left batch.init b.init_rises (λ e among. get_erased before batch.dead (key_of e)
      ∙ ap (λ (o : Option LedgerEntry). cond (is_among (key_of e) batch.dead) None o) ((b.init e).0 among).1
      ∙ neither (is_among (key_of e) batch.dead)) in
      let changed = count_changed made batch.live
      (λ e among. stays left batch.init (key_of e) (still_left e among)) in
      let was = len-entries before in
      let is = len-entries (all_put made batch.live) in
      omega (arith, gone, new, changed, was, is)
