-- What a batch leaves of entries, key by key.
use Rattle.entry_table.proofs.Prelude.{◌≡◌, ◌||◌, ℕ, Bool, true, false, cond, List, [], ◌∷◌, Option, Some, None, map}
use Rattle.entry_table.proofs.Prelude.{refl, sym, ap, subst, ◌∙◌, IfSome, option_or, eq_by_cmp, get, LedgerKey}
use Rattle.entry_table.proofs.Prelude.{LedgerEntry, key_cmp, key_of, keys_total, Batch, EntryMap, IsKeyed, stamped}
use Rattle.entry_table.proofs.Prelude.{value_at, is_among, with_key}
use Rattle.std.specs.FinMap.{get-insert, get-remove}
use Rattle.entry_table.specs.AfterBatch.{all_put, all_erased, after_batch}
use Rattle.entry_table.proofs.Batches.{Becomes, own_in}

pub get_put : (m : EntryMap) (es : List LedgerEntry) (k : LedgerKey)
    → get (all_put m es) k ≡ option_or (value_at k (map with_key es)) (get m k)
get_put m [] k = refl
get_put m (e ∷ es) k =
    get-insert keys_total (all_put m es) (key_of e) e k
    ∙ ap (cond (eq_by_cmp key_cmp k (key_of e)) (Some e)) (get_put m es k)
    ∙ elim (eq_by_cmp key_cmp k (key_of e)) as
    (λ b. cond b (Some e) (option_or (value_at k (map with_key es)) (get m k))
    ≡ option_or (cond b (Some e) (value_at k (map with_key es))) (get m k)) [
      | true ↦ refl
      | false ↦ refl
    ]

pub get_erased : (m : EntryMap) (ks : List LedgerKey) (k : LedgerKey)
    → get (all_erased m ks) k ≡ cond (is_among k ks) None (get m k)
get_erased m [] k = refl
get_erased m (q ∷ ks) k =
    get-remove keys_total (all_erased m ks) q k
    ∙ ap (cond (eq_by_cmp key_cmp k q) None) (get_erased m ks k)
    ∙ elim (eq_by_cmp key_cmp k q) as
    (λ b. cond b None (cond (is_among k ks) None (get m k)) ≡ cond (b || is_among k ks) None (get m k)) [
      | true ↦ refl
      | false ↦ refl
    ]

or_assoc : (a b c : Option LedgerEntry) → option_or a (option_or b c) ≡ option_or (option_or a b) c
or_assoc None b c = refl
or_assoc (Some e) b c = refl

left_at : (before : EntryMap) (batch : Batch) (k : LedgerKey) → get (after_batch before batch) k
    ≡ option_or (option_or (value_at k (map with_key batch.live)) (value_at k (map with_key batch.init)))
    (cond (is_among k batch.dead) None (get before k))
unfolding after_batch
left_at before batch k =
    let lives = value_at k (map with_key batch.live) in
    let inits = value_at k (map with_key batch.init) in
    get_put (all_put (all_erased before batch.dead) batch.init) batch.live k
    ∙ ap (option_or lives) (get_put (all_erased before batch.dead) batch.init k
    ∙ ap (option_or inits) (get_erased before batch.dead k))
    ∙ or_assoc lives inits (cond (is_among k batch.dead) None (get before k))

-- the entries that a stamped batch leaves
pub batch_becomes : (seq : ℕ) (before : EntryMap) (old new : Batch) → new.init ≡ map (stamped seq) old.init
    → new.live ≡ map (stamped seq) old.live → new.dead ≡ old.dead → Becomes seq before (after_batch before new) old
batch_becomes seq before old new init live dead = λ k.
    left_at before new k
    ∙ (λ i. option_or (option_or (value_at k (map with_key (live i))) (value_at k (map with_key (init i))))
    (cond (is_among k (dead i)) None (get before k)))

own_left : (k : LedgerKey) (l i o : Option LedgerEntry) (gone : Bool) → ((e : LedgerEntry) → l ≡ Some e → key_of e ≡ k)
    → ((e : LedgerEntry) → i ≡ Some e → key_of e ≡ k) → IfSome o (λ e. key_of e ≡ k)
    → IfSome (option_or (option_or l i) (cond gone None o)) (λ e. key_of e ≡ k)
own_left k (Some e) i o gone live init before = live e refl
own_left k None (Some e) o gone live init before = init e refl
own_left k None None o true live init before = tt
own_left k None None o false live init before = before

-- each entry is under its own key where each was
pub left_keyed : (before : EntryMap) (batch : Batch) → IsKeyed before → IsKeyed (after_batch before batch)
left_keyed before batch keyed = λ k.
    subst (λ (o : Option LedgerEntry). IfSome o (λ e. key_of e ≡ k)) (sym (left_at before batch k))
    (own_left k (value_at k (map with_key batch.live)) (value_at k (map with_key batch.init)) (get before k)
    (is_among k batch.dead) (own_in batch.live k) (own_in batch.init k) (keyed k))
