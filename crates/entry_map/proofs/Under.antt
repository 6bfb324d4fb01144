-- A map under layers, key by key, and what each change of the layers is to the map with undo.
use Rattle.entry_map.proofs.Prelude as prelude
use prelude.{◌≡◌, refl, sym, ap, subst, ◌∙◌, Bool, true, false, cond, List, [], ◌∷◌, ◌++◌, Option, Some, None}
use prelude.{MatchOption, Bor, unwrap_or, option_or, option_copied, eq_by_cmp, empty, get, insert, entries, find}
use prelude.{get-empty, get-entries, get-insert, get-remove, same_map, LedgerKey, LedgerEntry, key_of, key_cmp}
use prelude.{keys_total, keys_exact, EntryMap, put, erase, Undo, started, with_current, opened, undone, kept, LayerMap}
use prelude.{with_changes, under_one, under, each_under, undo_of, change_of, newest_change}

-- ---- options

unwrap_cond : {X : Type 0} (b : Bool) (v : X) (o : Option X) (d : X)
    → unwrap_or (cond b (Some v) o) d ≡ cond b v (unwrap_or o d)
unwrap_cond true v o d = refl
unwrap_cond false v o d = refl

unwrap_or-or : {X : Type 0} (a b : Option X) (d : X) → unwrap_or (option_or a b) d ≡ unwrap_or a (unwrap_or b d)
unwrap_or-or None b d = refl
unwrap_or-or (Some x) b d = refl

-- ---- what a map under layers has at a key

get-with_changes : (m : EntryMap) (cs : List (LedgerKey × Option LedgerEntry)) (q : LedgerKey)
    → get (with_changes m cs) q ≡ unwrap_or (find key_cmp q cs) (get m q)
get-with_changes m [] q = refl
get-with_changes m ((k, Some e) ∷ cs) q = get-insert keys_total (with_changes m cs) k e q
    ∙ ap (cond (eq_by_cmp key_cmp q k) (Some e)) (get-with_changes m cs q)
    ∙ sym (unwrap_cond (eq_by_cmp key_cmp q k) (Some e) (find key_cmp q cs) (get m q))
get-with_changes m ((k, None) ∷ cs) q = get-remove keys_total (with_changes m cs) k q
    ∙ ap (cond (eq_by_cmp key_cmp q k) None) (get-with_changes m cs q)
    ∙ sym (unwrap_cond (eq_by_cmp key_cmp q k) None (find key_cmp q cs) (get m q))

pub get-under_one : (m : EntryMap) (l : LayerMap) (q : LedgerKey)
    → get (under_one m l) q ≡ unwrap_or (get l q) (get m q)
get-under_one m l q = get-with_changes m (entries l) q ∙ ap (λ o. unwrap_or o (get m q)) (sym (get-entries l q))

pub get-under : (m : EntryMap) (ls : List LayerMap) (q : LedgerKey)
    → get (under m ls) q ≡ unwrap_or (change_of ls q) (get m q)
get-under m [] q = refl
get-under m (l ∷ ls) q = get-under (under_one m l) ls q
    ∙ ap (unwrap_or (change_of ls q)) (get-under_one m l q)
    ∙ sym (unwrap_or-or (change_of ls q) (get l q) (get m q))

pub get-current : (m : EntryMap) (ls : List LayerMap) (top : LayerMap) (q : LedgerKey)
    → get (under_one (under m ls) top) q ≡ unwrap_or (newest_change ls top q) (get m q)
get-current m ls top q = get-under_one (under m ls) top q
    ∙ ap (unwrap_or (get top q)) (get-under m ls q)
    ∙ sym (unwrap_or-or (get top q) (change_of ls q) (get m q))

-- what was changed under layers is what the map has there, and the map's own is elsewhere
pub changed_under : (m : EntryMap) (ls : List LayerMap) (top : LayerMap) (q : LedgerKey)
    → (u : Undo) → undo_of m ls top ≡ u → (r : Option (Option (Bor LedgerEntry)))
    → MatchOption r (newest_change ls top q ≡ None) (λ change. newest_change ls top q ≡ Some (option_copied change))
    → MatchOption r (get u.current q ≡ get u.base q) (λ change. get u.current q ≡ option_copied change)
changed_under m ls top q u is None h =
    subst (λ (v : Undo). get v.current q ≡ get v.base q) is
    (get-current m ls top q ∙ ap (λ o. unwrap_or o (get m q)) h)
changed_under m ls top q u is (Some change) h =
    subst (λ (v : Undo). get v.current q ≡ option_copied change) is
    (get-current m ls top q ∙ ap (λ o. unwrap_or o (get m q)) h)

-- ---- changes of one layer

changed : (m : EntryMap) (l : LayerMap) (k : LedgerKey) (change : Option LedgerEntry) (q : LedgerKey)
    → get (under_one m (insert l k change)) q ≡ cond (eq_by_cmp key_cmp q k) change (get (under_one m l) q)
changed m l k change q = get-under_one m (insert l k change) q
    ∙ ap (λ o. unwrap_or o (get m q)) (get-insert keys_total l k change q)
    ∙ unwrap_cond (eq_by_cmp key_cmp q k) change (get l q) (get m q)
    ∙ ap (cond (eq_by_cmp key_cmp q k) change) (sym (get-under_one m l q))

under_one-put : (m : EntryMap) (l : LayerMap) (e : LedgerEntry)
    → under_one m (insert l (key_of e) (Some e)) ≡ put (under_one m l) e
under_one-put m l e =
    same_map keys_total keys_exact _ _ (λ q. changed m l (key_of e) (Some e) q
    ∙ sym (get-insert keys_total (under_one m l) (key_of e) e q))

under_one-erase : (m : EntryMap) (l : LayerMap) (k : LedgerKey)
    → under_one m (insert l k None) ≡ erase (under_one m l) k
under_one-erase m l k =
    same_map keys_total keys_exact _ _ (λ q. changed m l k None q ∙ sym (get-remove keys_total (under_one m l) k q))

under_one-empty : (m : EntryMap) → under_one m empty ≡ m
under_one-empty m = same_map keys_total keys_exact _ _ (λ q. get-under_one m empty q
    ∙ ap (λ o. unwrap_or o (get m q)) (get-empty key_cmp q))

under_one-absorbed : (m : EntryMap) (l newer new : LayerMap) → ((q : LedgerKey)
    → get new q ≡ option_or (get newer q) (get l q)) → under_one m new ≡ under_one (under_one m l) newer
under_one-absorbed m l newer new each = same_map keys_total keys_exact _ _ (λ q. get-under_one m new q
    ∙ ap (λ o. unwrap_or o (get m q)) (each q)
    ∙ unwrap_or-or (get newer q) (get l q) (get m q)
    ∙ ap (unwrap_or (get newer q)) (sym (get-under_one m l q))
    ∙ sym (get-under_one (under_one m l) newer q))

-- ---- one more layer

under-push : (m : EntryMap) (ls : List LayerMap) (l : LayerMap) → under m (ls ++ l ∷ []) ≡ under_one (under m ls) l
under-push m [] l = refl
under-push m (x ∷ ls) l = under-push (under_one m x) ls l

each_under-push : (m : EntryMap) (earlier : List EntryMap) (ls : List LayerMap) (l : LayerMap)
    → each_under m earlier (ls ++ l ∷ []) ≡ under_one (under m ls) l ∷ each_under m earlier ls
each_under-push m earlier [] l = refl
each_under-push m earlier (x ∷ ls) l = each_under-push (under_one m x) (under_one m x ∷ earlier) ls l

-- ---- the map with undo

pub undo_of-started : (m : EntryMap) (ls : List LayerMap) (top : LayerMap) → ls ≡ [] → top ≡ empty
    → undo_of m ls top ≡ started m
undo_of-started m ls top none nothing = ap (λ x. undo_of m x top) none ∙ ap (undo_of m []) nothing
    ∙ ap (λ c. record { current = c; saved = []; base = m }) (under_one-empty m)

pub undo_of-put : (m : EntryMap) (ls : List LayerMap) (top new : LayerMap) (e : LedgerEntry)
    → new ≡ insert top (key_of e) (Some e)
    → undo_of m ls new ≡ with_current (undo_of m ls top) (put (undo_of m ls top).current e)
undo_of-put m ls top new e is = ap (undo_of m ls) is
    ∙ ap (with_current (undo_of m ls top)) (under_one-put (under m ls) top e)

pub undo_of-erase : (m : EntryMap) (ls : List LayerMap) (top new : LayerMap) (k : LedgerKey) → new ≡ insert top k None
    → undo_of m ls new ≡ with_current (undo_of m ls top) (erase (undo_of m ls top).current k)
undo_of-erase m ls top new k is = ap (undo_of m ls) is
    ∙ ap (with_current (undo_of m ls top)) (under_one-erase (under m ls) top k)

pub undo_of-child : (m : EntryMap) (ls more : List LayerMap) (top new : LayerMap) → more ≡ ls ++ top ∷ [] → new ≡ empty
    → undo_of m more new ≡ opened (undo_of m ls top)
undo_of-child m ls more top new pushed nothing = ap (λ x. undo_of m x new) pushed
    ∙ ap (undo_of m (ls ++ top ∷ [])) nothing
    ∙ ap (λ c. record {
      current = c;
      saved = each_under m [] (ls ++ top ∷ []);
      base =
          m;
    }) (under_one-empty (under m (ls ++ top ∷ [])) ∙ under-push m ls top)
    ∙ ap (λ s. record { current = under_one (under m ls) top; saved = s; base = m }) (each_under-push m [] ls top)

pub undo_of-drop : (m : EntryMap) (ls fewer : List LayerMap) (below top : LayerMap) → ls ≡ fewer ++ below ∷ []
    → undo_of m fewer below ≡ undone (undo_of m ls top)
undo_of-drop m ls fewer below top popped = sym (ap (λ x. undone (undo_of m x top)) popped
    ∙ ap (λ s. undone (record { current = under_one (under m (fewer ++ below ∷ [])) top; saved = s; base = m }))
    (each_under-push m [] fewer below))

pub undo_of-commit : (m : EntryMap) (ls fewer : List LayerMap) (below top new : LayerMap) → ls ≡ fewer ++ below ∷ []
    → ((q : LedgerKey) → get new q ≡ option_or (get top q) (get below q))
    → undo_of m fewer new ≡ kept (undo_of m ls top)
undo_of-commit m ls fewer below top new popped each = sym (ap (λ x. kept (undo_of m x top)) popped
    ∙ ap (λ s. kept (record { current = under_one (under m (fewer ++ below ∷ [])) top; saved = s; base = m }))
    (each_under-push m [] fewer below)
    ∙ ap (λ c. record { current = c; saved = each_under m [] fewer; base = m }) (ap (λ x. under_one x top)
    (under-push m fewer below) ∙ sym (under_one-absorbed (under m fewer) below top new each)))
