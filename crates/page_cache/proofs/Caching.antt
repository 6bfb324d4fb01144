-- Pages in a cache.
use Rattle.std.proofs.Common.{◌≡◌, ℕ, ◌-◌, Bool, true, false, cond, List, [], ◌∷◌, Option, Some, None, take}
use Rattle.std.proofs.Common.{nat_eq}
use Rattle.std.proofs.Common.{eqb-true, refl, sym, ap, subst, ◌∙◌, zero, suc, is_some}
use Rattle.std.specs.Map.{lookup, lookup_entry, remove_entry}
use Rattle.std.specs.Option.{option_map_or}
use Rattle.lru.specs.LruCache.{LruCache, promoted, put_entries}
use Rattle.ledger_types.specs.declared.bucket.BucketEntry.{BucketEntry}
use Rattle.bucket_core.specs.Bucket.{Contents}
use Rattle.bucket_core.specs.Index.{rows}
use Rattle.page_cache.specs.Pages.{page_at, ArePages, numbers_of, is_among, others, with_first}

abbrev Entry : Type 0
Entry = ℕ × List BucketEntry

abbrev IsPage : Contents → Entry → Type 0
IsPage c e = e.1 ≡ page_at e.0 (rows c)

-- ---- without one of them

still_without : (c : Contents) (e : Entry) (es rest : List Entry) (b : Bool) → IsPage c e → ArePages c es
    → ArePages c rest → ArePages c (cond b es (e ∷ rest))
still_without c e es rest true h g r = g
still_without c e es rest false h g r = (h, r)

without : (c : Contents) (test : ℕ → Bool) (es : List Entry) → ArePages c es → ArePages c (remove_entry test es)
without c test [] h = tt
without c test (e ∷ es) h = still_without c e es (remove_entry test es) (test e.0) h.0 h.1 (without c test es h.1)

fewer : (c : Contents) (n : ℕ) (es : List Entry) → ArePages c es → ArePages c (take n es)
fewer c zero es h = tt
fewer c (suc n) [] h = tt
fewer c (suc n) (e ∷ es) h = (h.0, fewer c n es h.1)

-- ---- one of them

-- what was found may_contain the test
record Found (c : Contents) (test : ℕ → Bool) (e : Entry) : Type 0 where
  page : IsPage c e
  may_contain : test e.0 ≡ true

found_by : (c : Contents) (test : ℕ → Bool) (e x : Entry) (rest : Option Entry) (b : Bool) → test e.0 ≡ b
    → IsPage c e → (rest ≡ Some x → Found c test x) → cond b (Some e) rest ≡ Some x → Found c test x
found_by c test e x rest true is h later so =
    let same : e ≡ x = cc (so) in subst (Found c test) same (record { page = h; may_contain = is })
found_by c test e x rest false is h later so = later so

found : (c : Contents) (test : ℕ → Bool) (es : List Entry) (x : Entry) → ArePages c es
    → lookup_entry test es ≡ Some x → Found c test x
found c test [] x h so = absurd (cc (so))
found c test (e ∷ es) x h so =
    found_by c test e x (lookup_entry test es) (test e.0) refl h.0 (λ later. found c test es x h.1 later) so

-- ---- promoted

promoted_by : (c : Contents) (test : ℕ → Bool) (es : List Entry) (o : Option Entry) → lookup_entry test es ≡ o
    → ArePages c es → ArePages c (option_map_or (λ e. e ∷ remove_entry test es) o es)
promoted_by c test es None is h = h
promoted_by c test es (Some x) is h = ((found c test es x h is).page, without c test es h)

pub promoted_are : (c : Contents) (test : ℕ → Bool) (es : List Entry) → ArePages c es → ArePages c (promoted test es)
promoted_are c test es h = promoted_by c test es (lookup_entry test es) refl h

there_by : (test : ℕ → Bool) (e : Entry) (es : List Entry) (b : Bool)
    → (is_some (lookup test es) ≡ true → (x : Entry) × (lookup_entry test es ≡ Some x))
    → is_some (cond b (Some e.1) (lookup test es)) ≡ true
    → (x : Entry) × (cond b (Some e) (lookup_entry test es) ≡ Some x)
there_by test e es true later h = (e, refl)
there_by test e es false later h = later h

there : (test : ℕ → Bool) (es : List Entry) → is_some (lookup test es) ≡ true
    → (x : Entry) × (lookup_entry test es ≡ Some x)
there test [] h = absurd (cc (h))
there test (e ∷ es) h = there_by test e es (test e.0) (λ later. there test es later) h

nowhere_by : (test : ℕ → Bool) (e : Entry) (es : List Entry) (b : Bool)
    → (is_some (lookup test es) ≡ false → lookup_entry test es ≡ None)
    → is_some (cond b (Some e.1) (lookup test es)) ≡ false → cond b (Some e) (lookup_entry test es) ≡ None
nowhere_by test e es true later h = absurd (cc (h))
nowhere_by test e es false later h = later h

nowhere : (test : ℕ → Bool) (es : List Entry) → is_some (lookup test es) ≡ false → lookup_entry test es ≡ None
nowhere test [] h = refl
nowhere test (e ∷ es) h = nowhere_by test e es (test e.0) (λ later. nowhere test es later) h

-- ---- the numbers

among_by : (n : ℕ) (e : Entry) (es : List Entry) (b : Bool)
    → is_some (lookup (nat_eq n) es) ≡ is_among n (numbers_of es)
    → is_some (cond b (Some e.1) (lookup (nat_eq n) es)) ≡ cond b true (is_among n (numbers_of es))
among_by n e es true later = refl
among_by n e es false later = later

pub among : (n : ℕ) (es : List Entry) → is_some (lookup (nat_eq n) es) ≡ is_among n (numbers_of es)
among n [] = refl
among n (e ∷ es) = among_by n e es (nat_eq n e.0) (among n es)

others_by : (n : ℕ) (e : Entry) (es : List Entry) (b : Bool)
    → numbers_of (remove_entry (nat_eq n) es) ≡ others n (numbers_of es)
    → numbers_of (cond b es (e ∷ remove_entry (nat_eq n) es))
    ≡ cond b (numbers_of es) (e.0 ∷ others n (numbers_of es))
others_by n e es true later = refl
others_by n e es false later = ap (λ (ns : List ℕ). e.0 ∷ ns) later

others_are : (n : ℕ) (es : List Entry) → numbers_of (remove_entry (nat_eq n) es) ≡ others n (numbers_of es)
others_are n [] = refl
others_are n (e ∷ es) = others_by n e es (nat_eq n e.0) (others_are n es)

taken : (n : ℕ) (es : List Entry) → numbers_of (take n es) ≡ take n (numbers_of es)
taken zero es = refl
taken (suc n) [] = refl
taken (suc n) (e ∷ es) = ap (λ (ns : List ℕ). e.0 ∷ ns) (taken n es)

pub promoted_first : (c : Contents) (n : ℕ) (es : List Entry) → ArePages c es → is_some (lookup (nat_eq n) es) ≡ true
    → numbers_of (promoted (nat_eq n) es) ≡ with_first n (numbers_of es)
promoted_first c n es h so =
    let x = there (nat_eq n) es so in
    let same : n ≡ x.0.0 = eqb-true _ _ (found c (nat_eq n) es x.0 h x.1).may_contain in
    ap (λ (o : Option Entry). numbers_of (option_map_or (λ e. e ∷ remove_entry (nat_eq n) es) o es)) x.1
    ∙ ap (λ (m : ℕ). m ∷ numbers_of (remove_entry (nat_eq n) es)) (sym same)
    ∙ ap (λ (ns : List ℕ). n ∷ ns) (others_are n es)
    ∙ sym (ap (λ (b : Bool). cond b (n ∷ others n (numbers_of es)) (n ∷ take 63 (numbers_of es)))
    (sym (among n es) ∙ so))

-- ---- put

put_by : (c : Contents) (n cap : ℕ) (page : List BucketEntry) (es : List Entry) (o : Option Entry)
    → lookup_entry (nat_eq n) es ≡ o → page ≡ page_at n (rows c) → ArePages c es
    → ArePages c (option_map_or (λ e. (e.0, page) ∷ remove_entry (nat_eq n) es) o ((n, page) ∷ take (cap - 1) es))
put_by c n cap page es None is p h = (p, fewer c (cap - 1) es h)
put_by c n cap page es (Some x) is p h =
    let same : n ≡ x.0 = eqb-true _ _ (found c (nat_eq n) es x h is).may_contain in
    (p ∙ ap (λ m. page_at m (rows c)) same, without c (nat_eq n) es h)

pub put_are : (c : Contents) (cache : LruCache ℕ (List BucketEntry)) (n : ℕ) (page : List BucketEntry)
    → page ≡ page_at n (rows c) → ArePages c cache.entries → ArePages c (put_entries nat_eq cache n page)
put_are c cache n page p h =
    put_by c n cache.cap page cache.entries (lookup_entry (nat_eq n) cache.entries) refl p h

pub put_first : (c : Contents) (cache : LruCache ℕ (List BucketEntry)) (n : ℕ) (page : List BucketEntry)
    → cache.cap ≡ 64 → is_some (lookup (nat_eq n) cache.entries) ≡ false
    → numbers_of (put_entries nat_eq cache n page) ≡ with_first n (numbers_of cache.entries)
put_first c cache n page cap none =
    let es = cache.entries in
    ap (λ (o : Option Entry). numbers_of
    (option_map_or (λ e. (e.0, page) ∷ remove_entry (nat_eq n) es) o ((n, page) ∷ take (cache.cap - 1) es)))
    (nowhere (nat_eq n) es none)
    ∙ ap (λ (m : ℕ). n ∷ numbers_of (take (m - 1) es)) cap
    ∙ ap (λ (ns : List ℕ). n ∷ ns) (taken 63 es)
    ∙ sym (ap (λ (b : Bool). cond b (n ∷ others n (numbers_of es)) (n ∷ take 63 (numbers_of es)))
    (sym (among n es) ∙ none))

-- ---- looked at

looked_by : (c : Contents) (n : ℕ) (e : Entry) (page : List BucketEntry) (rest : Option (List BucketEntry)) (b : Bool)
    → nat_eq n e.0 ≡ b → IsPage c e → (rest ≡ Some page → page ≡ page_at n (rows c))
    → cond b (Some e.1) rest ≡ Some page
    → page ≡ page_at n (rows c)
looked_by c n e page rest true is h later so =
    let same : e.1 ≡ page = cc (so) in
    let number : n ≡ e.0 = eqb-true _ _ is in
    sym same ∙ h ∙ ap (λ m. page_at m (rows c)) (sym number)
looked_by c n e page rest false is h later so = later so

pub looked : (c : Contents) (n : ℕ) (es : List Entry) (page : List BucketEntry) → ArePages c es
    → lookup (nat_eq n) es ≡ Some page → page ≡ page_at n (rows c)
looked c n [] page h so = absurd (cc (so))
looked c n (e ∷ es) page h so =
    looked_by c n e page (lookup (nat_eq n) es) (nat_eq n e.0) refl h.0 (λ later. looked c n es page h.1 later) so
