-- What a batch leaves are the next entries, and the stamped batch lists all that changed.
use Rattle.entry_table.proofs.Prelude.{◌≡◌, ◌≢◌, ◌↔◌, ◌⊎◌, ◌==◌, inl, inr, ℕ, Bool, true, false, cond, List, [], ◌∷◌}
use Rattle.entry_table.proofs.Prelude.{Option, Some, None, map, refl, sym, ap, subst, ◌∙◌, IfSome, Contains, option_or}
use Rattle.entry_table.proofs.Prelude.{eq_by_cmp_equiv, get, find, LedgerKey, LedgerEntry, key_cmp}
use Rattle.entry_table.proofs.Prelude.{key_of, keys_total, Batch, EntryMap, IsKeyed, AreRising, stamped, IsNextAt}
use Rattle.entry_table.proofs.Prelude.{AreNextEntries, IsExactBatch, value_at, is_among, with_key}
use Rattle.entry_table.proofs.Prelude.{same_keys}
use Rattle.entry_map.specs.Batch.{parts_of, IsNew, IsChanged, IsGone, IsBatch}
use Rattle.std.specs.Coded.{Coded}
use Rattle.std.proofs.lemmas.Map.Views.{list_any-from_Contains, Contains-from_any}
use Rattle.std.proofs.lemmas.Bool.Decides.{Decides-eqb}
use base.Stored.{Gv, gnil, gnum, gcons}
use Rattle.ledger_types.specs.contracts.entry.LedgerEntry as entry
use Rattle.entry_table.proofs.Walks.{Sorted}
use Rattle.entry_table.proofs.Positions.{found_at, at_of}
use Rattle.entry_table.proofs.Tables.{sorted_keys, own_found, own_keys}
use Rattle.ledger_types.proofs.Lists.{contained_in_map, map_contains}

-- ---- distinguishing entries

same_numbers : (m n : ℕ) → (m ≡ n) ⊎ (m ≢ n)
same_numbers m n =
    elim (m == n) as (λ b. (m == n) ≡ b → (m ≡ n) ⊎ (m ≢ n)) [
      | true ↦ λ e. inl ((Decides-eqb m n).0 e)
      | false ↦ λ e. inr (λ p. cc (e, (Decides-eqb m n).1 p))
    ] refl

same_trees : (a b : Gv) → (a ≡ b) ⊎ (a ≢ b)
same_trees gnil gnil = inl refl
same_trees gnil (gnum n) = inr (λ e. cc)
same_trees gnil (gcons c d) = inr (λ e. cc)
same_trees (gnum m) gnil = inr (λ e. cc)
same_trees (gnum m) (gnum n) = elim (same_numbers m n) [ inl e ↦ inl (ap gnum e) | inr n ↦ inr (λ e. n (cc)) ]
same_trees (gnum m) (gcons c d) = inr (λ e. cc)
same_trees (gcons a b) gnil = inr (λ e. cc)
same_trees (gcons a b) (gnum n) = inr (λ e. cc)
same_trees (gcons a b) (gcons c d) =
    elim (same_trees a c) [
      | inl e ↦ elim (same_trees b d) [ inl f ↦ inl (λ i. gcons (e i) (f i)) | inr n ↦ inr (λ g. n (cc)) ]
      | inr n ↦ inr (λ g. n (cc))
    ]

decided : {A : Type 0} → Coded A → (x y : A) → (x ≡ y) ⊎ (x ≢ y)
decided coded x y = elim (same_trees (coded.code x) (coded.code y)) [
  | inl e ↦ inl (coded.inj x y e)
  | inr n ↦ inr (λ e. n (ap coded.code e))
]

pub same_parts : (was e : LedgerEntry) → (parts_of was ≡ parts_of e) ⊎ (parts_of was ≢ parts_of e)
same_parts was e =
    elim (decided entry.the_row.coded was (stamped was.last_modified_ledger_seq e)) [
      | inl same ↦ inl (ap parts_of same)
      | inr n ↦ inr (λ p. n (λ i. record {
        last_modified_ledger_seq = was.last_modified_ledger_seq;
        body = (p i).0;
        ext = (p i).1;
      }))
    ]

-- ---- entries of a list, under their keys

abbrev pub stamped_row : ℕ → List LedgerEntry → List (LedgerKey × LedgerEntry)
stamped_row seq es = map with_key (map (stamped seq) es)

pub stamped_keys : (seq : ℕ) (es : List LedgerEntry) → map key_of (map (stamped seq) es) ≡ map key_of es
stamped_keys seq [] = refl
stamped_keys seq (e ∷ es) = ap (λ ks. key_of e ∷ ks) (stamped_keys seq es)

-- a list of exactly the entries of which P holds, each then stamped
module _ (seq : ℕ) (P : LedgerEntry → Type 0) (es : List LedgerEntry) (rises : AreRising (map key_of es))
    (all : (e : LedgerEntry) → Contains es e ↔ P e) where
  sorted : Sorted (stamped_row seq es)
  sorted = sorted_keys (map (stamped seq) es) (subst AreRising (sym (stamped_keys seq es)) rises)

  pub there : (e : LedgerEntry) → P e → value_at (key_of e) (stamped_row seq es) ≡ Some (stamped seq e)
  there e p =
      let h = map_contains with_key (map (stamped seq) es) (stamped seq e)
      (map_contains (stamped seq) es e ((all e).1 p)) in
      subst (λ (y : LedgerKey × LedgerEntry). find key_cmp y.0 (stamped_row seq es) ≡ Some y.1) h.2
      (found_at (stamped_row seq es) h.0 (with_key (stamped seq e)) sorted h.1)

  source : (k : LedgerKey) (v : LedgerEntry) → value_at k (stamped_row seq es) ≡ Some v
      → (e : LedgerEntry) × P e × (key_of e ≡ k)
  source k v f =
      let x = contained_in_map with_key (map (stamped seq) es) (k, v) (at_of (stamped_row seq es) k v (k, v) f) in
      let e = contained_in_map (stamped seq) es x.0 x.1 in
      (e.0, (all e.0).0 e.1, sym (ap key_of e.2) ∙ sym (ap (λ (y : LedgerKey × LedgerEntry). y.0) x.2))

  pub nowhere : (k : LedgerKey) → ((e : LedgerEntry) → key_of e ≡ k → P e → ⊥) → value_at k (stamped_row seq es) ≡ None
  nowhere k never =
      elim (value_at k (stamped_row seq es)) as (λ o. value_at k (stamped_row seq es) ≡ o → o ≡ None) [
        | None ↦ λ f. refl
        | Some v ↦ λ f. let s = source k v f in absurd (never s.0 s.2 s.1)
      ] refl

-- ---- key by key

none_either : (d : Bool) → ◌≡◌ {A = Option LedgerEntry} (cond d None None) None
none_either true = refl
none_either false = refl

-- what is under each key after a batch, once its entries are stamped: the changed entry, or the new one, or what was
-- there before unless it is gone
abbrev pub Becomes : ℕ → EntryMap → EntryMap → Batch → Type 0
Becomes seq before after old = (k : LedgerKey) → get after k
    ≡ option_or (option_or (value_at k (stamped_row seq old.live)) (value_at k (stamped_row seq old.init)))
    (cond (is_among k old.dead) None (get before k))

module _ (seq : ℕ) (before worked after : EntryMap) (old new : Batch) (keyed : IsKeyed worked)
    (b : IsBatch before worked old) (init : new.init ≡ map (stamped seq) old.init)
    (live : new.live ≡ map (stamped seq) old.live) (dead : new.dead ≡ old.dead)
    (becomes : Becomes seq before after old) where
  after_is : (k : LedgerKey) (l i o : Option LedgerEntry) (d : Bool) → value_at k (stamped_row seq old.live) ≡ l
      → value_at k (stamped_row seq old.init) ≡ i → is_among k old.dead ≡ d → get before k ≡ o
      → get after k ≡ option_or (option_or l i) (cond d None o)
  after_is k l i o d el ei ed eo = becomes k ∙ (λ j. option_or (option_or (el j) (ei j)) (cond (ed j) None (eo j)))

  gone_true : (k : LedgerKey) → get before k ≢ None → get worked k ≡ None → is_among k old.dead ≡ true
  gone_true k p q = list_any-from_Contains (eq_by_cmp_equiv keys_total) k old.dead ((b.dead k).1 (p, q))

  gone_false : (k : LedgerKey) (e : LedgerEntry) → get worked k ≡ Some e → is_among k old.dead ≡ false
  gone_false k e q =
      elim (is_among k old.dead) as (λ d. is_among k old.dead ≡ d → d ≡ false) [
        | true ↦ λ h. let gone = (b.dead k).0 (Contains-from_any same_keys k old.dead h) in absurd (cc (gone.1, q))
        | false ↦ λ h. refl
      ] refl

  own : (k : LedgerKey) (e : LedgerEntry) → get worked k ≡ Some e → key_of e ≡ k
  own k e q = subst (λ o. IfSome o (λ x. key_of x ≡ k)) q (keyed k)

  no_init : (k : LedgerKey) → ((e : LedgerEntry) → key_of e ≡ k → IsNew before worked e → ⊥)
      → value_at k (stamped_row seq old.init) ≡ None
  no_init = nowhere seq (IsNew before worked) old.init b.init_rises b.init

  no_live : (k : LedgerKey) → ((e : LedgerEntry) → key_of e ≡ k → IsChanged before worked e → ⊥)
      → value_at k (stamped_row seq old.live) ≡ None
  no_live = nowhere seq (IsChanged before worked) old.live b.live_rises b.live

  none_worked : (k : LedgerKey) → get worked k ≡ None → (e : LedgerEntry) → key_of e ≡ k
      → get worked (key_of e) ≡ Some e → ⊥
  none_worked k q e at there = cc (sym there ∙ ap (get worked) at ∙ q)

  by_cases : (k : LedgerKey) (was now : Option LedgerEntry) → get before k ≡ was → get worked k ≡ now
      → IsNextAt seq was now (get after k)
  by_cases k None None p q =
      after_is k None None None (is_among k old.dead)
      (no_live k (λ e at c. none_worked k q e at c.0)) (no_init k (λ e at c. none_worked k q e at c.0)) refl p
      ∙ none_either (is_among k old.dead)
  by_cases k (Some was) None p q =
      after_is k None None (Some was) true
      (no_live k (λ e at c. none_worked k q e at c.0)) (no_init k (λ e at c. none_worked k q e at c.0))
      (gone_true k (λ h. cc (sym h ∙ p)) q) p
  by_cases k None (Some e) p q =
      let at = own k e q in
      after_is k None (Some (stamped seq e)) None false
      (no_live k (λ x same c. cc (sym c.1.1 ∙ ap (get before) same ∙ p)))
      (ap (λ m. value_at m (stamped_row seq old.init)) (sym at)
      ∙ there seq (IsNew before worked) old.init b.init_rises b.init e (ap (get worked) at ∙ q, ap (get before) at ∙ p))
      (gone_false k e q) p
  by_cases k (Some was) (Some e) p q =
      let at = own k e q in
      elim (same_parts was e) [
        | inl same ↦ inl (
          same,
          after_is k None None (Some was) false
              (no_live k (λ x own_key c. c.1.2 (
              let before_is : c.1.0 ≡ was = cc (sym c.1.1 ∙ ap (get before) own_key ∙ p) in
              let worked_is : x ≡ e = cc (sym c.0 ∙ ap (get worked) own_key ∙ q) in
              ap parts_of before_is ∙ same ∙ ap parts_of (sym worked_is))))
              (no_init k (λ x own_key c. cc (sym c.1 ∙ ap (get before) own_key ∙ p)))
              (gone_false k e q) p,
        )
        | inr differ ↦ inr (
          differ,
          after_is k (Some (stamped seq e)) _ (Some was) false
              (ap (λ m. value_at m (stamped_row seq old.live)) (sym at)
              ∙ there seq (IsChanged before worked) old.live b.live_rises b.live e
              (ap (get worked) at ∙ q, (was, ap (get before) at ∙ p, differ)))
              refl (gone_false k e q) p,
        )
      ]

  pub next_entries : AreNextEntries seq before worked after
  next_entries = record { each = λ k. by_cases k (get before k) (get worked k) refl refl }

  -- ---- the batch

  new_init : (e : LedgerEntry) → Contains new.init e ↔ IsNew before after e
  new_init e = (
    λ h.
        let x = contained_in_map (stamped seq) old.init e (subst (λ (es : List LedgerEntry). Contains es e) init h) in
        let c = (b.init x.0).0 x.1 in
        subst (λ (y : LedgerEntry). IsNew before after y) (sym x.2) (
          by_cases (key_of x.0) None
              (Some x.0) c.1 c.0,
          c.1,
        ),
    λ h. elim (get worked (key_of e)) as (λ o. get worked (key_of e) ≡ o → Contains new.init e) [
      | None ↦ λ q. absurd (cc (sym h.0 ∙ by_cases (key_of e) None None h.1 q))
      | Some x ↦ λ q.
          let at = own (key_of e) x q in
          let same : e ≡ stamped seq x = cc (sym h.0 ∙ by_cases (key_of e) None (Some x) h.1 q) in
          subst (λ (es : List LedgerEntry). Contains es e) (sym init)
          (subst (λ (y : LedgerEntry). Contains (map (stamped seq) old.init) y) (sym same)
          (map_contains (stamped seq) old.init x ((b.init x).1 (ap (get worked) at ∙ q, ap (get before) at ∙ h.1))))
    ] refl,
  )

  changed_after : (k : LedgerKey) (was x : LedgerEntry) → get before k ≡ Some was → get worked k ≡ Some x
      → parts_of was ≢ parts_of x → get after k ≡ Some (stamped seq x)
  changed_after k was x p q differ = elim (by_cases k (Some was) (Some x) p q) [
    | inl same ↦ absurd (differ same.0)
    | inr changed ↦ changed.1
  ]

  new_live : (e : LedgerEntry) → Contains new.live e ↔ IsChanged before after e
  new_live e = (
    λ h.
        let x = contained_in_map (stamped seq) old.live e (subst (λ (es : List LedgerEntry). Contains es e) live h) in
        let c = (b.live x.0).0 x.1 in
        subst (λ (y : LedgerEntry). IsChanged before after y) (sym x.2)
        (changed_after (key_of x.0) c.1.0 x.0 c.1.1 c.0 c.1.2, (c.1.0, c.1.1, c.1.2)),
    λ h. elim (get worked (key_of e)) as (λ o. get worked (key_of e) ≡ o → Contains new.live e) [
      | None ↦ λ q. absurd (cc (sym h.0 ∙ by_cases (key_of e) (Some h.1.0) None h.1.1 q))
      | Some x ↦ λ q.
          let at = own (key_of e) x q in
          elim (by_cases (key_of e) (Some h.1.0) (Some x) h.1.1 q) [
            | inl kept ↦
                let same : e ≡ h.1.0 = cc (sym h.0 ∙ kept.1) in absurd (h.1.2 (ap parts_of (sym same)))
            | inr changed ↦
                let same : e ≡ stamped seq x = cc (sym h.0 ∙ changed.1) in
                subst (λ (es : List LedgerEntry). Contains es e) (sym live)
                (subst (λ (y : LedgerEntry). Contains (map (stamped seq) old.live) y) (sym same)
                (map_contains (stamped seq) old.live x ((b.live x).1
                (ap (get worked) at ∙ q, (h.1.0, ap (get before) at ∙ h.1.1, changed.0)))))
          ]
    ] refl,
  )

  new_dead : (k : LedgerKey) → Contains new.dead k ↔ IsGone before after k
  new_dead k = (
    λ h.
        let c = (b.dead k).0 (subst (λ (ks : List LedgerKey). Contains ks k) dead h) in
        elim (get before k) as (λ o. get before k ≡ o → IsGone before after k) [
          | None ↦ λ p. absurd (c.0 p)
          | Some was ↦ λ p. (c.0, by_cases k (Some was) None p c.1)
        ] refl,
    λ h. elim (get worked k) as (λ o. get worked k ≡ o → Contains new.dead k) [
      | None ↦ λ q. subst (λ (ks : List LedgerKey). Contains ks k) (sym dead) ((b.dead k).1 (h.0, q))
      | Some x ↦ λ q. elim (get before k) as (λ o. get before k ≡ o → Contains new.dead k) [
        | None ↦ λ p. absurd (h.0 p)
        | Some was ↦ λ p. elim (by_cases k (Some was) (Some x) p q) [
          | inl kept ↦ absurd (cc (sym h.1 ∙ kept.1))
          | inr changed ↦ absurd (cc (sym h.1 ∙ changed.1))
        ]
      ] refl
    ] refl,
  )

  same_else : (k : LedgerKey) (was e : LedgerEntry) → get before k ≡ Some was → get after k ≡ Some e
      → parts_of was ≡ parts_of e → was ≡ e
  same_else k was e p r same = elim (get worked k) as (λ o. get worked k ≡ o → was ≡ e) [
    | None ↦ λ q. absurd (cc (sym r ∙ by_cases k (Some was) None p q))
    | Some x ↦ λ q. elim (by_cases k (Some was) (Some x) p q) [
      | inl kept ↦ cc (sym r ∙ kept.1)
      | inr changed ↦ let is : e ≡ stamped seq x = cc (sym r ∙ changed.1) in absurd (changed.0 (same ∙ ap parts_of is))
    ]
  ] refl

  pub exact_batch : IsExactBatch before after new
  exact_batch = record {
    batch = record {
      init_rises = subst AreRising (sym (stamped_keys seq old.init) ∙ ap (map key_of) (sym init)) b.init_rises;
      init = new_init;
      live_rises = subst AreRising (sym (stamped_keys seq old.live) ∙ ap (map key_of) (sym live)) b.live_rises;
      live = new_live;
      dead_rises = subst AreRising (sym dead) b.dead_rises;
      dead = new_dead;
    };
    others = same_else;
  }

-- ---- each entry that is left is under its own key

pub own_in : (es : List LedgerEntry) (k : LedgerKey) (v : LedgerEntry) → value_at k (map with_key es) ≡ Some v
    → key_of v ≡ k
own_in es = own_found (map with_key es) (own_keys es)
