-- The entries after a close, and the bucket of what it changed.
use Rattle.existence_laws.proofs.Prelude.{◌≡◌, ◌≢◌, ◌⊎◌, inl, inr, ℕ, Option, Some, None, refl, sym, ap, subst, ◌∙◌}
use Rattle.existence_laws.proofs.Prelude.{get, LedgerEntry, LedgerKey, key_of, EntryMap, EachEntry, Change, Init, Live}
use Rattle.existence_laws.proofs.Prelude.{Dead, Contents, version_of, same_Some}
use Rattle.close_laws.specs.entry_map.Batch.{parts_of}
use Rattle.close_laws.specs.entry_changes.Next.{stamped, IsNextAt, AreNextEntries}
use Rattle.replay.proofs.entry_table_proofs.Batches.{same_parts}
use Rattle.close_laws.specs.bucket_levels.Fresh.{BecameOf, IsFresh}
use Rattle.existence_laws.proofs.Maps.{map_over}

-- whether two entries are the same but for the ledgers of their last changes
abbrev Decided : LedgerEntry → LedgerEntry → Type 0
Decided was e = (parts_of was ≡ parts_of e) ⊎ (parts_of was ≢ parts_of e)

-- ---- the entries

abbrev kept_or_stamped : (seq : ℕ) → (was e : LedgerEntry) → Decided was e → LedgerEntry
kept_or_stamped seq was e (inl same) = was
kept_or_stamped seq was e (inr other) = stamped seq e

abbrev next_at : (seq : ℕ) → (before worked : Option LedgerEntry) → Option LedgerEntry
next_at seq before None = None
next_at seq None (Some e) = Some (stamped seq e)
next_at seq (Some was) (Some e) = Some (kept_or_stamped seq was e (same_parts was e))

kept_or_changed : (seq : ℕ) (was e : LedgerEntry) (shown : Decided was e)
    → IsNextAt seq (Some was) (Some e) (Some (kept_or_stamped seq was e shown))
kept_or_changed seq was e (inl same) = inl (same, refl)
kept_or_changed seq was e (inr other) = inr (other, refl)

is_next_at : (seq : ℕ) (before worked : Option LedgerEntry) → IsNextAt seq before worked (next_at seq before worked)
is_next_at seq None None = refl
is_next_at seq (Some was) None = refl
is_next_at seq None (Some e) = refl
is_next_at seq (Some was) (Some e) = kept_or_changed seq was e (same_parts was e)

nothing_next : (seq : ℕ) (before worked : Option LedgerEntry) → worked ≡ None → next_at seq before worked ≡ None
nothing_next seq before None none = refl
nothing_next seq before (Some e) none = absurd (cc (none))

pub some_next : (seq : ℕ) (before worked : EntryMap) → (after : EntryMap) × AreNextEntries seq before worked after
some_next seq before worked =
    let made = map_over before worked (λ k. next_at seq (get before k) (get worked k))
    (λ k gone none. nothing_next seq (get before k) (get worked k) none) in (
      made.0,
      record {
        each = λ k. subst (IsNextAt seq (get before k) (get worked k)) (sym (made.1 k))
            (is_next_at seq (get before k) (get worked k));
      },
    )

-- ---- what changed

abbrev changed_if : (was e : LedgerEntry) → Decided was e → Option Change
changed_if was e (inl same) = None
changed_if was e (inr other) = Some (Live e)

abbrev became : (before after : Option LedgerEntry) → Option Change
became None None = None
became None (Some e) = Some (Init e)
became (Some was) None = Some Dead
became (Some was) (Some e) = changed_if was e (same_parts was e)

abbrev AreKeyed : EntryMap → Type 0
AreKeyed m = EachEntry (λ k e. key_of e ≡ k) m

-- what is said of a key became of the entry under it
shown_became : (before after : EntryMap) → AreKeyed after → (k : LedgerKey) (change : Change)
    → (b a : Option LedgerEntry) → get before k ≡ b → get after k ≡ a → became b a ≡ Some change
    → BecameOf before after k change
shown_became before after keyed k change None None was is shown = absurd (cc (shown))
shown_became before after keyed k change None (Some e) was is shown =
    let own = keyed k e is in
    subst (BecameOf before after k) (same_Some (Init e) change shown)
    (own, (ap (get after) own ∙ is, ap (get before) own ∙ was))
shown_became before after keyed k change (Some old) None was is shown =
    subst (BecameOf before after k) (same_Some Dead change shown) ((λ none. cc (was, none)), is)
shown_became before after keyed k change (Some old) (Some e) was is shown = by_parts (same_parts old e) shown
  where
    by_parts : (parts : Decided old e) → changed_if old e parts ≡ Some change → BecameOf before after k change
    by_parts (inl same) shown = absurd (cc (shown))
    by_parts (inr other) shown =
        let own = keyed k e is in
        subst (BecameOf before after k) (same_Some (Live e) change shown)
        (own, (ap (get after) own ∙ is, (old, ap (get before) own ∙ was, other)))

gone_is_shown : (b : Option LedgerEntry) → b ≢ None → became b None ≡ Some Dead
gone_is_shown None there = absurd (there refl)
gone_is_shown (Some was) there = refl

change_is_shown : (was e : LedgerEntry) (parts : Decided was e) → parts_of was ≢ parts_of e
    → changed_if was e parts ≡ Some (Live e)
change_is_shown was e (inl same) other = absurd (other same)
change_is_shown was e (inr new) other = refl

-- what became of an entry is said
became_shown : (before after : EntryMap) (k : LedgerKey) (change : Change) → BecameOf before after k change
    → became (get before k) (get after k) ≡ Some change
became_shown before after k (Init e) h =
    let was : get before k ≡ None = ap (get before) (sym h.0) ∙ h.1.1 in
    let is : get after k ≡ Some e = ap (get after) (sym h.0) ∙ h.1.0 in
    λ i. became (was i) (is i)
became_shown before after k (Live e) h =
    let old = h.1.1.0 in
    let was : get before k ≡ Some old = ap (get before) (sym h.0) ∙ h.1.1.1 in
    let is : get after k ≡ Some e = ap (get after) (sym h.0) ∙ h.1.0 in
    (λ i. became (was i) (is i)) ∙ change_is_shown old e (same_parts old e) h.1.1.2
became_shown before after k Dead h = ap (became (get before k)) h.1 ∙ gone_is_shown (get before k) h.0

unchanged : (was e : LedgerEntry) (parts : Decided was e) → changed_if was e parts ≡ None → parts_of was ≡ parts_of e
unchanged was e (inl same) none = same
unchanged was e (inr other) none = absurd (cc (none))

-- an entry of which nothing is said is what it was: a close stamps no entry that it leaves as it was
untold_stays : (seq : ℕ) (b w a : Option LedgerEntry) → IsNextAt seq b w a → became b a ≡ None → a ≡ b
untold_stays seq None w None next none = refl
untold_stays seq None w (Some e) next none = absurd (cc (none))
untold_stays seq (Some was) w None next none = absurd (cc (none))
untold_stays seq (Some was) None (Some e) next none = absurd (cc (next))
untold_stays seq (Some was) (Some x) (Some e) (inl same) none = same.1
untold_stays seq (Some was) (Some x) (Some e) (inr other) none =
    absurd (other.0 (unchanged was e (same_parts was e) none ∙ ap parts_of (same_Some e (stamped seq x) other.1)))

pub some_fresh : (seq version : ℕ) (before worked after : EntryMap) → AreNextEntries seq before worked after
    → AreKeyed after → (fresh : Contents) × (version_of fresh ≡ Some version) × IsFresh before after fresh
some_fresh seq version before worked after next keyed =
    let made = map_over before after (λ k. became (get before k) (get after k))
    (λ k was is i. became (was i) (is i)) in (
      Some (record { version = version; changes = made.0 }),
      refl,
      record {
        changes = λ k change. (
          λ shown. shown_became before after keyed k change (get before k) (get after k) refl refl
              (sym (made.1 k) ∙ shown),
          λ h. made.1 k ∙ became_shown before after k change h,
        );
        others = λ k none. untold_stays seq (get before k) (get worked k) (get after k) (next.each k)
            (sym (made.1 k) ∙ none);
      },
    )
