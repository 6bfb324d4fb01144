-- The index after a batch is that of the offers after it.
use Rattle.entry_map.proofs.Prelude.{◌≡◌, refl, sym, ap, subst, ◌∙◌, Bool, true, false, cond, not, ◌&&◌, List, [], ◌∷◌}
use Rattle.entry_map.proofs.Prelude.{◌++◌, Option, Some, None, is_some, option_or, filter, OfferEntry, BookPosition}
use Rattle.entry_map.proofs.Prelude.{OfferTerms, Batch, offers_in, key_at, terms_of, PositionMap, is_at, is_taken}
use Rattle.entry_map.proofs.Prelude.{is_among, is_old, old_keys, index_of, terms_at, AreReplaced, AreChangedTo}
use Rattle.entry_map.proofs.Prelude.{IndexStaysRight, offers_after, with_offers, without_offers}
use Rattle.entry_map.proofs.KeyMaps.{or_none}
use Rattle.entry_map.proofs.PositionMaps.{terms_in, some_terms, get-index_of, get-without_offers, with_more}
use Rattle.entry_map.proofs.PositionMaps.{same_positions}
use Rattle.entry_map.proofs.Positions.{same_position}
use Rattle.entry_map.proofs.Aggregates.{terms_exist}
use Rattle.entry_map.specs.Book.{offers_of}
use Rattle.entry_map.specs.Indexes.{IndexesAreOfOffers}

-- what a filter leaves of a position, where it treats all offers there alike
module _ (p : BookPosition) (q : OfferEntry → Bool) (b : Bool)
    (alike : (o : OfferEntry) → is_at p o ≡ true → q o ≡ b) where
  terms_by : (t : Bool) (o : OfferEntry) (kept : List OfferEntry) (rest : Option OfferTerms) → q o ≡ t
      → terms_in kept p ≡ cond b rest None
      → terms_in (cond t (o ∷ kept) kept) p ≡ cond b (option_or rest (terms_at p (Some o))) None
  terms_by t o kept rest is later = elim (is_at p o) as (λ x. is_at p o ≡ x
      → terms_in (cond t (o ∷ kept) kept) p ≡ cond b (option_or rest (cond x (Some (terms_of o)) None)) None) [
        | true ↦ λ here. there t b here (sym is ∙ alike o here) later
        | false ↦ λ other. skipped t other ∙ later ∙ ap (λ r. cond b r None) (sym (or_none rest))
      ] refl
    where
      there : (t b : Bool) → is_at p o ≡ true → t ≡ b → terms_in kept p ≡ cond b rest None
          → terms_in (cond t (o ∷ kept) kept) p ≡ cond b (option_or rest (Some (terms_of o))) None
      there true true here same later = ap (λ x. option_or (terms_in kept p) (cond x (Some (terms_of o)) None)) here
          ∙ ap (λ r. option_or r (Some (terms_of o))) later
      there true false here same later = absurd (cc)
      there false true here same later = absurd (cc)
      there false false here same later = later

      skipped : (t : Bool) → is_at p o ≡ false → terms_in (cond t (o ∷ kept) kept) p ≡ terms_in kept p
      skipped true other = ap (λ x. option_or (terms_in kept p) (cond x (Some (terms_of o)) None)) other
          ∙ or_none (terms_in kept p)
      skipped false other = refl

  terms_filter : (os : List OfferEntry) → terms_in (filter q os) p ≡ cond b (terms_in os p) None
  terms_filter [] = sym (nothing b)
    where
      nothing : (b : Bool) → cond b (terms_in [] p) None ≡ terms_in [] p
      nothing true = refl
      nothing false = refl
  terms_filter (o ∷ os) = terms_by (q o) o (filter q os) (terms_in os p) refl (terms_filter os)

some_where : (b : Bool) (t : Option OfferTerms) → is_some (cond b t None) ≡ (b && is_some t)
some_where true t = refl
some_where false t = refl

-- what is left without the old offers of a position is nothing, or what was there
left_over : (old : Bool) (t : Option OfferTerms) → cond (old && is_some t) None t ≡ cond (not old) t None
left_over true None = refl
left_over true (Some x) = refl
left_over false t = refl

old_alike : (batch : Batch) (p : BookPosition) (o : OfferEntry) → is_at p o ≡ true
    → is_old batch o ≡ is_among (old_keys batch) (key_at p)
old_alike batch p o h = ap (λ x. is_among (old_keys batch) (key_at x)) (sym (same_position p _ h))

pub taken_out : (offers before : List OfferEntry) (batch : Batch) → AreReplaced offers before batch
    → without_offers (index_of offers) before ≡ index_of (filter (λ o. not (is_old batch o)) offers)
taken_out offers before batch replaced = same_positions _ _ (λ p.
    let old = is_among (old_keys batch) (key_at p) in
    get-without_offers (index_of offers) before p ∙ ap (cond (is_taken before p) None) (get-index_of offers p)
    ∙ ap (λ b. cond b None (terms_in offers p))
    (replaced p ∙ sym (some_terms (filter (is_old batch) offers) p)
    ∙ ap is_some (terms_filter p (is_old batch) old (old_alike batch p) offers) ∙ some_where old (terms_in offers p))
    ∙ left_over old (terms_in offers p)
    ∙ sym (terms_filter p (λ o. not (is_old batch o)) (not old) (λ o h. ap not (old_alike batch p o h)) offers)
    ∙ sym (get-index_of (filter (λ o. not (is_old batch o)) offers) p))

pub rebuilt : (offers before : List OfferEntry) (batch : Batch) (first left made index : PositionMap)
    → first ≡ index_of offers → AreReplaced offers before batch → left ≡ without_offers first before
    → made ≡ with_offers left (offers_in batch.init) → index ≡ with_offers made (offers_in batch.live)
    → index ≡ index_of (offers_after offers batch)
rebuilt offers before batch first left made index is replaced l m i =
    i ∙ ap (λ x. with_offers x (offers_in batch.live)) (m
    ∙ ap (λ x. with_offers x (offers_in batch.init)) (l ∙ ap (λ x. without_offers x before) is
    ∙ taken_out offers before batch replaced))
    ∙ sym (with_more _ (offers_in batch.init) (offers_in batch.live))
    ∙ sym (with_more _ (filter (λ o. not (is_old batch o)) offers) (offers_in batch.init ++ offers_in batch.live))

pub stays_right : IndexStaysRight
stays_right offers [] last replaced made = made
stays_right offers (step ∷ steps) last replaced made = stays_right (offers_after offers step.1) steps last replaced.1
    (subst (λ index. AreChangedTo index steps last) (made.1.0 offers refl replaced.0) made.1.1)

-- the index of a map is that of its offers
pub indexes_of_offers : IndexesAreOfOffers
indexes_of_offers m index h =
    same_positions index (index_of (offers_of m))
    (λ p. h.each p ∙ sym (terms_exist m p h.keyed) ∙ sym (get-index_of (offers_of m) p))
