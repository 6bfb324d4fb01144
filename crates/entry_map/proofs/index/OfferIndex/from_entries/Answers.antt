use Rattle.entry_map.proofs.Prelude.{◌≡◌, refl, arith, List, [], ◌∷◌, ◌++◌, sym, ap, subst, ◌∙◌, append_assoc}
use Rattle.entry_map.proofs.Prelude.{append-nil, map, length, IsDistinct, eq_by_cmp, from_entries, key_cmp, key_of}
use Rattle.entry_map.proofs.Prelude.{LedgerEntry, IsIndexOf, IfOk-weaker, index_of, rules}
use Rattle.entry_map.proofs.Layers.{with_key}
use Rattle.entry_map.proofs.Building.{distinct_after, not_there, index_of_none}
use Rattle.entry_map.proofs.index.OfferIndex.from_entries.Goals as goal

pub loop-last-init : goal.loop-last-init
loop-last-init c =
    ([], append-nil c.args.entries.now, index_of_none c.new-offers.result.items (search rules))

pub loop-last-preserved : goal.loop-last-preserved
loop-last-preserved c =
    let done = c.loop-last.invariant.0 in
    let all : c.in-Some.earlier.now ++ c.in-Some.last.now ∷ done ≡ c.args.entries.now =
    sym (append_assoc c.in-Some.earlier.now (c.in-Some.last.now ∷ []) done)
    ∙ ap (λ r. r ++ done) (sym c.in-Some.ensures.cases.0) ∙ c.loop-last.invariant.1 in (
      c.in-Some.last.now ∷ done,
      all,
      c.in_ok-push_offer.ensures (from_entries (map with_key done)) c.loop-last.invariant.2
          (not_there c.in-Some.last.now done (distinct_after c.in-Some.earlier.now (c.in-Some.last.now ∷ done)
          (subst (λ es. IsDistinct (eq_by_cmp key_cmp) (map key_of es)) (sym all) c.requires))),
    )

pub returns : goal.returns
returns c =
    let done = subst (λ es. IsIndexOf (from_entries (map with_key es)) (index_of c.loop-last.offers.items))
    (ap (λ es. es ++ c.loop-last.invariant.0) (sym (nothing c.loop-last.ahead.now c.in_default.ensures.cases))
    ∙ c.loop-last.invariant.1) c.loop-last.invariant.2 in
    IfOk-weaker c.from_offers.result _ _
    (λ index is. subst (IsIndexOf (from_entries (map with_key c.args.entries.now)))
    (sym (is ∙ ap index_of c.as_slice.ensures.value)) done) c.from_offers.ensures
  where
    nothing : (es : List LedgerEntry) → length es ≡ 0 → es ≡ []
    nothing [] h = refl
    nothing (e ∷ es) h = absurd (omega arith)
