use Rattle.std.specs.Int.{w64}
use Rattle.std.specs.Prelude.{FitsSigned, option_map, int_le}
use Rattle.std.proofs.lemmas.Int.{to_z-of_z}
use Rattle.valid_values.specs.Assets.{is_valid_asset}
use Rattle.path_finder.specs.declared.query.PathQuery.{PathQuery}
use Rattle.path_finder.specs.Query as spec
use Rattle.path_finder.proofs.FirstInvalid.{after_three}
use Rattle.path_finder.proofs.Prelude.{◌≡◌, sym, ap, ◌∙◌, ℕ, ◌+◌, not, false, Option, None, Some, pos, rules}
use Rattle.path_finder.proofs.query.bad_index.Goals as goal

by_candidates : (q : PathQuery) (position : Option ℕ) → not (is_valid_asset q.send) ≡ false
    → not (is_valid_asset q.dest) ≡ false → int_le q.amount (pos 0) ≡ false
    → spec.bad_candidate q.candidates ≡ position → option_map (λ i. 3 + i) position ≡ spec.bad_index q
by_candidates q position send dest amount e =
    sym (after_three (λ asset. not (is_valid_asset asset)) _ _ _ send dest amount q.candidates
    ∙ ap (option_map (λ i. 3 + i)) e)

pub returns-in-Some : goal.returns-in-Some
returns-in-Some c =
    let q = c.args.query.now in
    let fits : FitsSigned w64 q.amount = search rules in
    let amount : int_le q.amount (pos 0) ≡ false = cc (to_z-of_z w64 q.amount fits) in
    by_candidates q (Some c.in-Some.position) (ap not (sym c.if-not-is_valid_asset.ensures))
    (ap not (sym c.if-not-is_valid_asset-2.ensures)) amount
    (ap spec.bad_candidate (sym c.as_slice.ensures) ∙ sym c.bad_candidate.ensures ∙ c.in-Some.is)

pub returns-in-None : goal.returns-in-None
returns-in-None c =
    let q = c.args.query.now in
    let fits : FitsSigned w64 q.amount = search rules in
    let amount : int_le q.amount (pos 0) ≡ false = cc (to_z-of_z w64 q.amount fits) in
    by_candidates q None (ap not (sym c.if-not-is_valid_asset.ensures))
    (ap not (sym c.if-not-is_valid_asset-2.ensures)) amount
    (ap spec.bad_candidate (sym c.as_slice.ensures) ∙ sym c.bad_candidate.ensures ∙ c.in-None.is)
