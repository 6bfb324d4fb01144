-- Applying changes has one outcome.
use Rattle.change_stream.proofs.Prelude.{[], ap, changed, refl, suc, sym, zero, ◌∙◌, ◌∷◌}
use Rattle.change_stream.specs.Laws.{AppliesOrMisfits, AppliesToOne, MisfitsOnce}

pub one_map : AppliesToOne
one_map m n o [] a b = sym a ∙ b
one_map m n o (c ∷ cs) a b = one_map (changed m c) n o cs a.1 b.1

pub one_misfit : MisfitsOnce
one_misfit m [] i j a b = absurd a
one_misfit m (c ∷ cs) zero zero a b = refl
one_misfit m (c ∷ cs) zero (suc j) a b = absurd (a b.0)
one_misfit m (c ∷ cs) (suc i) zero a b = absurd (b a.0)
one_misfit m (c ∷ cs) (suc i) (suc j) a b = ap suc (one_misfit (changed m c) cs i j a.1 b.1)

pub not_both : AppliesOrMisfits
not_both m n [] i a b = b
not_both m n (c ∷ cs) zero a b = b a.0
not_both m n (c ∷ cs) (suc i) a b = not_both (changed m c) n cs i a.1 b.1

pub ruleset outcome_laws = (one_map, one_misfit, not_both)
