-- What offers bind, evaluated.
use Rattle.legal_rules.proofs.Prelude.{refl, liabilities, wheat_stays, BoundsAreRounded}

pub bounds_are_rounded : BoundsAreRounded
unfolding liabilities wheat_stays
bounds_are_rounded = record {
  exact = refl;
  two_thirds = refl;
  three_halves = refl;
  more_at_three_halves = refl;
  three_sevenths = refl;
  too_small = refl;
  greatest = refl;
}
