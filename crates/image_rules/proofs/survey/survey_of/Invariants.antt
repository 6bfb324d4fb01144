use Rattle.image_rules.proofs.Prelude.{◌≡◌, ◌*◌, pos, neg_ℤ, ◌≤ℤ◌, held}
use Rattle.ledger_types.specs.declared.asset.Asset.TheVariants as asset
use Rattle.image_rules.specs.Holdings.{AreKnown}
use Rattle.image_rules.proofs.Listed.{sum_before}
use Rattle.image_rules.proofs.Surveying.{IsSurveyed}
use Rattle.image_rules.proofs.survey.survey_of.Given as goal

abbrev pub invariant-loop-index : goal.invariant-loop-index
invariant-loop-index l = record {
  surveyed : IsSurveyed l.header l.entries l.index l.survey;
  known : AreKnown l.entries l.known;
  lumens : l.lumens ≡ sum_before (held asset.Native) l.entries l.index;
  low : neg_ℤ (pos (9223372036854775808 * l.index)) ≤ℤ l.lumens;
  high : l.lumens ≤ℤ pos (9223372036854775808 * l.index);
}
