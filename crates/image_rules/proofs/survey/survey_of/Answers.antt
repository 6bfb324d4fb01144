use Rattle.image_rules.proofs.Prelude.{refl, ◌∙◌, arith, ints, to_z-of_z, held}
use Rattle.ledger_types.specs.declared.asset.Asset.TheVariants as asset
use Rattle.image_rules.proofs.Listed.{sum_before, sum_more}
use Rattle.image_rules.proofs.Surveying.{surveyed_none, surveyed_more, surveyed_all, kept_of, terms_at, there_at}
use Rattle.image_rules.proofs.Surveying.{lumens_more}
use Rattle.image_rules.proofs.survey.survey_of.Goals as goal

pub loop-index-init : goal.loop-index-init
loop-index-init c = record {
  surveyed = surveyed_none c.args.header.now c.args.entries.now c.no_survey-survey.result c.no_survey-survey.ensures;
  known = c.no_holdings-known.ensures c.args.entries.now;
  lumens = refl;
  low = omega (arith, ints);
  high = omega (arith, ints);
}

pub returns-then-not-kept : goal.returns-then-not-kept
returns-then-not-kept c ranges =
    let m = c.args.entries.now in
    let kept = (c.in_ok-kept.ensures m c.in_ok-held.ensures.held.authorized).1
    (kept_of c.args.header.now m ranges c.loop-index.index c.in_ok-entry.entry c.in_ok-entry.ensures.entry) in cc

pub walk_over-requires : goal.walk_over-requires
walk_over-requires c =
    let h = c.args.header.now in
    let m = c.args.entries.now in
    let e = c.in_ok-entry.entry in
    record {
      there = there_at h m c.loop-index.index e c.in_ok-entry.ensures.keyed c.in_ok-entry.ensures.entry;
      known = c.loop-index.invariant.surveyed.known;
      traded = c.in_ok-held.ensures.held.there;
      terms = terms_at h m e ((c.in_ok-kept.ensures m c.in_ok-held.ensures.held.authorized).0 c.if-not-kept.false);
    }

pub lumens_in-requires : goal.lumens_in-requires
lumens_in-requires c =
    let m = c.args.entries.now in
    terms_at c.args.header.now m c.in_ok-entry.entry
    ((c.in_ok-kept.ensures m c.in_ok-held.ensures.held.authorized).0 c.if-not-kept.false)

pub loop-index-preserved : goal.loop-index-preserved
loop-index-preserved c =
    let h = c.args.header.now in
    let m = c.args.entries.now in
    let e = c.in_ok-entry.entry in
    let at = c.in_ok-entry.ensures.entry in
    let more = sum_more (held asset.Native) m c.loop-index.index e at in
    let v = c.lumens_in.ensures.value in
    record {
      surveyed = surveyed_more h m c.loop-index.index e c.loop-index.survey c.walk_over.new.survey
          c.loop-index.invariant.surveyed at
          ((c.in_ok-kept.ensures m c.in_ok-held.ensures.held.authorized).0 c.if-not-kept.false) c.in_ok-walk_over.ensures;
      known = c.in_ok-held.ensures.known;
      lumens = lumens_more c.loop-index.index _ c.from-lumens.result c.lumens_in.result (held asset.Native e)
          (sum_before (held asset.Native) m c.loop-index.index) _ (omega arith) c.loop-index.invariant.low
          c.loop-index.invariant.high c.lumens_in.ensures.low c.lumens_in.ensures.high c.from-lumens.ensures v
          c.loop-index.invariant.lumens more;
      low = omega (arith, ints);
      high = omega (arith, ints);
    }

pub returns : goal.returns
returns c =
    surveyed_all c.args.header.now c.args.entries.now c.loop-index.index c.loop-index.survey _
    (omega arith) c.loop-index.invariant.surveyed c.loop-index.invariant.lumens
