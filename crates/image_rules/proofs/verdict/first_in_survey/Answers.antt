use Rattle.image_rules.proofs.Prelude.{sym, subst, rules, to_z-of_z, ℤ, FitsSigned, ◌∷◌, Some, AreOwned, counted_rules}
use Rattle.std.specs.Int.{w128}
use Rattle.image_rules.specs.Surveys.{IsSurvey}
use Rattle.close_rules.specs.declared.image_fault.ImageRule.TheVariants as rule
use Rattle.image_rules.proofs.Judged.{broken_first, kept_first}
use Rattle.image_rules.proofs.verdict.first_in_survey.Goals as goal

pub returns-then-not-both : goal.returns-then-not-both
returns-then-not-both c =
    let h = c.args.header.now in
    let m = c.args.entries.now in
    kept_first h m rule.Entry (rule.Owner ∷ counted_rules) (Some rule.Owner) c.requires.ranges
    (broken_first h m rule.Owner counted_rules
    (λ kept. let said = c.both.ensures.1 (c.requires.owned.1 kept.existing, c.requires.apart.1 kept.offers) in cc))

pub agreement_of-requires : goal.agreement_of-requires
agreement_of-requires c =
    let said = c.both.ensures.0 c.if-not-both.false in
    record {
      owned = record { existing = c.requires.owned.0 said.0; offers = c.requires.apart.0 said.1 };
      counted = c.requires.tallies;
    }

pub returns : goal.returns
returns c =
    let h = c.args.header.now in
    let m = c.args.entries.now in
    let said = c.both.ensures.0 c.if-not-both.false in
    let fits : FitsSigned w128 c.args.lumens = search rules in
    let owned : AreOwned m = record { existing = c.requires.owned.0 said.0; offers = c.requires.apart.0 said.1 } in
    kept_first h m rule.Entry (rule.Owner ∷ counted_rules) c.first_of_counted.result c.requires.ranges
    (kept_first h m rule.Owner counted_rules c.first_of_counted.result owned
    (c.first_of_counted.ensures m
    (subst (λ (n : ℤ). IsSurvey h m c.args.survey.now n) (sym (to_z-of_z w128 c.args.lumens fits)) c.requires)
    c.in_ok-agreement.ensures))
