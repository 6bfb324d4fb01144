use Rattle.image_rules.proofs.Prelude.{sym, subst, rules, to_z-of_z, FitsSigned, ◌∷◌, ℤ, counted_rules}
use Rattle.std.specs.Int.{w128}
use Rattle.close_rules.specs.declared.image_fault.ImageRule.TheVariants as rule
use Rattle.image_rules.proofs.Judged.{broken_first}
use Rattle.image_rules.specs.Surveys.{IsSurvey, Surveys}
use Rattle.image_rules.proofs.verdict.first_broken.Goals as goal

pub returns-in-None : goal.returns-in-None
returns-in-None c =
    let h = c.args.header.now in
    let m = c.args.entries.now in
    broken_first h m rule.Entry (rule.Owner ∷ counted_rules)
    (subst (Surveys h m) c.in-None.is c.in_ok-survey_of.ensures)

pub first_in_survey-requires : goal.first_in_survey-requires
first_in_survey-requires c =
    let h = c.args.header.now in
    let m = c.args.entries.now in
    let found = c.in-Some.found in
    let fits : FitsSigned w128 found.1 = search rules in
    subst (λ (n : ℤ). IsSurvey h m found.0 n) (sym (to_z-of_z w128 found.1 fits))
    (subst (Surveys h m) c.in-Some.is c.in_ok-survey_of.ensures)
