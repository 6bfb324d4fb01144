-- The last of the rules of entries.
use Rattle.std.specs.Prelude.{List, [], ◌∷◌}
use Rattle.close_rules.specs.declared.image_fault.ImageRule.{ImageRule}
use Rattle.close_rules.specs.declared.image_fault.ImageRule.TheVariants as rule

-- those on what entries count
abbrev pub counted_rules : List ImageRule
counted_rules = rule.Liabilities ∷ rule.Subentries ∷ rule.Sponsorship ∷ rule.Pools ∷ rule.Lumens ∷ []
