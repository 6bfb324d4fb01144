use Rattle.image_rules.proofs.Prelude.{◌≡◌, refl, sym, rules, to_z-of_z, FitsSigned, w64, [], ◌∷◌, ◌∙◌, ap, Some, None}
use Rattle.image_rules.proofs.Prelude.{List, ℤ, ◌+ℤ◌}
use Rattle.std.proofs.Common.{of_z, to_z}
use Rattle.std.specs.Int.{w128}
use Rattle.close_rules.specs.declared.image_fault.ImageRule.{ImageRule}
use Rattle.close_rules.specs.declared.image_fault.ImageRule.TheVariants as rule
use Rattle.image_rules.proofs.Judged.{broken_first, kept_first}
use Rattle.image_rules.proofs.verdict.first_of_counted.Goals as goal

-- numbers as they are read
abbrev wide : ℤ → ℤ
wide n = to_z w128 (of_z w128 n)

abbrev narrow : ℤ → ℤ
narrow n = to_z w64 (of_z w64 n)

module _ (lumens fee_pool total : ℤ) (l : FitsSigned w128 lumens) (f : FitsSigned w64 fee_pool)
    (t : FitsSigned w64 total) where
  same_sum : (lumens +ℤ fee_pool) ≡ total → (wide lumens +ℤ narrow fee_pool) ≡ narrow total
  same_sum is = (λ i. to_z-of_z w128 lumens l i +ℤ to_z-of_z w64 fee_pool f i) ∙ is ∙ sym (to_z-of_z w64 total t)

  sum_same : (wide lumens +ℤ narrow fee_pool) ≡ narrow total → (lumens +ℤ fee_pool) ≡ total
  sum_same is = (λ i. sym (to_z-of_z w128 lumens l) i +ℤ sym (to_z-of_z w64 fee_pool f) i) ∙ is ∙ to_z-of_z w64 total t

-- the rules after each of them
abbrev after_pools : List ImageRule
after_pools = rule.Lumens ∷ []

abbrev after_sponsorship : List ImageRule
after_sponsorship = rule.Pools ∷ after_pools

abbrev after_subentries : List ImageRule
after_subentries = rule.Sponsorship ∷ after_sponsorship

abbrev after_liabilities : List ImageRule
after_liabilities = rule.Subentries ∷ after_subentries

pub returns-then-not-are_liable : goal.returns-then-not-are_liable
returns-then-not-are_liable c m survey agreed =
    broken_first c.args.header.now m rule.Liabilities after_liabilities
    (λ kept. let said = (c.are_liable.ensures m agreed).1 kept in cc)

pub returns-then-not-are_subentries_counted : goal.returns-then-not-are_subentries_counted
returns-then-not-are_subentries_counted c m survey agreed =
    kept_first c.args.header.now m rule.Liabilities after_liabilities (Some rule.Subentries)
    ((c.are_liable.ensures m agreed).0 c.if-not-are_liable.false)
    (broken_first c.args.header.now m rule.Subentries after_subentries
    (λ kept. let said = (c.are_subentries_counted.ensures m survey.few agreed).1 kept in cc))

pub returns-then-not-are_sponsors_counted : goal.returns-then-not-are_sponsors_counted
returns-then-not-are_sponsors_counted c m survey agreed =
    kept_first c.args.header.now m rule.Liabilities after_liabilities (Some rule.Sponsorship)
    ((c.are_liable.ensures m agreed).0 c.if-not-are_liable.false)
    (kept_first c.args.header.now m rule.Subentries after_subentries (Some rule.Sponsorship)
    ((c.are_subentries_counted.ensures m survey.few agreed).0 c.if-not-are_subentries_counted.false)
    (broken_first c.args.header.now m rule.Sponsorship after_sponsorship
    (λ kept. let said = (c.are_sponsors_counted.ensures m survey.fitting agreed).1 kept in cc)))

pub returns-then-not-are_pools_counted : goal.returns-then-not-are_pools_counted
returns-then-not-are_pools_counted c m survey agreed =
    kept_first c.args.header.now m rule.Liabilities after_liabilities (Some rule.Pools)
    ((c.are_liable.ensures m agreed).0 c.if-not-are_liable.false)
    (kept_first c.args.header.now m rule.Subentries after_subentries (Some rule.Pools)
    ((c.are_subentries_counted.ensures m survey.few agreed).0 c.if-not-are_subentries_counted.false)
    (kept_first c.args.header.now m rule.Sponsorship after_sponsorship (Some rule.Pools)
    ((c.are_sponsors_counted.ensures m survey.fitting agreed).0 c.if-not-are_sponsors_counted.false)
    (broken_first c.args.header.now m rule.Pools after_pools
    (λ kept. let said = (c.are_pools_counted.ensures m survey.filled agreed).1 kept in cc))))

pub returns-then-not-is_total : goal.returns-then-not-is_total
returns-then-not-is_total c m survey agreed =
    let h = c.args.header.now in
    kept_first h m rule.Liabilities after_liabilities (Some rule.Lumens)
    ((c.are_liable.ensures m agreed).0 c.if-not-are_liable.false)
    (kept_first h m rule.Subentries after_subentries (Some rule.Lumens)
    ((c.are_subentries_counted.ensures m survey.few agreed).0 c.if-not-are_subentries_counted.false)
    (kept_first h m rule.Sponsorship after_sponsorship (Some rule.Lumens)
    ((c.are_sponsors_counted.ensures m survey.fitting agreed).0 c.if-not-are_sponsors_counted.false)
    (kept_first h m rule.Pools after_pools (Some rule.Lumens)
    ((c.are_pools_counted.ensures m survey.filled agreed).0 c.if-not-are_pools_counted.false)
    (broken_first h m rule.Lumens []
    (λ kept. let said = c.is_total.ensures.1
    (same_sum c.args.lumens h.fee_pool h.total_coins (search rules) (search rules) (search rules)
    (ap (λ (n : ℤ). n +ℤ h.fee_pool) survey.lumens ∙ kept)) in cc)))))

pub returns : goal.returns
returns c m survey agreed =
    let h = c.args.header.now in
    kept_first h m rule.Liabilities after_liabilities None
    ((c.are_liable.ensures m agreed).0 c.if-not-are_liable.false)
    (kept_first h m rule.Subentries after_subentries None
    ((c.are_subentries_counted.ensures m survey.few agreed).0 c.if-not-are_subentries_counted.false)
    (kept_first h m rule.Sponsorship after_sponsorship None
    ((c.are_sponsors_counted.ensures m survey.fitting agreed).0 c.if-not-are_sponsors_counted.false)
    (kept_first h m rule.Pools after_pools None
    ((c.are_pools_counted.ensures m survey.filled agreed).0 c.if-not-are_pools_counted.false)
    (kept_first h m rule.Lumens [] None
    (ap (λ (n : ℤ). n +ℤ h.fee_pool) (sym survey.lumens)
    ∙ sum_same c.args.lumens h.fee_pool h.total_coins (search rules) (search rules) (search rules)
    (c.is_total.ensures.0 c.if-not-is_total.false)) refl))))
