-- Rules in their order.
use Rattle.image_rules.proofs.Prelude.{inl, inr, refl, List, ◌∷◌, Option, Some, None, LedgerHeader, EntryMap, Keeps}
use Rattle.image_rules.proofs.Prelude.{IsFirstBroken}
use Rattle.close_rules.specs.declared.image_fault.ImageRule.{ImageRule}

module _ (h : LedgerHeader) (m : EntryMap) (first : ImageRule) (rules : List ImageRule) where
  pub broken_first : (Keeps h m first → ⊥) → IsFirstBroken h m (first ∷ rules) (Some first)
  broken_first broken = inl (broken, refl)

  pub kept_first : (answer : Option ImageRule) → Keeps h m first → IsFirstBroken h m rules answer
      → IsFirstBroken h m (first ∷ rules) answer
  kept_first None kept rest = (kept, rest)
  kept_first (Some broken) kept rest = inr (kept, rest)
