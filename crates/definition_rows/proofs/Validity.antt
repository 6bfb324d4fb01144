-- Texts, assets and predicates at both sides of each bound. The contracts of valid_values name these definitions.
use Rattle.definition_rows.proofs.Prelude.{◌≡◌, refl, ap, ◌∙◌, ℕ, zero, suc, ℤ, pos, negsuc, List, [], ◌∷◌, codes, Bool}
use Rattle.definition_rows.proofs.Prelude.{true, false, not, ◌&&◌, Option, Some, None, AccountId, Native, Alphanum4}
use Rattle.definition_rows.proofs.Prelude.{Alphanum12, roll-ClaimPredicate, out-roll-ClaimPredicate, ClaimPredicate-F}
use Rattle.ledger_types.specs.declared.predicate.ClaimPredicate.{ClaimPredicate}
use Rattle.valid_values.specs.Texts.{is_valid_text}
use Rattle.valid_values.specs.Assets.{is_valid_code, is_valid_asset}
use Rattle.valid_values.specs.Predicates.{is_valid_level, is_valid_below, is_valid_predicate, is_valid_stored_predicate}
use Rattle.definition_rows.proofs.Rows.{hex}

-- ---- texts and assets

-- 636166c3a9 is "caf" and U+00E9 in UTF-8.
a_text_is_printable_ascii : (is_valid_text []
    && is_valid_text (codes "example.com")
    && is_valid_text (codes " ~")
    && not (is_valid_text (codes "a\u{1f}"))
    && not (is_valid_text (codes "\u{7f}a"))
    && not (is_valid_text (hex "636166c3a9"))
    && not (is_valid_text (codes "a\0"))) ≡ true
unfolding is_valid_text hex
a_text_is_printable_ascii = refl

a_short_code_has_one_to_four_letters_or_digits : (issuer : AccountId)
    → (is_valid_asset Native
    && is_valid_asset (Alphanum4 (codes "USD\0") issuer)
    && is_valid_asset (Alphanum4 (codes "a\0\0\0") issuer)
    && is_valid_asset (Alphanum4 (codes "Zz09") issuer)
    && not (is_valid_asset (Alphanum4 (codes "\0\0\0\0") issuer))
    && not (is_valid_asset (Alphanum4 (codes "US\0D") issuer))
    && not (is_valid_asset (Alphanum4 (codes "\0USD") issuer))
    && not (is_valid_asset (Alphanum4 (codes "US-D") issuer))
    && not (is_valid_asset (Alphanum4 (codes "/AAA") issuer))
    && not (is_valid_asset (Alphanum4 (codes ":AAA") issuer))
    && not (is_valid_asset (Alphanum4 (codes "@AAA") issuer))
    && not (is_valid_asset (Alphanum4 (codes "[AAA") issuer))
    && not (is_valid_asset (Alphanum4 (codes "`AAA") issuer))
    && not (is_valid_asset (Alphanum4 (codes "{AAA") issuer))) ≡ true
unfolding is_valid_asset is_valid_code
a_short_code_has_one_to_four_letters_or_digits issuer = refl

a_long_code_has_five_to_twelve_letters_or_digits : (issuer : AccountId)
    → (is_valid_asset (Alphanum12 (codes "LUMEN\0\0\0\0\0\0\0") issuer)
    && is_valid_asset (Alphanum12 (codes "ABCDEFGHIJKL") issuer)
    && not (is_valid_asset (Alphanum12 (codes "FOUR\0\0\0\0\0\0\0\0") issuer))
    && not (is_valid_asset (Alphanum12 (codes "\0\0\0\0\0\0\0\0\0\0\0\0") issuer))
    && not (is_valid_asset (Alphanum12 (codes "LUMEN\0A\0\0\0\0\0") issuer))
    && not (is_valid_asset (Alphanum12 (codes "LUMEN \0\0\0\0\0\0") issuer))) ≡ true
unfolding is_valid_asset is_valid_code
a_long_code_has_five_to_twelve_letters_or_digits issuer = refl

-- ---- predicates

abbrev unconditional : ClaimPredicate
unconditional = roll-ClaimPredicate ClaimPredicate-F.Unconditional

abbrev not_of : Option ClaimPredicate → ClaimPredicate
not_of part = roll-ClaimPredicate (ClaimPredicate-F.Not part)

abbrev and_of : List ClaimPredicate → ClaimPredicate
and_of parts = roll-ClaimPredicate (ClaimPredicate-F.And parts)

abbrev or_of : List ClaimPredicate → ClaimPredicate
or_of parts = roll-ClaimPredicate (ClaimPredicate-F.Or parts)

abbrev before_absolute : ℤ → ClaimPredicate
before_absolute time = roll-ClaimPredicate (ClaimPredicate-F.BeforeAbsoluteTime time)

abbrev before_relative : ℤ → ClaimPredicate
before_relative seconds = roll-ClaimPredicate (ClaimPredicate-F.BeforeRelativeTime seconds)

-- the outermost level of a predicate, by those below it
level : (relative : Bool) (levels : ℕ) (outer : ClaimPredicate-F ClaimPredicate)
    → is_valid_below relative (suc levels) (roll-ClaimPredicate outer)
    ≡ is_valid_level relative (is_valid_below relative levels) outer
unfolding is_valid_below
level relative levels outer =
    ap (is_valid_level relative (is_valid_below relative levels)) (out-roll-ClaimPredicate outer)

-- NOT over NOT, so often, with a leaf at the end
abbrev nots : ℕ → ClaimPredicate
nots zero = unconditional
nots (suc count) = not_of (Some (nots count))

-- one NOT is one level
inner : (levels : ℕ) (part : ClaimPredicate)
    → is_valid_below true (suc levels) (not_of (Some part)) ≡ is_valid_below true levels part
inner levels part = level true levels (ClaimPredicate-F.Not (Some part))

four_inner : (part : ClaimPredicate)
    → is_valid_predicate (not_of (Some (not_of (Some (not_of (Some (not_of (Some part)))))))) ≡ false
unfolding is_valid_below
four_inner part =
    inner 3 (not_of (Some (not_of (Some (not_of (Some part))))))
    ∙ inner 2 (not_of (Some (not_of (Some part))))
    ∙ inner 1 (not_of (Some part))
    ∙ inner 0 part

a_predicate_has_at_most_four_levels : (is_valid_predicate (nots 0) ≡ true)
    × (is_valid_predicate (nots 3) ≡ true)
    × (is_valid_predicate (nots 4) ≡ false)
    × (is_valid_predicate (nots 20) ≡ false)
a_predicate_has_at_most_four_levels = (
  level true 3 ClaimPredicate-F.Unconditional,
  inner 3 (nots 2) ∙ inner 2 (nots 1) ∙ inner 1 (nots 0) ∙ level true 0 ClaimPredicate-F.Unconditional,
  four_inner (nots 0),
  four_inner (nots 16),
)

-- two parts that are leaves
two_leaves : (first second : ClaimPredicate-F ClaimPredicate)
    → (is_valid_below true 3 (roll-ClaimPredicate first) && is_valid_below true 3 (roll-ClaimPredicate second))
    ≡ (is_valid_level true (is_valid_below true 2) first && is_valid_level true (is_valid_below true 2) second)
two_leaves first second =
    ap (λ passes. passes && is_valid_below true 3 (roll-ClaimPredicate second)) (level true 2 first)
    ∙ ap (λ passes. is_valid_level true (is_valid_below true 2) first && passes) (level true 2 second)

and_has_two_valid_parts : (is_valid_predicate (and_of []) ≡ false)
    × (is_valid_predicate (and_of (unconditional ∷ [])) ≡ false)
    × (is_valid_predicate (and_of (unconditional ∷ unconditional ∷ [])) ≡ true)
    × (is_valid_predicate (and_of (unconditional ∷ unconditional ∷ unconditional ∷ [])) ≡ false)
    × (is_valid_predicate (or_of (unconditional ∷ before_absolute (pos 0) ∷ [])) ≡ true)
    × (is_valid_predicate (or_of (unconditional ∷ before_absolute (negsuc 0) ∷ [])) ≡ false)
and_has_two_valid_parts = (
  level true 3 (ClaimPredicate-F.And []),
  level true 3 (ClaimPredicate-F.And (unconditional ∷ [])),
  level true 3 (ClaimPredicate-F.And (unconditional ∷ unconditional ∷ []))
      ∙ two_leaves ClaimPredicate-F.Unconditional ClaimPredicate-F.Unconditional,
  level true 3 (ClaimPredicate-F.And (unconditional ∷ unconditional ∷ unconditional ∷ [])),
  level true 3 (ClaimPredicate-F.Or (unconditional ∷ before_absolute (pos 0) ∷ []))
      ∙ two_leaves ClaimPredicate-F.Unconditional (ClaimPredicate-F.BeforeAbsoluteTime (pos 0)),
  level true 3 (ClaimPredicate-F.Or (unconditional ∷ before_absolute (negsuc 0) ∷ []))
      ∙ two_leaves ClaimPredicate-F.Unconditional (ClaimPredicate-F.BeforeAbsoluteTime (negsuc 0)),
)

not_has_a_part : is_valid_predicate (not_of None) ≡ false
not_has_a_part = level true 3 (ClaimPredicate-F.Not None)

times_are_at_least_zero_and_a_balance_has_no_relative_one : (is_valid_predicate (before_absolute (pos 0)) ≡ true)
    × (is_valid_predicate (before_absolute (negsuc 0)) ≡ false)
    × (is_valid_predicate (before_relative (pos 0)) ≡ true)
    × (is_valid_predicate (before_relative (negsuc 0)) ≡ false)
    × (is_valid_stored_predicate (before_absolute (pos 0)) ≡ true)
    × (is_valid_stored_predicate (before_relative (pos 0)) ≡ false)
times_are_at_least_zero_and_a_balance_has_no_relative_one = (
  level true 3 (ClaimPredicate-F.BeforeAbsoluteTime (pos 0)),
  level true 3 (ClaimPredicate-F.BeforeAbsoluteTime (negsuc 0)),
  level true 3 (ClaimPredicate-F.BeforeRelativeTime (pos 0)),
  level true 3 (ClaimPredicate-F.BeforeRelativeTime (negsuc 0)),
  level false 3 (ClaimPredicate-F.BeforeAbsoluteTime (pos 0)),
  level false 3 (ClaimPredicate-F.BeforeRelativeTime (pos 0)),
)
