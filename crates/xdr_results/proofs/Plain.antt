-- Values that have nothing after their discriminant: which one a discriminant picks, and the laws of their arms.
use Rattle.std.proofs.Common.{◌≡◌, ℤ, ◌^◌, T, ltb, true, false, cond, List, [], ◌∷◌, Option, Some, None, Ok, Err, refl}
use lib.Signed.{mag}
use Rattle.std.specs.Prelude.{find}
use Rattle.std.specs.Ordering.{int_eq}
use Rattle.xdr_core.specs.declared.fault.XdrFault.{XdrFault}
use Rattle.xdr_core.specs.declared.fault.XdrKind.TheVariants.{BadEnum}
use Rattle.xdr_core.specs.Position.{Position, Reading, fault_at}
use Rattle.xdr_core.specs.Combinators.{Arm, Part, part, arm_at, pick}
use Rattle.xdr_core.specs.Xdr.{no_arm}
use Rattle.xdr_core.proofs.FormatLaws.{Laws, empty_laws, EachArm, arm_laws, found, union_laws}
use Rattle.xdr_core.proofs.Unions.{IsFound}
use Rattle.xdr_results.specs.Coded.{plain, plain_arms, codes}

abbrev pub found_at : {V : Type 0} → Option V → Position → Position → Reading XdrFault V
found_at None start p = Err (fault_at start BadEnum)
found_at (Some value) start p = Ok (value, p)

pub pick_plain : {V : Type 0} (number : V → ℤ) (values : List V) (start p : Position) (d : ℤ)
    → pick (plain_arms number values) no_arm start (d, p)
    ≡ found_at (find (λ value. int_eq d (number value)) values) start p
pick_plain number [] start p d = refl
pick_plain {V} number (value ∷ others) start p d =
    elim (int_eq d (number value)) as (λ b.
    cond b (Ok (value, p)) (pick (plain_arms number others) no_arm start (d, p))
    ≡ found_at (cond b (Some value) (find (λ v. int_eq d (number v)) others)) start p) [
      | true ↦ refl
      | false ↦ pick_plain number others start p d
    ]

-- a value that has nothing after its discriminant, a numeral that fits 32 bits with a sign
pub plain_under : {V : Type 0} {part_of : V → Part XdrFault V} {arms : List (Arm XdrFault V)} {value : V}
    (number : V → ℤ) → T (ltb (mag (number value)) (2 ^ 31)) → part_of value ≡ part (plain number value) tt
    → ((wrong : Position → ℤ → XdrFault) (start p : Position)
    → pick arms wrong start (number value, p) ≡ arm_at (plain number value) p)
    → IsFound part_of arms value
plain_under {value = value} number fits is_part picked =
    found (plain number value) tt empty_laws fits is_part refl picked

-- each of these values has nothing after its discriminant
abbrev pub ArePlain : {V : Type 0} → (V → Part XdrFault V) → (V → ℤ) → List V → Type 1
ArePlain part_of number [] = Unit {1}
ArePlain part_of number (value ∷ others) =
    (part_of value ≡ part (plain number value) tt) × ArePlain part_of number others

pub plain_are : {V : Type 0} (part_of : V → Part XdrFault V) (number : V → ℤ) (values : List V)
    → ArePlain part_of number values → EachArm part_of (plain_arms number values)
plain_are part_of number [] are = tt
plain_are part_of number (value ∷ others) are =
    (arm_laws empty_laws (λ x. are.0), plain_are part_of number others are.1)

-- ---- unions all of whose values have nothing after their discriminant

abbrev pub IsListed : {V : Type 0} → (V → ℤ) → List V → V → Type 1
IsListed number values value = IsFound (λ v. part (plain number v) tt) (plain_arms number values) value

listed_are : {V : Type 0} (number : V → ℤ) (values : List V)
    → EachArm (λ v. part (plain number v) tt) (plain_arms number values)
listed_are number [] = tt
listed_are number (value ∷ others) = (arm_laws empty_laws (λ x. refl), listed_are number others)

pub codes_laws : {V : Type 0} (number : V → ℤ) (values : List V) → ((v : V) → IsListed number values v)
    → Laws (codes number values)
codes_laws number values listed = union_laws (listed_are number values) listed
