-- Account flags that SET_OPTIONS leaves.
use Rattle.op_laws.proofs.Prelude.{◌≡◌, ◌⊎◌, inl, inr, refl, sym, subst, ℕ, suc, ◌<◌, ◌≤◌, true, false, not, ◌&&◌}
use Rattle.op_laws.proofs.Prelude.{nat_eq, bit_and, bit_xor, ◌^◌, Option, arith, cases_lt, SetOptionsOp, has_flag}
use Rattle.op_laws.proofs.Prelude.{AreAccountFlags, flags_in, has_unknown, new_flags}
use Rattle.std.proofs.lemmas.Nat.{or_lt, xor_lt, and_le_l}

-- ---- numbers up to 15

one_less : (k n : ℕ) → n ≤ suc k → (n ≡ suc k) ⊎ (n ≤ k)
one_less k n le = elim (cases_lt n (suc k)) [ inl lt ↦ inr (omega arith) | inr ge ↦ inl (omega arith) ]

-- AUTH_CLAWBACK_ENABLED (8) is set only with AUTH_REVOCABLE (2) where the test of it passes
abbrev IsRevocable : ℕ → Type 0
IsRevocable n = (not (nat_eq (bit_and n 8) 0) && nat_eq (bit_and n 2) 0) ≡ false → has_flag n 8 ≡ true
    → has_flag n 2 ≡ true

low_is : (n : ℕ) → n ≤ 7 → has_flag n 8 ≡ true → ⊥
low_is n le is = grind arith

at_least_8 : (n : ℕ) → n ≤ 15 → (n ≡ 8) ⊎ (n ≡ 9) ⊎ (n ≡ 10) ⊎ (n ≡ 11) ⊎ (n ≡ 12) ⊎ (n ≡ 13) ⊎ (n ≡ 14) ⊎ (n ≡ 15) ⊎
    (n ≤ 7)
at_least_8 n le = elim (one_less 14 n le) [
  | inl is ↦ inr (inr (inr (inr (inr (inr (inr (inl is)))))))
  | inr le ↦ elim (one_less 13 n le) [
    | inl is ↦ inr (inr (inr (inr (inr (inr (inl is))))))
    | inr le ↦ elim (one_less 12 n le) [
      | inl is ↦ inr (inr (inr (inr (inr (inl is)))))
      | inr le ↦ elim (one_less 11 n le) [
        | inl is ↦ inr (inr (inr (inr (inl is))))
        | inr le ↦ elim (one_less 10 n le) [
          | inl is ↦ inr (inr (inr (inl is)))
          | inr le ↦ elim (one_less 9 n le) [
            | inl is ↦ inr (inr (inl is))
            | inr le ↦ elim (one_less 8 n le) [
              | inl is ↦ inr (inl is)
              | inr le ↦ elim (one_less 7 n le) [
                | inl is ↦ inl is
                | inr le ↦ inr (inr (inr (inr (inr (inr (inr (inr le)))))))
              ]
            ]
          ]
        ]
      ]
    ]
  ]
]

revocable_of : (n : ℕ) → (n ≡ 8) ⊎ (n ≡ 9) ⊎ (n ≡ 10) ⊎ (n ≡ 11) ⊎ (n ≡ 12) ⊎ (n ≡ 13) ⊎ (n ≡ 14) ⊎ (n ≡ 15) ⊎ (n ≤ 7)
    → IsRevocable n
revocable_of n (inl is) = subst IsRevocable (sym is) (λ test has. absurd (cc))
revocable_of n (inr (inl is)) = subst IsRevocable (sym is) (λ test has. absurd (cc))
revocable_of n (inr (inr (inl is))) = subst IsRevocable (sym is) (λ test has. refl)
revocable_of n (inr (inr (inr (inl is)))) = subst IsRevocable (sym is) (λ test has. refl)
revocable_of n (inr (inr (inr (inr (inl is))))) = subst IsRevocable (sym is) (λ test has. absurd (cc))
revocable_of n (inr (inr (inr (inr (inr (inl is)))))) = subst IsRevocable (sym is) (λ test has. absurd (cc))
revocable_of n (inr (inr (inr (inr (inr (inr (inl is))))))) = subst IsRevocable (sym is) (λ test has. refl)
revocable_of n (inr (inr (inr (inr (inr (inr (inr (inl is)))))))) = subst IsRevocable (sym is) (λ test has. refl)
revocable_of n (inr (inr (inr (inr (inr (inr (inr (inr low)))))))) = λ test has. absurd (low_is n low has)

-- ---- new flags

known : (o : Option ℕ) → has_unknown o ≡ false → flags_in o < 2 ^ 4
known o h = grind arith

pub flags_set : (op : SetOptionsOp) (flags : ℕ) → AreAccountFlags flags → has_unknown op.set_flags ≡ false
    → (not (nat_eq (bit_and (new_flags op flags) 8) 0) && nat_eq (bit_and (new_flags op flags) 2) 0) ≡ false
    → AreAccountFlags (new_flags op flags)
flags_set op flags was set test =
    let was_known = was.known in
    let less = and_le_l flags (flags_in op.clear_flags) in
    let cleared : bit_xor flags (bit_and flags (flags_in op.clear_flags)) < 2 ^ 4 = xor_lt 4 flags
    (bit_and flags (flags_in op.clear_flags)) (omega arith) (omega arith) in
    let all : new_flags op flags < 2 ^ 4 = or_lt 4 (bit_xor flags (bit_and flags (flags_in op.clear_flags)))
    (flags_in op.set_flags) cleared (known op.set_flags set) in
    let le : new_flags op flags ≤ 15 = omega arith in
    record { known = le; clawback = revocable_of (new_flags op flags) (at_least_8 (new_flags op flags) le) test }
