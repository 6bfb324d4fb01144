-- The signers of an account in a table that has its own key everywhere else.
use Rattle.signer_check.proofs.Prelude.{◌≡◌, ℕ, zero, suc, ◌+◌, ◌<◌, ◌≤◌, Bool, true, false, List, [], ◌∷◌, ◌++◌}
use Rattle.signer_check.proofs.Prelude.{length}
use Rattle.signer_check.proofs.Prelude.{take, drop, replicate, refl, sym, ap, ◌∙◌, arith, add-one, inl, inr, Signer}
use Rattle.std.proofs.Common.{if◌then◌else◌, nat_eq}
use Rattle.std.proofs.lemmas.Bool.Decides.{eqb_tells}

-- the listed ones, and one more
own_after : (k : ℕ) (listed : List Signer) (own : Signer) → length listed < k
    → take (suc (length listed)) (listed ++ drop (length listed) (replicate k own)) ≡ listed ++ own ∷ []
own_after zero listed own less = absurd (omega arith)
own_after (suc k) [] own less = refl
own_after (suc k) (x ∷ listed) own less =
    ap (λ (l : List Signer). x ∷ l) (own_after k listed own (omega arith))

pub own_in_table : (listed signers : List Signer) (own : Signer) (weight : ℕ) → signers ≡ replicate 21 own
    → length listed ≤ 20 → (weight ≡ 0 → ⊥)
    → take (length listed + 1) (listed ++ drop (length listed) signers)
    ≡ listed ++ (if nat_eq weight 0 then [] else own ∷ [])
own_in_table listed signers own weight table few heavy =
    ap (λ (l : List Signer). take (length listed + 1) (listed ++ drop (length listed) l)) table
    ∙ ap (λ (n : ℕ). take n (listed ++ drop (length listed) (replicate 21 own))) (add-one (length listed))
    ∙ own_after 21 listed own (omega arith)
    ∙ ap (λ (l : List Signer). listed ++ l) (sym (kept (nat_eq weight 0) refl))
  where
    kept : (b : Bool) → nat_eq weight 0 ≡ b → (if b then [] else own ∷ []) ≡ own ∷ []
    kept true is = absurd (elim (eqb_tells weight 0) [ inl both ↦ heavy both.1 | inr both ↦ cc ])
    kept false is = refl
