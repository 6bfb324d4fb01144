use Rattle.tx_apply.proofs.Prelude.{◌≡◌, ◌↔◌, IsTrue, Bool, true, false, List, refl, sym, All, list_all}
use Rattle.std.proofs.lemmas.List.Sums.{AllPass-from_list_all, list_all-from_AllPass}
use Rattle.tx_apply.proofs.signing.all_used.Goals as goal

not_all : {X : Type 0} (p : X → Bool) (xs : List X) (b : Bool) → (All (λ x. p x ≡ true) xs → IsTrue false)
    → list_all p xs ≡ b → false ≡ b
not_all p xs true h e = h (AllPass-from_list_all p xs e)
not_all p xs false h e = refl

same_test : {X : Type 0} (p : X → Bool) (xs : List X) (r : Bool) → IsTrue r ↔ All (λ x. p x ≡ true) xs
    → r ≡ list_all p xs
same_test p xs true h = sym (list_all-from_AllPass p xs (h.0 refl))
same_test p xs false h = not_all p xs (list_all p xs) h.1 refl

pub returns : goal.returns
returns c = same_test (λ signature. signature.is_used) c.args.checker.now.signatures _ c.all_used.ensures
