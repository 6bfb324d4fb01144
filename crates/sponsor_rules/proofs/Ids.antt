-- Ids are equal where their bytes are.
use Rattle.sponsor_rules.proofs.Prelude.{◌≡◌, ◌≢◌, refl, ap, ℕ, true, false, List, AccountId}
use Rattle.std.proofs.lemmas.Slice.Eq.{bytes_eq-Decides}
use Rattle.sponsor_rules.specs.Payers.{is_same_account}

pub same_account : (a b : AccountId) → is_same_account a b ≡ true → a ≡ b
same_account a b h = ap (λ (x : List ℕ). (record { 0 = x })) ((bytes_eq-Decides a.0 b.0).0 h)

pub is_itself : (a : AccountId) → is_same_account a a ≡ true
is_itself a = (bytes_eq-Decides a.0 a.0).1 refl

pub apart_accounts : (a b : AccountId) → is_same_account a b ≡ false → a ≢ b
apart_accounts a b h same = let tied = ap (is_same_account a) same in let itself = is_itself a in
    absurd (let other = ap (λ x. is_same_account x b) same in let own = is_itself b in cc)
