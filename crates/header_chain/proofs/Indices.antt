-- The first index of a list at which something is so, as far as the list was looked at.
use Rattle.std.proofs.Common.{◌≡◌, ℕ, suc, ◌+◌, ◌-◌, ◌<◌, ◌≤◌, Bool, true, false, cond, Option, Some, None}
use Rattle.std.proofs.Common.{ap, ◌∙◌, arith}
use Rattle.std.specs.List.{find, range_with_len}

-- the first of the indices from i on, below n
abbrev pub index_from : (ℕ → Bool) → (n i : ℕ) → Option ℕ
index_from p n i = find p (range_with_len i (n - i))

one_more : (n i : ℕ) → i < n → n - i ≡ suc (n - (i + 1))
one_more n i within = omega arith

first_index_from : (p : ℕ → Bool) (n i : ℕ) → i < n
    → index_from p n i ≡ cond (p i) (Some i) (index_from p n (i + 1))
first_index_from p n i within = ap (λ k. find p (range_with_len i k)) (one_more n i within)

-- nothing at this index
pub index_from_next : (p : ℕ → Bool) (n i : ℕ) → i < n → p i ≡ false → index_from p n i ≡ index_from p n (i + 1)
index_from_next p n i within fails =
    first_index_from p n i within ∙ ap (λ b. cond b (Some i) (index_from p n (i + 1))) fails

-- at this index
pub found : (p : ℕ → Bool) (n i : ℕ) → i < n → p i ≡ true → index_from p n i ≡ Some i
found p n i within holds =
    first_index_from p n i within ∙ ap (λ b. cond b (Some i) (index_from p n (i + 1))) holds

sub_past_end : (n i : ℕ) → n ≤ i → n - i ≡ 0
sub_past_end n i past = omega arith

-- after the last index
pub no_index : (p : ℕ → Bool) (n i : ℕ) → n ≤ i → index_from p n i ≡ None
no_index p n i past = ap (λ k. find p (range_with_len i k)) (sub_past_end n i past)
