-- A file is cut into blocks and what follows them in one way.
use Rattle.gate_journal.proofs.Prelude.{◌≡◌, ℕ, ◌≤◌, List, [], ◌∷◌, ◌++◌, length, get_or, take, drop, refl, sym, ◌∙◌}
use Rattle.gate_journal.proofs.Prelude.{ap, arith, append_assoc, take_at, drop_at, All-head, All-tail, big_number}
use Rattle.gate_journal.proofs.Prelude.{big_bytes, big_number-reads_back, max_record, block, blocks, IsShut, IsBroken}
use Rattle.std.proofs.Common.{All}
use Rattle.gate_journal.specs.Laws.{RecordsAreOne, OffsetsAreOne, NeverBoth}

abbrev IsSmall : List ℕ → Type 0
IsSmall bytes = length bytes ≤ max_record

-- no record is at the start
abbrev IsEnd : List ℕ → Type 0
IsEnd following = (bytes more : List ℕ) → IsSmall bytes → following ≡ block bytes ++ more → ⊥

shut_is_end : (following : List ℕ) → IsShut following → IsEnd following
shut_is_end [] shut bytes more small is = shut
shut_is_end (gate ∷ following) shut bytes more small is = shut (ap (λ (l : List ℕ). get_or l 0 0) is)

broken_is_end : (following : List ℕ) → IsBroken following → IsEnd following
broken_is_end [] broken bytes more small is = absurd (omega (arith, ap length is))
broken_is_end (gate ∷ following) broken bytes more small is = broken.1 bytes more small is

block_apart : (r s x y : List ℕ) → IsSmall r → IsSmall s → block r ++ x ≡ block s ++ y → (r ≡ s) × (x ≡ y)
block_apart r s x y small_r small_s e =
    let word : big_bytes 4 (length r) ≡ big_bytes 4 (length s) = ap (λ (l : List ℕ). take 4 (drop 1 l)) e in
    let size : length r ≡ length s
    = sym (big_number-reads_back 4 (length r) [] (omega (arith, small_r))) ∙ ap (big_number 4) word
    ∙ big_number-reads_back 4 (length s) [] (omega (arith, small_s)) in
    let both : r ++ x ≡ s ++ y = ap (λ (l : List ℕ). drop 5 l) e in (
      sym (take_at r x (length r) refl) ∙ ap (take (length r)) both ∙ take_at s y (length r) (sym size),
      sym (drop_at r x (length r) refl) ∙ ap (drop (length r)) both ∙ drop_at s y (length r) (sym size),
    )

one_cut : (rs ss : List (List ℕ)) (x y : List ℕ) → All IsSmall rs → All IsSmall ss → IsEnd x → IsEnd y
    → blocks rs ++ x ≡ blocks ss ++ y → (rs ≡ ss) × (x ≡ y)
one_cut [] [] x y small_r small_s end_x end_y e = (refl, e)
one_cut [] (s ∷ ss) x y small_r small_s end_x end_y e =
    absurd (end_x s (blocks ss ++ y) (All-head IsSmall s ss small_s) (e ∙ append_assoc (block s) (blocks ss) y))
one_cut (r ∷ rs) [] x y small_r small_s end_x end_y e =
    absurd (end_y r (blocks rs ++ x) (All-head IsSmall r rs small_r) (sym e ∙ append_assoc (block r) (blocks rs) x))
one_cut (r ∷ rs) (s ∷ ss) x y small_r small_s end_x end_y e =
    let apart = block_apart r s (blocks rs ++ x) (blocks ss ++ y) (All-head IsSmall r rs small_r)
    (All-head IsSmall s ss small_s)
    (sym (append_assoc (block r) (blocks rs) x) ∙ e ∙ append_assoc (block s) (blocks ss) y) in
    let rest = one_cut rs ss x y (All-tail IsSmall r rs small_r) (All-tail IsSmall s ss small_s) end_x end_y apart.1 in
    ((λ i. apart.0 i ∷ rest.0 i), rest.1)

pub records_are_one : RecordsAreOne
records_are_one file rs ss (x, first, shut_x) (y, second, shut_y) =
    (one_cut rs ss x y first.short second.short (shut_is_end x shut_x) (shut_is_end y shut_y)
    (sym first.cut ∙ second.cut)).0

pub offsets_are_one : OffsetsAreOne
offsets_are_one file offset other (rs, x, first, broken_x, at) (ss, y, second, broken_y, there) =
    at ∙ ap (λ (l : List (List ℕ)). length (blocks l))
    ((one_cut rs ss x y first.short second.short (broken_is_end x broken_x) (broken_is_end y broken_y) (sym first.cut
    ∙ second.cut)).0) ∙ sym there

shut_or_broken : (x y : List ℕ) → IsShut x → IsBroken y → x ≡ y → ⊥
shut_or_broken [] y shut broken e = shut
shut_or_broken (gate ∷ x) [] shut broken e = absurd (omega (arith, ap length e))
shut_or_broken (gate ∷ x) (other ∷ y) shut broken e = shut (ap (λ (l : List ℕ). get_or l 0 0) e ∙ broken.0)

pub never_both : NeverBoth
never_both file rs offset (x, first, shut) (ss, y, second, broken, at) =
    shut_or_broken x y shut broken
    ((one_cut rs ss x y first.short second.short (shut_is_end x shut) (broken_is_end y broken) (sym first.cut
    ∙ second.cut)).1)
