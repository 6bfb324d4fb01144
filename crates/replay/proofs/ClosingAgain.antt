-- The records of a journal, closed one after another.
use Rattle.replay.proofs.Prelude.{◌≡◌, ℕ, suc, ◌+◌, ◌<◌, ◌^◌, List, [], ◌∷◌, ◌++◌, length, take, drop, get_or}
use Rattle.replay.proofs.Prelude.{sym, ap, subst, ◌∙◌, append_assoc, arith, take-suc, length-append, take-append-drop}
use Rattle.replay.proofs.Prelude.{big_bytes, wide4, ClosingState, AreClosed, block, blocks, MayHold, IsRefusedIn}
use Rattle.replay.proofs.Prelude.{AreClosedIn, IsRefusedAt, ClosesTo, All-push}
use Rattle.replay.proofs.Yields.{closed_more}

pub taken_more : (xs : List (List ℕ)) (i : ℕ) (x : List ℕ) → i < length xs → x ≡ get_or xs i x
    → take (i + 1) xs ≡ take i xs ++ x ∷ []
taken_more xs i x lt is =
    let next : i + 1 ≡ suc i = omega arith in
    ap (λ (n : ℕ). take n xs) next ∙ take-suc xs i x lt ∙ ap (λ (y : List ℕ). take i xs ++ y ∷ []) (sym is)

cut_at : (xs : List (List ℕ)) (i : ℕ) (x : List ℕ) → i < length xs → x ≡ get_or xs i x
    → xs ≡ take i xs ++ x ∷ drop (i + 1) xs
cut_at xs i x lt is =
    sym (take-append-drop (i + 1) xs) ∙ ap (λ (t : List (List ℕ)). t ++ drop (i + 1) xs) (taken_more xs i x lt is)
    ∙ append_assoc (take i xs) (x ∷ []) (drop (i + 1) xs)

block_len : (x : List ℕ) → length (block x) ≡ 5 + length x
block_len x = omega (arith, length-append (big_bytes 4 (length x)) x, wide4.len (length x))

blocks_len : (rs ss : List (List ℕ)) → length (blocks (rs ++ ss)) ≡ length (blocks rs) + length (blocks ss)
blocks_len [] ss = omega arith
blocks_len (r ∷ rs) ss =
    let rest = blocks_len rs ss in
    omega (arith, rest, length-append (block r) (blocks (rs ++ ss)), length-append (block r) (blocks rs))

one_len : (x : List ℕ) → length (blocks (x ∷ [])) ≡ 5 + length x
one_len x = omega (arith, length-append (block x) [], block_len x)

pub offset_more : (xs : List (List ℕ)) (i : ℕ) (x : List ℕ) (at : ℕ) → i < length xs → x ≡ get_or xs i x
    → at ≡ length (blocks (take i xs)) → at + (5 + length x) ≡ length (blocks (take (i + 1) xs))
offset_more xs i x at lt is e =
    let entire = ap (λ (t : List (List ℕ)). length (blocks t)) (taken_more xs i x lt is) in
    omega (arith, e, entire, blocks_len (take i xs) (x ∷ []), one_len x)

pub offset_fits : (xs : List (List ℕ)) (i : ℕ) (x : List ℕ) (at : ℕ) → i < length xs → x ≡ get_or xs i x
    → at ≡ length (blocks (take i xs)) → length (blocks xs) < 2 ^ 64 → at + (5 + length x) < 2 ^ 64
offset_fits xs i x at lt is e fits =
    let entire = ap (λ (t : List (List ℕ)). length (blocks t)) (take-append-drop (i + 1) xs) in
    omega (arith, fits, offset_more xs i x at lt is e, entire, blocks_len (take (i + 1) xs) (drop (i + 1) xs))

pub again_more : (format : ℕ) (s now next : ClosingState) (xs : List (List ℕ)) (i : ℕ) (x : List ℕ)
    → i < length xs → x ≡ get_or xs i x → AreClosedIn format s (take i xs) now → ClosesTo format now x next
    → AreClosedIn format s (take (i + 1) xs) next
again_more format s now next xs i x lt is before one =
    let more = closed_more s (take i xs) before.lines now x one.close before.closed one.closes in
    subst (λ (t : List (List ℕ)). AreClosedIn format s t next) (sym (taken_more xs i x lt is)) (record {
      held = All-push (MayHold format) (take i xs) x before.held one.held;
      lines = more.0;
      closed = subst (λ (y : ClosingState). AreClosed s (take i xs ++ x ∷ []) more.0 y) (sym one.next) more.1;
    })

pub refused_at : (format : ℕ) (s now : ClosingState) (xs : List (List ℕ)) (i : ℕ) (x : List ℕ) (at : ℕ)
    → i < length xs → x ≡ get_or xs i x → AreClosedIn format s (take i xs) now → IsRefusedIn format now x
    → at ≡ length (blocks (take i xs)) → IsRefusedAt format s xs at
refused_at format s now xs i x at lt is closed refused e = record {
  prefix = take i xs;
  bytes = x;
  others = drop (i + 1) xs;
  cut = cut_at xs i x lt is;
  state = now;
  closed = closed;
  refused = refused;
  at = e;
}
