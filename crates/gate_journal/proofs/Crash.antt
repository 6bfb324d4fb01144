-- What a crash leaves of a journal in each of the two writes of an append.
use Rattle.gate_journal.proofs.Prelude.{◌≡◌, ℕ, ◌+◌, ◌≤◌, min, List, [], ◌∷◌, ◌++◌, length, get_or, take, drop, refl}
use Rattle.gate_journal.proofs.Prelude.{sym, ◌∙◌, ap, subst, inl, inr, arith, append_assoc, length-append}
use Rattle.gate_journal.proofs.Prelude.{take-append-drop, take_at, drop_at, drop_more, All-push, big_bytes, Torn, Wrote}
use Rattle.gate_journal.proofs.Prelude.{max_record, block, blocks, BeginWith, IsShut, HasRecords, framed, Appended}
use Rattle.gate_journal.proofs.Prelude.{HasEither}
use Rattle.std.proofs.lemmas.Bool.{cases_eq}
use Rattle.gate_journal.proofs.Records.{blocks_push}

-- ---- one gate, and what follows it

-- the prefix up to a gate, in a file of these blocks
prefix_to : (first rest : List ℕ) (gate end : ℕ) → end ≡ length first
    → take (end + 1) (first ++ gate ∷ rest) ≡ first ++ gate ∷ []
prefix_to first rest gate end offset =
    ap (λ (l : List ℕ). take (end + 1) l) (sym (append_assoc first (gate ∷ []) rest))
    ∙ take_at (first ++ gate ∷ []) rest (end + 1) (omega (arith, offset, length-append first (gate ∷ [])))

back_from : (first rest : List ℕ) (gate end : ℕ) → end ≡ length first → drop (end + 1) (first ++ gate ∷ rest) ≡ rest
back_from first rest gate end offset =
    ap (λ (l : List ℕ). drop (end + 1) l) (sym (append_assoc first (gate ∷ []) rest))
    ∙ drop_at (first ++ gate ∷ []) rest (end + 1) (omega (arith, offset, length-append first (gate ∷ [])))

-- ---- the first write, after the gate

torn_at : (records : List (List ℕ)) (end n : ℕ) (file c following : List ℕ) → end ≡ length (blocks records)
    → BeginWith file records following
    → IsShut following → Torn (end + 1) n file c → HasRecords c records
torn_at records end n file c [] offset first shut torn = absurd shut
torn_at records end n file c (gate ∷ rest) offset first shut torn =
    let size : length file ≡ length (blocks records) + length (gate ∷ rest) = ap length first.cut
    ∙ length-append (blocks records) (gate ∷ rest) in
    let reach : min (end + 1) (length file) ≡ end + 1 = omega (arith, offset, size) in
    let same : take (end + 1) c ≡ take (end + 1) file = subst (λ (m : ℕ). take m c ≡ take m file) reach torn.before in
    let prefix : take (end + 1) c ≡ blocks records ++ gate ∷ []
    = same ∙ ap (λ (l : List ℕ). take (end + 1) l) first.cut ∙ prefix_to (blocks records) rest gate end offset in
    let entire : c ≡ blocks records ++ gate ∷ drop (end + 1) c
    = sym (take-append-drop (end + 1) c) ∙ ap (λ (l : List ℕ). l ++ drop (end + 1) c) prefix
    ∙ append_assoc (blocks records) (gate ∷ []) (drop (end + 1) c) in
    (gate ∷ drop (end + 1) c, record { cut = entire; short = first.short }, shut)

-- the closed gate remains whatever the write leaves
pub torn_after : (records : List (List ℕ)) (end n : ℕ) (file c : List ℕ) → end ≡ length (blocks records)
    → HasRecords file records
    → Torn (end + 1) n file c → HasRecords c records
torn_after records end n file c offset (following, first, shut) torn =
    torn_at records end n file c following offset first shut torn

-- the record follows a gate
pub record Staged (records : List (List ℕ)) (bytes following mid : List ℕ) : Type 0 where
  pub gate : ℕ
  pub entire : mid ≡ blocks records ++ gate ∷ (framed bytes ++ following)
  pub short : HasRecords (blocks records ++ 0 ∷ []) records

staged_at : (records : List (List ℕ)) (bytes : List ℕ) (end : ℕ) (file mid following : List ℕ)
    → end ≡ length (blocks records)
    → BeginWith file records following → IsShut following → Wrote (end + 1) (framed bytes) file mid
    → Staged records bytes (drop (end + 1 + length (framed bytes)) file) mid
staged_at records bytes end file mid [] offset first shut wrote = absurd shut
staged_at records bytes end file mid (gate ∷ rest) offset first shut wrote =
    let back = drop (end + 1 + length (framed bytes)) file in
    let prefix : take (end + 1) file ≡ blocks records ++ gate ∷ [] = ap (λ (l : List ℕ). take (end + 1) l) first.cut
    ∙ prefix_to (blocks records) rest gate end offset in
    record {
      gate = gate;
      entire = wrote ∙ ap (λ (l : List ℕ). l ++ framed bytes ++ back) prefix
          ∙ append_assoc (blocks records ++ gate ∷ []) (framed bytes) back
          ∙ append_assoc (blocks records) (gate ∷ []) (framed bytes ++ back);
      short = (0 ∷ [], record { cut = refl; short = first.short }, λ is. absurd (omega (arith, is)));
    }

pub staged : (records : List (List ℕ)) (bytes : List ℕ) (end : ℕ) (file mid : List ℕ) → end ≡ length (blocks records)
    → HasRecords file records → Wrote (end + 1) (framed bytes) file mid
    → Staged records bytes (drop (end + 1 + length (framed bytes)) file) mid
staged records bytes end file mid offset (following, first, shut) wrote =
    staged_at records bytes end file mid following offset first shut wrote

-- ---- the second write, of the gate

opened : (records : List (List ℕ)) (bytes following : List ℕ)
    → blocks records ++ 1 ∷ (framed bytes ++ following) ≡ blocks (records ++ bytes ∷ []) ++ 0 ∷ following
opened records bytes following =
    let inner : 1 ∷ (framed bytes ++ following) ≡ block bytes ++ 0 ∷ following
    = ap (λ (l : List ℕ). 1 ∷ (big_bytes 4 (length bytes) ++ l)) (append_assoc bytes (0 ∷ []) following) in
    ap (λ (l : List ℕ). blocks records ++ l) inner ∙ sym (append_assoc (blocks records) (block bytes) (0 ∷ following))
    ∙ ap (λ (l : List ℕ). l ++ 0 ∷ following) (sym (blocks_push records bytes))

-- a complete record after an open gate
with_record : (records : List (List ℕ)) (bytes following c : List ℕ) → length bytes ≤ max_record
    → HasRecords (blocks records ++ 0 ∷ []) records
    → c ≡ blocks records ++ 1 ∷ (framed bytes ++ following) → HasRecords c (records ++ bytes ∷ [])
with_record records bytes following c fits (_, first, _) is = (
  0 ∷ following,
  record {
    cut = is ∙ opened records bytes following;
    short =
        All-push (λ (l : List ℕ). length l ≤ max_record) records bytes first.short fits;
  },
  λ zero_is_one. absurd (omega (arith, zero_is_one)),
)

-- after any gate it counts or it doesn't
either_gate : (records : List (List ℕ)) (bytes following c : List ℕ) (gate : ℕ) → length bytes ≤ max_record
    → HasRecords (blocks records ++ 0 ∷ []) records → c ≡ blocks records ++ gate ∷ (framed bytes ++ following)
    → HasEither records bytes c
either_gate records bytes following c gate fits short is = elim (cases_eq gate 1) [
  | inl opens ↦ inr (with_record records bytes following c fits short (is
      ∙ ap (λ (g : ℕ). blocks records ++ g ∷ (framed bytes ++ following)) opens))
  | inr shut ↦ inl (gate ∷ (framed bytes ++ following), record { cut = is; short = short.1.short }, shut)
]

pub torn_gate : (records : List (List ℕ)) (bytes following : List ℕ) (end : ℕ) (mid c : List ℕ)
    → length bytes ≤ max_record
    → end ≡ length (blocks records)
    → Staged records bytes following mid → Torn end 1 mid c → HasEither records bytes c
torn_gate records bytes following end mid c fits offset stage torn =
    let size : length mid ≡ length (blocks records) + length (stage.gate ∷ (framed bytes ++ following))
    = ap length stage.entire ∙ length-append (blocks records) (stage.gate ∷ (framed bytes ++ following)) in
    let reach : min end (length mid) ≡ end = omega (arith, offset, size) in
    let same : take end c ≡ take end mid = subst (λ (m : ℕ). take m c ≡ take m mid) reach torn.before in
    let prefix : take end c ≡ blocks records
    = same ∙ ap (λ (l : List ℕ). take end l) stage.entire ∙ take_at (blocks records) _ end (sym offset) in
    let back : drop (end + 1) c ≡ framed bytes ++ following
    = torn.after ∙ ap (λ (l : List ℕ). drop (end + 1) l) stage.entire
    ∙ back_from (blocks records) (framed bytes ++ following) stage.gate end offset in
    let gate = get_or c end 0 in
    let rest : drop end c ≡ gate ∷ (framed bytes ++ following)
    = drop_more c end 0 (omega (arith, torn.no_shorter, offset, size)) ∙ ap (λ (l : List ℕ). gate ∷ l) back in
    let entire : c ≡ blocks records ++ gate ∷ (framed bytes ++ following)
    = sym (take-append-drop end c) ∙ ap (λ (l : List ℕ). l ++ drop end c) prefix
    ∙ ap (λ (l : List ℕ). blocks records ++ l) rest in
    either_gate records bytes following c gate fits stage.short entire

-- the gate was opened
gate_written : (records : List (List ℕ)) (bytes following : List ℕ) (end : ℕ) (mid new : List ℕ)
    → end ≡ length (blocks records)
    → Staged records bytes following mid → Wrote end (1 ∷ []) mid new
    → new ≡ blocks records ++ 1 ∷ (framed bytes ++ following)
gate_written records bytes following end mid new offset stage wrote =
    wrote
    ∙ ap (λ (l : List ℕ). take end l ++ (1 ∷ []) ++ drop (end + 1) mid) stage.entire
    ∙ ap (λ (l : List ℕ). l ++ (1 ∷ []) ++ drop (end + 1) mid) (take_at (blocks records) _ end (sym offset))
    ∙ ap (λ (l : List ℕ). blocks records ++ (1 ∷ []) ++ l)
    (ap (λ (l : List ℕ). drop (end + 1) l) stage.entire
    ∙ back_from (blocks records) (framed bytes ++ following) stage.gate end offset)
    ∙ append_assoc (blocks records) (1 ∷ []) (framed bytes ++ following)

pub one_more : (records : List (List ℕ)) (bytes following : List ℕ) (end : ℕ) (mid new : List ℕ)
    → length bytes ≤ max_record → end ≡ length (blocks records)
    → Staged records bytes following mid → Wrote end (1 ∷ []) mid new → HasRecords new (records ++ bytes ∷ [])
one_more records bytes following end mid new fits offset stage wrote =
    with_record records bytes following new fits stage.short
    (gate_written records bytes following end mid new offset stage wrote)

-- byte by byte
pub appended : (records : List (List ℕ)) (bytes : List ℕ) (end : ℕ) (file mid new : List ℕ)
    → end ≡ length (blocks records) → HasRecords file records
    → Staged records bytes (drop (end + 1 + length (framed bytes)) file) mid → Wrote end (1 ∷ []) mid new
    → Appended end bytes file new
appended records bytes end file mid new offset (_, first, _) stage wrote =
    let following = drop (end + 1 + length (framed bytes)) file in
    let prefix : take end file ≡ blocks records = ap (λ (l : List ℕ). take end l) first.cut
    ∙ take_at (blocks records) _ end (sym offset) in
    let long : end + 1 + length (framed bytes) ≡ end + length bytes + 6 = omega (arith, length-append bytes (0 ∷ [])) in
    gate_written records bytes following end mid new offset stage wrote ∙ opened records bytes following
    ∙ ap (λ (l : List ℕ). l ++ 0 ∷ following) (blocks_push records bytes)
    ∙ ap (λ (l : List ℕ). l ++ block bytes ++ 0 ∷ following) (sym prefix)
    ∙ ap (λ (n : ℕ). take end file ++ block bytes ++ 0 ∷ drop n file) long
