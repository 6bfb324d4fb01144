use Rattle.ledger_close.proofs.Prelude.{◌≡◌, Ok, List, ℕ, [], ◌∷◌, refl, sym, ap, ◌∙◌, arith, CloseRecord, close_record}
use Rattle.ledger_close.proofs.Prelude.{Position, start_of, ◌>>=◌, record_in, ended, ended_by}
use Rattle.close_laws.proofs.Taken.{record_encoded}
use Rattle.ledger_close.proofs.refusals.read_record.Goals as goal

ended_at : (rest : List ℕ) (p : Position) (closing : CloseRecord) → rest ≡ [] → ended_by rest p closing ≡ Ok closing
ended_at [] p closing is = refl
ended_at (byte ∷ rest) p closing is = absurd (cc)

read_in : (bytes : List ℕ) (closing : CloseRecord) (q : Position) → close_record.read (start_of bytes) ≡ Ok (closing, q)
    → q.rest ≡ [] → record_in bytes ≡ Ok closing
unfolding record_in
read_in bytes closing q reads none = ap (λ reading. reading >>= ended) reads ∙ ended_at q.rest q closing none

pub returns-in-Ok-end : goal.returns-in-Ok-end
returns-in-Ok-end c =
    let reads = read_in c.args.bytes.now c.in-Ok.closing c.read_close_record.new.cursor
    (ap close_record.read (sym c.new-ahead.ensures) ∙ c.in-Ok.ensures) c.in-Ok-end.ensures in
    (reads, record_encoded c.args.bytes.now c.in-Ok.closing (λ i. omega (arith, c.type_inv.bytes i)) reads)
