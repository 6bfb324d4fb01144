use Rattle.ledger_close.proofs.Prelude.{rules, ◌≡◌, sym, ap, ◌∙◌, IsBytes, Position, start_of, ledger_header}
use Rattle.ledger_close.proofs.Judged.{complete_read}
use Rattle.ledger_close.proofs.image.read_header.Goals as goal

pub returns-in-Ok-end : goal.returns-in-Ok-end
returns-in-Ok-end c =
    let text : IsBytes c.args.bytes.now = search rules in
    let start : c.new-ahead.result ≡ start_of c.args.bytes.now = search rules in
    complete_read c.args.bytes.now c.in-Ok.header c.read_ledger_header.new.cursor
    c.reading_and_encoding_agree.ensures.ledger_headers text
    (ap (λ (p : Position). ledger_header.read p) (sym start) ∙ c.in-Ok.ensures) c.in-Ok-end.ensures
