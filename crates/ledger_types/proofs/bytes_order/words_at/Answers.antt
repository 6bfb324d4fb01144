use Rattle.std.proofs.Common.{◌∙◌, arith, nat_cmp}
use Rattle.ledger_types.proofs.WordOrder.{word_spelt}
use Rattle.ledger_types.proofs.bytes_order.words_at.Goals as goal

pub returns : goal.returns
returns c =
    (λ k. nat_cmp (c.word_at.ensures k) (c.word_at-2.ensures k))
    ∙ word_spelt c.args.a.now c.args.b.now c.args.at 8 (omega arith) (omega arith)
    c.fits-a c.fits-b
