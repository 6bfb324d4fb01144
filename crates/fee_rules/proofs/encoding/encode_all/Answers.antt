use Rattle.fee_rules.proofs.Prelude.{sym}
use Rattle.fee_rules.proofs.Longer.{queued_more, encoded_more}
use Rattle.fee_rules.proofs.encoding.encode_all.Goals as goal

pub loop-index-preserved : goal.loop-index-preserved
loop-index-preserved c = (
  rw (c.in_ok-encode_next.ensures.texts, c.loop-index.invariant.0)
      (sym (encoded_more c.args.envelopes.now c.loop-index.index c.index-envelopes-index.result c.loop-index-test.true
      c.index-envelopes-index.is)),
  rw (c.in_ok-encode_next.ensures.queued, c.loop-index.invariant.1)
      (sym (queued_more c.args.envelopes.now c.loop-index.index c.index-envelopes-index.result c.loop-index-test.true
      c.index-envelopes-index.is)),
)
