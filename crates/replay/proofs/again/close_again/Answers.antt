use Rattle.replay.proofs.Prelude.{ℕ, List, length, subst, ap, arith, take_all, AreClosedIn, IsRefusedIn, ClosesTo}
use Rattle.std.proofs.Math.Facts.{Fits-of_lt}
use Rattle.replay.proofs.ClosingAgain.{offset_more, offset_fits, again_more, refused_at}
use Rattle.replay.proofs.again.close_again.Goals as goal

pub returns-in-Err-Refused : goal.returns-in-Err-Refused
returns-in-Err-Refused g c =
    let refused = rw c.in-Err-Refused.field-0-is at c.in-Err-Refused.ensures in
    refused_at c.args.format c.args.ledger.now.state c.loop-i.ledger.state c.args.closes.now c.loop-i.i
    c.index-closes-i.result c.loop-i.at c.loop-i-test.true c.index-closes-i.is c.loop-i.invariant.closed
    (subst (λ (b : List ℕ). IsRefusedIn c.args.format c.loop-i.ledger.state b) c.as_slice-bytes.ensures refused)
    c.loop-i.invariant.at

pub overflow_add-at-in-loop-i : goal.overflow_add-at-in-loop-i
overflow_add-at-in-loop-i g c =
    let same = ap length c.as_slice-bytes.ensures in
    let fits = offset_fits c.args.closes.now c.loop-i.i c.index-closes-i.result c.loop-i.at c.loop-i-test.true
    c.index-closes-i.is c.loop-i.invariant.at c.requires.fits in
    Fits-of_lt (omega (arith, same, fits))

pub loop-i-preserved : goal.loop-i-preserved
loop-i-preserved g c =
    let same = ap length c.as_slice-bytes.ensures in
    let test = c.loop-i-test.true in
    let offset = offset_more c.args.closes.now c.loop-i.i c.index-closes-i.result c.loop-i.at c.loop-i-test.true
    c.index-closes-i.is c.loop-i.invariant.at in
    record {
      le = omega (arith, test);
      closed = again_more c.args.format c.args.ledger.now.state c.loop-i.ledger.state c.close_one.new.ledger.state
          c.args.closes.now c.loop-i.i c.index-closes-i.result c.loop-i-test.true c.index-closes-i.is
          c.loop-i.invariant.closed
          (subst (λ (b : List ℕ). ClosesTo c.args.format c.loop-i.ledger.state b c.close_one.new.ledger.state)
          c.as_slice-bytes.ensures c.in-Ok.ensures);
      at = omega (arith, same, offset);
    }

pub returns : goal.returns
returns g c =
    subst (λ (t : List (List ℕ)). AreClosedIn c.args.format c.args.ledger.now.state t c.loop-i.ledger.state)
    (take_all c.loop-i.i c.args.closes.now (omega (arith, c.loop-i-test.false))) c.loop-i.invariant.closed
