use Rattle.xdr_entries.proofs.Prelude.{refl, many_at, goes_on, fails_at, is_done, predicate_below}
use Rattle.std.proofs.lemmas.Result.{err_from_is_err_and}
use Rattle.xdr_core.specs.ReadFault.{cause_of}
use Rattle.xdr_entries.proofs.predicate.+predicate.Goals as goal

pub read_many-returns-in_err-read_below : goal.read_many-returns-in_err-read_below
read_many-returns-in_err-read_below t c =
    let p = err_from_is_err_and c.from_residual-in_err-read_below.result c.from_residual-in_err-read_below.ensures.1 in
    let f = predicate_below c.args.levels in
    rw (p.1, p.2) (
      fails_at (cause_of c.in_err-read_below.field-0.0) f c.loop.parts c.args.len c.loop.counter c.loop.ahead
          (many_at f c.args.len c.args.cursor.now) c.loop-test.true c.in_err-read_below.ensures.0 c.loop.invariant,
      refl,
    )

pub read_many-loop-preserved : goal.read_many-loop-preserved
read_many-loop-preserved t c =
    let f = predicate_below c.args.levels in
    rw c.in_ok-push.ensures.ok
    (goes_on f c.loop.parts c.args.len c.loop.counter c.loop.ahead c.read_below.new.cursor
    c.in_ok-read_below.field-0 (many_at f c.args.len c.args.cursor.now) c.loop-test.true c.in_ok-read_below.ensures
    c.loop.invariant)

pub read_many-returns : goal.read_many-returns
read_many-returns t c =
    is_done (predicate_below c.args.levels) c.loop.parts c.args.len c.loop.counter c.loop.ahead
    (many_at (predicate_below c.args.levels) c.args.len c.args.cursor.now) c.loop-test.false c.loop.invariant
