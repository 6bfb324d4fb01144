use Rattle.xdr_header.proofs.Prelude.{refl, files}
use Rattle.std.proofs.lemmas.Result.{err_from_is_err_and}
use Rattle.xdr_header.proofs.Files.{goes_on, ends_at, is_done}
use Rattle.xdr_header.proofs.starting.read_files.Goals as goal

pub returns-in_err-bytes : goal.returns-in_err-bytes
returns-in_err-bytes c =
    let p = err_from_is_err_and c.from_residual.result c.from_residual.ensures.1 in
    rw (p.1, p.2) (
      ends_at c.loop.files c.args.count c.loop.counter c.loop.room c.loop.ahead c.in_err-bytes.field-0.0
          ((files c.args.count c.args.left).read c.args.cursor.now) c.loop-test.true c.in_err-bytes.ensures.reads.0
          c.loop.invariant,
      refl,
    )

pub loop-preserved : goal.loop-preserved
loop-preserved c =
    rw (c.in_ok-push.ensures.ok, c.in_ok-from_slice.ensures)
    (
    goes_on c.loop.files c.args.count c.loop.counter c.loop.room c.loop.ahead c.read_file.new.cursor
    c.in_ok-bytes.bytes.now ((files c.args.count c.args.left).read c.args.cursor.now) c.loop-test.true
    c.in_ok-bytes.ensures.reads c.loop.invariant)

pub returns : goal.returns
returns c =
    is_done c.loop.files c.args.count c.loop.counter c.loop.room c.loop.ahead
    ((files c.args.count c.args.left).read c.args.cursor.now) c.loop-test.false c.loop.invariant
