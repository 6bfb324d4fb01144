use Rattle.xdr_header.proofs.Prelude.{◌≡◌, ◌-◌, with_prefix, files}
use Rattle.xdr_header.proofs.starting.read_files.Given as goal

-- the files read so far, and those that follow, are what is read from the start
abbrev pub invariant-loop : goal.invariant-loop
invariant-loop l =
    with_prefix l.files ((files (l.count - l.counter) l.room).read l.ahead) ≡ (files l.count l.left).read l.fn.cursor
