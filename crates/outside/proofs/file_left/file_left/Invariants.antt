use Rattle.outside.proofs.Prelude.{◌≡◌, drop, same_file, fill_calls}
use Rattle.outside.proofs.file_left.file_left.Given as goal

-- the calls that are left yield what all of them yield
abbrev pub invariant-loop-call : goal.invariant-loop-call
invariant-loop-call l =
    fill_calls l.fill l.file (drop l.call-index l.log) l.now ≡ fill_calls l.fill l.file l.log (same_file l.start)
