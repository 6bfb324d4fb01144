use Rattle.xdr_header.proofs.Prelude.{◌≡◌, drop, fold}
use Rattle.xdr_entries.specs.Basic.{hash}
use Rattle.xdr_header.proofs.header.write_skip_list.Given as goal

-- the hashes left are put after those that were written
abbrev pub invariant-loop-earlier : goal.invariant-loop-earlier
invariant-loop-earlier l =
    fold hash.onto l.builder (drop l.earlier-index l.skip_list) ≡ fold hash.onto l.initial.builder l.skip_list
