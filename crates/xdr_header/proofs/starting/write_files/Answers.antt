use Rattle.xdr_header.proofs.Prelude.{◌∙◌, sym, ap, fold}
use Rattle.std.proofs.Math.ListN.{drop_of_length-le}
use Rattle.xdr_header.proofs.Files.{file_onto, files-onto}
use Rattle.xdr_header.proofs.starting.write_files.Goals as goal

pub returns : goal.returns
returns c =
    let none_left = drop_of_length-le c.args.files.now {i = c.loop-file.file-index} c.loop-file-test.false in
    let written = ap (fold file_onto c.loop-file.builder) (sym none_left) ∙ c.loop-file.invariant in
    written ∙ sym (files-onto 22 c.args.left c.args.builder.now c.args.files.now c.requires)
