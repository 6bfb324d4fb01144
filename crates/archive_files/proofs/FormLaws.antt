-- The laws of the form of a history.
use Rattle.archive_files.proofs.Prelude.{arith}
use Rattle.std.specs.Prelude.{pos}
use Rattle.xdr_core.proofs.FormatLaws.{Laws, u32_laws, ◌&◌, struct_laws, marked_laws, tag_laws, lawful_of}
use Rattle.xdr_core.proofs.FormatLaws.{faults_located}
use Rattle.xdr_core.proofs.Grammar.{prefix_free}
use Rattle.xdr_entries.proofs.BasicLaws.{hash_laws}
use Rattle.archive_files.specs.Added.{max_file_len}
use Rattle.archive_files.specs.Form.{stated_fields, stated_history}
use Rattle.xdr_header.proofs.ImageLaws.{file_laws}

pub stated_history_laws : Laws stated_history
unfolding stated_history
stated_history_laws =
    let each = file_laws max_file_len (omega arith) in
    struct_laws stated_fields (marked_laws (tag_laws (pos 0x534C4831) tt) (hash_laws & u32_laws & each & each & each))

-- all laws, as one set
pub ruleset all_laws = (prefix_free, lawful_of, faults_located, stated_history_laws)
