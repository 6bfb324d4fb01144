use Rattle.bucket_core.proofs.Prelude.{ap, sym, subst, ◌∙◌, file_of, IsFile}
use Rattle.bucket_core.proofs.Files.{no_fault_is_file}
use Rattle.bucket_core.proofs.bucket.Bucket.read.Goals as goal

pub bucket_of-requires : goal.bucket_of-requires
bucket_of-requires c =
    subst IsFile c.as_slice.ensures.value
    (no_fault_is_file c.as_slice.result.now c.in_ok-judge.ensures.bytes c.in_ok-judge.ensures.fault)

pub returns-clause-file : goal.returns-clause-file
returns-clause-file c =
    let is = subst IsFile c.as_slice.ensures.value
    (no_fault_is_file c.as_slice.result.now c.in_ok-judge.ensures.bytes c.in_ok-judge.ensures.fault) in
    ap file_of (c.in_ok-bucket.ensures ∙ c.in_ok-bucket_of.ensures) ∙ sym is.is
