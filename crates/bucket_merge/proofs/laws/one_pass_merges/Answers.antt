use Rattle.bucket_merge.proofs.Merging.{pass_is_merge, merge_has_file}
use Rattle.bucket_merge.proofs.laws.one_pass_merges.Goals as goal

pub returns-clause-merge : goal.returns-clause-merge
returns-clause-merge c = pass_is_merge

pub returns-clause-file : goal.returns-clause-file
returns-clause-file c = merge_has_file
