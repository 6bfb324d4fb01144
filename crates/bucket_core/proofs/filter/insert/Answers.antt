use Rattle.bucket_core.proofs.Filtering.{passes_still}
use Rattle.bucket_core.proofs.filter.insert.Goals as goal

pub returns-clause-kept : goal.returns-clause-kept
returns-clause-kept c = λ other h. passes_still c.args.words.now c.args.fingerprint c.mask_of.result other c.requires h
