use Rattle.archive_files.proofs.Prelude.{ap, hash_at, or_else, ◌∙◌}
use Rattle.archive_files.proofs.Walking.{passes, unlinked}
use Rattle.archive_files.proofs.chain.test_header.Goals as goal

pub returns-in-Err : goal.returns-in-Err
returns-in-Err c = λ all_sets all_results hs hr.
    unlinked all_sets all_results c.args.want c.args.last.now c.args.header.now c.in-Err.fault c.in-Err.ensures

pub returns-in-Ok : goal.returns-in-Ok
returns-in-Ok c = λ all_sets all_results hs hr.
    let h = c.args.header.now in
    let s = c.args.sets.now.rest.now in
    let r = c.args.results.now.rest.now in
    passes all_sets all_results c.args.want c.args.last.now h s r c.take.new.self.rest.now
    c.take-in-Ok.new.self.rest.now c.or_else-set.result c.or_else-of_results.result hs hr c.in-Ok.ensures.0
    c.in-Ok.ensures.1 c.in-Ok.ensures.2
    (c.or_else-set.ensures ∙ ap (λ o. or_else o c.empty_set_hash.result) c.take.ensures.hash
    ∙ ap (or_else (hash_at s h.seq)) c.empty_set_hash.ensures)
    (c.or_else-of_results.ensures ∙ ap (λ o. or_else o c.args.missing.now) c.take-in-Ok.ensures.hash
    ∙ ap (or_else (hash_at r h.seq)) c.requires.missing)
    c.take.ensures.later c.take-in-Ok.ensures.later c.test_contents.result c.test_contents.ensures
