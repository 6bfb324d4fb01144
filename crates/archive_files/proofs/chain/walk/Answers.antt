use Rattle.archive_files.proofs.Walking.{broken_here, walked_on}
use Rattle.archive_files.proofs.chain.walk.Goals as goal

pub returns-in-Err : goal.returns-in-Err
returns-in-Err c =
    let sets = c.args.sets.now in
    let results = c.args.results.now in
    let at = c.loop-header.invariant in
    broken_here sets results c.args.first c.args.before.now c.args.headers.now c.loop-header.header-index
    c.loop-header.want c.loop-header.last c.loop-header.sets_ahead.rest.now c.loop-header.results_ahead.rest.now at _
    c.in-Err.fault c.loop-header-test.true (c.in-Err.ensures sets results at.sets_on at.results_on)

pub loop-header-preserved : goal.loop-header-preserved
loop-header-preserved c =
    let sets = c.args.sets.now in
    let results = c.args.results.now in
    let at = c.loop-header.invariant in
    walked_on sets results c.args.first c.args.before.now c.args.headers.now c.loop-header.header-index
    c.loop-header.want c.loop-header.last c.loop-header.sets_ahead.rest.now c.loop-header.results_ahead.rest.now at
    c.test_header.new.sets.rest.now c.test_header.new.results.rest.now _
    c.loop-header-test.true (c.in-Ok.ensures sets results at.sets_on at.results_on)
