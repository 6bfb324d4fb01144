use Rattle.page_cache.proofs.level_caches.warm_key.Goals as goal

pub warm_newest-requires : goal.warm_newest-requires
warm_newest-requires c = (c.args.key.now, c.in_ok-sought.ensures)

pub returns-clause-ok : goal.returns-clause-ok
returns-clause-ok c = c.warm_newest.ensures.ok c.args.key.now c.in_ok-sought.ensures

pub returns-clause-marked : goal.returns-clause-marked
returns-clause-marked c = c.warm_newest.ensures.marked c.args.key.now c.in_ok-sought.ensures
