use Rattle.page_cache.proofs.cache.PageCache.warm.Goals as goal

pub warm_sought-requires : goal.warm_sought-requires
warm_sought-requires c = (c.args.key.now, c.in_ok-sought.ensures)

pub returns-clause-marked : goal.returns-clause-marked
returns-clause-marked c = c.warm_sought.ensures.marked c.args.key.now c.in_ok-sought.ensures

pub returns-clause-pages : goal.returns-clause-pages
returns-clause-pages c = c.warm_sought.ensures.pages c.args.key.now c.in_ok-sought.ensures
