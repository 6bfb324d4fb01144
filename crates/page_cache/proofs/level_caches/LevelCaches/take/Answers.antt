use Rattle.std.proofs.Common.{List, subst}
use Rattle.page_cache.specs.Pages.{CacheAt}
use Rattle.page_cache.specs.Caches.{AreMoved}
use Rattle.page_cache.proofs.Moves.{are_moved}
use Rattle.page_cache.proofs.level_caches.LevelCaches.take.Goals as goal

pub take_currs-requires-clause-few : goal.take_currs-requires-clause-few
take_currs-requires-clause-few c = c.requires.new.2.most

pub returns : goal.returns
returns c = λ seq pairs made.
    subst (λ (old : List CacheAt). AreMoved seq pairs old c.take_currs.new.caches.items) c.self.view_is
    (are_moved seq pairs c.args.currs.items c.self.inside.caches.items c.take_currs.new.caches.items made
    c.take_currs.ensures)
