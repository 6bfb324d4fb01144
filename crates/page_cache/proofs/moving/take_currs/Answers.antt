use Rattle.std.proofs.Common.{◌∙◌, refl, sym}
use Rattle.page_cache.proofs.Moves.{IsPopped, none_popped, popped, all_popped, level_fits}
use Rattle.page_cache.proofs.moving.take_currs.Goals as goal

pub loop-curr-init : goal.loop-curr-init
loop-curr-init c = record { count = refl; popped = none_popped c.args.currs.items c.args.caches.now.items }

pub move_level-requires : goal.move_level-requires
move_level-requires c =
    level_fits c.args.currs.items c.loop-curr.currs.items c.pop.new.self.items c.loop-curr.caches.items
    c.args.caches.now.items c.in-Some.curr c.len-level.result c.requires.few c.requires.levels
    c.loop-curr.invariant.count c.loop-curr.invariant.popped c.in-Some.ensures.items
    (c.len-level.ensures ∙ c.pop.new.self.ok.0)

pub loop-curr-preserved : goal.loop-curr-preserved
loop-curr-preserved c =
    let it = c.loop-curr.invariant.popped in
    let fits = level_fits c.args.currs.items c.loop-curr.currs.items c.pop.new.self.items c.loop-curr.caches.items
    c.args.caches.now.items c.in-Some.curr c.len-level.result c.requires.few c.requires.levels
    c.loop-curr.invariant.count it c.in-Some.ensures.items (c.len-level.ensures ∙ c.pop.new.self.ok.0) in
    let next : IsPopped c.args.currs.items c.pop.new.self.items c.args.caches.now.items c.move_level.new.caches.items =
    popped c.args.currs.items c.loop-curr.currs.items c.pop.new.self.items c.args.caches.now.items
    c.loop-curr.caches.items c.move_level.new.caches.items c.in-Some.curr c.len-level.result c.len-count.result
    it.ahead it.taken c.in-Some.ensures.items (c.len-level.ensures ∙ c.pop.new.self.ok.0)
    (c.len-count.ensures ∙ c.args.currs.ok.0) fits c.move_level.ensures in
    record { count = next.taken.count; popped = next }

pub returns : goal.returns
returns c =
    all_popped c.args.currs.items c.loop-curr.currs.items c.args.caches.now.items c.loop-curr.caches.items
    c.loop-curr.invariant.popped (sym c.loop-curr.currs.ok.0 ∙ c.in_default.ensures.cases.0)
