use Rattle.std.proofs.Common.{◌≡◌, ◌∙◌, map, take, ap, arith}
use Rattle.std.proofs.lemmas.List.{length-map}
use Rattle.bucket_levels.specs.Levels.{pair_of}
use Rattle.bucket_levels.specs.Pairs.{Pair}
use Rattle.page_cache.specs.Caches.{no_pages}
use Rattle.page_cache.proofs.Moves.{made_of, pushed_curr}
use Rattle.page_cache.proofs.moving.new_caches.Goals as goal

pub loop-level-preserved : goal.loop-level-preserved
loop-level-preserved c =
    pushed_curr c.args.pairs.now c.loop-level.level c.index-pairs-level.result c.loop-level.caches.items
    c.push.new.self.items c.in_ok-cache_of.field-0
    (omega (arith, c.loop-level-test.true, c.renewed_count-count.ensures.most, c.requires)) c.loop-level.invariant
    c.in_ok-cache_of.ensures c.in_ok-push.ensures.items

pub returns : goal.returns
returns c =
    let all : c.loop-level.level ≡ c.renewed_count-count.result =
    omega (arith, c.loop-level-test.false, c.loop-level.auto.level-end) in
    made_of c.args.seq c.renewed_count-count.result (map pair_of c.args.pairs.now) c.loop-level.caches.items
    (length-map c.args.pairs.now pair_of ∙ c.requires) c.renewed_count-count.ensures.most
    (c.loop-level.invariant
    ∙ ap (λ n. map (λ (p : Pair). no_pages p.curr) (take n (map pair_of c.args.pairs.now))) all)
    c.renewed_count-count.ensures.new c.renewed_count-count.ensures.others
