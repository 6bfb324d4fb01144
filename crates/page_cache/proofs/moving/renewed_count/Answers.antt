use Rattle.std.proofs.Common.{◌<◌, ◌/◌, ◌%◌, ◌∙◌, sym, ap, subst}
use Rattle.page_cache.proofs.Renewed.{power_fits, half_positive, others_undivided}
use Rattle.page_cache.proofs.moving.renewed_count.Goals as goal

pub pow-requires : goal.pow-requires
pow-requires c = power_fits c.loop-count.count c.loop-count.invariant.some c.loop-count-test.true

pub nonzero_rem-seq : goal.nonzero_rem-seq
nonzero_rem-seq c =
    subst (λ n. 0 < n / 2) (sym c.pow.ensures) (half_positive c.loop-count.count c.loop-count.invariant.some)

pub returns-else-seq-pow-eq0-clause-others : goal.returns-else-seq-pow-eq0-clause-others
returns-else-seq-pow-eq0-clause-others c =
    others_undivided c.args.seq c.loop-count.count c.loop-count.invariant.some
    (λ even. c.if-seq-pow-eq0.false (ap (λ n. c.args.seq % (n / 2)) c.pow.ensures ∙ even))
