-- The words before the one that decides are tied.
use Rattle.std.proofs.Common.{sym, ◌∙◌, Equal}
use Rattle.std.specs.Cmp.{nat_cmp_is}
use Rattle.std.specs.FinMap.{nat_cmp-IsAntisymmetric}
use Rattle.ledger_types.proofs.WordOrder.{by_second, by_third, by_last}
use Rattle.ledger_types.proofs.bytes_order.bytes_order.Goals as goal

pub returns-then-word-other-2 : goal.returns-then-word-other-2
returns-then-word-other-2 c =
    c.cmp-then-word-other-2.ensures ∙ c.words_at-word-2.ensures
    ∙ sym (by_second c.args.a.now c.args.b.now c.told-a c.told-b
    (sym c.words_at-word.ensures ∙ sym (nat_cmp_is _ _ Equal c.if-word-other.false))
    (λ e. c.if-word-other-2.true (nat_cmp-IsAntisymmetric _ _ (c.words_at-word-2.ensures ∙ e))))

pub returns-then-word-other-3 : goal.returns-then-word-other-3
returns-then-word-other-3 c =
    c.cmp-then-word-other-3.ensures ∙ c.words_at-word-3.ensures
    ∙ sym (by_third c.args.a.now c.args.b.now c.told-a c.told-b
    (sym c.words_at-word.ensures ∙ sym (nat_cmp_is _ _ Equal c.if-word-other.false))
    (sym c.words_at-word-2.ensures ∙ sym (nat_cmp_is _ _ Equal c.if-word-other-2.false))
    (λ e. c.if-word-other-3.true (nat_cmp-IsAntisymmetric _ _ (c.words_at-word-3.ensures ∙ e))))

pub returns : goal.returns
returns c =
    c.cmp-2.ensures ∙ c.words_at-word-4.ensures
    ∙ sym (by_last c.args.a.now c.args.b.now c.told-a c.told-b
    (sym c.words_at-word.ensures ∙ sym (nat_cmp_is _ _ Equal c.if-word-other.false))
    (sym c.words_at-word-2.ensures ∙ sym (nat_cmp_is _ _ Equal c.if-word-other-2.false))
    (sym c.words_at-word-3.ensures ∙ sym (nat_cmp_is _ _ Equal c.if-word-other-3.false)))
