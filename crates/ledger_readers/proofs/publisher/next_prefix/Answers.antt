use Rattle.std.proofs.Common.{◌≡◌, ◌+◌, length, Some, None, rules, arith, ◌∙◌, subst}
use Rattle.std.specs.List.{last_or}
use Rattle.std.specs.Arc.{arc_value}
use Rattle.ledger_readers.specs.Views.{last_or_else}
use Rattle.ledger_readers.proofs.Prefixes.{one_more}
use Rattle.ledger_readers.proofs.publisher.next_prefix.Goals as goal

pub returns-then-is_prefix_of-clause-next : goal.returns-then-is_prefix_of-clause-next
returns-then-is_prefix_of-clause-next g c =
    let next = c.in_ok-next.next.now in
    let shown = arc_value c.args.side.now.shown.view in
    let here : c.args.side.now.shown.prefix ≡ Some next = search rules in
    let last : last_or None next ≡ Some shown =
    subst (λ o. last_or_else o shown ≡ Some shown) here c.args.side.now.shown.last in
    let len : length next ≡ length c.args.prefix.now + 1 =
    omega (arith, c.len.ensures, c.len-2.ensures, c.in_ok-checked_add.ensures, c.if-branch-len.true) in
    c.copy.ensures ∙ one_more c.args.prefix.now next shown c.if-is_prefix_of.ensures len last
