use Rattle.image_rules.proofs.Prelude.{◌≡◌, ap, subst, ◌∙◌, arith, rules, unwrap_or, Some}
use Rattle.std.specs.BTreeMap as tree
use Rattle.entry_map.proofs.KeyMaps.{derived}
use Rattle.image_rules.proofs.Counting.{count_read, count_added}
use Rattle.image_rules.proofs.counts.add.Goals as goal

pub returns-in-Some : goal.returns-in-Some
returns-in-Some c q =
    let tally = c.args.tally.now in
    let raised = c.saturating_add.result in
    count_added tally (c.get_mut.follows.lender raised) c.args.key q c.args.more c.in-Some.count.now raised
    (ap (λ o. unwrap_or o 0) c.in-Some.ensures.value ∙ count_read tally c.args.key)
    c.saturating_add.ensures ((c.get_mut.follows.holds raised).3 (search rules))

pub returns : goal.returns
returns c q =
    let tally = c.args.tally.now in
    let same : c.get_mut.follows.lender-at-none ≡ tally = c.get_mut.follows.holds-at-none in
    count_added tally c.insert.new.self c.args.key q c.args.more 0 c.args.more
    (ap (λ o. unwrap_or o 0) c.in_default.ensures.value ∙ count_read tally c.args.key) (omega arith)
    (subst (λ t. tree.Updates derived t c.insert.new.self c.args.key (Some c.args.more)) same
    c.in_ok-insert.ensures.updates)
