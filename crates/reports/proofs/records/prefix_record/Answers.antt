use Rattle.reports.proofs.Prelude.{◌≡◌, ℕ, List, drop, sym, ap, ◌∙◌, subst, length, take, ◌≤◌, arith, rules}
use Rattle.reports.proofs.Prelude.{length-take-le, framed, bytes_of}
use Rattle.reports.proofs.Marking.{prefix_of}
use Rattle.reports.proofs.records.prefix_record.Goals as goal

pub split_at-requires : goal.split_at-requires
split_at-requires c =
    let f = prefix_of c.args.ahead.now c.args.end (bytes_of c.args.ahead.now c.type_inv.ahead) c.requires in
    omega (arith, f.within)

pub split_at-requires-2 : goal.split_at-requires-2
split_at-requires-2 c =
    let f = prefix_of c.args.ahead.now c.args.end (bytes_of c.args.ahead.now c.type_inv.ahead) c.requires in
    omega (arith, f.above, f.within, length-take-le c.args.end c.args.ahead.now f.within)

pub returns-clause-framed : goal.returns-clause-framed
returns-clause-framed c =
    let f = prefix_of c.args.ahead.now c.args.end (bytes_of c.args.ahead.now c.type_inv.ahead) c.requires in
    let v : c.split_at-2.result.1.now ≡ drop 4 (take c.args.end c.args.ahead.now) = search rules in
    ap framed (v ∙ sym f.bytes_are) ∙ f.framed_is

pub returns-clause-short : goal.returns-clause-short
returns-clause-short c =
    let f = prefix_of c.args.ahead.now c.args.end (bytes_of c.args.ahead.now c.type_inv.ahead) c.requires in
    let v : c.split_at-2.result.1.now ≡ drop 4 (take c.args.end c.args.ahead.now) = search rules in
    subst (λ (b : List ℕ). length b ≤ 16777216) (f.bytes_are ∙ sym v) f.short

pub returns-clause-within : goal.returns-clause-within
returns-clause-within c =
    let f = prefix_of c.args.ahead.now c.args.end (bytes_of c.args.ahead.now c.type_inv.ahead) c.requires in f.within

pub returns-clause-fits : goal.returns-clause-fits
returns-clause-fits c = bytes_of c.args.ahead.now c.type_inv.ahead
