use Rattle.level_entries.proofs.Prelude.{map, sym, subst, ap, ◌∙◌, arith, get_or-map, pair_of, Pair}
use Rattle.level_entries.proofs.Prelude.{empty_pair, files_of, Represent}
use Rattle.level_entries.proofs.Prelude.{IsNewestRow}
use Rattle.bucket_levels.proofs.Represented.{represented}
use Rattle.level_entries.proofs.Newest.{row_in, empty_of}
use Rattle.level_entries.proofs.levels.level_entries.Goals as goal

pub new-requires : goal.new-requires
new-requires c =
    let files = files_of (map pair_of c.args.pairs.now) in
    subst (IsNewestRow files) (sym c.as_slice.ensures.value)
    (row_in (λ v. v.items) files c.in_ok-row_of.field-0 c.in-Some.row c.in_ok-row_of.ensures c.in-Some.is)

pub returns-in_ok-new-in-Some : goal.returns-in_ok-new-in-Some
returns-in_ok-new-in-Some c =
    let levels = map pair_of c.args.pairs.now in
    let n = row_in (λ v. v.items) (files_of levels) c.in_ok-row_of.field-0 c.in-Some.row c.in_ok-row_of.ensures
    c.in-Some.is in (
      record {
        marks = n.marks;
        deepest = ap (λ (p : Pair). p.snap) (get_or-map pair_of c.args.pairs.now 10 c.index-pairs-10.result empty_pair
            (omega (arith, c.requires)))
            ∙ sym c.deref.ensures ∙ empty_of c.deref.result.now c.version.result c.version.ensures
            (sym c.is_some.ensures ∙ c.if-is_some.false);
      },
      subst (Represent levels) (sym c.in_ok-new-in-Some.ensures) (represented levels),
    )
