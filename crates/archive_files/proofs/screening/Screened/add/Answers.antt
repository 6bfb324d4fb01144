use Rattle.archive_files.proofs.Prelude.{AreScreenedTo, [], subst, sym, ◌++◌, ◌∷◌}
use Rattle.archive_files.proofs.Screened.{in_place, kept_more, none_yet, place_of, screened_place, screened_still}
use Rattle.archive_files.proofs.Screened.{screened_stray}
use Rattle.archive_files.proofs.screening.Screened.add.Goals as goal

pub returns-then-is_some-clause-screened : goal.returns-then-is_some-clause-screened
returns-then-is_some-clause-screened c = λ heads all are h.
    screened_still heads all c.args.self.now.facts.items c.args.self.now.stray c.args.fact c.is_some.result
    c.is_some.ensures c.if-is_some.true h

pub returns-in_ok-push-clause-kept : goal.returns-in_ok-push-clause-kept
returns-in_ok-push-clause-kept c =
    let place = c.is_in_place.ensures.0 c.if-is_in_place.true in
    kept_more c.args.self.now.facts.items c.args.self.now.last c.args.fact c.push.new.self.items
    c.in_ok-push.ensures.items c.requires.kept place.0

pub returns-in_ok-push-clause-screened : goal.returns-in_ok-push-clause-screened
returns-in_ok-push-clause-screened c = λ heads all are h.
    let kept = c.args.self.now.facts.items in
    let none = none_yet c.args.self.now.stray c.is_some.result c.is_some.ensures c.if-is_some.false in
    subst (λ o. AreScreenedTo heads (all ++ c.args.fact ∷ []) c.push.new.self.items o) (sym none)
    (screened_place heads all kept c.args.self.now.last c.args.fact c.push.new.self.items c.in_ok-push.ensures.items
    c.requires.kept (subst (λ o. AreScreenedTo heads all kept o) none h)
    (in_place c.args.numbers.now heads c.args.self.now.last c.args.fact are
    (c.is_in_place.ensures.0 c.if-is_in_place.true)))

pub returns-else-is_in_place-clause-screened : goal.returns-else-is_in_place-clause-screened
returns-else-is_in_place-clause-screened c = λ heads all are h.
    let kept = c.args.self.now.facts.items in
    let none = none_yet c.args.self.now.stray c.is_some.result c.is_some.ensures c.if-is_some.false in
    screened_stray heads all kept c.args.self.now.last c.args.fact c.requires.kept
    (subst (λ o. AreScreenedTo heads all kept o) none h) (λ there.
    let place = place_of c.args.numbers.now heads c.args.self.now.last c.args.fact are there in
    let yes = c.is_in_place.ensures.1 place in cc (yes, c.if-is_in_place.false))
