use Rattle.std.proofs.Common.{leb, ap, subst, refl}
use mathlib.Core.List.{IsPrefix}
use Rattle.ledger_readers.proofs.Prefixes.{which_is_prefix}
use Rattle.ledger_readers.proofs.prefix.PublishedPrefix.is_prefix_of.Goals as goal

pub returns : goal.returns
returns g c =
    let own = c.self.inside in
    let other = c.other.inside in
    let both = c.learn.new.self.log in
    let this : IsPrefix own.seen.log both =
    subst (λ l. IsPrefix l both) (ap (λ s. s.log) c.again-both.ensures) c.learn.ensures.2 in
    rw (← c.self.view_is, ← c.other.view_is)
    (which_is_prefix own.seen.log other.seen.log both own.views other.views c.self.invariant.0 c.other.invariant.0
    this c.learn.ensures.3 (leb own.views other.views) refl)
