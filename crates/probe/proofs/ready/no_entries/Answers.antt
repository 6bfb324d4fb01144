use Rattle.probe.proofs.Prelude.{sym, subst, map, [], key_of, key_cmp}
use Rattle.std.specs.Ordering.{eq_by_cmp}
use Rattle.std.specs.List.{IsDistinct}
use Rattle.probe.proofs.ready.no_entries.Goals as goal

none_is_twice : IsDistinct (eq_by_cmp key_cmp) []
unfolding IsDistinct
none_is_twice = tt

pub from_entries-requires : goal.from_entries-requires
from_entries-requires c =
    subst (λ entries. IsDistinct (eq_by_cmp key_cmp) (map key_of entries)) (sym c.new.ensures.items) none_is_twice
