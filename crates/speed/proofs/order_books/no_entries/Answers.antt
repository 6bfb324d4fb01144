use Rattle.std.proofs.Common.{sym, subst, map, []}
use Rattle.std.specs.List.{IsDistinct}
use Rattle.std.specs.Ordering.{eq_by_cmp}
use Rattle.ledger_types.specs.Keys.{key_of}
use Rattle.ledger_types.specs.KeyOrder.{key_cmp}
use Rattle.speed.proofs.order_books.no_entries.Goals as goal

none_is_twice : IsDistinct (eq_by_cmp key_cmp) []
unfolding IsDistinct
none_is_twice = tt

pub from_entries-requires : goal.from_entries-requires
from_entries-requires c =
    subst (λ entries. IsDistinct (eq_by_cmp key_cmp) (map key_of entries)) (sym c.new.ensures.items) none_is_twice
