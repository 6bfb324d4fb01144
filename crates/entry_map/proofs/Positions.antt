-- The derived order of positions is total and exact.
use Rattle.entry_map.proofs.Prelude.{◌≡◌, refl, sym, ◌∙◌, Bool, true, false, Ordering, Equal, bool_cmp, eq_by_cmp}
use Rattle.entry_map.proofs.Prelude.{IsTotalOrder, Equal-is, nat_cmp-IsAntisymmetric, int_cmp-IsAntisymmetric}
use Rattle.entry_map.proofs.Prelude.{assets_compared, assets_exact, BookPosition, then_Equal_parts}
use Rattle.std.proofs.lemmas.Map.Lookups.{exact_bytes}
pub use Rattle.entry_map.specs.Order.{order}
use Rattle.entry_map.specs.contracts.position.BookPositionOrd.TheImpl as positions
use Rattle.entry_map.specs.contracts.position.BookPositionOrd.TheImpl.Laws as book_position_ord

-- the order that the code has
abbrev pub derived : BookPosition → BookPosition → Ordering
derived = (positions.cmp-value).it

pub derived_is : derived ≡ order
unfolding order
derived_is = refl

pub order_total : IsTotalOrder order
unfolding order
order_total = book_position_ord.total-law

exact_ends : (a b : Bool) → bool_cmp a b ≡ Equal → a ≡ b
exact_ends true true h = refl
exact_ends true false h = absurd (cc)
exact_ends false true h = absurd (cc)
exact_ends false false h = refl

pub order_exact : (a b : BookPosition) → order a b ≡ Equal → a ≡ b
unfolding order
order_exact a b h =
    let one = then_Equal_parts _ _ h in
    let two = then_Equal_parts _ _ one.1 in
    let three = then_Equal_parts _ _ two.1 in
    let four = then_Equal_parts _ _ three.1 in
    let five = then_Equal_parts _ _ four.1 in
    let selling = assets_exact a.selling b.selling (sym (assets_compared a.selling b.selling) ∙ one.0) in
    let buying = assets_exact a.buying b.buying (sym (assets_compared a.buying b.buying) ∙ two.0) in
    let ranks = nat_cmp-IsAntisymmetric a.rank b.rank three.0 in
    let ids = int_cmp-IsAntisymmetric a.id b.id four.0 in
    let ends = exact_ends a.is_end b.is_end five.0 in
    let bytes = exact_bytes a.seller.0 b.seller.0 five.1 in
    λ i. record {
      selling = selling i;
      buying = buying i;
      rank = ranks i;
      id = ids i;
      is_end = ends i;
      seller = record { 0 = bytes i };
    }

pub same_position : (p q : BookPosition) → eq_by_cmp order p q ≡ true → p ≡ q
same_position p q e = order_exact p q ((Equal-is (order p q)).0 e)
