-- Names that several proofs of this crate use.
pub use Rattle.std.proofs.Common.{Bool, ap, arith, false, refl, rules, subst, suc, sym, true, unsigned_abs, zero, ℕ, ℤ}
pub use Rattle.std.proofs.Common.{◌&&◌, ◌*◌, ◌+◌, ◌-◌, ◌/◌, ◌<◌, ◌||◌, ◌∙◌, ◌≡◌, ◌≤◌}
pub use Rattle.std.proofs.Math.Nat.{div-eq_of_lt, div-le_of_le-mul, div-mul-le_self, lt-div-mul-add}
pub use Rattle.std.proofs.Math.Nat.{lt_of_mul-lt-mul_right, min-eq_left, min-le_left, min-le_right, mul-div_cancel}
pub use Rattle.std.proofs.Math.Nat.{mul-le-mul_left, mul-le-mul_right}
pub use Rattle.std.proofs.lemmas.Bool.{ltb-false, ltb-true}
pub use Rattle.std.specs.Prelude.{if◌then◌else◌, min, nat_eq, nat_lt, not, pos}
pub use Rattle.ledger_types.proofs.Arithmetic.{natural_at_most_trans}
pub use Rattle.offer_exchange.specs.Calls.{bounds_of, wanted_by}
pub use Rattle.offer_exchange.specs.Exchange.{Amounts, Bounds, ceil_div, is_half, is_unfair, nothing, offered}
pub use Rattle.offer_exchange.specs.Exchange.{sheep_then_down, sheep_then_up, sheep_worth, some_stays, table}
pub use Rattle.offer_exchange.specs.Exchange.{unless_void, unlimited, used_up, wheat_then_down, wheat_then_up}
pub use Rattle.offer_exchange.specs.Exchange.{wheat_worth, worth}
unfoldable pub use Rattle.offer_exchange.specs.Exchange.{adjusted, exchanged, liabilities, wheat_stays}
pub use Rattle.offer_exchange.specs.Laws.{AreWithin, IsBound, StaysAdjusted}
pub use Rattle.offer_exchange.specs.declared.rounding.Rounding.{Rounding}
pub use Rattle.offer_exchange.specs.declared.rounding.Rounding.TheVariants.{Normal, StrictReceive, StrictSend}
