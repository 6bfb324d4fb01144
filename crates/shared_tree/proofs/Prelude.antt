-- Names that several proofs of this crate use.
pub use Rattle.std.proofs.Common.{Bool, List, None, Option, Some, T, [], ap, append-nil, arith, cond, drop, false}
pub use Rattle.std.proofs.Common.{length, length-append, refl, rules, subst, suc, sym, take, true, ◌&&◌, ◌++◌, ◌+◌, ◌<◌}
pub use Rattle.std.proofs.Common.{◌∙◌, ◌∷◌, ◌≡◌, ◌≢◌, ◌≤◌}
pub use Rattle.std.proofs.lemmas.Result.{IfOk-weaker}
pub use Rattle.std.specs.Cmp.{Equal-is, IsTotalOrder, alike_right, tied_back, tied_itself}
pub use Rattle.std.specs.FinMap.Entries.{below_all, by_order, find, is_sorted}
pub use Rattle.std.specs.Option.{option_copied, option_or, unwrap_or}
pub use Rattle.std.specs.Ordering.{eq_by_cmp, is_eq, is_lt, ordering_reverse}
pub use Rattle.std.specs.declared.cmp.Ordering.{Ordering}
pub use Rattle.std.specs.declared.cmp.Ordering.TheVariants.{Equal, Greater, Less}
pub use Rattle.shared_tree.specs.Rows.{AreDivided, IsTurn, all_changed, all_put, between, changed, count_below}
pub use Rattle.shared_tree.specs.Rows.{first_above, kept_by, prefix}
