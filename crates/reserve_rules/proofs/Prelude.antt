-- Names that several proofs of this crate use.
pub use Rattle.std.proofs.Common.{arith, neg_ℤ, negsuc, pos, subst, suc, ℕ, ℤ, ◌*ℤ◌, ◌-ℤ◌, ◌<◌, ◌^◌, ◌↔◌, ◌≡◌, ◌≤ℤ◌}
pub use Rattle.std.proofs.lemmas.Int.{ints}
