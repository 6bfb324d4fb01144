-- Names that several proofs of this crate use.
pub use Rattle.std.proofs.Common.{List, None, Option, Some, [], ap, arith, cond, false, length, map, option_map, refl}
pub use Rattle.std.proofs.Common.{subst, suc, sym, take, true, ℕ, ◌++◌, ◌+◌, ◌<◌, ◌∙◌, ◌∷◌, ◌≡◌, ◌≢◌}
pub use Rattle.entry_map.specs.ledger_types.declared.ids.AccountId.{AccountId}
pub use Rattle.entry_map.specs.ledger_types.declared.signer.Signer.{Signer}
