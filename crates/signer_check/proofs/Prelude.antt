-- Names that several proofs of this crate use.
pub use Rattle.std.proofs.Common.{Bool, List, None, Option, Some, [], add-one, ap, arith, cond, drop, eqb, false}
pub use Rattle.std.proofs.Common.{get_or, inl, inr, leb, length, ltb, map, not, refl, replicate, rules, set, suc, sym}
pub use Rattle.std.proofs.Common.{take, true, zero, ℕ, ◌&&◌, ◌++◌, ◌+◌, ◌-◌, ◌<◌, ◌||◌, ◌∙◌, ◌∷◌, ◌≡◌, ◌≤◌}
pub use Rattle.std.proofs.lemmas.Bool.{cases_lt, le-leb, le-ltb, lt-leb, lt-ltb}
pub use Rattle.std.proofs.lemmas.List.{append-nil, drop-set-lt, drop_all, drop_more, set-get_or}
pub use Rattle.std.specs.List.{filter, prefix_len, zip}
pub use Rattle.std.specs.Option.{option_and_then, option_copied, option_map}
pub use Rattle.std.specs.Prelude.{position, slice_index}
pub use Rattle.ledger_types.specs.declared.signer.Signer.{Signer}
pub use Rattle.ledger_types.specs.declared.signer.SignerKey.TheVariants.{Ed25519}
pub use Rattle.signer_check.specs.Progress.{left_after, left_of, missing_after, missing_with}
pub use Rattle.signer_check.specs.Weight.{Counted, Match, after, counted, counted_by_hash, held, is_authorised}
pub use Rattle.signer_check.specs.Weight.{matches_key, used_by, weight_of}
unfoldable pub use Rattle.signer_check.specs.Weight.{counted_by_signatures, first_match, reaches, until_reached}
unfoldable pub use Rattle.signer_check.specs.Weight.{used_at, used_for}
pub use Rattle.signer_check.specs.declared.held.HeldSignature.{HeldSignature}
