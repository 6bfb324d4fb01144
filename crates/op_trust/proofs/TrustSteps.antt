-- CHANGE_TRUST for assets, step by step, by what holds of its successes.
use Rattle.entry_map.specs.EntryMap.{EntryMap}
use Rattle.entry_slots.specs.LineExtensions.{use_count}
use Rattle.entry_slots.specs.Lines.{with_line}
use Rattle.ledger_types.specs.declared.account.AccountEntry.{AccountEntry}
use Rattle.ledger_types.specs.declared.asset.Asset.{Asset}
use Rattle.ledger_types.specs.declared.trust_line.TrustLineEntry.{TrustLineEntry}
use Rattle.op_form.specs.Assets.{issuer_at, line_asset_of, line_of_asset}
use Rattle.op_form.specs.Done.{Done}
use Rattle.op_types.specs.declared.trust_results.ChangeTrustResult.{ChangeTrustResult}
use Rattle.sponsor_rules.specs.Adding.{map_after_adding}
use Rattle.sponsor_rules.specs.Charge.{line_multiplicity}
use Rattle.sponsor_rules.specs.Removing.{map_after_removing}
use Rattle.sponsor_rules.specs.declared.context.Ctx.{Ctx}
use Rattle.std.proofs.Common.{refl}
use Rattle.std.specs.Ordering.{int_eq}
use Rattle.std.specs.Prelude.{None, Ok, Option, Some, [], false, is_some, not, pos, true, ℤ, ◌∷◌, ◌≡◌}
use Rattle.sponsor_rules.proofs.Changes.{line_changed}
use Rattle.sponsor_rules.proofs.Charges.{adding_subentry, removing_holds}
use Rattle.sponsor_rules.proofs.Entries.{Fits}
use Rattle.op_form.proofs.Steps.{AllPass, Answering, Ends, either_ends, past, past_charge, past_some}
use Rattle.op_form.proofs.Walks.{Before, Leaves, Left, Logic, left, made_holds, succeeded}
use Rattle.ledger_types.specs.declared.key.LedgerKey.TheVariants as key
use Rattle.op_trust.specs.ChangeTrust as trusting
use Rattle.op_types.specs.declared.operation_result.OperationResultTr.TheVariants as tr
use Rattle.op_types.specs.declared.trust_results.ChangeTrustResult.TheVariants as trust

pub code : (x : Answering) (c : ChangeTrustResult) → x.Answer (trusting.answer c)
code x c = x.bare (tr.ChangeTrust c) tt

abbrev pub trusted : Ctx → EntryMap → Done
trusted ctx new = succeeded ctx (trusting.answer trust.Success) new []

module _ (x : Answering) (Q : Done → Type 0) (ctx : Ctx) (held : Asset) (limit : ℤ) (m : EntryMap) where
  abbrev its : Option TrustLineEntry
  its = line_of_asset m ctx.op_source held

  -- what holds of each success
  pub record Successes : Type 0 where
    pub removed : (t : TrustLineEntry) → AllPass (trusting.asked_tests ctx held limit) → its ≡ Some t
        → AllPass (trusting.limit_tests limit t) → int_eq limit (pos 0) ≡ true
        → not (int_eq (use_count t) (pos 0)) ≡ false
        → Q (trusted ctx (map_after_removing (key.TrustLine ctx.op_source (line_asset_of held)) m))
    pub limited : (t : TrustLineEntry) → AllPass (trusting.asked_tests ctx held limit) → its ≡ Some t
        → AllPass (trusting.limit_tests limit t) → int_eq limit (pos 0) ≡ false
        → Q (trusted ctx (with_line m ctx.op_source (line_asset_of held) (trusting.with_limit limit)))
    pub added : (issuer : AccountEntry) (new : EntryMap) → AllPass (trusting.asked_tests ctx held limit)
        → its ≡ None → int_eq limit (pos 0) ≡ false
        → map_after_adding ctx ctx.op_source (trusting.new_line ctx held limit issuer) m ≡ Ok new
        → Q (trusted ctx new)

  by_line : (o : Option TrustLineEntry) → its ≡ o → Successes → AllPass (trusting.asked_tests ctx held limit)
      → Ends x Q (trusting.changed ctx held limit m o)
  by_line (Some t) there all pass =
      past (trusting.limit_tests limit t) _ (code x trust.InvalidLimit, tt)
      (λ within. either_ends (int_eq limit (pos 0)) (trusting.removed ctx held t m) (trusting.limited ctx held limit m)
      (λ zero. past ((not (int_eq (use_count t) (pos 0)), trusting.answer trust.CannotDelete) ∷ []) _
      (code x trust.CannotDelete, tt) (λ unused. record { ends = all.removed t pass there within zero unused.0 }))
      (λ some. past ((not (is_some (issuer_at m held)), trusting.answer trust.NoIssuer) ∷ []) _
      (code x trust.NoIssuer, tt) (λ known. record { ends = all.limited t pass there within some })))
  by_line None there all pass =
      past ((int_eq limit (pos 0), trusting.answer trust.InvalidLimit) ∷ []) _ (code x trust.InvalidLimit, tt)
      (λ some. past_some (issuer_at m held) (trusting.answer trust.NoIssuer) _ (code x trust.NoIssuer)
      (λ issuer known. past_charge
      (map_after_adding ctx ctx.op_source (trusting.new_line ctx held limit issuer) m)
      (trusting.answer trust.LowReserve)
      _ (code x trust.LowReserve) (λ new made. record { ends = all.added issuer new pass there some.0 made })))

  pub trust_steps : Successes → Ends x Q (trusting.asset_trust ctx held limit m)
  trust_steps all =
      past (trusting.asked_tests ctx held limit) _ (code x trust.Malformed, tt) (λ pass. by_line its refl all pass)

pub asset_trusted : (w : Logic) (ctx : Ctx) (held : Asset) (limit : ℤ) (m : EntryMap) → Before w ctx m
    → ((issuer : AccountEntry) → Fits w.inv.of (trusting.new_line ctx held limit issuer))
    → Leaves w (trusting.asset_trust ctx held limit m)
asset_trusted w ctx held limit m before fits =
    let k = key.TrustLine ctx.op_source (line_asset_of held) in
    trust_steps w.answers (Left w) ctx held limit m (record {
      removed = λ t pass there within zero unused. left (tr.ChangeTrust trust.Success) tt before
          (removing_holds w.inv k m (w.inv.others k tt) before.entries);
      limited = λ t pass there within some. left (tr.ChangeTrust trust.Success) tt before
          (line_changed w.inv (trusting.with_limit limit) (λ t line. w.inv.same_line t _ refl refl line) m
          ctx.op_source (line_asset_of held) before.entries);
      added = λ issuer new pass there some made. left (tr.ChangeTrust trust.Success) tt before
          (made_holds w.inv _ new made (adding_subentry w.inv ctx ctx.op_source
          (trusting.new_line ctx held limit issuer) (line_multiplicity (line_asset_of held)) m (fits issuer)
          (w.sponsor ctx ctx.op_source before.context) before.entries));
    })
