-- BUMP_SEQUENCE is lawful.
use Rattle.op_laws.proofs.Prelude.{refl, ℤ, pos, int_lt, ◌≤ℤ◌, if◌then◌else◌, AccountEntry, EntryMap, with_account}
use Rattle.op_laws.proofs.Prelude.{HasAccount, greatest_i64, Ctx, nothing_owed, account_legal, with_seq_num_from}
use Rattle.op_laws.proofs.Prelude.{bump_sequence, IsLawful, IsBumpFit, AreLawfulWhere, account_kept, int_lt_false}
use Rattle.op_flags.specs.op_types.declared.account_results.BumpSequenceResult.TheVariants as bump
use Rattle.ledger_types.proofs.Booleans.{if_either}
use Rattle.sponsor_rules.specs.SeqNums.{new_extension_v3}
use Rattle.op_account.specs.BumpSequence.{answer}
use Rattle.op_flags.proofs.legal_rules_proofs.SeqNums.{seq_num_legal, seq_num_next}
use Rattle.op_laws.proofs.Lawful.{KeepsLegal, lawful_still}
use Rattle.op_form.proofs.Steps.{done_so, anything}
use Rattle.op_account.proofs.AccountSteps.{bump_steps}

module _ (ctx : Ctx) (n : ℤ) (m : EntryMap) (exists : HasAccount m ctx.op_source) (low : pos 0 ≤ℤ n)
    (high : n ≤ℤ greatest_i64) where
  abbrev raised : AccountEntry → AccountEntry
  raised = with_seq_num_from n (new_extension_v3 ctx)

  bumped_legal : KeepsLegal ctx.id_pool m (with_account m ctx.op_source raised)
  bumped_legal v sum legal =
      let a = exists.0 in
      let test = int_lt a.seq_num n in
      let r = (account_legal v ctx.id_pool nothing_owed sum m ctx.op_source a legal exists.1).range in
      seq_num_legal v ctx.id_pool sum m ctx.op_source raised a (if test then n else a.seq_num) (new_extension_v3 ctx)
      refl legal exists.1 (if_either (λ x. pos 0 ≤ℤ x) test n a.seq_num low r.seq_num)
      (if_either (λ x. x ≤ℤ greatest_i64) test n a.seq_num high r.greatest_seq_num)

pub bump_sequence_is_lawful : AreLawfulWhere IsBumpFit bump_sequence
bump_sequence_is_lawful ctx op m done fits under exists is =
    let change = with_seq_num_from op.bump_to (new_extension_v3 ctx) in
    done_so anything (IsLawful ctx m) (bump_sequence ctx op m) done
    (bump_steps anything (IsLawful ctx m) ctx op m (λ low.
    lawful_still ctx m under (answer bump.Success) (with_account m ctx.op_source change)
    (bumped_legal ctx op.bump_to m exists (int_lt_false op.bump_to (pos 0) low) fits)
    (account_kept ctx.base_reserve m under.settled.legal.keyed ctx.op_source change
    (λ a there. seq_num_next (if int_lt a.seq_num op.bump_to then op.bump_to else a.seq_num) a ctx.base_reserve
    (new_extension_v3 ctx))))) is
