-- REVOKE_SPONSORSHIP is lawful.
use Rattle.op_laws.proofs.Prelude as prelude
use prelude.{◌≡◌, subst, ℕ, List, Option, Some, None, Ok, slice_set, pos, get, AccountId, AccountEntry}
use prelude.{LedgerEntry, LedgerKey, EntryMap, account_at, with_account, HasAccount, sponsor_of, first_fault}
use prelude.{Ctx, charge_of, map_after_exchange, with_other_payer, open_sponsor, payer_other_than, payer_tests_at}
use prelude.{move_tests_at, found_signer, with_moved_signer, map_after_moving_signer_between, map_after_moving_found}
use prelude.{counts_edited, with_sponsors_core, nothing_owed, sponsors_ready, entry_moved_so}
use prelude.{nothing_settled, signer_moved_so}
use prelude.{revoke_sponsorship, IsLawful, AreLawful, IsUnderway, exchanged_kept}
use prelude.{exchange_kept, payers_had, next_payer, moved_between, sponsor_kept, next_edited, IsKeyed, none_more}
use prelude.{IsNext, Leaves, leaves_itself, keeps_both, unless_first_ok}
use Rattle.op_flags.specs.sponsor_rules.declared.charge.Charge.{Charge}
use Rattle.op_flags.specs.sponsor_rules.declared.charge.Charge.TheVariants as charge
use Rattle.op_flags.specs.sponsor_rules.declared.signer_index.FoundSigner.{FoundSigner}
use Rattle.op_flags.specs.sponsor_rules.Moving.{map_with_sponsor, map_after_moving_balance, map_after_moving_by}
use Rattle.op_flags.specs.sponsor_rules.Moving.{map_after_moving_entry}
use Rattle.op_flags.specs.op_types.declared.sponsor_ops.RevokeSponsorshipOp.{RevokeSponsorshipOp}
use Rattle.op_flags.specs.op_types.declared.sponsor_ops.RevokeSponsorshipOp.TheVariants as revoked
use Rattle.op_flags.specs.op_types.declared.sponsor_results.RevokeSponsorshipResult.TheVariants as revoke
use Rattle.op_sponsor.specs.RevokeSponsorship.{answer}
use Rattle.op_laws.proofs.Lawful.{lawful_still}
use Rattle.op_form.proofs.Steps.{done_so, anything}
use Rattle.op_sponsor.proofs.SponsorSteps.{revoke_steps, RevokeSuccesses}

module _ (ctx : Ctx) (m new : EntryMap) (keyed : IsKeyed m) where
  abbrev IsLeft : EntryMap → Type 0
  IsLeft map = Leaves ctx.base_reserve none_more m map

  still_left : m ≡ new → IsLeft new
  still_left same = subst IsLeft same (leaves_itself ctx.base_reserve m keyed)

  -- ---- entries

  balance_left : (k : LedgerKey) (n : ℕ) (s t : Option AccountId) → map_after_moving_balance ctx k n s t m ≡ Ok new
      → IsLeft new
  balance_left k n s None done = still_left (cc)
  balance_left k n s (Some x) done =
      let now = map_after_exchange n s (Some x) m in
      let after = map_with_sponsor k (Some x) now in
      let test = unless_first_ok (payer_tests_at ctx m x n) after new done in
      let had = payers_had ctx m x n None (Some x) test.0 in
      let first = exchange_kept ctx.base_reserve n s (Some x) m keyed had.0 in
      subst IsLeft test.1 (keeps_both ctx.base_reserve m now after first
      (sponsor_kept ctx.base_reserve now k (Some x) first.keyed))

  charge_left : (k : LedgerKey) (c : Charge) (s payer : Option AccountId) → map_after_moving_by ctx k c s payer m ≡ Ok
      new
      → IsLeft new
  charge_left k (charge.Itself owner) s payer done = moved_between ctx k owner 2 m new keyed s
      (payer_other_than owner payer) done
  charge_left k (charge.Subentry owner n) s payer done = moved_between ctx k owner n m new keyed s
      (payer_other_than owner payer) done
  charge_left k (charge.Payer n) s payer done = balance_left k n s payer done
  charge_left k charge.Nobody s payer done = still_left (cc)

  entry_left : (k : LedgerKey) (payer : Option AccountId) (o : Option LedgerEntry)
      → map_after_moving_entry ctx k payer m o ≡ Ok new → IsLeft new
  entry_left k payer None done = still_left (cc)
  entry_left k payer (Some e) done = charge_left k (charge_of e.body) (sponsor_of e) payer done

  -- ---- signers

  -- the next account with another sponsor of a signer
  signer_next : (index : ℕ) (s t : Option AccountId) (a : AccountEntry)
      → IsNext ctx.base_reserve (pos 0) a (with_other_payer 1 s t a)
      → IsNext ctx.base_reserve (pos 0) a (with_moved_signer index s t a)
  signer_next index s t a next =
      let b = with_other_payer 1 s t a in
      let change = λ (xs : List (Option AccountId)). slice_set xs index t in
      next_edited ctx.base_reserve (pos 0) a b (with_moved_signer index s t a) next
      (with_sponsors_core change b b.signers) (λ which. counts_edited change which b b.signers)

  signer_so : (id : AccountId) (index : ℕ) (s t : Option AccountId) → first_fault (move_tests_at ctx m id t 1) ≡ None
      → with_account (map_after_exchange 1 s t m) id (with_moved_signer index s t) ≡ new → IsLeft new
  signer_so id index s t none is =
      let had = payers_had ctx m id 1 s t none in
      subst IsLeft is (exchanged_kept ctx.base_reserve 1 s t id (with_moved_signer index s t) m keyed had.0
      (λ a exists. signer_next index s t a (next_payer ctx.base_reserve 1 s t id m keyed had.1 a exists)))

  signer_left : (id : AccountId) (index : ℕ) (s t : Option AccountId)
      → map_after_moving_signer_between ctx id index s t m ≡ Ok new → IsLeft new
  signer_left id index None None done = still_left (cc)
  signer_left id index None (Some x) done =
      let test = unless_first_ok (move_tests_at ctx m id (Some x) 1)
      (with_account (map_after_exchange 1 None (Some x) m) id (with_moved_signer index None (Some x))) new done in
      signer_so id index None (Some x) test.0 test.1
  signer_left id index (Some y) None done =
      let test = unless_first_ok (move_tests_at ctx m id None 1)
      (with_account (map_after_exchange 1 (Some y) None m) id (with_moved_signer index (Some y) None)) new done in
      signer_so id index (Some y) None test.0 test.1
  signer_left id index (Some y) (Some x) done =
      let test = unless_first_ok (move_tests_at ctx m id (Some x) 1)
      (with_account (map_after_exchange 1 (Some y) (Some x) m) id (with_moved_signer index (Some y) (Some x))) new done
      in
      signer_so id index (Some y) (Some x) test.0 test.1

  found_left : (id : AccountId) (payer : Option AccountId) (o : Option FoundSigner)
      → map_after_moving_found ctx id payer m o ≡ Ok new → IsLeft new
  found_left id payer None done = still_left (cc)
  found_left id payer (Some found) done = signer_left id found.index found.sponsor (payer_other_than id payer) done

-- ---- the operation

module _ (ctx : Ctx) (m : EntryMap) (under : IsUnderway ctx m) where
  abbrev payer : Option AccountId
  payer = open_sponsor ctx ctx.op_source

  payer_exists : (x : AccountId) → payer ≡ Some x → HasAccount m x
  payer_exists = (sponsors_ready ctx m ctx.op_source under.sponsorships).exists

  by_thing : (op : RevokeSponsorshipOp) → RevokeSuccesses (IsLawful ctx m) ctx m op
  by_thing (revoked.LedgerEntry k) = λ e moved formed there may is.
      lawful_still ctx m under (answer revoke.Success) moved
      (λ v sum legal. entry_moved_so v ctx.id_pool nothing_owed sum ctx k payer m moved legal nothing_settled
      payer_exists is) (entry_left ctx m moved under.settled.legal.keyed k payer (get m k) is)
  by_thing (revoked.Signer id which) = λ one moved there may is.
      lawful_still ctx m under (answer revoke.Success) moved
      (λ v sum legal. signer_moved_so v ctx.id_pool nothing_owed sum ctx id which payer m moved legal nothing_settled
      payer_exists is)
      (found_left ctx m moved under.settled.legal.keyed id payer (found_signer which (account_at m id)) is)

pub revoke_sponsorship_is_lawful : AreLawful revoke_sponsorship
revoke_sponsorship_is_lawful ctx op m done under exists is =
    done_so anything (IsLawful ctx m) (revoke_sponsorship ctx op m) done
    (revoke_steps anything (IsLawful ctx m) ctx m op (by_thing ctx m under op)) is
