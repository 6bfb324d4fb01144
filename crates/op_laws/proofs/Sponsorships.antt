-- BEGIN_SPONSORING_FUTURE_RESERVES and END_SPONSORING_FUTURE_RESERVES are lawful.
use Rattle.op_laws.proofs.Prelude.{◌≡◌, ◌≢◌, refl, sym, ℕ, suc, take, drop, ◌<◌, Bool, true, false, cond}
use Rattle.op_laws.proofs.Prelude.{is_some, List, [], ◌∷◌, ◌++◌, length, get_or, All, Option, Some, None, All-nil}
use Rattle.op_laws.proofs.Prelude.{All-cons, All-append, All-take, All-drop, All-push, all_pairs_push, all_pairs_remove}
use Rattle.op_laws.proofs.Prelude.{position-Some, find, remove, AccountId, EntryMap, HasAccount, account_at, Ctx}
use Rattle.op_laws.proofs.Prelude.{Sponsorship, is_same_account, open_sponsor, apart_accounts, AreSponsorshipsSound}
use Rattle.op_laws.proofs.Prelude.{OperationResult, IsLawful, AreLawful, IsUnderway}
use Rattle.op_laws.proofs.Prelude.{none_more, holds_itself, is_itself_after}
use Rattle.std.specs.Option.{option_map}
use Rattle.op_flags.specs.op_types.declared.sponsor_ops as operations
use operations.BeginSponsoringFutureReservesOp.{BeginSponsoringFutureReservesOp}
use Rattle.op_flags.specs.op_types.declared.sponsor_results.BeginSponsoringFutureReservesResult.TheVariants as begin
use Rattle.op_flags.specs.op_types.declared.sponsor_results.EndSponsoringFutureReservesResult.TheVariants as end
use Rattle.op_sponsor.specs.BeginSponsoringFutureReserves as begins
use Rattle.op_sponsor.specs.EndSponsoringFutureReserves as ends
use Rattle.op_laws.proofs.Lawful.{lawful_by}
use Rattle.op_laws.proofs.Lumens.{nothing_issued}
use Rattle.op_laws.proofs.Described.{describes_nothing}
use Rattle.op_form.proofs.Steps.{done_so, anything}
use Rattle.op_sponsor.proofs.SponsorSteps.{begin_steps, end_steps}

-- ---- other sponsorships

-- the same entries with other open sponsorships
opened_so : (ctx : Ctx) (m : EntryMap) → IsUnderway ctx m → (result : OperationResult) (opened : List Sponsorship)
    → AreSponsorshipsSound (record ctx { sponsorships = opened }) m
    → IsLawful ctx m (record {
      result = result;
      entries = m;
      ctx = record ctx { sponsorships = opened };
      moves = [];
    })
opened_so ctx m under result opened sound =
    lawful_by ctx m under none_more (record {
      result = result;
      entries = m;
      ctx = record ctx { sponsorships = opened };
      moves = [];
    }) (λ v sum legal. legal) (λ id. is_itself_after ctx.base_reserve (account_at m id))
    (holds_itself m) describes_nothing
    nothing_issued
    (record {
      seq = refl;
      version = refl;
      base_reserve = refl;
      flags = refl;
      close_time = refl;
      tx_source = refl;
      tx_seq = refl;
    }) refl sound

-- ---- begin

none_passes : (test : Sponsorship → Bool) (xs : List Sponsorship) → find test xs ≡ None
    → All (λ x. test x ≡ false) xs
none_passes test [] is = All-nil (λ x. test x ≡ false)
none_passes test (x ∷ xs) is = elim (test x) as (λ b. test x ≡ b → cond b (Some x) (find test xs) ≡ None
    → All (λ y. test y ≡ false) (x ∷ xs)) [
      | true ↦ λ h some. absurd (cc)
      | false ↦ λ h none. All-cons (λ y. test y ≡ false) x xs h (none_passes test xs none)
    ] refl is

not_some : (o : Option Sponsorship) → is_some (option_map (λ s. s.sponsor) o) ≡ false → o ≡ None
not_some None is = refl
not_some (Some x) is = absurd (cc)

-- an account that nobody sponsors is in no open sponsorship
not_sponsored : (ctx : Ctx) (id : AccountId) → is_some (open_sponsor ctx id) ≡ false
    → All (λ s. is_same_account s.sponsored id ≡ false) ctx.sponsorships
unfolding open_sponsor
not_sponsored ctx id is = none_passes (λ s. is_same_account s.sponsored id) ctx.sponsorships
    (not_some (find (λ s. is_same_account s.sponsored id) ctx.sponsorships) is)

opened_sound : (ctx : Ctx) (op : BeginSponsoringFutureReservesOp) (m : EntryMap) → AreSponsorshipsSound ctx m
    → HasAccount m ctx.op_source → is_same_account op.sponsored_id ctx.op_source ≡ false
    → is_some (open_sponsor ctx op.sponsored_id) ≡ false
    → AreSponsorshipsSound (begins.with_sponsorship_opened op ctx) m
opened_sound ctx op m sound exists apart none =
    let new = begins.new_sponsorship ctx op in
    let free = not_sponsored ctx op.sponsored_id none in
    record {
      once = all_pairs_push (λ x y. x.sponsored ≢ y.sponsored) ctx.sponsorships new sound.once
          (λ k d lt. apart_accounts (get_or ctx.sponsorships k d).sponsored op.sponsored_id (free k d lt));
      other = All-push (λ x. x.sponsor ≢ x.sponsored) ctx.sponsorships new sound.other
          (λ same. apart_accounts op.sponsored_id ctx.op_source apart (sym same));
      exist = All-push (λ x. HasAccount m x.sponsor) ctx.sponsorships new sound.exist exists;
    }

pub begin_sponsoring_is_lawful : AreLawful begins.begin_sponsoring
begin_sponsoring_is_lawful ctx op m done under exists is =
    done_so anything (IsLawful ctx m) (begins.begin_sponsoring ctx op m) done
    (begin_steps anything (IsLawful ctx m) ctx op m (λ pass. opened_so ctx m under (begins.answer begin.Success)
    (ctx.sponsorships ++ begins.new_sponsorship ctx op ∷ [])
    (opened_sound ctx op m under.sponsorships exists pass.0 pass.1.0))) is

-- ---- end

all_removed : (P : Sponsorship → Type 0) (xs : List Sponsorship) (n : ℕ) → All P xs → All P (remove xs n)
all_removed P xs n all = All-append P (take n xs) (drop (suc n) xs) (All-take P n xs all) (All-drop P (suc n) xs all)

ended_sound : (ctx : Ctx) (m : EntryMap) (index : ℕ) → AreSponsorshipsSound ctx m → index < length ctx.sponsorships
    → AreSponsorshipsSound (ends.without_sponsorship index ctx) m
ended_sound ctx m index sound within = record {
  once = all_pairs_remove (λ x y. x.sponsored ≢ y.sponsored) ctx.sponsorships index within sound.once;
  other = all_removed (λ x. x.sponsor ≢ x.sponsored) ctx.sponsorships index sound.other;
  exist = all_removed (λ x. HasAccount m x.sponsor) ctx.sponsorships index sound.exist;
}

some_sponsorship : AccountId → Sponsorship
some_sponsorship id = record { sponsored = id; sponsor = id }

within_open : (ctx : Ctx) (index : ℕ) → ends.index_of_sponsorship ctx ≡ Some index → index < length ctx.sponsorships
unfolding ends.index_of_sponsorship
within_open ctx index is =
    (position-Some (λ s. is_same_account s.sponsored ctx.op_source) ctx.sponsorships index
    (some_sponsorship ctx.op_source) is).0

pub end_sponsoring_is_lawful : AreLawful (λ ctx (_ : Unit {0}) m. ends.end_sponsoring ctx m)
end_sponsoring_is_lawful ctx op m done under exists is =
    done_so anything (IsLawful ctx m) (ends.end_sponsoring ctx m) done
    (end_steps anything (IsLawful ctx m) ctx m (λ index at. opened_so ctx m under (ends.answer end.Success)
    (remove ctx.sponsorships index) (ended_sound ctx m index under.sponsorships (within_open ctx index at)))) is
