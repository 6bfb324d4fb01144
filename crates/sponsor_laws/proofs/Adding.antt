-- Adding an entry keeps counts equal to their sums.
use Rattle.sponsor_laws.proofs.Prelude as prelude
use prelude.{◌≡◌, ◌≢◌, inl, inr, refl, sym, ap, subst, ◌∙◌, ℕ, ◌+◌, ◌≤◌, [], length, Option, Some, None, Ok, Contains}
use prelude.{arith, count_by, get, AccountId, AccountEntry, ClaimableBalanceEntry, LiquidityPoolEntry, LedgerEntry}
use prelude.{LedgerEntryBody, key_of, key_of_body, EntryMap, put, Ctx, Count, SubEntries, Sponsoring, Sponsored}
use prelude.{account_in, HasAccount, sponsor_of, with_sponsor, charge_of, line_multiplicity, multiplicity, owner_of}
use prelude.{count_in, with_more, is_same_account, open_sponsor, payer_of, payer_by, payer_tests_at, subentry_tests_at}
use prelude.{own_tests, map_after_counting, sponsored_entry, map_after_adding_account, map_after_adding_balance}
use prelude.{map_after_adding_subentry, map_after_adding_by, HasItems, is_this, is_there, signer_sponsors, total}
use prelude.{counted_for, IsApart, IsNewAccount, HaveToExist, IsAddable, AddingKeeps, nil_contains_nothing}
use prelude.{nil_from_length}
use Rattle.sponsor_rules.specs.ledger_types.declared.entry.LedgerEntryBody.TheVariants as body
use Rattle.sponsor_rules.specs.ledger_types.declared.key.LedgerKey.TheVariants as key
use Rattle.sponsor_laws.proofs.Changes.{map_with_more, shifted_raise, elsewhere_none, instead_plus}
use Rattle.sponsor_laws.proofs.Totals.{part_of}
use Rattle.sponsor_laws.proofs.Accounts.{share, own_part, counted_split, as_many, has_items, with_count-keeps}
use Rattle.sponsor_laws.proofs.Accounts.{with_count-count}
use Rattle.sponsor_laws.proofs.Even.{IsEven, Names, NamesSigner, even, kept_of, all_few, all_fit, nothing_if}
use Rattle.sponsor_laws.proofs.Even.{unstanding_total, account_key, account_entry}
use Rattle.sponsor_laws.proofs.Shifts.{Shift, at_one, plus, no_shift, IsShifted, unshifted, apart_ids, shifted_as}
use Rattle.sponsor_laws.proofs.Paying.{shared, shared_none, shared_both, shared_payer, shifted_counting}
use Rattle.sponsor_laws.proofs.Settling.{inserted, exists_after, exists_put, exists_inserted}
use Rattle.sponsor_laws.proofs.Parts.{IsSubentry, line_is, offer_is, data_is, balance_part, pool_part, share_nothing}
use Rattle.sponsor_laws.proofs.Bounds.{done_by, payer_passed, have_passed, has_few, has_room, few_more, both_more}
use Rattle.sponsor_laws.proofs.Bounds.{pays_more, HasRoom}
use Rattle.sponsor_laws.proofs.Changes.{at_one_is_instead}

module _ (old : EntryMap) (h : IsEven old) where
  -- ---- entries that aren't accounts

  -- a new entry, for which counts went up by what it counts
  added : (p : Shift) (m : EntryMap) (e : LedgerEntry) → IsShifted p no_shift old m → get old (key_of e) ≡ None
      → account_in e.body ≡ None → ((count : Count) (id : AccountId) → counted_for count id e ≡ p count id)
      → ((id : AccountId) → Names e id → HasAccount old id)
      → ((id : AccountId) → total SubEntries id old + p SubEntries id ≤ 1000)
      → ((id : AccountId) → total SubEntries id old + total Sponsoring id old +
      (p SubEntries id + p Sponsoring id) ≤ 4294967295) → IsEven (put m e)
  added p m e s free plain balanced names few fits = inserted p no_shift old m e h s (record {
    balanced = λ count id. let none : part_of (counted_for count id) (get old (key_of e)) ≡ 0 =
        ap (part_of (counted_for count id)) free in let is = balanced count id in omega arith;
    sums = λ account count is. absurd (cc);
    items = λ account is. absurd (cc);
    names = λ id n. exists_put m e id (exists_after p no_shift old m id s (names id n));
    few = λ id. let le = few id in omega arith;
    fits = λ id. let le = fits id in omega arith;
  })

  no_signer_named : {P : Type 0} (e : LedgerEntry) (id : AccountId) → account_in e.body ≡ None → NamesSigner e id → P
  no_signer_named e id plain n = absurd (let is = n.is in cc)

  sponsored_body : (s : Option AccountId) (e : LedgerEntry) → (sponsored_entry s e).body ≡ e.body
  sponsored_body None e = refl
  sponsored_body (Some s) e = refl

  sponsored_sponsor : (s : Option AccountId) (e : LedgerEntry) → sponsor_of e ≡ None
      → sponsor_of (sponsored_entry s e) ≡ s
  sponsored_sponsor None e none = none
  sponsored_sponsor (Some s) e none = refl

  added_subentry : (ctx : Ctx) (owner : AccountId) (k : ℕ) (e : LedgerEntry) (new : EntryMap)
      → IsSubentry e.body owner k → get old (key_of e) ≡ None → sponsor_of e ≡ None
      → HasAccount old owner → HasAccount old (payer_of ctx owner) → IsApart ctx owner
      → map_after_adding_subentry ctx e owner k old ≡ Ok new → IsEven new
  added_subentry ctx owner k e new is free none exists payer_exists apart done =
      let s = open_sponsor ctx owner in
      let e' = sponsored_entry s e in
      let m = map_after_counting owner k s old in
      let tests = have_passed ctx old owner k (put m e') new done in
      let p : Shift = plus no_shift (at_one SubEntries k owner) in
      let second = shifted_counting no_shift no_shift k old old h.own (unshifted old h.own) owner s in
      let same_body = sponsored_body s e in
      let payer_is : (x : AccountId) → s ≡ Some x → payer_of ctx owner ≡ x = λ x pays. ap (payer_by owner) pays in
      subst IsEven (done_by (subentry_tests_at ctx old owner k) (put m e') new done)
      (added (plus p (shared k (Some owner) s)) m e' second (ap (λ b. get old (key_of_body b)) same_body
      ∙ free) (ap account_in same_body ∙ is.no_account)
      (λ count id.
      let split = counted_split count id e' in
      let pays : share count id (multiplicity e'.body) (owner_of e'.body) (sponsor_of e')
      ≡ share count id k (Some owner) s =
      λ i. share count id ((ap multiplicity same_body ∙ is.times) i) ((ap owner_of same_body ∙ is.owns) i)
      (sponsored_sponsor s e none i) in
      let part : own_part count id e'.body ≡ at_one SubEntries k owner count id = ap (own_part count id) same_body
      ∙ is.parts count id in
      omega arith)
      (λ id names. elim names [
        | inl owns ↦ let same : owner ≡ id = (let is_owner = sym (ap owner_of same_body ∙ is.owns) ∙ owns in cc) in
            subst (HasAccount old) same exists
        | inr (inl pays) ↦ subst (HasAccount old) (payer_is id (sym (sponsored_sponsor s e none) ∙ pays)) payer_exists
        | inr (inr n) ↦ no_signer_named e' id (ap account_in same_body ∙ is.no_account) n
      ])
      (λ id. let le = few_more old owner id k h (has_few old owner k h exists tests.not_full) in omega arith)
      (λ id. let le = both_more old id owner s k h (has_room old owner k h exists tests.owner) (λ x pays. (
        subst (λ y. HasRoom old y k) (payer_is x pays) (has_room old (payer_of ctx owner) k h payer_exists tests.payer),
        apart x pays,
      )) in omega arith))

  added_balance : (ctx : Ctx) (payer : AccountId) (balance : ClaimableBalanceEntry) (e : LedgerEntry) (new : EntryMap)
      → e.body ≡ body.ClaimableBalance balance → get old (key_of e) ≡ None
      → HasAccount old payer → map_after_adding_balance ctx e payer (length balance.claimants) old ≡ Ok new → IsEven new
  added_balance ctx payer balance e new is free exists done =
      let k : ℕ = length balance.claimants in
      let e' = with_sponsor (Some payer) e in
      let m = map_with_more Sponsoring k payer old in
      let first = shifted_raise no_shift no_shift Sponsoring k payer old old h.own (unshifted old h.own) in
      let over = payer_passed ctx old payer k (put m e') new done in
      subst IsEven (done_by (payer_tests_at ctx old payer k) (put m e') new done)
      (added (plus no_shift (at_one Sponsoring k payer)) m e' first free (ap account_in is)
      (λ count id.
      let split = counted_split count id e' in
      let pays : share count id (multiplicity e.body) (owner_of e.body) (Some payer)
      ≡ at_one Sponsoring k payer count id = ap (λ b. share count id (multiplicity b) (owner_of b) (Some payer)) is
      ∙ shared_payer count id payer k in
      let part : own_part count id e.body ≡ 0 = ap (own_part count id) is ∙ balance_part count id balance in
      omega arith)
      (λ id names. elim names [
        | inl owns ↦ absurd (let none : owner_of e.body ≡ None = ap owner_of is in cc)
        | inr (inl pays) ↦ let same : payer ≡ id = cc in subst (HasAccount old) same exists
        | inr (inr n) ↦ no_signer_named e' id (ap account_in is) n
      ])
      (λ id. let le = all_few old id h in omega arith)
      (λ id. let le = pays_more old id (Some payer) k h (λ x pays. let same : payer ≡ x = cc in
      subst (λ y. HasRoom old y k) same (has_room old payer k h exists over)) in omega arith))

  added_pool : (pool : LiquidityPoolEntry) (e : LedgerEntry) → e.body ≡ body.LiquidityPool pool
      → get old (key_of e) ≡ None → sponsor_of e ≡ None → IsEven (put old e)
  added_pool pool e is free none = added no_shift old e (unshifted old h.own) free (ap account_in is)
      (λ count id.
      let split = counted_split count id e in
      let pays : share count id (multiplicity e.body) (owner_of e.body) (sponsor_of e) ≡ 0 =
      ap (λ b. share count id (multiplicity b) (owner_of b) (sponsor_of e)) is
      ∙ share_nothing count id None (sponsor_of e) in
      let part : own_part count id e.body ≡ 0 = ap (own_part count id) is ∙ pool_part count id pool in
      omega arith)
      (λ id names. elim names [
        | inl owns ↦ absurd (let nobody : owner_of e.body ≡ None = ap owner_of is in cc)
        | inr (inl pays) ↦ absurd (cc)
        | inr (inr n) ↦ no_signer_named e id (ap account_in is) n
      ])
      (λ id. let le = all_few old id h in omega arith)
      (λ id. let le = all_fit old id h in omega arith)

  -- ---- accounts

  -- what an account without signers counts of its own
  empty_part : (count : Count) (id : AccountId) (account : AccountEntry) → account.signers ≡ []
      → signer_sponsors account ≡ [] → own_part count id (body.Account account) ≡ 0
  empty_part SubEntries id account none unsponsored =
      nothing_if (is_same_account account.account_id id) (length account.signers) (ap length none)
  empty_part Sponsoring id account none unsponsored = ap (count_by (is_this id)) unsponsored
  empty_part Sponsored id account none unsponsored = nothing_if (is_same_account account.account_id id)
      (count_by is_there (signer_sponsors account)) (ap (count_by is_there) unsponsored)

  no_signer_sponsors : (account : AccountEntry) → IsNewAccount account → signer_sponsors account ≡ []
  no_signer_sponsors account fresh = nil_from_length (signer_sponsors account) (as_many account fresh.items
      ∙ ap length fresh.signers)

  -- a new account, whose counts are what its entry counts
  added_account : (p : Shift) (m : EntryMap) (e : LedgerEntry) (account : AccountEntry) → IsShifted p no_shift old m
      → get old (key_of e) ≡ None → e.body ≡ body.Account account
      → account.signers ≡ [] → signer_sponsors account ≡ [] → ((count : Count) (id : AccountId)
      → share count id 2 (Some account.account_id) (sponsor_of e) ≡ p count id)
      → ((count : Count) → count_in count account ≡ p count account.account_id)
      → ((s : AccountId) → sponsor_of e ≡ Some s → HasAccount old s) → ((id : AccountId) → p SubEntries id ≡ 0)
      → ((id : AccountId) → total SubEntries id old + total Sponsoring id old + p Sponsoring id ≤ 4294967295)
      → IsEven (put m e)
  added_account p m e account s free is none unsponsored balanced counts exists no_subs fits =
      inserted p no_shift old m e h s (record {
        balanced = λ count id.
            let nothing : part_of (counted_for count id) (get old (key_of e)) ≡ 0 =
            ap (part_of (counted_for count id)) free in
            let split = counted_split count id e in
            let pays : share count id (multiplicity e.body) (owner_of e.body) (sponsor_of e)
            ≡ share count id 2 (Some account.account_id) (sponsor_of e) =
            ap (λ b. share count id (multiplicity b) (owner_of b) (sponsor_of e)) is in
            let part : own_part count id e.body ≡ 0 = ap (own_part count id) is
            ∙ empty_part count id account none unsponsored in
            let same = balanced count id in
            omega arith;
        sums = λ other count holds.
            let same : account ≡ other = (let its = ap account_in is in cc) in
            subst (λ (x : AccountEntry). count_in count x + 0 ≡ total count x.account_id old + p count x.account_id)
            same (
            let nothing = unstanding_total count account.account_id old h (λ existing.
            let entry = account_entry old account.account_id existing.0 existing.1 in
            let its : get old (key.Account account.account_id) ≡ None = ap (get old) (sym (ap key_of_body is)) ∙ free in
            let found = entry.1.0 in
            cc) in
            let sum = counts count in
            omega arith);
        items = λ other holds. let same : account ≡ other = (let its = ap account_in is in cc) in
            subst HasItems same (has_items account (ap length unsponsored ∙ sym (ap length none)));
        names = λ id names. elim names [
          | inl owns ↦ let same : account.account_id ≡ id = (let its = ap owner_of is in cc) in
              subst (HasAccount (put m e)) same (exists_inserted m e account (ap account_in is))
          | inr (inl pays) ↦ exists_put m e id (exists_after p no_shift old m id s (exists id pays))
          | inr (inr n) ↦ absurd (let same : account ≡ n.account =
              (let its = ap account_in is in let holds = n.is in cc) in
              nil_contains_nothing (Some id) (subst (λ xs. Contains xs (Some id)) (sym (ap signer_sponsors same)
              ∙ unsponsored) n.sponsor))
        ];
        few = λ id. let le = all_few old id h in let nothing = no_subs id in omega arith;
        fits = λ id. let le = fits id in let nothing = no_subs id in omega arith;
      })

  added_unsponsored : (e : LedgerEntry) (account : AccountEntry) → e.body ≡ body.Account account
      → get old (key_of e) ≡ None → sponsor_of e ≡ None → IsNewAccount account → IsEven (put old e)
  added_unsponsored e account is free none fresh = added_account no_shift old e account
      (unshifted old h.own) free is fresh.signers (no_signer_sponsors account fresh)
      (λ count id. ap (share count id 2 (Some account.account_id)) none
      ∙ shared_none count id 2 (Some account.account_id)) fresh.counts (λ s pays. absurd (cc)) (λ id. refl)
      (λ id. let le = all_fit old id h in omega arith)

  added_sponsored : (ctx : Ctx) (s : AccountId) (e : LedgerEntry) (account : AccountEntry) (new : EntryMap)
      → e.body ≡ body.Account account → get old (key_of e) ≡ None → IsNewAccount account → HasAccount old s
      → s ≢ account.account_id → map_after_adding_account ctx e account (Some s) old ≡ Ok new → IsEven new
  added_sponsored ctx s e account new is free fresh exists apart done =
      let more = with_more Sponsored 2 account in
      let e' : LedgerEntry = with_sponsor (Some s) (record e { body = body.Account more }) in
      let m = map_with_more Sponsoring 2 s old in
      let parts = with_count-keeps Sponsored (count_in Sponsored account + 2) account in
      let p : Shift = shared 2 (Some account.account_id) (Some s) in
      let own_free : get old (key.Account account.account_id) ≡ None = ap (get old) (sym (ap key_of_body is)) ∙ free in
      let first = shifted_raise no_shift no_shift Sponsoring 2 s old old h.own (unshifted old h.own) in
      let second = shifted_as (plus no_shift (at_one Sponsoring 2 s)) no_shift p no_shift old m
      (λ x y other there holds count.
      let others = apart_ids account.account_id other.account_id (λ same.
      let at : key.Account account.account_id ≡ x = ap key.Account same ∙ sym (account_key y.body other holds)
      ∙ h.own x y there in
      let found = ap (get old) at ∙ there in
      cc) in
      let none = elsewhere_none Sponsored count 2 account.account_id other.account_id others in
      let both = shared_both count other.account_id account.account_id s 2 in
      (omega arith, refl)) first in
      subst IsEven (done_by (payer_tests_at ctx old s 2) (put m e') new done)
      (added_account p m e' more second (ap (λ x. get old (key.Account x)) parts.id ∙ own_free) refl
      (parts.signers ∙ fresh.signers) (parts.sponsors ∙ no_signer_sponsors account fresh)
      (λ count id. ap (λ x. share count id 2 (Some x) (Some s)) parts.id)
      (λ count.
      let is_count = with_count-count Sponsored count (count_in Sponsored account + 2) account in
      let sum = instead_plus Sponsored count (count_in Sponsored account) (count_in count account) 2
      (λ e. ap (λ c. count_in c account) e) in
      let nothing = fresh.counts count in
      let both = shared_both count more.account_id account.account_id s 2 in
      let mine = at_one_is_instead Sponsored count 2 account.account_id more.account_id parts.id in
      let none = elsewhere_none Sponsoring count 2 s more.account_id
      (apart_ids s more.account_id (λ same. apart (same ∙ parts.id))) in
      omega arith)
      (λ x pays. let same : s ≡ x = cc in subst (HasAccount old) same exists)
      (λ id. refl)
      (λ id. pays_more old id (Some s) 2 h (λ x pays. let same : s ≡ x = cc in
      subst (λ y. HasRoom old y 2) same (has_room old s 2 h exists
      (payer_passed ctx old s 2 (put m e') new done)))))

-- ---- all kinds

module _ (ctx : Ctx) (owner : AccountId) (e : LedgerEntry) (old new : EntryMap) (h : IsEven old)
    (addable : IsAddable ctx owner e old) where
  subentry_of : (b : LedgerEntryBody) (own : AccountId) (k : ℕ) → e.body ≡ b → IsSubentry e.body own k
      → IsSubentry e.body owner k
  subentry_of b own k is sub = subst (λ x. IsSubentry e.body x k) (addable.owned own sub.owns) sub

  account_added : (account : AccountEntry) → e.body ≡ body.Account account → ((s : AccountId)
      → open_sponsor ctx owner ≡ Some s → HasAccount old s)
      → map_after_adding_account ctx e account (open_sponsor ctx owner) old ≡ Ok new → IsEven new
  account_added account is exists done =
      let fresh = addable.new_account account (ap account_in is) in
      elim (open_sponsor ctx owner) as (λ o. open_sponsor ctx owner ≡ o
      → map_after_adding_account ctx e account o old ≡ Ok new → IsEven new) [
        | None ↦ λ none added. subst IsEven (done_by (own_tests ctx account) (put old e) new added)
            (added_unsponsored old h e account is addable.free addable.unsponsored fresh)
        | Some s ↦ λ some added. added_sponsored old h ctx s e account new is addable.free fresh (exists s some)
            (λ same. addable.apart s some (same ∙ addable.owned account.account_id (ap owner_of is))) added
      ] refl done

  added_by : (b : LedgerEntryBody) → e.body ≡ b → HaveToExist ctx owner b old
      → map_after_adding_by ctx owner e (charge_of b) (account_in b) old ≡ Ok new → IsEven new
  added_by (body.Account account) is exist done = account_added account is exist done
  added_by (body.ClaimableBalance balance) is exist done =
      added_balance old h ctx (payer_of ctx owner) balance e new is addable.free exist done
  added_by (body.LiquidityPool pool) is exist done = subst IsEven (cc)
      (added_pool old h pool e is addable.free addable.unsponsored)
  added_by (body.TrustLine line) is exist done =
      added_subentry old h ctx owner (line_multiplicity line.asset) e new
      (subentry_of _ _ _ is
      (line_is e.body line is)) addable.free addable.unsponsored exist.0 exist.1 addable.apart done
  added_by (body.Offer offer) is exist done = added_subentry old h ctx owner 1 e new
      (subentry_of _ _ _ is
      (offer_is e.body offer is)) addable.free addable.unsponsored exist.0 exist.1 addable.apart done
  added_by (body.Data data_entry) is exist done = added_subentry old h ctx owner 1 e new
      (subentry_of _ _ _ is
      (data_is e.body data_entry is)) addable.free addable.unsponsored exist.0 exist.1 addable.apart done

pub adding_keeps : AddingKeeps
adding_keeps ctx owner entry old new kept addable done = kept_of new
    (added_by ctx owner entry old new (even old kept) addable entry.body refl addable.existing done)
