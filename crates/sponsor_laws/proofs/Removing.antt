-- Removing an entry keeps counts equal to their sums.
use Rattle.sponsor_laws.proofs.Prelude as prelude
use prelude.{◌≡◌, ◌≢◌, inl, inr, refl, sym, ap, subst, ◌∙◌, ℕ, ◌≤◌, false, [], length, Some, None, arith, if◌then◌else◌}
use prelude.{get, AccountId, AccountEntry, ClaimableBalanceEntry, LiquidityPoolEntry, LedgerEntry, LedgerEntryBody}
use prelude.{LedgerKey, key_of, key_of_body, EntryMap, erase, SubEntries, Sponsoring, Sponsored, account_in, HasAccount}
use prelude.{sponsor_of, charge_of, line_multiplicity, multiplicity, owner_of, map_after_releasing, is_same_account}
use prelude.{map_after_discounting, map_without_charge, map_after_removing_entry, signer_sponsors, subentries_for}
use prelude.{total, counted_for, AreKept, IsRemovable, IsBare, RemovingKeeps, is_itself, erase_there, nil_from_length}
use prelude.{accounts_exact}
use Rattle.sponsor_rules.specs.ledger_types.declared.entry.LedgerEntryBody.TheVariants as body
use Rattle.sponsor_rules.specs.ledger_types.declared.key.LedgerKey.TheVariants as key
use Rattle.sponsor_laws.proofs.Accounts.{share, own_part, counted_split, as_many}
use Rattle.sponsor_laws.proofs.Even.{IsEven, Names, even, kept_of, account_of_entry, account_key, account_entry}
use Rattle.sponsor_laws.proofs.Shifts.{Shift, at_one, plus, no_shift, IsShifted, unshifted, apart_ids}
use Rattle.sponsor_laws.proofs.Paying.{shared, shifted_discounting, shifted_payer}
use Rattle.sponsor_laws.proofs.Settling.{erased, exists_after, exists_erased}
use Rattle.sponsor_laws.proofs.Parts.{pays_for, is_paid_for, in_total, enough, IsSubentry, line_is, offer_is, data_is}
use Rattle.sponsor_laws.proofs.Parts.{no_account_key, balance_part, pool_part, share_nothing, share_of_others}
use Rattle.sponsor_laws.proofs.Parts.{bare_part, owned_counts, account_or_not}

exists_beside : (m : EntryMap) (k : LedgerKey) (e : LedgerEntry) (id : AccountId) → key_of e ≡ k
    → account_in e.body ≡ None → HasAccount m id → HasAccount (erase m k) id
exists_beside m k e id own none exists = exists_erased m k id (λ same. no_account_key e.body id none (own
    ∙ sym same)) exists

module _ (old : EntryMap) (h : IsEven old) (k : LedgerKey) (e : LedgerEntry) (there : get old k ≡ Some e) where
  -- what other entries name still exists, where no account is taken away
  rest_exists : (q : Shift) (m : EntryMap) → IsShifted no_shift q old m → account_in e.body ≡ None
      → (x : LedgerKey) (y : LedgerEntry) (id : AccountId) → x ≢ k → get old x ≡ Some y → Names y id
      → HasAccount (erase m k) id
  rest_exists q m s none x y id apart at names = exists_beside m k e id (h.own k e there) none
      (exists_after no_shift q old m id s (h.names x y id at names))

  removed_subentry : (owner : AccountId) (n : ℕ) → IsSubentry e.body owner n
      → IsEven (erase (map_after_discounting owner n (sponsor_of e) old) k)
  removed_subentry owner n is =
      let subs : n ≤ counted_for SubEntries owner e =
      (let part = is.parts SubEntries owner in let own = ap (λ t. if t then n else 0) (is_itself owner) in
      let split = counted_split SubEntries owner e in omega arith) in
      let q : Shift = plus no_shift (at_one SubEntries n owner) in
      let second = shifted_discounting no_shift no_shift n old old h.own (unshifted old h.own) owner (sponsor_of e)
      (enough no_shift SubEntries n owner old k e h there subs refl) (λ s pays. (
        enough no_shift Sponsored n owner old k e h there
            (subst (λ x. x ≤ counted_for Sponsored owner e) is.times (is_paid_for e s owner pays is.owns)) refl,
        enough no_shift Sponsoring n s old k e h there
            (subst (λ x. x ≤ counted_for Sponsoring s e) is.times (pays_for e s pays)) refl,
      )) in
      erased (plus q (shared n (Some owner) (sponsor_of e))) old
      (map_after_discounting owner n (sponsor_of e) old) k e h second there
      (λ count id exists.
      let split = counted_split count id e in
      let part = is.parts count id in
      let pays : share count id (multiplicity e.body) (owner_of e.body) (sponsor_of e)
      ≡ share count id n (Some owner) (sponsor_of e) =
      λ i. share count id (is.times i) (is.owns i) (sponsor_of e) in
      omega arith)
      (rest_exists (plus q (shared n (Some owner) (sponsor_of e)))
      (map_after_discounting owner n (sponsor_of e) old) second is.no_account)

  -- ---- claimable balances and pools

  removed_balance : (balance : ClaimableBalanceEntry) → e.body ≡ body.ClaimableBalance balance
      → IsEven (erase (map_after_releasing (length balance.claimants) (sponsor_of e) old) k)
  removed_balance balance is =
      let n : ℕ = length balance.claimants in
      let s = sponsor_of e in
      let times : multiplicity e.body ≡ n = ap multiplicity is in
      let first = shifted_payer no_shift no_shift n old old h.own (unshifted old h.own) s
      (λ x pays. enough no_shift Sponsoring n x old k e h there
      (subst (λ m. m ≤ counted_for Sponsoring x e) times (pays_for e x pays)) refl) in
      erased (plus no_shift (shared n None s)) old (map_after_releasing n s old) k e h first there
      (λ count id exists.
      let split = counted_split count id e in
      let part : own_part count id e.body ≡ 0 = ap (own_part count id) is ∙ balance_part count id balance in
      let pays : share count id (multiplicity e.body) (owner_of e.body) s ≡ share count id n None s =
      ap (λ b. share count id (multiplicity b) (owner_of b) s) is in
      omega arith)
      (rest_exists (plus no_shift (shared n None s)) (map_after_releasing n s old) first (ap account_in is))

  removed_pool : (pool : LiquidityPoolEntry) → e.body ≡ body.LiquidityPool pool → IsEven (erase old k)
  removed_pool pool is = erased no_shift old old k e h (unshifted old h.own) there
      (λ count id exists.
      let split = counted_split count id e in
      let part : own_part count id e.body ≡ 0 = ap (own_part count id) is ∙ pool_part count id pool in
      let pays : share count id (multiplicity e.body) (owner_of e.body) (sponsor_of e) ≡ 0 =
      ap (λ b. share count id (multiplicity b) (owner_of b) (sponsor_of e)) is
      ∙ share_nothing count id None (sponsor_of e) in
      omega arith)
      (rest_exists no_shift old (unshifted old h.own) (ap account_in is))

  -- ---- accounts

  module _ (account : AccountEntry) (is : e.body ≡ body.Account account) (bare : IsBare old account) where
    its_key : k ≡ key.Account account.account_id
    its_key = sym (h.own k e there) ∙ ap key_of_body is

    no_subentries : total SubEntries account.account_id old ≡ 0
    no_subentries = sym (h.sums k e account SubEntries there (ap account_in is)) ∙ bare.subentries

    no_sponsors : signer_sponsors account ≡ []
    no_sponsors =
        let many = as_many account (h.items k e account there (ap account_in is)) in
        let own : subentries_for account.account_id e.body ≡ length account.signers =
        ap (subentries_for account.account_id) is
        ∙ ap (λ t. if t then length account.signers else 0) (is_itself account.account_id) in
        let le = in_total old k e SubEntries account.account_id there in
        let none = no_subentries in
        nil_from_length (signer_sponsors account) (omega arith)

    -- nothing else names the account
    unnamed : (x : LedgerKey) (y : LedgerEntry) → x ≢ k → get old x ≡ Some y → Names y account.account_id → ⊥
    unnamed x y apart at (inl owns) = account_or_not ⊥ y.body
        (λ none. let once = owned_counts y.body account.account_id none owns in
        let le = in_total old x y SubEntries account.account_id at in let nothing = no_subentries in
        absurd (omega arith))
        (λ other holds. let same : other.account_id ≡ account.account_id =
        (let its = ap owner_of (accounts_exact.body y.body other holds) in cc) in
        apart (sym (h.own x y at) ∙ account_key y.body other holds ∙ ap key.Account same ∙ sym its_key))
    unnamed x y apart at (inr (inl pays)) = bare.sponsors.entries x y at pays
    unnamed x y apart at (inr (inr n)) = bare.sponsors.signers n.account.account_id n.account
        (account_of_entry old x y n.account h.own at n.is) n.sponsor

    -- an account that still exists is another one
    another : (m : EntryMap) (id : AccountId) → HasAccount (erase m k) id
        → is_same_account account.account_id id ≡ false
    another m id exists = apart_ids account.account_id id (λ same.
        let entry = account_entry (erase m k) id exists.0 exists.1 in
        let gone : get (erase m k) (key.Account id) ≡ None = ap (get (erase m k)) (ap key.Account (sym same)
        ∙ sym its_key) ∙ erase_there m k in
        let found = entry.1.0 in
        cc)

    removed_account : IsEven (erase (map_after_releasing 2 (sponsor_of e) old) k)
    removed_account =
        let s = sponsor_of e in
        let times : multiplicity e.body ≡ 2 = ap multiplicity is in
        let m = map_after_releasing 2 s old in
        let first = shifted_payer no_shift no_shift 2 old old h.own (unshifted old h.own) s
        (λ x pays. enough no_shift Sponsoring 2 x old k e h there
        (subst (λ n. n ≤ counted_for Sponsoring x e) times (pays_for e x pays)) refl) in
        erased (plus no_shift (shared 2 None s)) old m k e h first there
        (λ count id exists.
        let apart = another m id exists in
        let split = counted_split count id e in
        let part : own_part count id e.body ≡ 0 = ap (own_part count id) is
        ∙ bare_part count id account no_sponsors apart in
        let pays : share count id (multiplicity e.body) (owner_of e.body) s ≡ share count id 2 None s =
        ap (λ b. share count id (multiplicity b) (owner_of b) s) is
        ∙ share_of_others count id account.account_id 2 s apart in
        omega arith)
        (λ x y id apart at names. exists_erased m k id
        (λ same. let its : id ≡ account.account_id = (let keys : key.Account id ≡ key.Account account.account_id = same
        ∙ its_key in cc) in unnamed x y apart at (subst (Names y) its names))
        (exists_after no_shift (plus no_shift (shared 2 None s)) old m id first (h.names x y id at names)))

-- ---- all kinds

removed_by : (old : EntryMap) (k : LedgerKey) (e : LedgerEntry) (b : LedgerEntryBody) → e.body ≡ b → IsEven old
    → get old k ≡ Some e → IsRemovable k old → IsEven (erase (map_without_charge (charge_of b) (sponsor_of e) old) k)
removed_by old k e (body.Account account) is h there removable =
    removed_account old h k e there account is (removable e account there (ap account_in is))
removed_by old k e (body.ClaimableBalance balance) is h there removable = removed_balance old h k e there balance is
removed_by old k e (body.LiquidityPool pool) is h there removable = removed_pool old h k e there pool is
removed_by old k e (body.TrustLine line) is h there removable =
    removed_subentry old h k e there line.account_id (line_multiplicity line.asset) (line_is e.body line is)
removed_by old k e (body.Offer offer) is h there removable =
    removed_subentry old h k e there offer.seller_id 1 (offer_is e.body offer is)
removed_by old k e (body.Data data_entry) is h there removable =
    removed_subentry old h k e there data_entry.account_id 1 (data_is e.body data_entry is)

pub removing_keeps : RemovingKeeps
removing_keeps key old kept removable = elim (get old key) as (λ o. get old key ≡ o
    → AreKept (map_after_removing_entry key old o)) [
      | None ↦ λ none. kept
      | Some e ↦ λ there. kept_of _ (removed_by old key e e.body refl (even old kept) there removable)
    ] refl
