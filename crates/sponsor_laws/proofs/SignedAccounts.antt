-- An account that exists in a ledger, with its signers.
use Rattle.sponsor_laws.proofs.Prelude as prelude
use prelude.{◌≡◌, ◌≢◌, inl, inr, refl, ap, subst, ◌∙◌, ℕ, ◌+◌, ◌<◌, ◌≤◌, Bool, true, false, cond, List, length, get_or}
use prelude.{Option, Some, None, Contains, slice_set, nat_lt, arith, if◌then◌else◌, sum_by, count_by, remove, position}
use prelude.{position_or_len, get, sum_by-remove, sum_by-set, get_or-le-sum_by, ltb-true, AccountId, Signer, SignerKey}
use prelude.{AccountEntry, LedgerEntry, EntryMap, Count, SubEntries, Sponsoring, Sponsored, account_in, account_at}
use prelude.{HasAccount, signer_sponsor, owner_of, count_in, index_of, is_this, is_there, signer_sponsors, total}
use prelude.{counted_for, is_itself, accounts_exact}
use Rattle.sponsor_rules.specs.ledger_types.declared.entry.LedgerEntryBody.TheVariants as body
use Rattle.sponsor_rules.specs.ledger_types.declared.key.LedgerKey.TheVariants as key
use Rattle.sponsor_laws.proofs.Accounts.{share, own_part, counted_split, as_many}
use Rattle.sponsor_laws.proofs.Even.{IsEven, account_entry, same_id}
use Rattle.sponsor_laws.proofs.Shifts.{Shift, no_shift}
use Rattle.sponsor_laws.proofs.Paying.{HasEnough}
use Rattle.sponsor_laws.proofs.Parts.{enough}
use Rattle.sponsor_laws.proofs.Edits.{signed, own_signed}
use Rattle.sponsor_laws.proofs.SignerLists.{sponsor_at_index}

pub there_is : (o : Option AccountId) → o ≢ None → is_there o ≡ true
there_is None some = absurd (some refl)
there_is (Some x) some = refl

-- an account that exists, by its entry
pub record IsHeld (old : EntryMap) (id : AccountId) (a : AccountEntry) : Type 0 where
  pub entry : LedgerEntry
  pub there : get old (key.Account id) ≡ Some entry
  pub is : entry.body ≡ body.Account a

pub held_by : (old : EntryMap) (id : AccountId) (a : AccountEntry) → account_at old id ≡ Some a → IsHeld old id a
held_by old id a exists = let found = account_entry old id a exists in
    record { entry = found.0; there = found.1.0; is = accounts_exact.body found.0.body a found.1.1 }

module _ (old : EntryMap) (h : IsEven old) (id : AccountId) (a : AccountEntry) (held : IsHeld old id a) where
  pub own_id : a.account_id ≡ id
  own_id = same_id old id held.entry a h.own held.there (ap account_in held.is)

  pub own_exists : HasAccount old id
  own_exists = h.names (key.Account id) held.entry id held.there (inl (ap owner_of held.is ∙ ap Some own_id))

  pub as_many_sponsors : length (signer_sponsors a) ≡ length a.signers
  as_many_sponsors = as_many a (h.items (key.Account id) held.entry a held.there (ap account_in held.is))

  pub signer_exists : (i : AccountId) → Contains (signer_sponsors a) (Some i) → HasAccount old i
  signer_exists i has = h.names (key.Account id) held.entry i held.there
      (inr (inr (record { account = a; is = ap account_in held.is; sponsor = has })))

  pub own_sum : (count : Count) → count_in count a ≡ total count id old
  own_sum count = h.sums (key.Account id) held.entry a count held.there (ap account_in held.is)
      ∙ ap (λ i. total count i old) own_id

  pub own_of : (count : Count) (i : AccountId) (c : AccountEntry) → c.account_id ≡ id
      → own_part count i (body.Account c) ≡ signed count i id (length c.signers) (signer_sponsors c)
  own_of count i c same = own_signed count i c ∙ ap (λ x. signed count i x (length c.signers) (signer_sponsors c)) same

  -- what is paid for the account itself, where a sponsor pays
  pub own_share : (s : Option AccountId) → share Sponsored a.account_id 1 (Some id) s ≡ cond (is_there s) 1 0
  own_share s = ap (λ i. share Sponsored i 1 (Some id) s) own_id
      ∙ ap (λ t. if is_there s then (if t then 1 else 0) else 0) (is_itself id)

  -- ---- the signer at an index

  module _ (index : ℕ) (within : index < length a.signers) where
    pub index_within : index < length (signer_sponsors a)
    index_within = let all = as_many_sponsors in omega arith

    pub sum-without : (ys : List (Option AccountId)) → ys ≡ remove (signer_sponsors a) index
        → (g : Option AccountId → ℕ) → sum_by g (signer_sponsors a) ≡ sum_by g ys + g (signer_sponsor a index)
    sum-without ys is g =
        let sum = sum_by-remove g (signer_sponsors a) index None index_within in
        let now = ap (sum_by g) is in
        let at = ap g (sponsor_at_index a index) in
        omega arith

    pub sum-with : (ys : List (Option AccountId)) (t : Option AccountId) → ys ≡ slice_set (signer_sponsors a) index t
        → (g : Option AccountId → ℕ)
        → sum_by g ys + g (signer_sponsor a index) ≡ sum_by g (signer_sponsors a) + g t
    sum-with ys t is g =
        let sum = sum_by-set g (signer_sponsors a) index t None index_within in
        let now = ap (sum_by g) is in
        let at = ap g (sponsor_at_index a index) in
        omega arith

    counts_at : (p : Option AccountId → Bool) → cond (p (signer_sponsor a index)) 1 0 ≤ count_by p (signer_sponsors a)
    counts_at p =
        let le = get_or-le-sum_by (λ (o : Option AccountId). cond (p o) 1 0)
        (signer_sponsors a) index None index_within in
        let same : ◌≡◌ {A = ℕ} (cond (p (signer_sponsor a index)) 1 0)
        (cond (p (get_or (signer_sponsors a) index None)) 1 0) =
        ap (λ o. cond (p o) 1 0) (sponsor_at_index a index) in
        omega arith

    -- what the signer counts is within what the account's entry counts
    pub counts_subentry : 1 ≤ counted_for SubEntries id held.entry
    counts_subentry =
        let split = counted_split SubEntries id held.entry in
        let part : own_part SubEntries id held.entry.body ≡ length a.signers = ap (own_part SubEntries id) held.is
        ∙ own_of SubEntries id a own_id ∙ ap (λ t. if t then length a.signers else 0) (is_itself id) in
        omega arith

    pub counts_sponsored : cond (is_there (signer_sponsor a index)) 1 0 ≤ counted_for Sponsored id held.entry
    counts_sponsored =
        let split = counted_split Sponsored id held.entry in
        let part : own_part Sponsored id held.entry.body ≡ count_by is_there (signer_sponsors a) =
        ap (own_part Sponsored id) held.is ∙ own_of Sponsored id a own_id
        ∙ ap (λ t. if t then count_by is_there (signer_sponsors a) else 0) (is_itself id) in
        let le = counts_at is_there in
        omega arith

    counts_sponsoring : (x : AccountId) → signer_sponsor a index ≡ Some x → 1 ≤ counted_for Sponsoring x held.entry
    counts_sponsoring x pays =
        let split = counted_split Sponsoring x held.entry in
        let part : own_part Sponsoring x held.entry.body ≡ count_by (is_this x) (signer_sponsors a) =
        ap (own_part Sponsoring x) held.is ∙ own_of Sponsoring x a own_id in
        let le = counts_at (is_this x) in
        let one : ◌≡◌ {A = ℕ} (cond (is_this x (signer_sponsor a index)) 1 0) 1 = ap (λ o. cond (is_this x o) 1 0) pays
        ∙ ap (λ t. cond t 1 0) (is_itself x) in
        omega arith

    counts_one : (x : AccountId) → signer_sponsor a index ≡ Some x → 1 ≤ counted_for Sponsored id held.entry
    counts_one x pays =
        let one : ◌≡◌ {A = ℕ} (cond (is_there (signer_sponsor a index)) 1 0) 1 = ap (λ o. cond (is_there o) 1 0) pays in
        let le = counts_sponsored in
        omega arith

    -- what its sponsor pays can be released
    pub sponsor_enough : (q : Shift) → q Sponsored id ≡ 0 → ((i : AccountId) → q Sponsoring i ≡ 0) → (x : AccountId)
        → signer_sponsor a index ≡ Some x
        → HasEnough no_shift q Sponsored 1 id old × HasEnough no_shift q Sponsoring 1 x old
    sponsor_enough q none unpaid x pays = (
      enough q Sponsored 1 id old (key.Account id) held.entry h held.there (counts_one x pays) none,
      enough q Sponsoring 1 x old (key.Account id) held.entry h held.there (counts_sponsoring x pays) (unpaid x),
    )

-- an index that is found is within the list
found_within : {X : Type 0} (p : X → Bool) (xs : List X) (index : ℕ) → position p xs ≡ Some index → index < length xs
found_within p xs index found = elim (nat_lt (position_or_len p xs) (length xs)) as
    (λ b. nat_lt (position_or_len p xs) (length xs) ≡ b → cond b (Some (position_or_len p xs)) None ≡ Some index
    → index < length xs) [
      | true ↦ λ lt is. let same : position_or_len p xs ≡ index = cc in
          subst (λ n. n < length xs) same (ltb-true _ _ lt)
      | false ↦ λ lt is. absurd (cc)
    ] refl found

pub index_within_signers : (key : SignerKey) (signers : List Signer) (index : ℕ) → index_of key signers ≡ Some index
    → index < length signers
unfolding index_of
index_within_signers key signers index found = found_within _ signers index found
