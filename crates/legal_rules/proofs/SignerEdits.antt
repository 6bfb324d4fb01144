-- An account with other signers, or other sponsors of them: what its aggregates then owe.
use Rattle.legal_rules.proofs.Prelude as prelude
use prelude.{◌≡◌, ◌≢◌, refl, sym, ap, subst, ◌∙◌, ℕ, ◌+◌, ◌<◌, ◌≤◌, Bool, true, false, cond, List, length, get_or}
use prelude.{Option, Some, None, slice_set, arith, ints, length-insert, length-remove, sum_by-insert, sum_by-remove}
use prelude.{sum_by-set, prefix_len-le-length, ℤ, pos, neg_ℤ, ◌+ℤ◌, ◌-ℤ◌, if◌then◌else◌, count_by, insert, remove}
use prelude.{is_lt, AccountId, Signer, AccountEntry, LedgerEntry, LedgerKey, signer_key_cmp, account_liabilities}
use prelude.{num_sponsoring, num_sponsored, signer_sponsor, sponsor_of, index_for, with_sponsors, with_signer}
use prelude.{without_signer, with_signer_sponsor, counts_edited, with_sponsors_core, is_there, signer_sponsors}
use prelude.{sponsors_inserted, sponsors_removed, sponsors_set, sponsor_at_index, is_key, for_account, is_for, Kind}
use prelude.{Subentries, Sponsoring, Sponsored, Selling, Buying, Shares, ShareLines, Uses, View, AreSignersInRange}
use prelude.{weight, Owed, in_aggregate, plus, less, IsEntryLegal}
use Rattle.hash_ids.specs.ledger_types.declared.key.LedgerKey.TheVariants as key
use Rattle.sponsor_laws.specs.sponsor_rules.declared.count.Count.TheVariants as count
use Rattle.legal_rules.proofs.AccountRanges.{AreAlike, keeps_as}
use Rattle.legal_rules.proofs.Sponsors.{paid_aggregates}
use Rattle.legal_rules.proofs.Steps.{with_body, IsStep}

-- c has d signers more than b; of their sponsors one is gone, and one has come
pub record IsEdited (gone entering : Option AccountId) (d : ℤ) (b c : AccountEntry) : Type 0 where
  pub alike : AreAlike b c
  pub subentries : c.num_sub_entries ≡ b.num_sub_entries
  pub sponsoring : num_sponsoring c ≡ num_sponsoring b
  pub sponsored : num_sponsored c ≡ num_sponsored b
  pub signers : pos (length c.signers) ≡ (pos (length b.signers) +ℤ d)
  pub sponsors : (p : Option AccountId → Bool) → p None ≡ false
      → count_by p (signer_sponsors c) + cond (p gone) 1 0 ≡ count_by p (signer_sponsors b) + cond (p entering) 1 0

-- ---- what aggregates owe

pays_none : (o : Option AccountId) (owner : Option AccountId) (k : LedgerKey)
    → paid_aggregates 1 owner o Subentries k ≡ pos 0
pays_none None owner k = refl
pays_none (Some x) owner k = refl

paid_one : (o : Option AccountId) (id : AccountId) (k : LedgerKey) → paid_aggregates 1 (Some id) o Sponsored k
    ≡ (if is_key (key.Account id) k then pos (cond (is_there o) 1 0) else pos 0)
paid_one None id k = elim (is_key (key.Account id) k) as
    (λ t. ◌≡◌ {A = ℤ} (pos 0) (if t then pos 0 else pos 0)) [ true ↦ refl | false ↦ refl ]
paid_one (Some x) id k = refl

pays_one : (o owner : Option AccountId) (k : LedgerKey) → paid_aggregates 1 owner o Sponsoring k ≡ pos
    (cond (is_for k o) 1 0)
pays_one None owner k = refl
pays_one (Some x) owner k = elim (is_key (key.Account x) k) as
    (λ t. ◌≡◌ {A = ℤ} (if t then pos 1 else pos 0) (pos (cond t 1 0))) [ true ↦ refl | false ↦ refl ]

more_signers : (t : Bool) (l' l : ℤ) (s : ℕ) (d z1 z2 : ℤ) → l' ≡ (l +ℤ d) → z1 ≡ pos 0 → z2 ≡ pos 0
    → ((if t then l' else pos 0) -ℤ (if t then pos s else pos 0)) ≡ (((if t then l else pos 0)
    -ℤ (if t then pos s else pos 0)) +ℤ ((if t then d else pos 0) +ℤ (z1 +ℤ neg_ℤ z2)))
more_signers true l' l s d z1 z2 is one two = omega (arith, ints)
more_signers false l' l s d z1 z2 is one two = omega (arith, ints)

more_paid : (t : Bool) (own c' c g m s : ℕ) (z1 z2 : ℤ) → c' + g ≡ c + m → z1 ≡ (if t then pos m else pos 0)
    → z2 ≡ (if t then pos g else pos 0)
    → ((if t then pos (own + c') else pos 0) -ℤ (if t then pos s else pos 0)) ≡ (((if t then pos (own + c) else pos 0)
    -ℤ (if t then pos s else pos 0)) +ℤ (pos 0 +ℤ (z1 +ℤ neg_ℤ z2)))
more_paid true own c' c g m s z1 z2 is one two = omega (arith, ints)
more_paid false own c' c g m s z1 z2 is one two = omega (arith, ints)

pays_more : (own stated : ℤ) (c' c g m : ℕ) (z1 z2 : ℤ) → c' + g ≡ c + m → z1 ≡ pos m → z2 ≡ pos g
    → ((own +ℤ pos c') -ℤ stated) ≡ (((own +ℤ pos c) -ℤ stated) +ℤ (pos 0 +ℤ (z1 +ℤ neg_ℤ z2)))
pays_more own stated c' c g m z1 z2 is one two = omega (arith, ints)

add_no_signers : (x z1 z2 : ℤ) → z1 ≡ pos 0 → z2 ≡ pos 0 → x ≡ (x +ℤ (pos 0 +ℤ (z1 +ℤ neg_ℤ z2)))
add_no_signers x z1 z2 one two = omega (arith, ints)

-- nothing in the aggregates that aren't of reserves
pays_beside : (o : Option AccountId) (owner : Option AccountId) (k : LedgerKey)
    → (paid_aggregates 1 owner o Selling k ≡ pos 0) × (paid_aggregates 1 owner o Buying k ≡ pos 0)
    × (paid_aggregates 1 owner o Shares k ≡ pos 0) × (paid_aggregates 1 owner o ShareLines k ≡ pos 0)
    × (paid_aggregates 1 owner o Uses k ≡ pos 0)
pays_beside None owner k = (refl, refl, refl, refl, refl)
pays_beside (Some x) owner k = (refl, refl, refl, refl, refl)

module _ (gone entering : Option AccountId) (d : ℤ) (b c : AccountEntry) (h : IsEdited gone entering d b c) where
  abbrev More : Owed
  More = plus (in_aggregate Subentries (key.Account b.account_id) d)
      (plus (paid_aggregates 1 (Some b.account_id) entering) (less (paid_aggregates 1 (Some b.account_id) gone)))

  own : (k : LedgerKey) → is_key (key.Account c.account_id) k ≡ is_key (key.Account b.account_id) k
  own k = ap (λ i. is_key (key.Account i) k) h.alike.id

  moves : (v : View) (kind : Kind) (k : LedgerKey) (e : LedgerEntry)
      → weight v kind k (with_body e c) ≡ (weight v kind k (with_body e b) +ℤ More kind k)
  moves v Subentries k e =
      (λ i. (if own k i then pos (length c.signers) else pos 0) -ℤ (if own k i then pos (h.subentries i) else pos 0))
      ∙ more_signers (is_key (key.Account b.account_id) k) (pos (length c.signers)) (pos (length b.signers))
      b.num_sub_entries d _ _ h.signers (pays_none entering (Some b.account_id) k)
      (pays_none gone (Some b.account_id) k)
  moves v Sponsored k e =
      (λ i. (if own k i then pos ((if is_there (sponsor_of e) then 2 else 0) + count_by is_there (signer_sponsors c))
      else pos 0) -ℤ (if own k i then pos (h.sponsored i) else pos 0))
      ∙ more_paid (is_key (key.Account b.account_id) k) (if is_there (sponsor_of e) then 2 else 0)
      (count_by is_there (signer_sponsors c)) (count_by is_there (signer_sponsors b)) (cond (is_there gone) 1 0)
      (cond (is_there entering) 1 0) (num_sponsored b) _ _ (h.sponsors is_there refl) (paid_one entering b.account_id k)
      (paid_one gone b.account_id k)
  moves v Sponsoring k e =
      (λ i. (for_account k (sponsor_of e) 2 +ℤ pos (count_by (is_for k) (signer_sponsors c)))
      -ℤ (if own k i then pos (h.sponsoring i) else pos 0))
      ∙ pays_more (for_account k (sponsor_of e) 2)
      (if is_key (key.Account b.account_id) k then pos (num_sponsoring b) else pos 0)
      (count_by (is_for k) (signer_sponsors c)) (count_by (is_for k) (signer_sponsors b)) (cond (is_for k gone) 1 0)
      (cond (is_for k entering) 1 0) _ _ (h.sponsors (is_for k) refl) (pays_one entering (Some b.account_id) k)
      (pays_one gone (Some b.account_id) k)
  moves v Selling k e =
      (λ i. pos 0 -ℤ (if own k i then (h.alike.liabilities i).selling else pos 0))
      ∙ add_no_signers _ _ _ (pays_beside entering (Some b.account_id) k).0 (pays_beside gone (Some b.account_id) k).0
  moves v Buying k e =
      (λ i. pos 0 -ℤ (if own k i then (h.alike.liabilities i).buying else pos 0))
      ∙ add_no_signers _ _ _ (pays_beside entering (Some b.account_id) k).1 (pays_beside gone (Some b.account_id) k).1
  moves v Shares k e =
      (λ i. pos 0 -ℤ (if own k i then pos 0 else pos 0))
      ∙ add_no_signers _ _ _ (pays_beside entering (Some b.account_id) k).2 (pays_beside gone (Some b.account_id) k).2
  moves v ShareLines k e =
      (λ i. pos 0 -ℤ (if own k i then pos 0 else pos 0))
      ∙ add_no_signers _ _ _ (pays_beside entering (Some b.account_id) k).3 (pays_beside gone (Some b.account_id) k).3
  moves v Uses k e =
      (λ i. pos 0 -ℤ (if own k i then pos 0 else pos 0))
      ∙ add_no_signers _ _ _ (pays_beside entering (Some b.account_id) k).4 (pays_beside gone (Some b.account_id) k).4

  abbrev SignersOf : AccountEntry → Type 0
  SignersOf a = AreSignersInRange a.account_id a.signers (signer_sponsors a)

  -- An account's signers change.
  pub edit_step : (id_pool : ℕ) → (SignersOf b → SignersOf c) → IsStep (IsEntryLegal id_pool) More b c
  edit_step id_pool signers = record {
    move = record { id = h.alike.id; aggregates = moves };
    balance = h.alike.balance;
    keeps = keeps_as id_pool b c h.alike signers (λ few. subst (λ n. n ≤ 1000) (sym h.subentries) few)
        (λ fits. subst (λ n. n ≤ 4294967295) (λ i. sym h.subentries i + sym h.sponsoring i) fits);
  }

-- ---- the three edits

module _ (b : AccountEntry) where
  alike_edited : (change : List (Option AccountId) → List (Option AccountId)) (signers : List Signer) (c : AccountEntry)
      → c ≡ record b { signers = signers; ext = with_sponsors change b.ext } → AreAlike b c
  alike_edited change signers c is =
      let core = with_sponsors_core change b signers in
      record {
        id = ap (λ (a : AccountEntry). a.account_id) is;
        balance = ap (λ (a : AccountEntry). a.balance) is;
        liabilities = ap account_liabilities is ∙ core.liabilities;
        seq_num = ap (λ (a : AccountEntry). a.seq_num) is;
        flags = ap (λ (a : AccountEntry). a.flags) is;
        home_domain = ap (λ (a : AccountEntry). a.home_domain) is;
      }

  none_counts : (p : Option AccountId → Bool) → p None ≡ false → ◌≡◌ {A = ℕ} (cond (p None) 1 0) 0
  none_counts p none = ap (λ t. cond t 1 0) none

  pub edited_with : (s : Signer) (sponsor : Option AccountId) → (sponsor ≢ None → 1 ≤ num_sponsored b)
      → IsEdited None sponsor (pos 1) b (with_signer s sponsor b)
  edited_with s sponsor paid =
      let index = index_for s.key b.signers in
      let change = λ (xs : List (Option AccountId)). insert xs index sponsor in
      let le : index ≤ length b.signers = prefix_len-le-length (λ x. is_lt (signer_key_cmp x.key s.key)) b.signers in
      record {
        alike = alike_edited change (insert b.signers index s) (with_signer s sponsor b) refl;
        subentries = refl;
        sponsoring = counts_edited change count.Sponsoring b (insert b.signers index s);
        sponsored = counts_edited change count.Sponsored b (insert b.signers index s);
        signers = (let more = length-insert b.signers index s le in longer _ _ more);
        sponsors = λ p none.
            let now = ap (count_by p) (sponsors_inserted index s sponsor b paid) in
            let sum = sum_by-insert (λ (o : Option AccountId). cond (p o) 1 0) (signer_sponsors b) index sponsor in
            let nothing = none_counts p none in
            omega arith;
      }
    where
      longer : (n l : ℕ) → n ≡ l + 1 → pos n ≡ (pos l +ℤ pos 1)
      longer n l is = omega (arith, ints)

  pub edited_without : (index : ℕ) → index < length b.signers → length (signer_sponsors b) ≡ length b.signers
      → IsEdited (signer_sponsor b index) None (neg_ℤ (pos 1)) b (without_signer index b)
  edited_without index within items =
      let change = λ (xs : List (Option AccountId)). remove xs index in
      record {
        alike = alike_edited change (remove b.signers index) (without_signer index b) refl;
        subentries = refl;
        sponsoring = counts_edited change count.Sponsoring b (remove b.signers index);
        sponsored = counts_edited change count.Sponsored b (remove b.signers index);
        signers = (let fewer = length-remove b.signers index within in shorter _ _ fewer);
        sponsors = λ p none.
            let now = ap (count_by p) (sponsors_removed index b) in
            let sum = sum_by-remove (λ (o : Option AccountId). cond (p o) 1 0) (signer_sponsors b) index None
            (omega arith) in
            let at : ◌≡◌ {A = ℕ} (cond (p (signer_sponsor b index)) 1 0)
            (cond (p (get_or (signer_sponsors b) index None)) 1 0) =
            ap (λ o. cond (p o) 1 0) (sponsor_at_index b index) in
            let nothing = none_counts p none in
            omega arith;
      }
    where
      shorter : (n l : ℕ) → n + 1 ≡ l → pos n ≡ (pos l +ℤ neg_ℤ (pos 1))
      shorter n l is = omega (arith, ints)

  pub edited_moved : (index : ℕ) (sponsor : Option AccountId) → index < length b.signers
      → length (signer_sponsors b) ≡ length b.signers → (sponsor ≢ None → 1 ≤ num_sponsored b)
      → IsEdited (signer_sponsor b index) sponsor (pos 0) b (with_signer_sponsor index sponsor b)
  edited_moved index sponsor within items paid =
      let change = λ (xs : List (Option AccountId)). slice_set xs index sponsor in
      record {
        alike = alike_edited change b.signers (with_signer_sponsor index sponsor b) refl;
        subentries = refl;
        sponsoring = counts_edited change count.Sponsoring b b.signers;
        sponsored = counts_edited change count.Sponsored b b.signers;
        signers = as_long _;
        sponsors = λ p none.
            let now = ap (count_by p) (sponsors_set index sponsor b paid) in
            let sum = sum_by-set (λ (o : Option AccountId). cond (p o) 1 0) (signer_sponsors b) index sponsor None
            (omega arith) in
            let at : ◌≡◌ {A = ℕ} (cond (p (signer_sponsor b index)) 1 0)
            (cond (p (get_or (signer_sponsors b) index None)) 1 0) =
            ap (λ o. cond (p o) 1 0) (sponsor_at_index b index) in
            omega arith;
      }
    where
      as_long : (l : ℕ) → pos l ≡ (pos l +ℤ pos 0)
      as_long l = omega (arith, ints)
