-- Signers that are added, removed and moved keep a state legal.
use Rattle.legal_rules.proofs.Prelude as prelude
use prelude.{◌≡◌, ◌≢◌, refl, sym, ap, subst, ◌∙◌, ℕ, ◌+◌, ◌<◌, ◌≤◌, Bool, true, false, cond, length, get_or, Option}
use prelude.{Some, None, Ok, arith, ints, get_or-le-sum_by, ℤ, pos, neg_ℤ, ◌+ℤ◌, ◌-ℤ◌, ◌≤ℤ◌, if◌then◌else◌, count_by}
use prelude.{insert, remove, get, AccountId, Signer, AccountEntry, LedgerEntry, EntryMap, same_itself, account_at}
use prelude.{with_account, HasAccount, num_sponsored, signer_sponsor, sponsor_of, unless_first, Ctx, with_more}
use prelude.{with_less, map_after_charging, map_after_releasing, map_after_exchange, with_more_paid, with_less_paid}
use prelude.{with_subentry, without_subentry, with_other_payer, open_sponsor, payer_other_than, is_full, is_over}
use prelude.{subentry_tests_at, payer_tests_at, move_tests_at, index_of, index_for, found_at, found_signer, with_signer}
use prelude.{without_signer, with_signer_sponsor, with_count_is, is_there, signer_sponsors, PayerExists, KeepsParts}
use prelude.{keeps_all, keeps_twice, with_count-keeps, done_by, have_passed, payer_passed, other_is, sponsors_inserted}
use prelude.{sponsors_removed, sponsors_set, sponsor_at_index, is_for, Subentries, View, AreReservesSettled}
use prelude.{IsNewSigner, SignerAdded, SignerRemoved, SignerMoved, AddingSignersKeep, RemovingSignersKeep}
use prelude.{MovingSignersKeep, AreSignersInRange, IsSponsorReady, view, pools_in, Owed, nothing_owed, in_aggregate}
use prelude.{plus, less, IsEntryLegal, IsLegalOwing}
use Rattle.hash_ids.specs.ledger_types.declared.signer.SignerKey.{SignerKey}
use Rattle.hash_ids.specs.ledger_types.declared.key.LedgerKey.TheVariants as key
use Rattle.sponsor_laws.specs.sponsor_rules.declared.count.Count.TheVariants as count
use Rattle.sponsor_laws.specs.sponsor_rules.Signers.{with_counted_signer, map_with_signer, without_counted_signer}
use Rattle.sponsor_laws.specs.sponsor_rules.Signers.{with_moved_signer, map_without_signer}
use Rattle.sponsor_laws.specs.sponsor_rules.Signers.{map_after_moving_signer_between, map_after_moving_found}
use Rattle.sponsor_laws.proofs.SignedAccounts.{index_within_signers}
use Rattle.legal_rules.proofs.AccountRanges.{may_fall}
use Rattle.legal_rules.proofs.Adding.{subentries_may, payers_room, beside_sponsor, room_of}
use Rattle.legal_rules.proofs.Bounded.{account_legal, IsAccountLegal}
use Rattle.legal_rules.proofs.Counting.{neg_in_aggregate, zero_in_aggregate}
use Rattle.legal_rules.proofs.Legality.{owing_nothing, legal_of}
use Rattle.legal_rules.proofs.Lows.{for_account_low}
use Rattle.legal_rules.proofs.Moving.{other_apart}
use Rattle.legal_rules.proofs.Needed.{for_own}
use Rattle.legal_rules.proofs.PaidFor.{nothing_settled}
use Rattle.legal_rules.proofs.Payers.{HasRoom, IsBeside, beside_none, exchanged, owner_changed, subentry_step}
use Rattle.legal_rules.proofs.Payers.{no_subentry_step, other_payer_step}
use Rattle.legal_rules.proofs.SignerEdits.{edit_step, edited_with, edited_without, edited_moved}
use Rattle.legal_rules.proofs.SignerOrder.{signers_with, signers_without, signers_moved}
use Rattle.legal_rules.proofs.Sponsors.{paid_aggregates, owner_aggregates, payer_aggregates, split_aggregates}
use Rattle.legal_rules.proofs.Existing.{ExistsWith, counted_exists}
use Rattle.legal_rules.proofs.Steps.{steps, step_as, legal_as, account_entry, body_there, with_body, same_id_at}

abbrev SignersOf : AccountEntry → Type 0
SignersOf a = AreSignersInRange a.account_id a.signers (signer_sponsors a)

-- ---- what a change of counts leaves of signers

more_paid_parts : (s : Option AccountId) (a : AccountEntry) → KeepsParts a (with_more_paid 1 s a)
more_paid_parts None a = keeps_all a
more_paid_parts (Some x) a = with_count-keeps count.Sponsored _ a

less_paid_parts : (s : Option AccountId) (a : AccountEntry) → KeepsParts a (with_less_paid 1 s a)
less_paid_parts None a = keeps_all a
less_paid_parts (Some x) a = with_count-keeps count.Sponsored _ a

subentry_parts : (s : Option AccountId) (a : AccountEntry) → KeepsParts a (with_subentry 1 s a)
subentry_parts s a = keeps_twice a (with_more count.SubEntries 1 a) (with_subentry 1 s a)
    (with_count-keeps count.SubEntries _ a) (more_paid_parts s (with_more count.SubEntries 1 a))

no_subentry_parts : (s : Option AccountId) (a : AccountEntry) → KeepsParts a (without_subentry 1 s a)
no_subentry_parts s a = keeps_twice a (with_less count.SubEntries 1 a) (without_subentry 1 s a)
    (with_count-keeps count.SubEntries _ a) (less_paid_parts s (with_less count.SubEntries 1 a))

other_payer_parts : (s t : Option AccountId) (a : AccountEntry) → KeepsParts a (with_other_payer 1 s t a)
other_payer_parts s t a = keeps_twice a (with_less_paid 1 s a) (with_other_payer 1 s t a) (less_paid_parts s a)
    (more_paid_parts t (with_less_paid 1 s a))

-- an account of which somebody pays one reserve more has the extension
more_paid_some : (s : Option AccountId) (a : AccountEntry) → s ≢ None → 1 ≤ num_sponsored (with_more_paid 1 s a)
more_paid_some None a some = absurd (some refl)
more_paid_some (Some x) a some = subst (λ n. 1 ≤ n) (sym (with_count_is count.Sponsored _ a)) (omega arith)

same_sponsor : (a b : AccountEntry) (index : ℕ) → KeepsParts a b → signer_sponsor b index ≡ signer_sponsor a index
same_sponsor a b index keeps = sponsor_at_index b index ∙ ap (λ xs. get_or xs index None) keeps.sponsors
    ∙ sym (sponsor_at_index a index)

-- ---- adding

settles_added : (o p own q s s' : ℤ) → s' ≡ neg_ℤ s → q ≡ (own +ℤ p)
    → (((o +ℤ pos 0) +ℤ neg_ℤ p) +ℤ ((s' +ℤ neg_ℤ own) +ℤ (s +ℤ (q +ℤ neg_ℤ (pos 0))))) ≡ o
settles_added o p own q s s' turned is = omega (arith, ints)

module _ (v : View) (id_pool : ℕ) (owed : Owed) (sum : ℤ) (m : EntryMap) (legal : IsLegalOwing v id_pool owed sum m)
    (id : AccountId) (a : AccountEntry) (exists : account_at m id ≡ Some a) where
  own_id : a.account_id ≡ id
  own_id = same_id_at m id a legal.keyed exists

  abbrev IsLegalNow : EntryMap → Type 0
  IsLegalNow new = IsLegalOwing v id_pool owed sum new

  pub added : (ctx : Ctx) (s : Signer) (new : EntryMap) → IsNewSigner id a.signers s → IsSponsorReady ctx id m
      → unless_first (subentry_tests_at ctx m id 1) (map_with_signer id s (open_sponsor ctx id) m) ≡ Ok new
      → IsLegalNow new
  added ctx s new fresh ready done =
      let t = open_sponsor ctx id in
      let tests = have_passed ctx m id 1 (map_with_signer id s t m) new done in
      let full : is_full (Some a) 1 ≡ false = ap (λ o. is_full o 1) (sym exists) ∙ tests.not_full in
      let over : is_over (Some a) 1 ≡ false = ap (λ o. is_over o 1) (sym exists) ∙ tests.owner in
      let b = with_subentry 1 t a in
      let c = with_signer s t b in
      let parts = subentry_parts t a in
      let first = subentry_step id_pool 1 id t a own_id (subentries_may a 1 full over) in
      let paid : (t ≢ None → 1 ≤ num_sponsored b) = more_paid_some t (with_more count.SubEntries 1 a) in
      let named : b.account_id ≡ id = parts.id ∙ own_id in
      let fresh_now : IsNewSigner b.account_id b.signers s = subst (λ i. IsNewSigner i b.signers s) (sym named)
      (subst (λ xs. IsNewSigner id xs s) (sym parts.signers) fresh) in
      let apart : t ≢ Some b.account_id = λ is. ready.other b.account_id is named in
      let second = edit_step None t (pos 1) b c (edited_with b s t paid) id_pool (λ was.
      subst (AreSignersInRange b.account_id (insert b.signers (index_for s.key b.signers) s))
      (sym (sponsors_inserted (index_for s.key b.signers) s t b paid))
      (signers_with b.account_id b.signers (signer_sponsors b) was s t fresh_now apart)) in
      let both = steps (IsEntryLegal id_pool) _ _ a b c first (step_as (IsEntryLegal id_pool) _
      (plus (in_aggregate Subentries (key.Account id) (pos 1))
      (plus (paid_aggregates 1 (Some id) t) (less (paid_aggregates 1 (Some id) None))))
      b c second (λ kind k i. plus (in_aggregate Subentries (key.Account (named i)) (pos 1))
      (plus (paid_aggregates 1 (Some (named i)) t) (less (paid_aggregates 1 (Some (named i)) None))) kind k)) in
      let changed = owner_changed v id_pool sum _ _ None t id a (with_counted_signer s t) m (map_after_charging 1 t m)
      (exchanged v id_pool sum 1 None t owed m legal (λ x none. absurd (cc)) (payers_room ctx id 1 m ready tests.payer))
      exists (beside_none (key.Account id)) (beside_sponsor ctx id m ready) both in
      subst IsLegalNow (done_by (subentry_tests_at ctx m id 1) (map_with_signer id s t m) new done)
      (legal_as v (IsEntryLegal id_pool) _ owed sum sum (map_with_signer id s t m) changed.legal
      (λ kind k. settles_added (owed kind k) (payer_aggregates 1 t kind k) (owner_aggregates 1 id t kind k)
      (paid_aggregates 1 (Some id) t kind k) (in_aggregate Subentries (key.Account id) (pos 1) kind k)
      (in_aggregate Subentries (key.Account id) (neg_ℤ (pos 1)) kind k)
      (neg_in_aggregate Subentries (key.Account id) (pos 1) kind k) (split_aggregates 1 id t kind k)) refl)

-- ---- what a signer counts

module _ (v : View) (id_pool : ℕ) (owed : Owed) (sum : ℤ) (m : EntryMap) (legal : IsLegalOwing v id_pool owed sum m)
    (settled : AreReservesSettled owed) (id : AccountId) (a : AccountEntry) (exists : account_at m id ≡ Some a)
    (index : ℕ) (within : index < length a.signers) where
  abbrev s : Option AccountId
  s = signer_sponsor a index

  its_id : a.account_id ≡ id
  its_id = same_id_at m id a legal.keyed exists

  bounded : IsAccountLegal a
  bounded = account_legal v id_pool owed sum m id a legal exists

  items : length (signer_sponsors a) ≡ length a.signers
  items = bounded.range.signers.items

  e : LedgerEntry
  e = (account_entry m id a exists).0

  there : get m (key.Account id) ≡ Some (with_body e a)
  unfolding e
  there = body_there m id a (account_entry m id a exists).0 (account_entry m id a exists).1

  -- a test that the signer's sponsor passes
  one_of : (p : Option AccountId → Bool) → p s ≡ true → 1 ≤ count_by p (signer_sponsors a)
  one_of p passes =
      let has = items in
      let le = get_or-le-sum_by (λ (o : Option AccountId). cond (p o) 1 0) (signer_sponsors a) index None
      (omega arith) in
      let one : ◌≡◌ {A = ℕ} (cond (p (get_or (signer_sponsors a) index None)) 1 0) 1 =
      ap (λ o. cond (p o) 1 0) (sym (sponsor_at_index a index)) ∙ ap (λ t. cond t 1 0) passes in
      omega arith

  same_account : (which : ExistsWith count.SubEntries 1 m id) → which.account ≡ a
  same_account which = let also = which.exists in cc

  pub counts_subentry : 1 ≤ a.num_sub_entries
  counts_subentry =
      let has = counted_exists v id_pool owed sum m legal count.SubEntries id 1 (key.Account id) (with_body e a)
      (settled.subentries (key.Account id)) there
      (for_own id (Some a.account_id) (length a.signers) (ap Some its_id) (omega arith)) (omega arith) in
      let also = has.exists in
      let accounts : has.account ≡ a = cc in
      subst (λ (b : AccountEntry). 1 ≤ b.num_sub_entries) accounts has.enough

  pub counts_sponsored : (x : AccountId) → s ≡ Some x → 1 ≤ num_sponsored a
  counts_sponsored x is =
      let one = one_of is_there (ap is_there is) in
      let has = counted_exists v id_pool owed sum m legal count.Sponsored id 1 (key.Account id) (with_body e a)
      (settled.sponsored (key.Account id)) there
      (for_own id (Some a.account_id) ((if is_there (sponsor_of e) then 2 else 0) + count_by is_there
      (signer_sponsors a))
      (ap Some its_id) (omega arith)) (omega arith) in
      let also = has.exists in
      let accounts : has.account ≡ a = cc in
      subst (λ (b : AccountEntry). 1 ≤ num_sponsored b) accounts has.enough

  pub counts_sponsoring : (x : AccountId) → s ≡ Some x → ExistsWith count.Sponsoring 1 m x
  counts_sponsoring x is =
      let one = one_of (is_for (key.Account x)) (ap (is_for (key.Account x)) is ∙ same_itself (key.Account x)) in
      counted_exists v id_pool owed sum m legal count.Sponsoring x 1 (key.Account id) (with_body e a)
      (settled.sponsoring (key.Account x)) there
      (more _ _ (for_account_low (key.Account x) (sponsor_of e) 2) one) (omega arith)
    where
      more : (y : ℤ) (n : ℕ) → pos 0 ≤ℤ y → 1 ≤ n → pos 1 ≤ℤ (y +ℤ pos n)
      more y n low some = omega (arith, ints)

  pub paid_by_other : IsBeside s (key.Account id)
  paid_by_other x is here =
      let has = items in
      bounded.range.signers.paid_by_others index None (omega arith)
      (sym (sponsor_at_index a index) ∙ is ∙ ap Some (ids here ∙ sym its_id))
    where
      ids : {i j : AccountId} → key.Account i ≡ key.Account j → j ≡ i
      ids same = cc

  -- ---- removing

  settles_removed : (o p own q s s' : ℤ) → s' ≡ neg_ℤ s → q ≡ (own +ℤ p)
      → (((o +ℤ p) +ℤ neg_ℤ (pos 0)) +ℤ ((s +ℤ own) +ℤ (s' +ℤ (pos 0 +ℤ neg_ℤ q)))) ≡ o
  settles_removed o p own q s s' turned is = omega (arith, ints)

  pub removed : IsLegalOwing v id_pool owed sum
      (with_account (map_after_releasing 1 s m) id (without_counted_signer (record { index = index; sponsor = s })))
  removed =
      let b = without_subentry 1 s a in
      let c = without_signer index b in
      let parts = no_subentry_parts s a in
      let named : b.account_id ≡ id = parts.id ∙ its_id in
      let has = items in
      let as_many : length b.signers ≡ length a.signers = ap length parts.signers in
      let also : length (signer_sponsors b) ≡ length (signer_sponsors a) = ap length parts.sponsors in
      let first = no_subentry_step id_pool 1 id s a its_id counts_subentry
      (may_fall count.SubEntries 1 a bounded.few bounded.fits) counts_sponsored in
      let second = edit_step (signer_sponsor b index) None (neg_ℤ (pos 1)) b c
      (edited_without b index (omega arith) (omega arith)) id_pool (λ was.
      subst (AreSignersInRange b.account_id (remove b.signers index)) (sym (sponsors_removed index b))
      (signers_without b.account_id b.signers (signer_sponsors b) was index (omega arith))) in
      let gone = same_sponsor a b index parts in
      let both = steps (IsEntryLegal id_pool) _ _ a b c first (step_as (IsEntryLegal id_pool) _
      (plus (in_aggregate Subentries (key.Account id) (neg_ℤ (pos 1)))
      (plus (paid_aggregates 1 (Some id) None) (less (paid_aggregates 1 (Some id) s)))) b c second
      (λ kind k i. plus (in_aggregate Subentries (key.Account (named i)) (neg_ℤ (pos 1)))
      (plus (paid_aggregates 1 (Some (named i)) None) (less (paid_aggregates 1 (Some (named i)) (gone i)))) kind k)) in
      let changed = owner_changed v id_pool sum _ _ s None id a
      (without_counted_signer (record { index = index; sponsor = s })) m (map_after_releasing 1 s m)
      (exchanged v id_pool sum 1 s None owed m legal counts_sponsoring (λ x none. absurd (cc)))
      exists paid_by_other (beside_none (key.Account id)) both in
      legal_as v (IsEntryLegal id_pool) _ owed sum sum _ changed.legal
      (λ kind k. settles_removed (owed kind k) (payer_aggregates 1 s kind k) (owner_aggregates 1 id s kind k)
      (paid_aggregates 1 (Some id) s kind k) (in_aggregate Subentries (key.Account id) (pos 1) kind k)
      (in_aggregate Subentries (key.Account id) (neg_ℤ (pos 1)) kind k)
      (neg_in_aggregate Subentries (key.Account id) (pos 1) kind k) (split_aggregates 1 id s kind k)) refl

  -- ---- moving

  settles_moved : (o ps pt os ot qs qt z : ℤ) → z ≡ pos 0 → qt ≡ (ot +ℤ pt) → qs ≡ (os +ℤ ps)
      → ((((o +ℤ ps) +ℤ neg_ℤ pt)) +ℤ ((os +ℤ neg_ℤ ot) +ℤ (z +ℤ (qt +ℤ neg_ℤ qs)))) ≡ o
  settles_moved o ps pt os ot qs qt z none new old = omega (arith, ints)

  pub moved_to : (t : Option AccountId) → ((x : AccountId) → t ≡ Some x → x ≢ id)
      → ((x : AccountId) → t ≡ Some x → HasRoom 1 m x) → IsLegalOwing v id_pool owed sum
      (with_account (map_after_exchange 1 s t m) id (with_moved_signer index s t))
  moved_to t apart room =
      let b = with_other_payer 1 s t a in
      let c = with_signer_sponsor index t b in
      let parts = other_payer_parts s t a in
      let named : b.account_id ≡ id = parts.id ∙ its_id in
      let has = items in
      let as_many : length b.signers ≡ length a.signers = ap length parts.signers in
      let also : length (signer_sponsors b) ≡ length (signer_sponsors a) = ap length parts.sponsors in
      let first = other_payer_step id_pool 1 id s t a its_id counts_sponsored in
      let paid : (t ≢ None → 1 ≤ num_sponsored b) = more_paid_some t (with_less_paid 1 s a) in
      let other : t ≢ Some b.account_id = λ is. apart b.account_id is named in
      let second = edit_step (signer_sponsor b index) t (pos 0) b c
      (edited_moved b index t (omega arith) (omega arith) paid) id_pool (λ was.
      subst (AreSignersInRange b.account_id b.signers) (sym (sponsors_set index t b paid))
      (signers_moved b.account_id b.signers (signer_sponsors b) was index t other)) in
      let gone = same_sponsor a b index parts in
      let both = steps (IsEntryLegal id_pool) _ _ a b c first (step_as (IsEntryLegal id_pool) _
      (plus (in_aggregate Subentries (key.Account id) (pos 0))
      (plus (paid_aggregates 1 (Some id) t) (less (paid_aggregates 1 (Some id) s)))) b c second
      (λ kind k i. plus (in_aggregate Subentries (key.Account (named i)) (pos 0))
      (plus (paid_aggregates 1 (Some (named i)) t) (less (paid_aggregates 1 (Some (named i)) (gone i)))) kind k)) in
      let beside : IsBeside t (key.Account id) = λ x is here. apart x is (ids here) in
      let changed = owner_changed v id_pool sum _ _ s t id a (with_moved_signer index s t) m
      (map_after_exchange 1 s t m)
      (exchanged v id_pool sum 1 s t owed m legal counts_sponsoring room) exists paid_by_other beside both in
      legal_as v (IsEntryLegal id_pool) _ owed sum sum _ changed.legal
      (λ kind k. settles_moved (owed kind k) (payer_aggregates 1 s kind k) (payer_aggregates 1 t kind k)
      (owner_aggregates 1 id s kind k) (owner_aggregates 1 id t kind k) (paid_aggregates 1 (Some id) s kind k)
      (paid_aggregates 1 (Some id) t kind k) (in_aggregate Subentries (key.Account id) (pos 0) kind k)
      (zero_in_aggregate Subentries (key.Account id) kind k) (split_aggregates 1 id t kind k)
      (split_aggregates 1 id s kind k)) refl
    where
      ids : {i j : AccountId} → key.Account i ≡ key.Account j → j ≡ i
      ids same = cc

  -- a signer that had nobody and gets nobody stays; else it passed the tests
  moved_by : (ctx : Ctx) (t : Option AccountId) (new : EntryMap) → ((x : AccountId) → t ≡ Some x → x ≢ id)
      → ((x : AccountId) → t ≡ Some x → HasAccount m x) → (o : Option AccountId) → s ≡ o → (u : Option AccountId)
      → t ≡ u
      → map_after_moving_signer_between ctx id index o u m ≡ Ok new → IsLegalOwing v id_pool owed sum new
  moved_by ctx t new apart exist None old None to done = subst (IsLegalOwing v id_pool owed sum) (cc) legal
  moved_by ctx t new apart exist None old (Some x) to done =
      let after = with_account (map_after_exchange 1 None (Some x) m) id (with_moved_signer index None (Some x)) in
      let over = payer_passed ctx m x 1 after new done in
      subst (IsLegalOwing v id_pool owed sum)
      ((λ i. with_account (map_after_exchange 1 (old i) (to i) m) id (with_moved_signer index (old i) (to i)))
      ∙ done_by (payer_tests_at ctx m x 1) after new done)
      (moved_to t apart (λ y is. let same : x ≡ y = cc in subst (HasRoom 1 m) same (room_of m x 1 (exist x to) over)))
  moved_by ctx t new apart exist (Some y) old None to done =
      let after = with_account (map_after_exchange 1 (Some y) None m) id (with_moved_signer index (Some y) None) in
      subst (IsLegalOwing v id_pool owed sum)
      ((λ i. with_account (map_after_exchange 1 (old i) (to i) m) id (with_moved_signer index (old i) (to i)))
      ∙ done_by (move_tests_at ctx m id None 1) after new done)
      (moved_to t apart (λ x is. absurd (cc)))
  moved_by ctx t new apart exist (Some y) old (Some x) to done =
      let after = with_account (map_after_exchange 1 (Some y) (Some x) m) id
      (with_moved_signer index (Some y) (Some x)) in
      let over = payer_passed ctx m x 1 after new done in
      subst (IsLegalOwing v id_pool owed sum)
      ((λ i. with_account (map_after_exchange 1 (old i) (to i) m) id (with_moved_signer index (old i) (to i)))
      ∙ done_by (payer_tests_at ctx m x 1) after new done)
      (moved_to t apart (λ z is. let same : x ≡ z = cc in subst (HasRoom 1 m) same (room_of m x 1 (exist x to) over)))

-- ---- laws

pub signer_added : SignerAdded
signer_added v id_pool owed sum ctx id a s old new legal exists fresh ready done =
    added v id_pool owed sum old legal id a exists ctx s new fresh ready done

module _ (v : View) (id_pool : ℕ) (owed : Owed) (sum : ℤ) (m : EntryMap) (legal : IsLegalOwing v id_pool owed sum m)
    (settled : AreReservesSettled owed) (id : AccountId) (which : SignerKey) where
  without_at : (a : AccountEntry) → account_at m id ≡ Some a → (o : Option ℕ) → index_of which a.signers ≡ o
      → IsLegalOwing v id_pool owed sum (map_without_signer id m (found_at a o))
  without_at a exists None found = legal
  without_at a exists (Some index) found = removed v id_pool owed sum m legal settled id a exists index
      (index_within_signers which a.signers index found)

  without_in : (o : Option AccountEntry) → account_at m id ≡ o
      → IsLegalOwing v id_pool owed sum (map_without_signer id m (found_signer which o))
  without_in None exists = legal
  without_in (Some a) exists = without_at a exists (index_of which a.signers) refl

  module _ (ctx : Ctx) (payer : Option AccountId) (new : EntryMap) (exist : PayerExists payer m) where
    moved_at : (a : AccountEntry) → account_at m id ≡ Some a → (o : Option ℕ) → index_of which a.signers ≡ o
        → map_after_moving_found ctx id payer m (found_at a o) ≡ Ok new → IsLegalOwing v id_pool owed sum new
    moved_at a exists None found done = subst (IsLegalOwing v id_pool owed sum) (cc) legal
    moved_at a exists (Some index) found done = moved_by v id_pool owed sum m legal settled id a exists index
        (index_within_signers which a.signers index found) ctx (payer_other_than id payer) new (other_apart id payer)
        (λ x is. exist x (other_is id payer x is)) (signer_sponsor a index) refl (payer_other_than id payer) refl done

    moved_in : (o : Option AccountEntry) → account_at m id ≡ o
        → map_after_moving_found ctx id payer m (found_signer which o) ≡ Ok new → IsLegalOwing v id_pool owed sum new
    moved_in None exists done = subst (IsLegalOwing v id_pool owed sum) (cc) legal
    moved_in (Some a) exists done = moved_at a exists (index_of which a.signers) refl done

pub signer_removed : SignerRemoved
signer_removed v id_pool owed sum id which m legal settled =
    without_in v id_pool owed sum m legal settled id which (account_at m id) refl

pub signer_moved : SignerMoved
signer_moved v id_pool owed sum ctx id which payer old new legal settled exist done =
    moved_in v id_pool owed sum old legal settled id which ctx payer new exist (account_at old id) refl done

pub adding_signers_keep : AddingSignersKeep
adding_signers_keep h ctx id a s old new legal exists fresh ready done =
    legal_of h (pools_in old) new legal.header (signer_added (view old) h.id_pool nothing_owed
    (h.total_coins -ℤ h.fee_pool) ctx id a s old new (owing_nothing h old legal) exists fresh ready done)

pub removing_signers_keep : RemovingSignersKeep
removing_signers_keep h id which m legal =
    legal_of h (pools_in m) _ legal.header (signer_removed (view m) h.id_pool nothing_owed
    (h.total_coins -ℤ h.fee_pool) id which m (owing_nothing h m legal) nothing_settled)

pub moving_signers_keep : MovingSignersKeep
moving_signers_keep h ctx id which payer old new legal exist done =
    legal_of h (pools_in old) new legal.header (signer_moved (view old) h.id_pool nothing_owed
    (h.total_coins -ℤ h.fee_pool) ctx id which payer old new (owing_nothing h old legal) nothing_settled exist done)
