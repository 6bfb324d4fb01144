-- An entry that moves to another payer, or to its owner.
use Rattle.legal_rules.proofs.Prelude as prelude
use prelude.{◌≡◌, ◌≢◌, ◌⊎◌, inl, inr, refl, sym, ap, subst, ◌∙◌, ℕ, ◌≤◌, true, false, Option, Some, None, Ok, arith}
use prelude.{ints, ℤ, neg_ℤ, ◌+ℤ◌, if◌then◌else◌, get, AccountId, AccountEntry, ClaimableBalanceEntry, LedgerEntry}
use prelude.{LedgerEntryBody, LedgerKey, key_of_body, EntryMap, account_at, HasAccount, sponsor_of, with_sponsor, Ctx}
use prelude.{charge_of, multiplicity, multiplicity_in, owner_of, owner_in, map_with_recorded, map_with_sponsor}
use prelude.{map_with_other_payer, map_after_moving_between, map_after_moving_owned, map_after_moving_balance}
use prelude.{map_after_moving_by, map_after_moving_entry, map_after_moving, map_after_exchange, with_other_payer}
use prelude.{is_same_account, payer_other_than, move_tests_at, payer_tests_at, apart_accounts, PayerExists, done_by}
use prelude.{payer_passed, other_is, View, held, IsPaidRightly, Owed, plus, less, IsEntryLegal, IsLegalOwing}
use prelude.{AreReservesSettled, add_sub_self}
use Rattle.hash_ids.specs.ledger_types.declared.entry.LedgerEntryBody.TheVariants as body
use Rattle.hash_ids.specs.ledger_types.declared.key.LedgerKey.TheVariants as key
use Rattle.sponsor_laws.specs.sponsor_rules.declared.charge.Charge.{Charge}
use Rattle.sponsor_laws.specs.sponsor_rules.declared.charge.Charge.TheVariants as charge
use Rattle.legal_rules.proofs.Adding.{room_of}
use Rattle.legal_rules.proofs.Needed.{paid_counts}
use Rattle.legal_rules.proofs.Removing.{owns, no_account}
use Rattle.legal_rules.proofs.PaidFor.{payer_has, owner_has}
use Rattle.legal_rules.proofs.Payers.{HasRoom, IsBeside, AreChanged, exchanged, owner_changed}
use Rattle.legal_rules.proofs.Payers.{other_payer_step}
use Rattle.legal_rules.proofs.Sponsors.{paid_aggregates, owner_aggregates, payer_aggregates, split_aggregates}
use Rattle.legal_rules.proofs.Sponsors.{unowned_aggregates}
use Rattle.legal_rules.proofs.Sponsors.{recorded_weighs}
use Rattle.legal_rules.proofs.Steps.{IsAccountEntry, with_body, replace_legal}
use Rattle.legal_rules.proofs.Steps.{legal_as}
use Rattle.legal_rules.proofs.Steps.{same_id_at, account_exists}
use Rattle.legal_rules.proofs.Subentries.{subentry_of, paid_by_other, paid_not_by_owner, legal_recorded}

-- ---- the entry with another sponsor

-- An entry that exists gets another sponsor: its payer and its owner owe so much more.
pub recorded_legal : (v : View) (id_pool : ℕ) (owed : Owed) (sum : ℤ) (m : EntryMap) (k : LedgerKey) (e : LedgerEntry)
    (t : Option AccountId) → IsLegalOwing v id_pool owed sum m → get m k ≡ Some e → IsPaidRightly e.body t
    → IsLegalOwing v id_pool (plus owed (plus (paid_aggregates (multiplicity e.body) (owner_of e.body) t)
    (less (paid_aggregates (multiplicity e.body) (owner_of e.body) (sponsor_of e))))) sum (map_with_sponsor k t m)
unfolding map_with_sponsor
recorded_legal v id_pool owed sum m k e t legal there paid =
    let more = plus (paid_aggregates (multiplicity e.body) (owner_of e.body) t)
    (less (paid_aggregates (multiplicity e.body) (owner_of e.body) (sponsor_of e))) in
    subst (IsLegalOwing v id_pool (plus owed more) sum) (sym (ap (map_with_recorded m t) there))
    (legal_as v (IsEntryLegal id_pool) (plus owed more) (plus owed more) _ sum _
    (replace_legal v (IsEntryLegal id_pool) owed more sum m k e (with_sponsor t e) there legal
    (record { own = refl; params = refl; offers = λ id. refl; aggregates = recorded_weighs v e t })
    (legal_recorded id_pool e t paid (legal.entries k e there)))
    (λ kind q. refl) (add_sub_self sum (held v.asset e)))

-- ---- what has an owner

pub other_apart : (owner : AccountId) (payer : Option AccountId) (x : AccountId) → payer_other_than owner payer ≡ Some x
    → x ≢ owner
other_apart owner None x is = absurd (cc)
other_apart owner (Some payer) x is = elim (is_same_account payer owner) as (λ b. is_same_account payer owner ≡ b
    → (if b then None else Some payer) ≡ Some x → x ≢ owner) [
      | true ↦ λ h none. absurd (cc)
      | false ↦ λ h some. let same : payer ≡ x = cc in subst (λ y. y ≢ owner) same (apart_accounts payer owner h)
    ] refl is

settles : (o ps pt os ot qs qt : ℤ) → qt ≡ (ot +ℤ pt) → qs ≡ (os +ℤ ps)
    → ((((o +ℤ ps) +ℤ neg_ℤ pt) +ℤ (os +ℤ neg_ℤ ot)) +ℤ (qt +ℤ neg_ℤ qs)) ≡ o
settles o ps pt os ot qs qt new old = omega (arith, ints)

account_keys_same : {i j : AccountId} → key.Account i ≡ key.Account j → j ≡ i
account_keys_same same = cc

module _ (v : View) (id_pool : ℕ) (owed : Owed) (sum : ℤ) (m : EntryMap) (legal : IsLegalOwing v id_pool owed sum m)
    (settled : AreReservesSettled owed) (owner : AccountId) (n : ℕ) (k : LedgerKey) (e : LedgerEntry)
    (there : get m k ≡ Some e) (own : owner_of e.body ≡ Some owner) (times : multiplicity e.body ≡ n) (some : 1 ≤ n)
    (a : AccountEntry) (exists : account_at m owner ≡ Some a) (t : Option AccountId)
    (apart : (x : AccountId) → t ≡ Some x → x ≢ owner) where
  abbrev s : Option AccountId
  s = sponsor_of e

  abbrev now : EntryMap
  now = map_with_other_payer owner n s t m

  abbrev Exchanged : Owed
  Exchanged = plus (plus (plus owed (payer_aggregates n s)) (less (payer_aggregates n t)))
      (plus (owner_aggregates n owner s) (less (owner_aggregates n owner t)))

  pub beside_old : IsBeside s (key.Account owner)
  beside_old x is same = paid_not_by_owner e.body owner x own
      (subst (IsPaidRightly e.body) is (legal.entries k e there).range.paid) (account_keys_same same)

  beside_new : IsBeside t (key.Account owner)
  beside_new x is same = apart x is (account_keys_same same)

  pub paid_anew : ((x : AccountId) → t ≡ Some x → HasRoom n m x)
      → AreChanged v id_pool sum Exchanged s t owner a (with_other_payer n s t a) m now
  paid_anew room =
      owner_changed v id_pool sum (plus (plus owed (payer_aggregates n s)) (less (payer_aggregates n t))) _ s t owner a
      (with_other_payer n s t) m (map_after_exchange n s t m)
      (exchanged v id_pool sum n s t owed m legal (payer_has v id_pool owed sum m legal settled k e there n times
      some) room)
      exists beside_old beside_new
      (other_payer_step id_pool n owner s t a (same_id_at m owner a legal.keyed exists)
      (owner_has v id_pool owed sum m legal settled k e there n times some owner a own exists))

  -- the entry that exists once the payers and the owner changed
  pub moved_owned : (e' : LedgerEntry) → IsLegalOwing v id_pool Exchanged sum now → get now k ≡ Some e'
      → owner_of e'.body ≡ Some owner → multiplicity e'.body ≡ n → sponsor_of e' ≡ s
      → IsLegalOwing v id_pool owed sum (map_with_sponsor k t now)
  moved_owned e' changed still own' times' paid' = legal_as v (IsEntryLegal id_pool) _ owed sum sum _
      (recorded_legal v id_pool Exchanged sum now k e' t changed still
      (paid_by_other e'.body owner t own' (λ is. apart owner is refl)))
      (λ kind q. ap (λ x. Exchanged kind q +ℤ x) (λ i. paid_aggregates (times' i) (own' i) t kind q
      +ℤ neg_ℤ (paid_aggregates (times' i) (own' i) (paid' i) kind q))
      ∙ settles (owed kind q) (payer_aggregates n s kind q) (payer_aggregates n t kind q)
      (owner_aggregates n owner s kind q)
      (owner_aggregates n owner t kind q) _ _ (split_aggregates n owner t kind q) (split_aggregates n owner s kind q))
      refl

  -- what moves to nobody and had nobody stays; else it passed the tests
  by_tests : (ctx : Ctx) (o : Option AccountId) (new : EntryMap) → ((x : AccountId) → t ≡ Some x → HasAccount m x)
      → s ≡ o → (u : Option AccountId) → t ≡ u → map_after_moving_between ctx k owner n o u m ≡ Ok new
      → (m ≡ new) ⊎ ((((x : AccountId) → t ≡ Some x → HasRoom n m x)) × (map_with_sponsor k t now ≡ new))
  by_tests ctx None new payer old None to done = inl (cc)
  by_tests ctx None new payer old (Some x) to done =
      let after = map_with_sponsor k (Some x) (map_with_other_payer owner n None (Some x) m) in
      let over = payer_passed ctx m x n after new done in
      inr (
        (λ y is. let same : x ≡ y = cc in subst (HasRoom n m) same (room_of m x n (payer x to) over)),
        (λ i. map_with_sponsor k (to i) (map_with_other_payer owner n (old i) (to i) m))
            ∙ done_by (payer_tests_at ctx m x n) after new done,
      )
  by_tests ctx (Some y) new payer old None to done = inr (
    (λ x is. absurd (cc)),
    (λ i. map_with_sponsor k (to i) (map_with_other_payer owner n (old i) (to i) m))
        ∙ done_by (move_tests_at ctx m owner None n)
        (map_with_sponsor k None (map_with_other_payer owner n (Some y) None m)) new done,
  )
  by_tests ctx (Some y) new payer old (Some x) to done =
      let after = map_with_sponsor k (Some x) (map_with_other_payer owner n (Some y) (Some x) m) in
      let over = payer_passed ctx m x n after new done in
      inr (
        (λ z is. let same : x ≡ z = cc in subst (HasRoom n m) same (room_of m x n (payer x to) over)),
        (λ i. map_with_sponsor k (to i) (map_with_other_payer owner n (old i) (to i) m))
            ∙ done_by (payer_tests_at ctx m x n) after new done,
      )

  pub between : (ctx : Ctx) (new : EntryMap) → ((x : AccountId) → t ≡ Some x → HasAccount m x)
      → map_after_moving_between ctx k owner n s t m ≡ Ok new
      → (m ≡ new) ⊎ ((((x : AccountId) → t ≡ Some x → HasRoom n m x)) × (map_with_sponsor k t now ≡ new))
  between ctx new payer done = by_tests ctx s new payer refl t refl done

-- ---- by what is charged

account_itself : (b : LedgerEntryBody) (id : AccountId) → charge_of b ≡ charge.Itself id
    → (a : AccountEntry) × (b ≡ body.Account a) × (a.account_id ≡ id)
account_itself (body.Account a) id is = (a, refl, let same : a.account_id ≡ id = cc in same)
account_itself other id is = absurd (cc)

module _ (v : View) (id_pool : ℕ) (owed : Owed) (sum : ℤ) (m : EntryMap) (legal : IsLegalOwing v id_pool owed sum m)
    (settled : AreReservesSettled owed) (k : LedgerKey) (e : LedgerEntry) (there : get m k ≡ Some e) (ctx : Ctx)
    (payer : Option AccountId) (exists : PayerExists payer m) (new : EntryMap) where
  abbrev IsLegalNow : EntryMap → Type 0
  IsLegalNow map = IsLegalOwing v id_pool owed sum map

  others_exist : (owner : AccountId) (x : AccountId) → payer_other_than owner payer ≡ Some x → HasAccount m x
  others_exist owner x is = exists x (other_is owner payer x is)

  moved_subentry : (owner : AccountId) (n : ℕ) → charge_of e.body ≡ charge.Subentry owner n
      → map_after_moving_owned ctx k owner n (sponsor_of e) payer m ≡ Ok new → IsLegalNow new
  moved_subentry owner n is done =
      let sub = subentry_of e.body owner n is in
      let own = owns v id_pool owed sum m legal settled owner n k e there sub in
      let t = payer_other_than owner payer in
      elim (between v id_pool owed sum m legal settled owner n k e there sub.owns sub.times sub.some own.account
      own.exists t (other_apart owner payer) ctx new (others_exist owner) done) [
        | inl same ↦ subst IsLegalNow same legal
        | inr moves ↦
            let changed = paid_anew v id_pool owed sum m legal settled owner n k e there sub.owns sub.times sub.some
            own.account own.exists t (other_apart owner payer) moves.0 in
            let apart = no_account v id_pool owed sum m legal settled owner n k e there sub in
            subst IsLegalNow moves.1 (moved_owned v id_pool owed sum m legal settled owner n k e there sub.owns
            sub.times
            sub.some own.account own.exists t (other_apart owner payer) e changed.legal
            (changed.others k (λ x is. apart x) (λ x is. apart x) (apart owner) ∙ there) sub.owns sub.times refl)
      ]

  moved_account : (id : AccountId) → charge_of e.body ≡ charge.Itself id
      → map_after_moving_owned ctx k id 2 (sponsor_of e) payer m ≡ Ok new → IsLegalNow new
  moved_account id is done =
      let own = account_itself e.body id is in
      let a = own.0 in
      let at : key.Account id ≡ k = sym (ap key.Account own.2) ∙ sym (ap key_of_body own.1) ∙ legal.keyed k e there in
      let here : IsAccountEntry m id a e = record { there = ap (get m) at ∙ there; is = own.1 } in
      let existed = account_exists m id a e here in
      let owned = ap owner_in is in
      let times = ap multiplicity_in is in
      let t = payer_other_than id payer in
      let two : 1 ≤ 2 = omega arith in
      elim (between v id_pool owed sum m legal settled id 2 k e there owned times two a existed t (other_apart id payer)
      ctx new (others_exist id) done) [
        | inl same ↦ subst IsLegalNow same legal
        | inr moves ↦
            let changed = paid_anew v id_pool owed sum m legal settled id 2 k e there owned times two a existed t
            (other_apart id payer) moves.0 in
            let b = with_other_payer 2 (sponsor_of e) t a in
            let same : b.account_id ≡ a.account_id = (other_payer_step id_pool 2 id (sponsor_of e) t a own.2
            (owner_has v id_pool owed sum m legal settled k e there 2 times two id a owned existed)).move.id in
            subst IsLegalNow moves.1 (moved_owned v id_pool owed sum m legal settled id 2 k e there owned times two a
            existed
            t (other_apart id payer) (with_body e b) changed.legal
            (sym (ap (get (map_with_other_payer id 2 (sponsor_of e) t m)) at) ∙ changed.entry e here)
            (ap Some (same ∙ own.2)) refl refl)
      ]

  settles_paid : (o ps pt qs qt : ℤ) → qs ≡ ps → qt ≡ pt → (((o +ℤ ps) +ℤ neg_ℤ pt) +ℤ (qt +ℤ neg_ℤ qs)) ≡ o
  settles_paid o ps pt qs qt old now = omega (arith, ints)

  balance_of : (b : LedgerEntryBody) (n : ℕ) → charge_of b ≡ charge.Payer n
      → (c : ClaimableBalanceEntry) × (b ≡ body.ClaimableBalance c)
  balance_of (body.ClaimableBalance c) n is = (c, refl)
  balance_of other n is = absurd (cc)

  key_beside : (c : ClaimableBalanceEntry) → e.body ≡ body.ClaimableBalance c → (x : AccountId) → k ≢ key.Account x
  key_beside c is x same =
      let its : key.ClaimableBalance c.balance_id ≡ key.Account x = sym (ap key_of_body is) ∙ legal.keyed k e there
      ∙ same in
      absurd (cc)

  moved_balance : (n : ℕ) → charge_of e.body ≡ charge.Payer n → (o : Option AccountId) → payer ≡ o
      → map_after_moving_balance ctx k n (sponsor_of e) o m ≡ Ok new → IsLegalNow new
  moved_balance n is None to done = subst IsLegalNow (cc) legal
  moved_balance n is (Some x) to done =
      let c = balance_of e.body n is in
      let s = sponsor_of e in
      let range = (legal.entries k e there).range in
      let times = ap multiplicity_in is in
      let some : 1 ≤ n = subst (λ i. 1 ≤ i) times (paid_counts id_pool e.body s range.body range.paid
      (subst (λ b. IsPaidRightly b s → s ≢ None) (sym c.1) (λ paid. paid) range.paid)) in
      let now = map_after_exchange n s (Some x) m in
      let after = map_with_sponsor k (Some x) now in
      let over = payer_passed ctx m x n after new done in
      let changed = exchanged v id_pool sum n s (Some x) owed m legal
      (payer_has v id_pool owed sum m legal settled k e there n times some)
      (λ y is. let same : x ≡ y = cc in subst (HasRoom n m) same (room_of m x n (exists x to) over)) in
      let apart = key_beside c.0 c.1 in
      let still : get now k ≡ Some e = changed.others k (λ y is. apart y) (λ y is. apart y) ∙ there in
      let owned : owner_of e.body ≡ None = ap owner_in is in
      subst IsLegalNow (done_by (payer_tests_at ctx m x n) after new done)
      (legal_as v (IsEntryLegal id_pool) _ owed sum sum after
      (recorded_legal v id_pool _ sum now k e (Some x) changed.legal still
      (subst (λ b. IsPaidRightly b (Some x)) (sym c.1) (λ none. absurd (cc))))
      (λ kind q. ap (λ y. ((owed kind q +ℤ payer_aggregates n s kind q) +ℤ neg_ℤ (payer_aggregates n (Some x) kind q))
      +ℤ y)
      (λ i. paid_aggregates (times i) (owned i) (Some x) kind q +ℤ neg_ℤ (paid_aggregates (times i) (owned i) s kind q))
      ∙ settles_paid (owed kind q) (payer_aggregates n s kind q) (payer_aggregates n (Some x) kind q) _ _
      (unowned_aggregates n s kind q) (unowned_aggregates n (Some x) kind q)) refl)

  moved_charge : (c : Charge) → charge_of e.body ≡ c → map_after_moving_by ctx k c (sponsor_of e) payer m ≡ Ok new
      → IsLegalNow new
  moved_charge (charge.Itself id) is done = moved_account id is done
  moved_charge (charge.Subentry owner n) is done = moved_subentry owner n is done
  moved_charge (charge.Payer n) is done = moved_balance n is payer refl done
  moved_charge charge.Nobody is done = subst IsLegalNow (cc) legal

module _ (v : View) (id_pool : ℕ) (owed : Owed) (sum : ℤ) (m : EntryMap) (legal : IsLegalOwing v id_pool owed sum m)
    (settled : AreReservesSettled owed) (k : LedgerKey) (ctx : Ctx) (payer : Option AccountId)
    (exists : PayerExists payer m) (new : EntryMap) where
  by_key : (o : Option LedgerEntry) → get m k ≡ o → map_after_moving_entry ctx k payer m o ≡ Ok new
      → IsLegalOwing v id_pool owed sum new
  by_key None there done = subst (IsLegalOwing v id_pool owed sum) (cc) legal
  by_key (Some e) there done = moved_charge v id_pool owed sum m legal settled k e there ctx payer exists new
      (charge_of e.body) refl done

  -- What moves to another payer, or to its owner, leaves aggregates and supply as they were.
  pub moved : map_after_moving ctx k payer m ≡ Ok new → IsLegalOwing v id_pool owed sum new
  moved done = by_key (get m k) refl done
