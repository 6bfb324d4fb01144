-- Entries that are added and removed, by sponsor_rules' definitions.
use Rattle.legal_rules.proofs.Prelude as prelude
use prelude.{length, ◌≡◌, refl, sym, ap, subst, ◌∙◌, ℕ, List, Option, Some, None, Ok, arith, pos, neg_ℤ, ◌+ℤ◌, ◌-ℤ◌}
use prelude.{get, AccountId, DataEntry, LedgerHeader, LedgerEntry, LedgerEntryBody, LedgerKey, key_of_body, EntryMap}
use prelude.{account_in, sponsor_of, map_after_adding, map_after_adding_by, payer_of, map_without_charge}
use prelude.{map_after_removing_entry, erase, is_key, Kind, Subentries, Sponsoring, Sponsored, View, held, held_in}
use prelude.{view, pools_in, IsLegal, weighed, nothing_owed, plus, less, beside_reserves, IsEntryLegal, IsLegalOwing}
use prelude.{SubentryAdded, BalanceAdded, AccountAdded, SubentryRemoved, BalanceRemoved, EntryMoved, new_data}
use prelude.{AddingDataKeeps, RemovingDataKeeps, MovingKeeps, charge_of, add_neg_zero, add_zero, add_zero_at_most}
use prelude.{zero_sub_zero, zeros_add_to_zero}
use Rattle.hash_ids.specs.ledger_types.declared.entry.LedgerEntryBody.TheVariants as body
use Rattle.hash_ids.specs.ledger_types.declared.key.LedgerKey.TheVariants as key
use Rattle.sponsor_laws.specs.sponsor_rules.declared.charge.Charge.TheVariants as charge
use Rattle.legal_rules.proofs.Adding.{subentry_added}
use Rattle.legal_rules.proofs.Balances.{balance_added, balance_removed}
use Rattle.legal_rules.proofs.NewAccounts.{account_added}
use Rattle.legal_rules.proofs.Removing.{subentry_removed}
use Rattle.legal_rules.proofs.Moving.{moved}
use Rattle.legal_rules.proofs.Subentries.{subentry_of}
use Rattle.legal_rules.proofs.PaidFor.{nothing_settled}
use Rattle.legal_rules.proofs.Steps.{with_body, legal_as}
use Rattle.legal_rules.proofs.Legality.{owing_nothing, legal_of}
use Rattle.legal_rules.proofs.Numbers.{nothing_less}

-- ---- within a transaction

pub subentry_added_so : SubentryAdded
subentry_added_so v id_pool next owed sum ctx owner n entry old new legal is fresh wide range exists ready done =
    subentry_added v id_pool next owed sum ctx owner entry n old legal (record {
      subentry = subentry_of entry.body owner n is;
      free = fresh.free;
      unsponsored = fresh.unsponsored;
      legal = range;
      wide = wide;
      offers = fresh.id_free;
      owner_exists = exists;
      ready = ready;
    }) new (sym (ap (λ c. map_after_adding_by ctx owner entry c (account_in entry.body) old) is) ∙ done)

pub balance_added_so : BalanceAdded
balance_added_so v id_pool owed sum ctx owner b entry old new legal is fresh range exists done =
    let charged : charge_of entry.body ≡ charge.Payer (length b.claimants) = ap charge_of is in
    subst (λ (x : LedgerEntryBody). IsLegalOwing v id_pool owed (sum +ℤ held_in v.asset x) new) is
    (balance_added v id_pool owed sum ctx entry (payer_of ctx owner) (length b.claimants) old new legal charged
    fresh.free
    range exists (sym (ap (λ c. map_after_adding_by ctx owner entry c (account_in entry.body) old) charged) ∙ done))

pub account_added_so : AccountAdded
account_added_so v id_pool owed sum ctx a entry old new legal is bare fresh range ready done =
    let was : entry ≡ with_body entry a = λ i. record entry { body = is i } in
    subst (λ (b : LedgerEntryBody). IsLegalOwing v id_pool owed (sum +ℤ held_in v.asset b) new) (sym is)
    (account_added v id_pool owed sum ctx entry a old legal bare (ap (get old) (sym (ap key_of_body is)) ∙ fresh.free)
    fresh.unsponsored (subst (IsEntryLegal id_pool) was range) ready new
    (subst (λ x. map_after_adding ctx a.account_id x old ≡ Ok new) was done))

pub subentry_removed_so : SubentryRemoved
subentry_removed_so v id_pool owed sum owner n k entry m legal settled there is =
    subst (IsLegalOwing v id_pool (plus owed (less (beside_reserves (weighed v entry))))
    (sum +ℤ neg_ℤ (held v.asset entry)))
    (sym (ap (λ c. erase (map_without_charge c (sponsor_of entry) m) k) is)
    ∙ sym (ap (map_after_removing_entry k m) there))
    (subentry_removed v id_pool owed sum m legal settled owner n k entry there (subentry_of entry.body owner n is))

pub balance_removed_so : BalanceRemoved
balance_removed_so v id_pool owed sum n k entry m legal settled there is =
    subst (IsLegalOwing v id_pool owed (sum +ℤ neg_ℤ (held v.asset entry)))
    (sym (ap (λ c. erase (map_without_charge c (sponsor_of entry) m) k) is)
    ∙ sym (ap (map_after_removing_entry k m) there))
    (balance_removed v id_pool owed sum m k entry n legal settled there is)

pub entry_moved_so : EntryMoved
entry_moved_so v id_pool owed sum ctx k payer old new legal settled exists done =
    moved v id_pool owed sum old legal settled k ctx payer exists new done

-- ---- complete changes

pub moving_keeps : MovingKeeps
moving_keeps h ctx k payer old new legal exists done =
    legal_of h (pools_in old) new legal.header
    (moved (view old) h.id_pool nothing_owed (h.total_coins -ℤ h.fee_pool) old
    (owing_nothing h old legal) nothing_settled
    k ctx payer exists new done)

-- data counts in no aggregate beside its reserve
pub data_settled : (v : View) (e : LedgerEntry) (d : DataEntry) (kind : Kind) (k : LedgerKey)
    → beside_reserves (weighed v (record e { body = body.Data d })) kind k ≡ pos 0
data_settled v e d Subentries k = refl
data_settled v e d Sponsoring k = refl
data_settled v e d Sponsored k = refl
data_settled v e d kind k = nothing_less (is_key (key_of_body (body.Data d)) k)

pub adding_data_keeps : AddingDataKeeps
adding_data_keeps h ctx seq d old new legal range free exists ready done =
    let coins = h.total_coins -ℤ h.fee_pool in
    let entry = new_data seq d in
    legal_of h (pools_in old) new legal.header
    (legal_as (view old) (IsEntryLegal h.id_pool) _ nothing_owed _ coins new
    (subentry_added_so (view old) h.id_pool h.id_pool nothing_owed coins ctx d.account_id 1 entry old new
    (owing_nothing h old legal) refl (record {
      free = free;
      unsponsored = refl;
      id_free = λ id. add_zero_at_most _ (pos 1) (legal.offers id);
    }) (omega arith) (record {
      range = record { body = range; paid = λ some. absurd (some refl) };
      bound = tt;
      few = tt;
      fits = tt;
      filled = tt;
    }) exists ready done)
    (λ kind k. zeros_add_to_zero (pos 0) _ refl (data_settled (view old) entry d kind k)) (add_zero coins))

module _ (h : LedgerHeader) (m : EntryMap) (legal : IsLegal h m) (id : AccountId) (name : List ℕ) where
  abbrev its_key : LedgerKey
  its_key = key.Data id name

  by_body : (e : LedgerEntry) (b : LedgerEntryBody) → e.body ≡ b → get m its_key ≡ Some e → key_of_body b ≡ its_key
      → IsLegal h (map_after_removing_entry its_key m (Some e))
  by_body e (body.Data d) is there own =
      let coins = h.total_coins -ℤ h.fee_pool in
      let e' : LedgerEntry = record e { body = body.Data d } in
      let was : e ≡ e' = λ i. record e { body = is i } in
      let there' : get m its_key ≡ Some e' = there ∙ ap Some was in
      subst (λ x. IsLegal h (map_after_removing_entry its_key m (Some x))) (sym was)
      (legal_of h (pools_in m) _ legal.header (legal_as (view m) (IsEntryLegal h.id_pool) _ nothing_owed _ coins _
      (subentry_removed (view m) h.id_pool nothing_owed coins m (owing_nothing h m legal) nothing_settled d.account_id 1
      its_key e' there' (subentry_of (body.Data d) d.account_id 1 refl))
      (λ kind k. zero_sub_zero _ (data_settled (view m) e d kind k)) (add_neg_zero coins)))
  by_body e other is there own = absurd (cc)

  by_entry : (o : Option LedgerEntry) → get m its_key ≡ o → IsLegal h (map_after_removing_entry its_key m o)
  by_entry None there = legal
  by_entry (Some e) there = by_body e e.body refl there (legal.keyed its_key e there)

pub removing_data_keeps : RemovingDataKeeps
removing_data_keeps h id name m legal = by_entry h m legal id name (get m (key.Data id name)) refl
