-- An account for which something counts exists, and states at least as much.
use Rattle.legal_rules.proofs.Prelude.{◌≡◌, refl, ap, ◌∙◌, ℕ, ◌≤◌, Option, Some, None, arith, ints, ℤ, pos, ◌+ℤ◌, ◌≤ℤ◌}
use Rattle.legal_rules.proofs.Prelude.{get, AccountId, AccountEntry, LedgerEntry, LedgerEntryBody, LedgerKey, key_of}
use Rattle.legal_rules.proofs.Prelude.{key_of_body, EntryMap, account_of, account_at, Count, count_in, total, EachEntry}
use Rattle.legal_rules.proofs.Prelude.{part_at_most, Kind, Subentries, Sponsoring, Sponsored, View, counted, stated}
use Rattle.legal_rules.proofs.Prelude.{stated_at, Owed, IsEntryLegal, IsLegalOwing}
use Rattle.hash_ids.specs.ledger_types.declared.entry.LedgerEntryBody.TheVariants as body
use Rattle.hash_ids.specs.ledger_types.declared.key.LedgerKey.TheVariants as key
use Rattle.sponsor_laws.specs.sponsor_rules.declared.count.Count.TheVariants as count
use Rattle.legal_rules.proofs.Lows.{counted_low}
use Rattle.legal_rules.proofs.Weighing.{total_of}
use Rattle.legal_rules.proofs.Numbers.{natural_at_most}

-- the aggregate of a count
abbrev pub aggregate_of : Count → Kind
aggregate_of count.SubEntries = Subentries
aggregate_of count.Sponsoring = Sponsoring
aggregate_of count.Sponsored = Sponsored

-- an account that exists and states at least c
pub record ExistsWith (which : Count) (c : ℕ) (m : EntryMap) (id : AccountId) : Type 0 where
  pub account : AccountEntry
  pub exists : account_at m id ≡ Some account
  pub enough : c ≤ count_in which account

states_count : (which : Count) (a : AccountEntry)
    → stated (aggregate_of which) (body.Account a) ≡ pos (count_in which a)
states_count count.SubEntries a = refl
states_count count.Sponsoring a = refl
states_count count.Sponsored a = refl

too_few : (c : ℕ) (s : ℤ) → 1 ≤ c → pos c ≤ℤ s → s ≡ pos 0 → ⊥
too_few c s some le none = omega (arith, ints)

by_body : (which : Count) (c : ℕ) (m : EntryMap) (id : AccountId) (e : LedgerEntry) (b : LedgerEntryBody)
    → e.body ≡ b → get m (key.Account id) ≡ Some e → key_of_body b ≡ key.Account id
    → pos c ≤ℤ stated (aggregate_of which) b → ExistsWith which c m id
unfolding account_at
by_body which c m id e (body.Account a) is there own le = record {
  account = a;
  exists = ap account_of there ∙ ap (λ b. account_of (Some (record e { body = b }))) is;
  enough = natural_at_most c (count_in which a) _ le (states_count which a);
}
by_body which c m id e other is there own le = absurd (cc)

pub by_entry : (which : Count) (c : ℕ) (m : EntryMap) (id : AccountId) (o : Option LedgerEntry)
    → get m (key.Account id) ≡ o → EachEntry (λ k e. key_of e ≡ k) m → 1 ≤ c
    → pos c ≤ℤ stated_at (aggregate_of which) o → ExistsWith which c m id
by_entry which c m id None there keyed some le = absurd (too_few c _ some le refl)
by_entry which c m id (Some e) there keyed some le = by_body which c m id e e.body refl there
    (keyed (key.Account id) e there) le

states_all : (c counts all owes states : ℤ) → c ≤ℤ counts → counts ≤ℤ all → all ≡ (owes +ℤ states) → owes ≤ℤ pos 0
    → c ≤ℤ states
states_all c counts all owes states le most is none = omega (arith, ints)

module _ (v : View) (id_pool : ℕ) (owed : Owed) (sum : ℤ) (m : EntryMap)
    (legal : IsLegalOwing v id_pool owed sum m) where
  -- what an entry counts is stated, in an aggregate that doesn't owe
  pub counted_stated : (kind : Kind) (k q : LedgerKey) (e : LedgerEntry) (c : ℤ) → owed kind k ≤ℤ pos 0
      → get m q ≡ Some e → c ≤ℤ counted v kind k e → c ≤ℤ stated_at kind (get m k)
  counted_stated kind k q e c settled there le =
      let low : EachEntry (λ r x. pos 0 ≤ℤ counted v kind k x) m =
      λ r x at. counted_low id_pool v kind k x (legal.entries r x at).range in
      states_all c (counted v kind k e) (total (counted v kind k) m) (owed kind k) (stated_at kind (get m k)) le
      (part_at_most (counted v kind k) m q e low there) (total_of v (IsEntryLegal id_pool) owed sum m legal kind k)
      settled

  pub counted_exists : (which : Count) (id : AccountId) (c : ℕ) (k : LedgerKey) (e : LedgerEntry)
      → owed (aggregate_of which) (key.Account id) ≤ℤ pos 0 → get m k ≡ Some e
      → pos c ≤ℤ counted v (aggregate_of which) (key.Account id) e → 1 ≤ c → ExistsWith which c m id
  counted_exists which id c k e settled there le some =
      by_entry which c m id (get m (key.Account id)) refl legal.keyed some
      (counted_stated (aggregate_of which) (key.Account id) k e (pos c) settled there le)
