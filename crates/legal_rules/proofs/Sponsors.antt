-- What the sponsor of an entry adds to what it counts.
use Rattle.legal_rules.proofs.Prelude as prelude
use prelude.{◌≡◌, refl, sym, ap, ◌∙◌, ℕ, ◌+◌, Bool, true, false, Option, Some, None, arith, ints, ℤ, pos, neg_ℤ, ◌+ℤ◌}
use prelude.{◌-ℤ◌, if◌then◌else◌, count_by, AccountId, LedgerEntry, LedgerKey, key_of, sponsor_of, with_sponsor}
use prelude.{multiplicity, owner_of, is_there, is_key, for_account, signer_sponsors_in, for_each, Kind, Sponsoring}
use prelude.{Sponsored, View, stated, weight, Owed, nothing_owed, in_aggregate, plus, less, add_zero, zero_add}
use Rattle.hash_ids.specs.ledger_types.declared.key.LedgerKey.TheVariants as key
use Rattle.sponsor_laws.proofs.entry_slots_proofs.RecordedSponsor.{recorded_sponsor}

-- ---- what aggregates owe for what is paid

-- for n reserves of an owner, if somebody pays them
abbrev pub paid_aggregates : ℕ → (owner payer : Option AccountId) → Owed
paid_aggregates n owner None kind k = pos 0
paid_aggregates n owner (Some x) Sponsored k = for_account k owner n
paid_aggregates n owner (Some x) Sponsoring k = for_account k (Some x) n
paid_aggregates n owner (Some x) kind k = pos 0

-- of that the owner's part
abbrev pub owner_aggregates : ℕ → AccountId → Option AccountId → Owed
owner_aggregates n id None = nothing_owed
owner_aggregates n id (Some x) = in_aggregate Sponsored (key.Account id) (pos n)

-- and the payer's
abbrev pub payer_aggregates : ℕ → Option AccountId → Owed
payer_aggregates n None = nothing_owed
payer_aggregates n (Some x) = in_aggregate Sponsoring (key.Account x) (pos n)

pub split_aggregates : (n : ℕ) (id : AccountId) (o : Option AccountId) (kind : Kind) (k : LedgerKey)
    → paid_aggregates n (Some id) o kind k ≡ plus (owner_aggregates n id o) (payer_aggregates n o) kind k
split_aggregates n id None kind k = refl
split_aggregates n id (Some x) Sponsored k = sym (add_zero _)
split_aggregates n id (Some x) Sponsoring k = sym (zero_add _)
split_aggregates n id (Some x) kind k = refl

pub unowned_aggregates : (n : ℕ) (o : Option AccountId) (kind : Kind) (k : LedgerKey)
    → paid_aggregates n None o kind k ≡ payer_aggregates n o kind k
unowned_aggregates n None kind k = refl
unowned_aggregates n (Some x) Sponsored k = refl
unowned_aggregates n (Some x) Sponsoring k = refl
unowned_aggregates n (Some x) kind k = refl

-- ---- an entry and its sponsor

-- the same entry without a sponsor
abbrev pub unsponsored : LedgerEntry → LedgerEntry
unsponsored e = record e { ext = None }

more_if : (t : Bool) (a b : ℕ) (s : ℤ) → ((if t then pos (a + b) else pos 0) -ℤ s)
    ≡ (((if t then pos (0 + b) else pos 0) -ℤ s) +ℤ (if t then pos a else pos 0))
more_if true a b s = omega (arith, ints)
more_if false a b s = omega (arith, ints)

more_for : (k : LedgerKey) (o : Option AccountId) (a b : ℕ) (s : ℤ)
    → (for_account k o (a + b) -ℤ s) ≡ ((for_account k o (0 + b) -ℤ s) +ℤ for_account k o a)
more_for k None a b s = omega (arith, ints)
more_for k (Some id) a b s = more_if (is_key (key.Account id) k) a b s

more_by : (x y s : ℤ) → ((x +ℤ y) -ℤ s) ≡ (((pos 0 +ℤ y) -ℤ s) +ℤ x)
more_by x y s = omega (arith, ints)

module _ (v : View) (e : LedgerEntry) where
  abbrev states : Kind → LedgerKey → ℤ
  states kind k = if is_key (key_of e) k then stated kind e.body else pos 0

  abbrev signed : ℕ
  signed = count_by is_there (signer_sponsors_in e.body)

  abbrev IsWeighed : Option AccountId → Kind → LedgerKey → Type 0
  IsWeighed o kind k = weight v kind k e
      ≡ (weight v kind k (unsponsored e) +ℤ paid_aggregates (multiplicity e.body) (owner_of e.body) o kind k)

  by_sponsor : (o : Option AccountId) → sponsor_of e ≡ o → (kind : Kind) (k : LedgerKey) → IsWeighed o kind k
  by_sponsor None is Sponsored k =
      (λ i. for_account k (owner_of e.body) ((if is_there (is i) then multiplicity e.body else 0) + signed)
      -ℤ states Sponsored k) ∙ sym (add_zero _)
  by_sponsor None is Sponsoring k =
      (λ i. (for_account k (is i) (multiplicity e.body) +ℤ for_each k (signer_sponsors_in e.body))
      -ℤ states Sponsoring k) ∙ sym (add_zero _)
  by_sponsor None is kind k = sym (add_zero _)
  by_sponsor (Some x) is Sponsored k =
      (λ i. for_account k (owner_of e.body) ((if is_there (is i) then multiplicity e.body else 0) + signed)
      -ℤ states Sponsored k) ∙ more_for k (owner_of e.body) (multiplicity e.body) signed (states Sponsored k)
  by_sponsor (Some x) is Sponsoring k =
      (λ i. (for_account k (is i) (multiplicity e.body) +ℤ for_each k (signer_sponsors_in e.body))
      -ℤ states Sponsoring k) ∙ more_by (for_account k (Some x) (multiplicity e.body))
      (for_each k (signer_sponsors_in e.body)) (states Sponsoring k)
  by_sponsor (Some x) is kind k = sym (add_zero _)

  pub sponsor_weighs : (kind : Kind) (k : LedgerKey) → IsWeighed (sponsor_of e) kind k
  sponsor_weighs kind k = by_sponsor (sponsor_of e) refl kind k

-- ---- another sponsor

pub recorded : (s : Option AccountId) (e : LedgerEntry) → sponsor_of (with_sponsor s e) ≡ s
recorded s e = recorded_sponsor s e.ext

changed : (w u new p q : ℤ) → w ≡ (u +ℤ p) → new ≡ (u +ℤ q) → new ≡ (w +ℤ (q +ℤ neg_ℤ p))
changed w u new p q is now = omega (arith, ints)

pub recorded_weighs : (v : View) (e : LedgerEntry) (t : Option AccountId) (kind : Kind) (k : LedgerKey)
    → weight v kind k (with_sponsor t e) ≡ (weight v kind k e
    +ℤ plus (paid_aggregates (multiplicity e.body) (owner_of e.body) t)
    (less (paid_aggregates (multiplicity e.body) (owner_of e.body) (sponsor_of e))) kind k)
recorded_weighs v e t kind k = changed (weight v kind k e) (weight v kind k (unsponsored e)) _
    (paid_aggregates (multiplicity e.body) (owner_of e.body) (sponsor_of e) kind k)
    (paid_aggregates (multiplicity e.body) (owner_of e.body) t kind k)
    (sponsor_weighs v e kind k)
    (sponsor_weighs v (with_sponsor t e) kind k ∙ ap (λ o. weight v kind k (unsponsored e)
    +ℤ paid_aggregates (multiplicity e.body) (owner_of e.body) o kind k) (recorded t e))
