-- Sequence numbers that are set: what they leave of an account, and of a legal state.
use Rattle.legal_rules.proofs.Prelude.{◌≡◌, refl, sym, ap, subst, ◌∙◌, inr, ℕ, Option, Some, None, arith, ints, ℤ, pos}
use Rattle.legal_rules.proofs.Prelude.{◌+ℤ◌, ◌-ℤ◌, ◌≤ℤ◌, AccountId, AccountEntry, EntryMap}
use Rattle.legal_rules.proofs.Prelude.{account_at, with_account, available, greatest_i64, View, lumens_of, view}
use Rattle.legal_rules.proofs.Prelude.{nothing_owed, IsAccountInRange, IsEntryLegal, IsLegalOwing, add_sub_self}
use Rattle.legal_rules.proofs.Prelude.{add_zero, pools_in, second_in, same_sponsored, same_sponsoring}
use Rattle.hash_ids.specs.ledger_types.declared.account.AccountEntryExtensionV3.{AccountEntryExtensionV3}
use Rattle.sponsor_laws.specs.entry_slots.AccountExtensions.{num_sponsored, num_sponsoring, with_seq_num}
use Rattle.sponsor_laws.specs.reserve_rules.Reserve.{kept_for}
use Rattle.legal_rules.specs.ChangeLaws.{KeepsAggregates}
use Rattle.legal_rules.specs.PaymentLaws.{SeqNumsKeep}
use Rattle.legal_rules.proofs.Bounded.{account_legal}
use Rattle.legal_rules.proofs.Changed.{account_changed}
use Rattle.legal_rules.proofs.Leaving.{IsNext}
use Rattle.legal_rules.proofs.Legality.{owing_nothing, legal_of}
use Rattle.legal_rules.proofs.Steps.{legal_as}

-- ---- the account

module _ (n : ℤ) (a : AccountEntry) where
  pub seq_num_balance : (ext : Option AccountEntryExtensionV3) → (with_seq_num n ext a).balance ≡ a.balance
  seq_num_balance None = refl
  seq_num_balance (Some ext) = refl

  pub seq_num_aggregates : (ext : Option AccountEntryExtensionV3) → KeepsAggregates a (with_seq_num n ext a)
  seq_num_aggregates None = record {
    id = refl;
    subentries = refl;
    sponsoring = refl;
    sponsored = refl;
    liabilities = refl;
    signers = refl;
    sponsors = refl;
  }
  seq_num_aggregates (Some ext) = record {
    id = refl;
    subentries = refl;
    sponsoring = same_sponsoring a.signers (second_in a.ext);
    sponsored = same_sponsored a.signers (second_in a.ext);
    liabilities = refl;
    signers = refl;
    sponsors = refl;
  }

  pub seq_num_range : (ext : Option AccountEntryExtensionV3) → pos 0 ≤ℤ n → n ≤ℤ greatest_i64 → IsAccountInRange a
      → IsAccountInRange (with_seq_num n ext a)
  seq_num_range None low high r = record {
    range = record {
      balance = r.range.balance;
      buying = r.range.buying;
      selling = r.range.selling;
      fits = r.range.fits;
    };
    seq_num = low;
    greatest_seq_num = high;
    flags = r.flags;
    home_domain = r.home_domain;
    signers = r.signers;
  }
  seq_num_range (Some ext) low high r = record {
    range = record {
      balance = r.range.balance;
      buying = r.range.buying;
      selling = r.range.selling;
      fits = r.range.fits;
    };
    seq_num = low;
    greatest_seq_num = high;
    flags = r.flags;
    home_domain = r.home_domain;
    signers = r.signers;
  }

-- ---- what it can spend

same_available : (was a : AccountEntry) (base : ℕ) → KeepsAggregates was a → a.balance ≡ was.balance
    → available a base ≡ available was base
same_available was a base keeps balance i =
    balance i -ℤ kept_for (keeps.subentries i) (keeps.sponsoring i) (keeps.sponsored i) base
    -ℤ (keeps.liabilities i).selling

no_less : (x y : ℤ) → y ≡ x → x ≤ℤ y
no_less x y same = omega (arith, ints)

pub seq_num_next : (n : ℤ) (a : AccountEntry) (base : ℕ) (ext : Option AccountEntryExtensionV3)
    → IsNext base (pos 0) a (with_seq_num n ext a)
seq_num_next n a base ext =
    let keeps = seq_num_aggregates n a ext in
    record {
      id = keeps.id;
      balance = seq_num_balance n a ext ∙ sym (add_zero a.balance);
      covered = inr (no_less _ _ (same_available a (with_seq_num n ext a) base keeps (seq_num_balance n a ext)));
    }

-- ---- the state

-- An account is changed so that its sequence number is set to n, whatever asset is asked for.
pub seq_num_legal : (v : View) (id_pool : ℕ) (sum : ℤ) (m : EntryMap) (id : AccountId)
    (f : AccountEntry → AccountEntry) (a : AccountEntry) (n : ℤ) (ext : Option AccountEntryExtensionV3)
    → f a ≡ with_seq_num n ext a → IsLegalOwing v id_pool nothing_owed sum m → account_at m id ≡ Some a → pos 0 ≤ℤ n
    → n ≤ℤ greatest_i64 → IsLegalOwing v id_pool nothing_owed sum (with_account m id f)
seq_num_legal v id_pool sum m id f a n ext is legal exists low high =
    let r = (account_legal v id_pool nothing_owed sum m id a legal exists).range in
    let balance = ap (λ (x : AccountEntry). x.balance) is ∙ seq_num_balance n a ext in
    legal_as v (IsEntryLegal id_pool) nothing_owed nothing_owed _ sum (with_account m id f)
    (account_changed v id_pool nothing_owed sum m id f a legal exists
    (subst (KeepsAggregates a) (sym is) (seq_num_aggregates n a ext))
    (subst IsAccountInRange (sym is) (seq_num_range n a ext low high r)))
    (λ kind k. refl)
    (ap (λ x. sum +ℤ (lumens_of v.asset x -ℤ lumens_of v.asset a.balance)) balance
    ∙ add_sub_self sum (lumens_of v.asset a.balance))

pub seq_nums_keep : SeqNumsKeep
seq_nums_keep h m id a n ext legal exists low high =
    legal_of h (pools_in m) (with_account m id (with_seq_num n ext)) legal.header
    (seq_num_legal (view m) h.id_pool (h.total_coins -ℤ h.fee_pool) m id (with_seq_num n ext) a n ext refl
    (owing_nothing h m legal) exists low high)
