-- Lumens that are paid, charged or moved.
use Rattle.legal_rules.proofs.Prelude.{◌≡◌, refl, sym, ◌∙◌, ℕ, Some, arith, ints, ℤ, pos, neg_ℤ, ◌+ℤ◌, ◌-ℤ◌, ◌≤ℤ◌}
use Rattle.legal_rules.proofs.Prelude.{is_eq, AccountId, AccountEntry, LedgerHeader, LedgerEntry, LedgerKey, asset_cmp}
use Rattle.legal_rules.proofs.Prelude.{EntryMap, account_liabilities, account_at, room, greatest_i64, IsInRange, Kind}
use Rattle.legal_rules.proofs.Prelude.{Subentries, View, lumens_of, IsHeaderInRange, view, pools_in, weight, Owed}
use Rattle.legal_rules.proofs.Prelude.{nothing_owed, IsEntryLegal, IsLegalOwing, add_change_if, add_nonnegative}
use Rattle.legal_rules.proofs.Prelude.{add_sub_self, add_zero, sub_nonnegative}
use Rattle.hash_ids.specs.ledger_types.declared.asset.Asset.TheVariants as asset
use Rattle.legal_rules.specs.Payments.{paid, with_paid, with_fee}
use Rattle.legal_rules.specs.PaymentLaws.{FeesKeep, MovesKeep}
use Rattle.legal_rules.proofs.Numbers.{there_and_back, fee_moved}
use Rattle.legal_rules.proofs.Legality.{owing_nothing, legal_of}
use Rattle.legal_rules.proofs.Bounded.{account_legal}
use Rattle.legal_rules.proofs.Steps.{with_body, IsMove, KeepsRange, with_account_legal, legal_as}

-- ---- lumens

paid_unmoved : (delta : ℤ) (a : AccountEntry) (v : View) (kind : Kind) (k : LedgerKey) (e : LedgerEntry)
    → weight v kind k (with_body e (paid delta a)) ≡ weight v kind k (with_body e a)
paid_unmoved delta a v Subentries k e = refl
paid_unmoved delta a v other k e = refl

paid_move : (delta : ℤ) (a : AccountEntry) → IsMove nothing_owed a (paid delta a)
paid_move delta a = record { id = refl; aggregates = λ v kind k e. paid_unmoved delta a v kind k e ∙ sym (add_zero _) }

paid_range : (delta : ℤ) (a : AccountEntry) → IsInRange a → pos 0 ≤ℤ (a.balance +ℤ delta) → delta ≤ℤ room a
    → IsInRange (paid delta a)
paid_range delta a range low le = record {
  balance = low;
  buying = range.buying;
  selling = range.selling;
  fits =
      fits_room a.balance (account_liabilities a).buying delta greatest_i64 le;
}
  where
    fits_room : (balance buying delta greatest : ℤ) → delta ≤ℤ (greatest -ℤ balance -ℤ buying)
        → ((balance +ℤ delta) +ℤ buying) ≤ℤ greatest
    fits_room balance buying delta greatest le = omega (arith, ints)

paid_keeps : (id_pool : ℕ) (delta : ℤ) (a : AccountEntry) → IsInRange (paid delta a)
    → KeepsRange (IsEntryLegal id_pool) a (paid delta a)
paid_keeps id_pool delta a range e was = record {
  range = record {
    body = record {
      range = range;
      seq_num = was.range.body.seq_num;
      greatest_seq_num = was.range.body.greatest_seq_num;
      flags = was.range.body.flags;
      home_domain = was.range.body.home_domain;
      signers = was.range.body.signers;
    };
    paid = was.range.paid;
  };
  bound = tt;
  few = was.few;
  fits = was.fits;
  filled = tt;
}

-- An account is paid, or pays where delta is below 0: the lumens rise by delta, and no aggregate owes more.
pub paid_legal : (v : View) (id_pool : ℕ) (owed : Owed) (lumens : ℤ) (m : EntryMap) (id : AccountId) (delta : ℤ)
    (a : AccountEntry) → IsLegalOwing v id_pool owed lumens m
    → account_at m id ≡ Some a → pos 0 ≤ℤ (a.balance +ℤ delta) → delta ≤ℤ room a
    → IsLegalOwing v id_pool owed (lumens +ℤ lumens_of v.asset delta) (with_paid id delta m)
paid_legal v id_pool owed lumens m id delta a legal exists low le =
    let range = paid_range delta a (account_legal v id_pool owed lumens m id a legal exists).range.range low le in
    legal_as v (IsEntryLegal id_pool) (λ kind k. owed kind k +ℤ nothing_owed kind k) owed _ _ (with_paid id delta m)
    (with_account_legal v (IsEntryLegal id_pool) owed nothing_owed lumens m id (paid delta) a legal exists
    (paid_move delta a) (paid_keeps id_pool delta a range))
    (λ kind k. add_zero (owed kind k)) (add_change_if (is_eq (asset_cmp v.asset asset.Native)) lumens a.balance delta)

-- ---- fees

debit_room : (balance buying greatest fee : ℤ) → pos 0 ≤ℤ fee → (balance +ℤ buying) ≤ℤ greatest
    → neg_ℤ fee ≤ℤ (greatest -ℤ balance -ℤ buying)
debit_room balance buying greatest fee low fits = omega (arith, ints)

pub debit_legal : (v : View) (id_pool : ℕ) (owed : Owed) (lumens : ℤ) (m : EntryMap) (id : AccountId) (amount : ℤ)
    (a : AccountEntry) → IsLegalOwing v id_pool owed lumens m
    → account_at m id ≡ Some a → pos 0 ≤ℤ amount → amount ≤ℤ a.balance
    → IsLegalOwing v id_pool owed (lumens +ℤ lumens_of v.asset (neg_ℤ amount)) (with_paid id (neg_ℤ amount) m)
debit_legal v id_pool owed lumens m id amount a legal exists low le =
    let range = (account_legal v id_pool owed lumens m id a legal exists).range.range in
    paid_legal v id_pool owed lumens m id (neg_ℤ amount) a legal exists (sub_nonnegative a.balance amount le)
    (debit_room a.balance (account_liabilities a).buying greatest_i64 amount low range.fits)

header_with_fee : (h : LedgerHeader) (fee : ℤ) → IsHeaderInRange h → pos 0 ≤ℤ fee → IsHeaderInRange (with_fee fee h)
header_with_fee h fee r low = record {
  version = r.version;
  seq_low = r.seq_low;
  seq_high = r.seq_high;
  base_fee = r.base_fee;
  base_reserve = r.base_reserve;
  total_coins = r.total_coins;
  fee_pool = add_nonnegative h.fee_pool fee r.fee_pool low;
  id_pool = r.id_pool;
  flags = r.flags;
}

pub fees_keep : FeesKeep
fees_keep h m id a fee legal exists low le =
    let charged = debit_legal (view m) h.id_pool nothing_owed (h.total_coins -ℤ h.fee_pool) m id fee a
    (owing_nothing h m legal) exists low le in
    legal_of (with_fee fee h) (pools_in m) (with_paid id (neg_ℤ fee) m) (header_with_fee h fee legal.header low)
    (legal_as (view m) (IsEntryLegal h.id_pool) nothing_owed nothing_owed _ _ (with_paid id (neg_ℤ fee) m) charged
    (λ kind k. refl) (fee_moved h.total_coins h.fee_pool fee))

-- ---- moves

pub moves_keep : MovesKeep
moves_keep h m to from a b amount legal low to_exists room from_exists enough =
    let coins = h.total_coins -ℤ h.fee_pool in
    let credited = paid_legal (view m) h.id_pool nothing_owed coins m to amount a (owing_nothing h m legal) to_exists
    (credit_low a.balance amount (account_legal (view m) h.id_pool nothing_owed coins m to a
    (owing_nothing h m legal) to_exists).range.range.balance low) room in
    let debited = debit_legal (view m) h.id_pool nothing_owed (coins +ℤ amount)
    (with_paid to amount m) from amount b credited from_exists low enough in
    legal_of h (pools_in m) _ legal.header (legal_as (view m)
    (IsEntryLegal h.id_pool) nothing_owed nothing_owed _ _ _ debited (λ kind k. refl) (there_and_back coins amount))
  where
    credit_low : (balance amount : ℤ) → pos 0 ≤ℤ balance → pos 0 ≤ℤ amount → pos 0 ≤ℤ (balance +ℤ amount)
    credit_low balance amount low also = omega (arith, ints)
