-- The formats of what closes one ledger. Form 1 begins with the ledger's number. Form 2 begins with a word in its
-- place, and ends with vouches. Both are this ledger's own.
use Rattle.std.specs.Prelude.{◌≡◌, ◌≢◌, ℕ, nat_eq, Bool, true, false, List, [], Option, Some, None, is_some, refl}
use Rattle.std.proofs.Common.{sym, ap, inl, inr, ◌∙◌}
use Rattle.std.proofs.lemmas.Bool.{eqb-false, eqb-true}
use Rattle.std.proofs.lemmas.Bool.Decides.{eqb_tells}
use Rattle.xdr_core.specs.Leaves.{u32}
use Rattle.xdr_core.specs.Dependent.{◌⨾>◌, known, choice, PartialFields, partial_of}
use Rattle.xdr_core.specs.Combinators.{◌⨾◌, entire}
use Rattle.xdr_core.specs.Xdr.{Xdr, list_of}
use Rattle.ledger_types.specs.declared.header.StellarValue.{StellarValue}
use Rattle.op_types.specs.declared.transaction.TransactionSet.{TransactionSet}
use Rattle.op_types.specs.declared.vouch.Vouch.{Vouch}
use Rattle.xdr_tx.specs.Transactions.{transaction_set}
use Rattle.xdr_header.specs.declared.record.CloseRecord.{CloseRecord}
use Rattle.xdr_header.specs.Header.{stellar_value}
use Rattle.xdr_header.specs.Vouches.{vouch}

-- ---- the ledger's number

-- the first word of form 2
abbrev pub form_2 : ℕ
form_2 = 2147483650

abbrev pub first_word : (number : ℕ) → (is_form_2 : Bool) → ℕ
first_word number true = form_2
first_word number false = number

-- form 1 has no number that form 2 begins with
abbrev pub HasForm : (number : ℕ) → (is_form_2 : Bool) → Type 0
HasForm number true = Unit {0}
HasForm number false = number ≢ form_2

-- after the first word: of form 1 that word is the number
abbrev pub number_after : (word : ℕ) → Xdr ℕ
number_after word = choice (nat_eq word form_2) u32 (known word)

head_at : (word number : ℕ) (is_form_2 : Bool) → nat_eq word form_2 ≡ is_form_2
    → (choice is_form_2 u32 (known word)).within number
    → ◌≡◌ {A = ℕ × ℕ} (first_word number is_form_2, number) (word, number) × HasForm number is_form_2
head_at word number true test within = (λ i. (sym (eqb-true word form_2 test) i, number), tt)
head_at word number false test within =
    (λ i. (within i, number), λ is. eqb-false word form_2 test (sym within ∙ is))

pub head_there : (word number : ℕ) → (number_after word).within number
    → ◌≡◌ {A = ℕ × ℕ} (first_word number (nat_eq word form_2), number) (word, number)
    × HasForm number (nat_eq word form_2)
head_there word number within = head_at word number (nat_eq word form_2) refl within

pub unequal : (number : ℕ) → number ≢ form_2 → nat_eq number form_2 ≡ false
unequal number apart =
    elim (eqb_tells number form_2) [
      | inl both ↦ absurd (apart both.1)
      | inr both ↦ both.0
    ]

pub head_back : (number : ℕ) (is_form_2 : Bool) → HasForm number is_form_2
    → ◌≡◌ {A = ℕ × Bool} (number, nat_eq (first_word number is_form_2) form_2) (number, is_form_2)
head_back number true has = refl
head_back number false has = λ i. (number, unequal number has i)

abbrev pub head_fields : PartialFields (u32 ⨾> number_after) (ℕ × Bool)
head_fields = record {
  to = λ v. (v.1, nat_eq v.0 form_2);
  from = λ h. (first_word h.0 h.1, h.0);
  Has = λ h. HasForm h.0 h.1;
  there = λ v within. head_there v.0 v.1 within.1;
  back = λ h has within. head_back h.0 h.1 has;
}

-- a ledger's number, and whether the record is of form 2
abbrev pub record_head : Xdr (ℕ × Bool)
record_head = partial_of (u32 ⨾> number_after) head_fields

-- ---- vouches

abbrev pub vouches_in : Option (List Vouch) → List Vouch
vouches_in None = []
vouches_in (Some vouches) = vouches

abbrev pub HasVouches : Option (List Vouch) → Type 0
HasVouches None = ⊥
HasVouches (Some vouches) = Unit {0}

pub vouches_back : (o : Option (List Vouch)) → HasVouches o → Some (vouches_in o) ≡ o
vouches_back None has = absurd has
vouches_back (Some vouches) has = refl

abbrev pub vouches_fields : PartialFields (list_of 20000 vouch) (Option (List Vouch))
vouches_fields = record {
  to = Some;
  from = vouches_in;
  Has = HasVouches;
  there = λ v within. (refl, tt);
  back = λ o has within. vouches_back o has;
}

-- form 2 alone has vouches, also where there is none
abbrev pub vouches_if : (is_form_2 : Bool) → Xdr (Option (List Vouch))
vouches_if is_form_2 = choice is_form_2 (partial_of (list_of 20000 vouch) vouches_fields) (known None)

-- ---- records

abbrev pub record_rest : ℕ × Bool → Xdr (TransactionSet × (StellarValue × Option (List Vouch)))
record_rest head = entire transaction_set ⨾ entire stellar_value ⨾ vouches_if head.1

record_at : (is_form_2 : Bool) (o : Option (List Vouch)) → (vouches_if is_form_2).within o → is_some o ≡ is_form_2
record_at true None within = absurd within.0
record_at true (Some vouches) within = refl
record_at false o within = ap is_some within

pub record_there : (number : ℕ) (is_form_2 : Bool) (set : TransactionSet) (value : StellarValue)
    (o : Option (List Vouch)) → (vouches_if is_form_2).within o
    → ◌≡◌ {A = (ℕ × Bool) × (TransactionSet × (StellarValue × Option (List Vouch)))}
    ((number, is_some o), (set, (value, o))) ((number, is_form_2), (set, (value, o)))
record_there number is_form_2 set value o within = λ i. ((number, record_at is_form_2 o within i), (set, (value, o)))

abbrev pub record_fields : PartialFields (record_head ⨾> record_rest) CloseRecord
record_fields = record {
  to = λ v. record { ledger_seq = v.0.0; tx_set = v.1.0; scp_value = v.1.1.0; vouches = v.1.1.1 };
  from = λ r. ((r.ledger_seq, is_some r.vouches), (r.tx_set, (r.scp_value, r.vouches)));
  Has = λ r. Unit {0};
  there = λ v within. (record_there v.0.0 v.0.1 v.1.0 v.1.1.0 v.1.1.1 within.1.1.1, tt);
  back = λ r has within. refl;
}

unfoldable pub close_record : Xdr CloseRecord
close_record = partial_of (record_head ⨾> record_rest) record_fields
