-- Who sells or buys by an offer has an extension that says so: liabilities fall and rise there as one number does.
use Rattle.trade_cross.proofs.Prelude as prelude
use prelude.{◌≡◌, ◌≢◌, refl, sym, ap, subst, ◌∙◌, ℕ, ◌≤◌, Option, Some, None, arith, ints, ℤ, pos, neg_ℤ, ◌+ℤ◌, ◌≤ℤ◌}
use prelude.{get, Liabilities, AccountEntry, AccountEntryExtensionV1, TrustLineEntry, TrustLineEntryExtensionV1}
use prelude.{LedgerEntry, LedgerEntryBody, LedgerKey, EntryMap, account_in, account_of, account_at, liabilities_in}
use prelude.{with_liabilities_in, account_liabilities, line_in, line_of, line_at, line_liabilities_in}
use prelude.{with_line_liabilities_in, line_liabilities, risen, bound_account, bound_line, CanBind, paid, stored}
use prelude.{line_stored, Change, line_paid, changed_account, changed_line, add_assoc_to}
use Rattle.ledger_types.specs.declared.entry.LedgerEntryBody.TheVariants as body
use Rattle.ledger_types.specs.declared.key.LedgerKey.TheVariants as key
use Rattle.trade_cross.proofs.Changing.{holding_body, bound_entry, paid_entry, changed_entry}

-- ---- twice

abbrev pub change_of : (balance selling buying : ℤ) → Change
change_of balance selling buying = record { balance = balance; selling = selling; buying = buying }

-- an extension that says what is bound
abbrev pub IsExtended : LedgerEntryBody → Type 0
IsExtended (body.Account a) = a.ext ≢ None
IsExtended (body.TrustLine t) = t.ext ≢ None
IsExtended other = Unit {0}

module _ (s t u b c d : ℤ) (selling : (s +ℤ t) ≡ u) (buying : (b +ℤ c) ≡ d) where
  both_risen : (l : Liabilities) → risen t c (risen s b l) ≡ risen u d l
  both_risen l = λ i. record
      { buying = add_assoc_to l.buying b c d buying i; selling = add_assoc_to l.selling s t u selling i }

  account_twice : (x : Option AccountEntryExtensionV1) → x ≢ None
      → with_liabilities_in (risen t c (liabilities_in (with_liabilities_in (risen s b (liabilities_in x)) x)))
      (with_liabilities_in (risen s b (liabilities_in x)) x)
      ≡ with_liabilities_in (risen u d (liabilities_in x)) x
  account_twice None some = absurd (some refl)
  account_twice (Some ext) some = ap (λ l. Some (record ext { liabilities = l })) (both_risen ext.liabilities)

  line_twice : (x : Option TrustLineEntryExtensionV1) → x ≢ None
      → with_line_liabilities_in (risen t c (line_liabilities_in (with_line_liabilities_in (risen s b
      (line_liabilities_in x)) x))) (with_line_liabilities_in (risen s b (line_liabilities_in x)) x)
      ≡ with_line_liabilities_in (risen u d (line_liabilities_in x)) x
  line_twice None some = absurd (some refl)
  line_twice (Some ext) some = ap (λ l. Some (record ext { liabilities = l })) (both_risen ext.liabilities)

  body_twice : (n : ℤ) (of : LedgerEntryBody) → IsExtended of
      → holding_body (bound_account t c) (bound_line t c) (holding_body (paid n) (line_paid n)
      (holding_body (bound_account s b) (bound_line s b) of))
      ≡ holding_body (changed_account (change_of n u d)) (changed_line (change_of n u d)) of
  body_twice n (body.Account a) some =
      ap (λ x. body.Account (record (paid n a) { ext = x })) (account_twice a.ext some)
  body_twice n (body.TrustLine l) some =
      ap (λ x. body.TrustLine (record (line_paid n l) { ext = x })) (line_twice l.ext some)
  body_twice n other some = refl

  -- released, paid and bound again, in one change
  pub entry_twice : (n : ℤ) (e : LedgerEntry) → IsExtended e.body
      → bound_entry t c (paid_entry n (bound_entry s b e)) ≡ changed_entry (change_of n u d) e
  entry_twice n e some = ap (λ of. record e { body = of }) (body_twice n e.body some)

-- ---- once

body_once : (n s b : ℤ) (of : LedgerEntryBody)
    → holding_body (paid n) (line_paid n) (holding_body (bound_account s b) (bound_line s b) of)
    ≡ holding_body (changed_account (change_of n s b)) (changed_line (change_of n s b)) of
body_once n s b (body.Account a) = refl
body_once n s b (body.TrustLine t) = refl
body_once n s b other = refl

-- released and paid, in one change
pub entry_once : (n s b u d : ℤ) → s ≡ u → b ≡ d → (e : LedgerEntry)
    → paid_entry n (bound_entry s b e) ≡ changed_entry (change_of n u d) e
entry_once n s b u d selling buying e =
    ap (λ of. record e { body = of }) (body_once n s b e.body)
    ∙ (λ i. changed_entry (change_of n (selling i) (buying i)) e)

-- ---- who is extended

low_sells : (x : ℤ) (n : ℕ) → 1 ≤ n → pos 0 ≤ℤ (x +ℤ neg_ℤ (pos n)) → pos 1 ≤ℤ x
low_sells x n some low = omega (arith, ints)

account_sells : (x : Option AccountEntryExtensionV1) → pos 1 ≤ℤ (liabilities_in x).selling → x ≢ None
account_sells None some is = absurd (omega (arith, ints))
account_sells (Some ext) some is = absurd (cc)

account_buys : (x : Option AccountEntryExtensionV1) → pos 1 ≤ℤ (liabilities_in x).buying → x ≢ None
account_buys None some is = absurd (omega (arith, ints))
account_buys (Some ext) some is = absurd (cc)

line_sells : (x : Option TrustLineEntryExtensionV1) → pos 1 ≤ℤ (line_liabilities_in x).selling → x ≢ None
line_sells None some is = absurd (omega (arith, ints))
line_sells (Some ext) some is = absurd (cc)

line_buys : (x : Option TrustLineEntryExtensionV1) → pos 1 ≤ℤ (line_liabilities_in x).buying → x ≢ None
line_buys None some is = absurd (omega (arith, ints))
line_buys (Some ext) some is = absurd (cc)

extended_account : (of : LedgerEntryBody) (a : AccountEntry) → account_in of ≡ Some a → a.ext ≢ None → IsExtended of
extended_account (body.Account b) a is some = let same : b ≡ a =
    cc in subst (λ (x : AccountEntry). x.ext ≢ None) (sym same) some
extended_account other a is some = absurd (cc)

extended_line : (of : LedgerEntryBody) (t : TrustLineEntry) → line_in of ≡ Some t → t.ext ≢ None → IsExtended of
extended_line (body.TrustLine u) t is some = let same : u ≡ t =
    cc in subst (λ (x : TrustLineEntry). x.ext ≢ None) (sym same) some
extended_line other t is some = absurd (cc)

module _ (m : EntryMap) (n : ℕ) (some : 1 ≤ n) where
  -- What can be released is bound.
  pub sells_extended : (k : Option LedgerKey) → CanBind m k (neg_ℤ (pos n)) (pos 0) → (x : LedgerKey) → k ≡ Some x
      → (e : LedgerEntry) → get m x ≡ Some e → IsExtended e.body
  unfolding account_at line_at
  sells_extended None can x is e there = absurd (cc)
  sells_extended (Some (key.Account id)) can x is e there =
      let same : key.Account id ≡ x = cc in
      extended_account e.body can.0 (sym (ap account_of (ap (get m) same ∙ there)) ∙ can.1)
      (account_sells can.0.ext (low_sells (account_liabilities can.0).selling n some
      (subst (λ (l : Liabilities). pos 0 ≤ℤ l.selling)
      (stored (risen (neg_ℤ (pos n)) (pos 0) (account_liabilities can.0)) can.0.ext) can.2.selling)))
  sells_extended (Some (key.TrustLine id held)) can x is e there =
      let same : key.TrustLine id held ≡ x = cc in
      extended_line e.body can.0 (sym (ap line_of (ap (get m) same ∙ there)) ∙ can.1)
      (line_sells can.0.ext (low_sells (line_liabilities can.0).selling n some
      (subst (λ (l : Liabilities). pos 0 ≤ℤ l.selling)
      (line_stored (risen (neg_ℤ (pos n)) (pos 0) (line_liabilities can.0)) can.0.ext) can.2.selling)))
  sells_extended (Some other) can x is e there = absurd can

  pub buys_extended : (k : Option LedgerKey) → CanBind m k (pos 0) (neg_ℤ (pos n)) → (x : LedgerKey) → k ≡ Some x
      → (e : LedgerEntry) → get m x ≡ Some e → IsExtended e.body
  unfolding account_at line_at
  buys_extended None can x is e there = absurd (cc)
  buys_extended (Some (key.Account id)) can x is e there =
      let same : key.Account id ≡ x = cc in
      extended_account e.body can.0 (sym (ap account_of (ap (get m) same ∙ there)) ∙ can.1)
      (account_buys can.0.ext (low_sells (account_liabilities can.0).buying n some
      (subst (λ (l : Liabilities). pos 0 ≤ℤ l.buying)
      (stored (risen (pos 0) (neg_ℤ (pos n)) (account_liabilities can.0)) can.0.ext) can.2.buying)))
  buys_extended (Some (key.TrustLine id held)) can x is e there =
      let same : key.TrustLine id held ≡ x = cc in
      extended_line e.body can.0 (sym (ap line_of (ap (get m) same ∙ there)) ∙ can.1)
      (line_buys can.0.ext (low_sells (line_liabilities can.0).buying n some
      (subst (λ (l : Liabilities). pos 0 ≤ℤ l.buying)
      (line_stored (risen (pos 0) (neg_ℤ (pos n)) (line_liabilities can.0)) can.0.ext) can.2.buying)))
  buys_extended (Some other) can x is e there = absurd can
