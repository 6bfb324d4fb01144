-- Amounts of any asset that accounts give and take.
use Rattle.op_payment.proofs.Prelude as prelude
use prelude.{◌≡◌, refl, ap, subst, ℕ, Bool, true, false, not, ◌∷◌, [], Option, Some, None, Ok, arith, ints, ℤ, pos}
use prelude.{neg_ℤ, int_lt, ◌+ℤ◌, ◌-ℤ◌, ◌≤ℤ◌, if◌then◌else◌, AccountId, Asset, TrustLineEntry, EntryMap, line_at}
use prelude.{with_line, IsLineInRange, line_available, line_room, Ctx, view, nothing_owed, AreEntriesLegal, of_asset}
use prelude.{CreditFault, DebitFault, with_less, with_more, line_debit_tests, line_credit_tests, map_after_debit}
use prelude.{map_after_issued_debit, map_after_line_debit_of, map_after_credit, map_after_issued_credit}
use prelude.{map_after_line_credit_of, is_native, is_issued_by, line_asset_of, map_after_lumens_credit}
use prelude.{map_after_lumens_debit, line_legal, IsKeyed, Increase, none_more, under_key, for_one, Leaves}
use prelude.{leaves_itself, leaves_as, add_sub_first, int_lt_false}
use Rattle.sponsor_rules.specs.entry_slots.LineExtensions.{line_liabilities}
use Rattle.std.specs.Option.{ok_or}
use Rattle.ledger_types.specs.declared.asset.Asset.TheVariants as asset
use Rattle.ledger_types.specs.declared.key.LedgerKey.TheVariants as key
use Rattle.sponsor_rules.specs.entry_slots.Tests.{Tests}
use Rattle.op_form.specs.declared.amounts.CreditFault.TheVariants as credit
use Rattle.op_form.specs.declared.amounts.DebitFault.TheVariants as debit
use Rattle.op_form.specs.Flags.{is_authorized}
use Rattle.op_form.proofs.Balances.{line_more_in_range}
use Rattle.op_payment.proofs.LineChanges.{line_shifted, line_left}
use Rattle.op_payment.proofs.Paying.{taken_legal, taken_left, given_legal, given_left}
use Rattle.trade_cross.proofs.legal_rules_proofs.Passed.{first_passed}
use Rattle.op_payment.proofs.Shifts.{ShiftsLegal, shifts_as, shifts_nothing, unless_issuer}
use Rattle.op_payment.proofs.Paying.{credit_is_taken, debit_is_given}
use Rattle.trade_cross.proofs.legal_rules_proofs.Passed.{unless_first_ok}

-- ---- what a change moves

-- the supply of each asset is shifted so, and each entry holds so much more
pub record IsMoved (id_pool base : ℕ) (shift : Asset → ℤ) (more : Increase) (old new : EntryMap) : Type 0 where
  pub shifts : ShiftsLegal id_pool shift old new
  pub left : Leaves base more old new

-- n of an asset more in an account's line
abbrev pub in_line : AccountId → Asset → ℤ → Increase
in_line id held n = under_key (key.TrustLine id (line_asset_of held)) (λ x. of_asset x held n)

-- n of an asset more in an account's line, unless the account issues it
abbrev pub unless_issued : Asset → AccountId → ℤ → Increase
unless_issued held id n k x = if is_issued_by held id then pos 0 else in_line id held n k x

-- n of an asset more where an account has it
abbrev pub more_of : Asset → AccountId → ℤ → Increase
more_of asset.Native id n = for_one id n
more_of issued id n = unless_issued issued id n

unmoved : (id_pool base : ℕ) (m : EntryMap) → IsKeyed m → IsMoved id_pool base (λ x. pos 0) none_more m m
unmoved id_pool base m keyed =
    record { shifts = shifts_nothing id_pool m; left = leaves_itself base m keyed }

pub ok_of : {F : Type 0} (o : Option EntryMap) (fault : F) (new : EntryMap) → ok_or o fault ≡ Ok new → o ≡ Some new
ok_of None fault new is = absurd (cc)
ok_of (Some m) fault new is = let same : m ≡ new = cc in ap Some same

-- ---- lines

less_low : (b n s : ℤ) → n ≤ℤ (b -ℤ s) → pos 0 ≤ℤ s → pos 0 ≤ℤ (b -ℤ n)
less_low b n s le low = omega (arith, ints)

less_covers : (s b n : ℤ) → n ≤ℤ (b -ℤ s) → s ≤ℤ (b -ℤ n)
less_covers s b n le = omega (arith, ints)

less_fits : (b n buying limit : ℤ) → pos 0 ≤ℤ n → (b +ℤ buying) ≤ℤ limit → ((b -ℤ n) +ℤ buying) ≤ℤ limit
less_fits b n buying limit low fits = omega (arith, ints)

less_in_range : (t : TrustLineEntry) (n : ℤ) → IsLineInRange t → pos 0 ≤ℤ n → n ≤ℤ line_available t
    → IsLineInRange (with_less n t)
less_in_range t n range low enough = record {
  balance = less_low t.balance n (line_liabilities t).selling enough range.selling;
  buying = range.buying;
  selling = range.selling;
  covered = less_covers (line_liabilities t).selling t.balance n enough;
  fits = less_fits t.balance n (line_liabilities t).buying t.limit low range.fits;
}

less_is : (b n : ℤ) → ((b -ℤ n) -ℤ b) ≡ neg_ℤ n
less_is b n = omega (arith, ints)

module _ (id_pool base : ℕ) (m : EntryMap) (legal : AreEntriesLegal id_pool m) (id : AccountId) (held : Asset)
    (issued : is_native held ≡ false) (t : TrustLineEntry) (exists : line_at m id (line_asset_of held) ≡ Some t) (n : ℤ)
    (low : pos 0 ≤ℤ n) where
  -- a line gives what is available
  pub line_given : n ≤ℤ line_available t
      → IsMoved id_pool base (λ x. of_asset x held (neg_ℤ n)) (in_line id held (neg_ℤ n)) m
      (with_line m id (line_asset_of held) (with_less n))
  line_given enough =
      let its = line_legal (view m) id_pool nothing_owed _ m id (line_asset_of held) t legal exists in
      let new = with_line m id (line_asset_of held) (with_less n) in
      record {
        shifts = shifts_as id_pool (λ x. of_asset x held ((t.balance -ℤ n) -ℤ t.balance))
            (λ x. of_asset x held (neg_ℤ n))
            m new (λ x. ap (λ k. of_asset x held k) (less_is t.balance n))
            (line_shifted id_pool m id held issued (with_less n) t exists
            (record { id = refl; asset = refl; liabilities = refl; uses = refl })
            (record {
              range = less_in_range t n its.range.range low enough;
              limit = its.range.limit;
              greatest = its.range.greatest;
              held = its.range.held;
              flags = its.range.flags;
              uses = its.range.uses;
            }) its.bound);
        left = leaves_as base (in_line id held ((t.balance -ℤ n) -ℤ t.balance)) (in_line id held (neg_ℤ n)) m new
            (line_left id_pool m id held issued (with_less n) t exists
            (record { id = refl; asset = refl; liabilities = refl; uses = refl }) base legal.keyed)
            (λ k x. ap (λ j. in_line id held j k x) (less_is t.balance n));
      }

  -- a line takes what it has room for
  pub line_taken : n ≤ℤ line_room t → IsMoved id_pool base (λ x. of_asset x held n) (in_line id held n) m
      (with_line m id (line_asset_of held) (with_more n))
  line_taken fits =
      let its = line_legal (view m) id_pool nothing_owed _ m id (line_asset_of held) t legal exists in
      let new = with_line m id (line_asset_of held) (with_more n) in
      record {
        shifts = shifts_as id_pool (λ x. of_asset x held ((t.balance +ℤ n) -ℤ t.balance)) (λ x. of_asset x held n) m new
            (λ x. ap (λ k. of_asset x held k) (add_sub_first t.balance n))
            (line_shifted id_pool m id held issued (with_more n) t exists
            (record { id = refl; asset = refl; liabilities = refl; uses = refl })
            (record {
              range = line_more_in_range t n its.range.range low fits;
              limit = its.range.limit;
              greatest = its.range.greatest;
              held = its.range.held;
              flags = its.range.flags;
              uses = its.range.uses;
            }) its.bound);
        left = leaves_as base (in_line id held ((t.balance +ℤ n) -ℤ t.balance)) (in_line id held n) m new
            (line_left id_pool m id held issued (with_more n) t exists
            (record { id = refl; asset = refl; liabilities = refl; uses = refl }) base legal.keyed)
            (λ k x. ap (λ j. in_line id held j k x) (add_sub_first t.balance n));
      }

-- ---- issued assets

module _ (id_pool base : ℕ) (m : EntryMap) (legal : AreEntriesLegal id_pool m) (id : AccountId) (held : Asset)
    (issued : is_native held ≡ false) (n : ℤ) (low : pos 0 ≤ℤ n) (new : EntryMap) where
  given_line : (o : Option TrustLineEntry) → line_at m id (line_asset_of held) ≡ o
      → map_after_line_debit_of id (line_asset_of held) n m o ≡ Ok new
      → IsMoved id_pool base (λ x. of_asset x held (neg_ℤ n)) (in_line id held (neg_ℤ n)) m new
  given_line None exists is = absurd (cc)
  given_line (Some t) exists is =
      let short : Tests DebitFault = (int_lt (line_available t) n, debit.Short) ∷ [] in
      let tests = unless_first_ok (line_debit_tests n t) (with_line m id (line_asset_of held) (with_less n)) new is in
      let first = first_passed (not (is_authorized t)) debit.NotAuthorized short tests.0 in
      let second = first_passed (int_lt (line_available t) n) debit.Short [] first.1 in
      subst (IsMoved id_pool base (λ x. of_asset x held (neg_ℤ n)) (in_line id held (neg_ℤ n)) m) tests.1
      (line_given id_pool base m legal id held issued t exists n low (int_lt_false (line_available t) n second.0))

  given_by : (b : Bool) → is_issued_by held id ≡ b
      → (if b then Ok m else map_after_line_debit_of id (line_asset_of held) n m (line_at m id (line_asset_of held)))
      ≡ Ok new → IsMoved id_pool base (λ x. if b then pos 0 else of_asset x held (neg_ℤ n))
      (λ k x. if b then pos 0 else in_line id held (neg_ℤ n) k x) m new
  given_by true issuer is =
      let same : m ≡ new = cc in
      subst (IsMoved id_pool base (λ x. pos 0) none_more m) same (unmoved id_pool base m legal.keyed)
  given_by false other is = given_line (line_at m id (line_asset_of held)) refl is

  issued_given : map_after_issued_debit id held n m ≡ Ok new
      → IsMoved id_pool base (λ x. unless_issuer x held id (neg_ℤ n)) (unless_issued held id (neg_ℤ n)) m new
  issued_given is = given_by (is_issued_by held id) refl is

  taken_line : (o : Option TrustLineEntry) → line_at m id (line_asset_of held) ≡ o
      → map_after_line_credit_of id (line_asset_of held) n m o ≡ Ok new
      → IsMoved id_pool base (λ x. of_asset x held n) (in_line id held n) m new
  taken_line None exists is = absurd (cc)
  taken_line (Some t) exists is =
      let full : Tests CreditFault = (int_lt (line_room t) n, credit.Full) ∷ [] in
      let tests = unless_first_ok (line_credit_tests n t) (with_line m id (line_asset_of held) (with_more n)) new is in
      let first = first_passed (not (is_authorized t)) credit.NotAuthorized full tests.0 in
      let second = first_passed (int_lt (line_room t) n) credit.Full [] first.1 in
      subst (IsMoved id_pool base (λ x. of_asset x held n) (in_line id held n) m) tests.1
      (line_taken id_pool base m legal id held issued t exists n low (int_lt_false (line_room t) n second.0))

  taken_by : (b : Bool) → is_issued_by held id ≡ b
      → (if b then Ok m else map_after_line_credit_of id (line_asset_of held) n m (line_at m id (line_asset_of held)))
      ≡ Ok new → IsMoved id_pool base (λ x. if b then pos 0 else of_asset x held n)
      (λ k x. if b then pos 0 else in_line id held n k x) m new
  taken_by true issuer is =
      let same : m ≡ new = cc in
      subst (IsMoved id_pool base (λ x. pos 0) none_more m) same (unmoved id_pool base m legal.keyed)
  taken_by false other is = taken_line (line_at m id (line_asset_of held)) refl is

  issued_taken : map_after_issued_credit id held n m ≡ Ok new
      → IsMoved id_pool base (λ x. unless_issuer x held id n) (unless_issued held id n) m new
  issued_taken is = taken_by (is_issued_by held id) refl is

-- ---- any asset

module _ (ctx : Ctx) (id_pool : ℕ) (m : EntryMap) (legal : AreEntriesLegal id_pool m) (id : AccountId) (n : ℤ)
    (low : pos 0 ≤ℤ n) (new : EntryMap) where
  pub amount_given : (held : Asset) → map_after_debit ctx id held n m ≡ Ok new
      → IsMoved id_pool ctx.base_reserve (λ x. unless_issuer x held id (neg_ℤ n))
      (more_of held id (neg_ℤ n)) m new
  amount_given asset.Native is =
      let h = debit_is_given ctx id n m new (ok_of (map_after_lumens_debit ctx id n m) debit.Short new is) in
      record {
        shifts = λ v sum also. given_legal v id_pool ctx.base_reserve sum id n m new h low also;
        left = given_left ctx.base_reserve id n m new h legal.keyed;
      }
  amount_given (asset.Alphanum4 code issuer) is =
      issued_given id_pool ctx.base_reserve m legal id (asset.Alphanum4 code issuer) refl n low new is
  amount_given (asset.Alphanum12 code issuer) is =
      issued_given id_pool ctx.base_reserve m legal id (asset.Alphanum12 code issuer) refl n low new is

  pub amount_taken : (held : Asset) → map_after_credit id held n m ≡ Ok new
      → IsMoved id_pool ctx.base_reserve (λ x. unless_issuer x held id n) (more_of held id n) m new
  amount_taken asset.Native is =
      let h = credit_is_taken id n m new (ok_of (map_after_lumens_credit id n m) credit.Full new is) in
      record {
        shifts = λ v sum also. taken_legal v id_pool sum id n m new h low also;
        left = taken_left ctx.base_reserve id n m new h low legal.keyed;
      }
  amount_taken (asset.Alphanum4 code issuer) is =
      issued_taken id_pool ctx.base_reserve m legal id (asset.Alphanum4 code issuer) refl n low new is
  amount_taken (asset.Alphanum12 code issuer) is =
      issued_taken id_pool ctx.base_reserve m legal id (asset.Alphanum12 code issuer) refl n low new is
