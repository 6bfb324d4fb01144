-- Payments and bonds as changes of one entry, and that they fit where they can be made.
use Rattle.trade_cross.proofs.Prelude as prelude
use prelude.{◌≡◌, refl, sym, ap, subst, ℕ, ◌≤◌, Option, Some, None, arith, inl, inr, ints, ℤ, pos, neg_ℤ, ◌+ℤ◌, ◌-ℤ◌}
use prelude.{◌≤ℤ◌, AccountId, Liabilities, AccountEntry, AccountEntryExtensionV1, TrustLineEntry}
use prelude.{TrustLineEntryExtensionV1, LedgerKey, EntryMap, account_at, with_account, account_liabilities}
use prelude.{liabilities_in, with_liabilities_in, line_at, with_line, line_liabilities, line_liabilities_in}
use prelude.{with_line_liabilities_in, facts_in, available, room, line_available, line_room, min_balance, greatest_i64}
use prelude.{IsInRange, IsLineInRange, risen, binding, bound_account, bound_line, CanBind, Subentries, Sponsored, View}
use prelude.{Owed, IsLegalOwing, paid, account_legal, minimum_not_below, line_legal, payment, bond, DoesPaymentFit}
use prelude.{DoesBondFit, at_least_nothing, account_gives, account_takes, line_gives, line_takes, most_given}
use prelude.{most_taken, line_paid, paying, DoesFit, changed_account, changed_line, changing, facts_give_with}
use prelude.{facts_take_with, line_gives_with, line_takes_with, given_with, taken_with, add_zero, one_not_at_most_zero}
use Rattle.ledger_types.specs.declared.key.LedgerKey.TheVariants as key
use Rattle.trade_cross.proofs.Fits.{account_fits, line_fits}
use Rattle.trade_cross.proofs.Paying.{CanPay, within}

-- ---- what they yield

-- liabilities that rise by nothing are as they were
none_bound : (l : Liabilities) → risen (pos 0) (pos 0) l ≡ l
none_bound l = λ i. record { buying = add_zero l.buying i; selling = add_zero l.selling i }

unbound : (x : Option AccountEntryExtensionV1) → with_liabilities_in (risen (pos 0) (pos 0) (liabilities_in x)) x ≡ x
unbound None = refl
unbound (Some ext) = λ i. Some (record ext { liabilities = none_bound ext.liabilities i })

line_unbound : (x : Option TrustLineEntryExtensionV1)
    → with_line_liabilities_in (risen (pos 0) (pos 0) (line_liabilities_in x)) x ≡ x
line_unbound None = refl
line_unbound (Some ext) = λ i. Some (record ext { liabilities = none_bound ext.liabilities i })

pub payment_is : (k : Option LedgerKey) (n : ℤ) (m : EntryMap) → changing k (payment n) m ≡ paying k n m
payment_is None n m = refl
payment_is (Some (key.Account id)) n m = λ i. with_account m id (λ a. record (paid n a) { ext = unbound a.ext i })
payment_is (Some (key.TrustLine id x)) n m =
    λ i. with_line m id x (λ t. record (line_paid n t) { ext = line_unbound t.ext i })
payment_is (Some other) n m = refl

pub bond_is : (k : Option LedgerKey) (selling buying : ℤ) (m : EntryMap)
    → changing k (bond selling buying) m ≡ binding k selling buying m
bond_is None selling buying m = refl
bond_is (Some (key.Account id)) selling buying m =
    λ i. with_account m id (λ a. record (bound_account selling buying a) { balance = add_zero a.balance i })
bond_is (Some (key.TrustLine id x)) selling buying m =
    λ i. with_line m id x (λ t. record (bound_line selling buying t) { balance = add_zero t.balance i })
bond_is (Some other) selling buying m = refl

-- ---- that they fit

high_paid : (b n buying g : ℤ) → n ≤ℤ (g -ℤ b -ℤ buying) → pos 0 ≤ℤ buying → (b +ℤ n) ≤ℤ g
high_paid b n buying g fits low = omega (arith, ints)

line_low : (s b n : ℤ) → pos 0 ≤ℤ s → s ≤ℤ (b +ℤ n) → pos 0 ≤ℤ (b +ℤ n)
line_low s b n low le = omega (arith, ints)

line_high : (b n buying limit g : ℤ) → ((b +ℤ n) +ℤ buying) ≤ℤ limit → pos 0 ≤ℤ buying → limit ≤ℤ g → (b +ℤ n) ≤ℤ g
line_high b n buying limit g fits low most = omega (arith, ints)

pub zero_fits : (x : ℤ) → pos 0 ≤ℤ x → DoesFit x (pos 0)
zero_fits x low = record
    { low = subst (λ y. pos 0 ≤ℤ y) (sym (add_zero x)) low; high = λ more. absurd (one_not_at_most_zero more) }

sold_within : (b p buying s : ℤ) (n : ℕ) (g : ℤ) → pos 0 ≤ℤ p → (b +ℤ buying) ≤ℤ g → pos 0 ≤ℤ buying
    → pos n ≤ℤ (b -ℤ p -ℤ s) → (s +ℤ pos n) ≤ℤ g
sold_within b p buying s n g low fits also le = omega (arith, ints)

none_sold : (n : ℕ) → n ≡ 0 → pos 1 ≤ℤ pos n → ⊥
none_sold n none more = omega (arith, ints)

falls : (n : ℕ) → pos 1 ≤ℤ neg_ℤ (pos n) → ⊥
falls n more = omega (arith, ints)

module _ (v : View) (id_pool : ℕ) (owed : Owed) (sum : ℤ) (m : EntryMap) (legal : IsLegalOwing v id_pool owed sum m)
  where
    -- What can be paid fits.
    pub payment_fits : (k : Option LedgerKey) (n : ℤ) → CanPay m k n → DoesPaymentFit m k n
    payment_fits None n can = tt
    payment_fits (Some (key.Account id)) n can = λ a exists.
        let same : can.0 ≡ a = cc in
        let range = (account_legal v id_pool owed sum m id a legal exists).range.range in
        record {
          balance = record {
            low = subst (λ (x : AccountEntry). pos 0 ≤ℤ (x.balance +ℤ n)) same can.2;
            high = λ more. high_paid a.balance n (account_liabilities a).buying greatest_i64
                (subst (λ (x : AccountEntry). n ≤ℤ (greatest_i64 -ℤ x.balance -ℤ (account_liabilities x).buying))
                same can.3) range.buying;
          };
          selling = zero_fits (account_liabilities a).selling range.selling;
          buying = zero_fits (account_liabilities a).buying range.buying;
        }
    payment_fits (Some (key.TrustLine id x)) n can = λ t exists.
        let same : can.0 ≡ t = cc in
        let its = line_legal v id_pool owed sum m id x t legal exists in
        record {
          balance = record {
            low = line_low (line_liabilities t).selling t.balance n its.range.range.selling
                (subst (λ (y : TrustLineEntry). (line_liabilities y).selling ≤ℤ (y.balance +ℤ n)) same can.2);
            high = λ more. line_high t.balance n (line_liabilities t).buying t.limit greatest_i64
                (subst (λ (y : TrustLineEntry).
                ((y.balance +ℤ n) +ℤ (line_liabilities y).buying) ≤ℤ y.limit) same can.3)
                its.range.range.buying its.range.greatest;
          };
          selling = zero_fits (line_liabilities t).selling its.range.range.selling;
          buying = zero_fits (line_liabilities t).buying its.range.range.buying;
        }
    payment_fits (Some other) n can = absurd can

    -- what an account sells more doesn't pass 64 bits; for a line that follows from its balance
    abbrev pub SellsWithin : Option LedgerKey → ℤ → Type 0
    SellsWithin k selling = (id : AccountId) (a : AccountEntry) → k ≡ Some (key.Account id) → account_at m id ≡ Some a
        → pos 1 ≤ℤ selling → ((account_liabilities a).selling +ℤ selling) ≤ℤ greatest_i64

    paid_nothing : (a : AccountEntry) (selling buying : ℤ) → bound_account selling buying a
        ≡ changed_account (bond selling buying) a
    paid_nothing a selling buying =
        λ i. record (bound_account selling buying a) { balance = sym (add_zero a.balance) i }

    line_paid_nothing : (t : TrustLineEntry) (selling buying : ℤ) → bound_line selling buying t
        ≡ changed_line (bond selling buying) t
    line_paid_nothing t selling buying =
        λ i. record (bound_line selling buying t) { balance = sym (add_zero t.balance) i }

    -- What can be bound fits.
    pub bond_fits : (k : Option LedgerKey) (selling buying : ℤ) → CanBind m k selling buying → SellsWithin k selling
        → DoesBondFit m k selling buying
    bond_fits None selling buying can sells = tt
    bond_fits (Some (key.Account id)) selling buying can sells = λ a exists.
        let same : can.0 ≡ a = cc in
        account_fits (bond selling buying) a
        (subst IsInRange (paid_nothing a selling buying)
        (subst (λ (x : AccountEntry). IsInRange (bound_account selling buying x)) same can.2))
        (sells id a refl exists)
    bond_fits (Some (key.TrustLine id x)) selling buying can sells = λ t exists.
        let same : can.0 ≡ t = cc in
        let its = line_legal v id_pool owed sum m id x t legal exists in
        line_fits (bond selling buying) t
        (subst IsLineInRange (line_paid_nothing t selling buying)
        (subst (λ (y : TrustLineEntry). IsLineInRange (bound_line selling buying y)) same can.2))
        its.range.greatest
    bond_fits (Some other) selling buying can sells = absurd can

    -- What is released isn't sold more.
    pub released_within : (k : Option LedgerKey) (n : ℕ) → SellsWithin k (neg_ℤ (pos n))
    released_within k n id a is exists more = absurd (falls n more)

    -- Nor is what is bought.
    pub bought_within : (k : Option LedgerKey) → SellsWithin k (pos 0)
    bought_within k id a is exists more = absurd (one_not_at_most_zero more)

    -- What is available can be sold.
    pub available_within : (base : ℕ) → ((k : LedgerKey) → owed Subentries k ≤ℤ owed Sponsored k)
        → (k : Option LedgerKey) (n : ℕ) → n ≤ most_given base m k → SellsWithin k (pos n)
    available_within base covered k n le id a is exists more =
        let range = (account_legal v id_pool owed sum m id a legal exists).range.range in
        let least = minimum_not_below v id_pool owed sum m id a base legal (covered (key.Account id)) exists in
        elim (within (available a base) n (subst (λ o. n ≤ account_gives base o) exists
        (subst (λ q. n ≤ most_given base m q) is le))) [
          | inl none ↦ absurd (none_sold n none more)
          | inr enough ↦ sold_within a.balance (min_balance a base) (account_liabilities a).buying
              (account_liabilities a).selling n greatest_i64 least range.fits range.buying enough
        ]

-- ---- what can be given and taken now

facts_give : (base : ℕ) (o : Option AccountEntry) → facts_give_with base (pos 0) (facts_in o) ≡ account_gives base o
facts_give base None = refl
facts_give base (Some a) = ap at_least_nothing (add_zero (available a base))

line_give : (o : Option TrustLineEntry) → line_gives_with (pos 0) o ≡ line_gives o
line_give None = refl
line_give (Some t) = ap at_least_nothing (add_zero (line_available t))

pub given_now : (base : ℕ) (m : EntryMap) (k : Option LedgerKey) → given_with base (pos 0) m k ≡ most_given base m k
given_now base m None = refl
given_now base m (Some (key.Account id)) = facts_give base (account_at m id)
given_now base m (Some (key.TrustLine id x)) = line_give (line_at m id x)
given_now base m (Some other) = refl

facts_take : (o : Option AccountEntry) → facts_take_with (pos 0) (facts_in o) ≡ account_takes o
facts_take None = refl
facts_take (Some a) = ap at_least_nothing (add_zero (room a))

line_take : (o : Option TrustLineEntry) → line_takes_with (pos 0) o ≡ line_takes o
line_take None = refl
line_take (Some t) = ap at_least_nothing (add_zero (line_room t))

pub taken_now : (m : EntryMap) (k : Option LedgerKey) → taken_with (pos 0) m k ≡ most_taken m k
taken_now m None = refl
taken_now m (Some (key.Account id)) = facts_take (account_at m id)
taken_now m (Some (key.TrustLine id x)) = line_take (line_at m id x)
taken_now m (Some other) = refl
