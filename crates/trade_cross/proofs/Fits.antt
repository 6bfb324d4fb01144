-- That the sums of the changes by which an offer is crossed fit 64 bits.
use Rattle.trade_cross.proofs.Prelude.{◌≡◌, refl, sym, ap, subst, ◌∙◌, Option, Some, None, arith, ints, ℤ, pos, ◌+ℤ◌}
use Rattle.trade_cross.proofs.Prelude.{◌≤ℤ◌, AccountId, TrustLineAsset, Liabilities, AccountEntry, TrustLineEntry}
use Rattle.trade_cross.proofs.Prelude.{LedgerKey, EntryMap, account_at, account_liabilities, line_at, line_liabilities}
use Rattle.trade_cross.proofs.Prelude.{greatest_i64, IsInRange, IsLineInRange, risen, IsKeyed, stored, line_stored}
use Rattle.trade_cross.proofs.Prelude.{Change, DoSumsFit, DoesChangeFit, changed_account, changed_line, changing}
use Rattle.ledger_types.specs.declared.key.LedgerKey.TheVariants as key
use Rattle.trade_cross.proofs.Altering.{AreApart, altered_opt, opt_keyed}
use Rattle.trade_cross.proofs.Changing.{changed_entry, changed_keeps, changed_altered}
use Rattle.trade_cross.proofs.Passing.{IsOwnKey}
use Rattle.trade_cross.proofs.Seen.{account_first, line_first, account_second, line_second, account_elsewhere}
use Rattle.trade_cross.proofs.Seen.{line_elsewhere}

-- ---- by what comes of it

below_greatest : (b x g : ℤ) → (b +ℤ x) ≤ℤ g → pos 0 ≤ℤ x → b ≤ℤ g
below_greatest b x g fits low = omega (arith, ints)

above_greatest : (b x g : ℤ) → (b +ℤ x) ≤ℤ g → pos 0 ≤ℤ b → x ≤ℤ g
above_greatest b x g fits low = omega (arith, ints)

below_both : (b x l g : ℤ) → (b +ℤ x) ≤ℤ l → pos 0 ≤ℤ x → l ≤ℤ g → b ≤ℤ g
below_both b x l g fits low most = omega (arith, ints)

above_both : (b x l g : ℤ) → (b +ℤ x) ≤ℤ l → pos 0 ≤ℤ b → l ≤ℤ g → x ≤ℤ g
above_both b x l g fits low most = omega (arith, ints)

sold_below : (s b x l g : ℤ) → s ≤ℤ b → (b +ℤ x) ≤ℤ l → pos 0 ≤ℤ x → l ≤ℤ g → s ≤ℤ g
sold_below s b x l g covered fits low most = omega (arith, ints)

module _ (c : Change) where
  pub account_fits : (a : AccountEntry) → IsInRange (changed_account c a)
      → (pos 1 ≤ℤ c.selling → ((account_liabilities a).selling +ℤ c.selling) ≤ℤ greatest_i64)
      → DoSumsFit a.balance (account_liabilities a) c
  account_fits a range high =
      let is = stored (risen c.selling c.buying (account_liabilities a)) a.ext in
      let selling = subst (λ (l : Liabilities). pos 0 ≤ℤ l.selling) is range.selling in
      let buying = subst (λ (l : Liabilities). pos 0 ≤ℤ l.buying) is range.buying in
      let fits = subst (λ (l : Liabilities). ((a.balance +ℤ c.balance) +ℤ l.buying) ≤ℤ greatest_i64) is range.fits in
      record {
        balance = record { low = range.balance; high = λ more. below_greatest _ _ greatest_i64 fits buying };
        selling = record { low = selling; high = high };
        buying = record { low = buying; high = λ more. above_greatest _ _ greatest_i64 fits range.balance };
      }

  pub line_fits : (t : TrustLineEntry) → IsLineInRange (changed_line c t) → t.limit ≤ℤ greatest_i64
      → DoSumsFit t.balance (line_liabilities t) c
  line_fits t range most =
      let is = line_stored (risen c.selling c.buying (line_liabilities t)) t.ext in
      let selling = subst (λ (l : Liabilities). pos 0 ≤ℤ l.selling) is range.selling in
      let buying = subst (λ (l : Liabilities). pos 0 ≤ℤ l.buying) is range.buying in
      let covered = subst (λ (l : Liabilities). l.selling ≤ℤ (t.balance +ℤ c.balance)) is range.covered in
      let fits = subst (λ (l : Liabilities). ((t.balance +ℤ c.balance) +ℤ l.buying) ≤ℤ t.limit) is range.fits in
      record {
        balance = record { low = range.balance; high = λ more. below_both _ _ _ greatest_i64 fits buying most };
        selling = record { low = selling; high = λ more. sold_below _ _ _ _ greatest_i64 covered fits buying most };
        buying = record { low = buying; high = λ more. above_both _ _ _ greatest_i64 fits range.balance most };
      }

-- ---- under two keys

-- accounts and lines are in their ranges, and limits fit
pub record AreAllInRange (m : EntryMap) : Type 0 where
  pub accounts : (id : AccountId) (a : AccountEntry) → account_at m id ≡ Some a → IsInRange a
  pub lines : (id : AccountId) (x : TrustLineAsset) (t : TrustLineEntry) → line_at m id x ≡ Some t
      → IsLineInRange t × (t.limit ≤ℤ greatest_i64)

module _ (m : EntryMap) (keyed : IsKeyed m) (owner : AccountId) (w s : Option LedgerKey) (own_w : IsOwnKey owner w)
    (own_s : IsOwnKey owner s) (apart : AreApart w s) (c d : Change)
    (range : AreAllInRange (changing s d (changing w c m))) where
  abbrev first : EntryMap
  first = altered_opt w (changed_entry c) m

  first_keyed : IsKeyed first
  first_keyed = opt_keyed m keyed w (changed_entry c) (changed_keeps c)

  both_is : changing s d (changing w c m) ≡ altered_opt s (changed_entry d) first
  both_is = ap (changing s d) (changed_altered m keyed owner w own_w c)
      ∙ changed_altered first first_keyed owner s own_s d

  -- what can be sold more by the account on the one side
  abbrev SellsWithin : Change → Option LedgerKey → Type 0
  SellsWithin change k = (id : AccountId) (a : AccountEntry) → k ≡ Some (key.Account id) → account_at m id ≡ Some a
      → pos 1 ≤ℤ change.selling → ((account_liabilities a).selling +ℤ change.selling) ≤ℤ greatest_i64

  first_by : (k : Option LedgerKey) → w ≡ k → SellsWithin c w → DoesChangeFit m k c
  first_by None is high = tt
  first_by (Some (key.Account id)) is high = λ a exists.
      account_fits c a (range.accounts id (changed_account c a) (ap (λ n. account_at n id) both_is
      ∙ account_first m keyed w s apart (changed_account c) (changed_account d) (changed_line c) (changed_line d)
      (changed_keeps c) (changed_keeps d) id a is exists)) (high id a is exists)
  first_by (Some (key.TrustLine id x)) is high = λ t exists.
      let its = range.lines id x (changed_line c t) (ap (λ n. line_at n id x) both_is
      ∙ line_first m keyed w s apart (changed_account c) (changed_account d) (changed_line c) (changed_line d)
      (changed_keeps c) (changed_keeps d) id x t is exists) in
      line_fits c t its.0 its.1
  first_by (Some other) is high = tt

  pub first_fits : SellsWithin c w → DoesChangeFit m w c
  first_fits = first_by w refl

  second_by : (k : Option LedgerKey) → s ≡ k → SellsWithin d s → DoesChangeFit first k d
  second_by None is high = tt
  second_by (Some (key.Account id)) is high = λ a exists.
      let before = sym (account_elsewhere m keyed w (changed_entry c) (changed_keeps c) id
      (λ same. apart (key.Account id) same is)) ∙ exists in
      account_fits d a (range.accounts id (changed_account d a) (ap (λ n. account_at n id) both_is
      ∙ account_second m keyed w s apart (changed_account c) (changed_account d) (changed_line c) (changed_line d)
      (changed_keeps c) (changed_keeps d) id a is before)) (high id a is before)
  second_by (Some (key.TrustLine id x)) is high = λ t exists.
      let before = sym (line_elsewhere m keyed w (changed_entry c) (changed_keeps c) id x
      (λ same. apart (key.TrustLine id x) same is)) ∙ exists in
      let its = range.lines id x (changed_line d t) (ap (λ n. line_at n id x) both_is
      ∙ line_second m keyed w s apart (changed_account c) (changed_account d) (changed_line c) (changed_line d)
      (changed_keeps c) (changed_keeps d) id x t is before) in
      line_fits d t its.0 its.1
  second_by (Some other) is high = tt

  pub second_fits : SellsWithin d s → DoesChangeFit (changing w c m) s d
  second_fits high = subst (λ n. DoesChangeFit n s d) (sym (changed_altered m keyed owner w own_w c))
      (second_by s refl high)
