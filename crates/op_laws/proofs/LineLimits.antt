-- An existing line gets another limit, and nothing else of it changes.
use Rattle.op_laws.proofs.Prelude.{◌≡◌, ◌≢◌, refl, ap, subst, false, true, Option, Some, None, arith, ints, ℤ, pos}
use Rattle.op_laws.proofs.Prelude.{◌+ℤ◌, ◌-ℤ◌, ◌≤ℤ◌, int_eq, TrustLineAsset, TrustLineEntry, LedgerKey, EntryMap}
use Rattle.op_laws.proofs.Prelude.{line_liabilities, line_at, with_line, greatest_i64, IsLineInRange, Ctx, Kind, Shares}
use Rattle.op_laws.proofs.Prelude.{in_shares, is_key, for_key, view, nothing_owed, plus, IsEntryLegal, pool_named}
use Rattle.op_laws.proofs.Prelude.{IsTrustLineInRange, of_line, line_changed, line_legal, line_kept, legal_as, IsLawful}
use Rattle.op_laws.proofs.Prelude.{IsUnderway, add_sub_self, if_zero, int_eq_true, int_lt_false, sub_self}
use Rattle.std.proofs.lemmas.Bool.Decides.{Decides-int_eq}
use Rattle.std.specs.Prelude.{[]}
use Rattle.op_flags.specs.op_types.declared.trust_results.ChangeTrustResult.TheVariants as trust
use Rattle.op_trust.specs.ChangeTrust as spec
use Rattle.op_laws.proofs.Lawful.{KeepsLegal, lawful_still}

-- ---- numbers

pub not_zero : (n : ℤ) → pos 0 ≤ℤ n → int_eq n (pos 0) ≡ false → pos 1 ≤ℤ n
not_zero n low h =
    let apart : n ≢ pos 0 = λ same. let is = (Decides-int_eq n (pos 0)).1 same in absurd (cc) in
    omega (arith, ints)

none_each : (b n : ℤ) → pos 0 ≤ℤ b → pos 0 ≤ℤ n → (b +ℤ n) ≤ℤ pos 0 → (b ≡ pos 0) × (n ≡ pos 0)
none_each b n low also le = (omega (arith, ints), omega (arith, ints))

-- ---- what a limit holds

-- A limit of 0 holds no balance, and nothing that offers would take.
pub nothing_in_line : (t : TrustLineEntry) → IsLineInRange t → (limit : ℤ) → spec.is_exceeded limit t ≡ false
    → int_eq limit (pos 0) ≡ true → (t.balance ≡ pos 0) × ((line_liabilities t).buying ≡ pos 0)
nothing_in_line t range limit exceeded none =
    none_each t.balance (line_liabilities t).buying range.balance range.buying
    (subst (λ n. (t.balance +ℤ (line_liabilities t).buying) ≤ℤ n) (int_eq_true limit (pos 0) none)
    (int_lt_false limit (t.balance +ℤ (line_liabilities t).buying) exceeded))

limit_in_range : (t : TrustLineEntry) → IsTrustLineInRange t → (limit : ℤ) → spec.is_exceeded limit t ≡ false
    → pos 1 ≤ℤ limit → limit ≤ℤ greatest_i64 → IsTrustLineInRange (spec.with_limit limit t)
limit_in_range t was limit exceeded low high = record {
  range = record {
    balance = was.range.balance;
    buying = was.range.buying;
    selling = was.range.selling;
    covered = was.range.covered;
    fits = int_lt_false limit (t.balance +ℤ (line_liabilities t).buying) exceeded;
  };
  limit = low;
  greatest = high;
  held = was.held;
  flags = was.flags;
  uses = was.uses;
}

-- ---- what aggregates owe

no_more_shares : (o : Option LedgerKey) (k : LedgerKey) (n : ℤ) → for_key k o (n -ℤ n) ≡ pos 0
no_more_shares None k n = refl
no_more_shares (Some q) k n = if_zero (is_key q k) (n -ℤ n) (sub_self n)

nothing_more_owed : (a : TrustLineAsset) (n : ℤ) (kind : Kind) (k : LedgerKey)
    → plus nothing_owed (in_shares a (n -ℤ n)) kind k ≡ nothing_owed kind k
nothing_more_owed a n Shares k = ap (λ x. pos 0 +ℤ x) (no_more_shares (pool_named a) k n)
nothing_more_owed a n kind k = refl

-- ---- another limit

module _ (ctx : Ctx) (m : EntryMap) (under : IsUnderway ctx m) (a : TrustLineAsset) (limit : ℤ) (t : TrustLineEntry)
    (there : line_at m ctx.op_source a ≡ Some t) where
  abbrev new : EntryMap
  new = with_line m ctx.op_source a (spec.with_limit limit)

  still_legal : IsTrustLineInRange (spec.with_limit limit t) → KeepsLegal ctx.id_pool m new
  still_legal range v sum legal =
      let was = line_legal v ctx.id_pool nothing_owed sum m ctx.op_source a t legal there in
      legal_as v (IsEntryLegal ctx.id_pool) (plus nothing_owed (in_shares t.asset (t.balance -ℤ t.balance)))
      nothing_owed (sum +ℤ (of_line v.asset t.asset t.balance -ℤ of_line v.asset t.asset t.balance)) sum new
      (line_changed v ctx.id_pool nothing_owed sum m ctx.op_source a (spec.with_limit limit) t legal there
      (record { id = refl; asset = refl; liabilities = refl; uses = refl }) range was.bound)
      (nothing_more_owed t.asset t.balance) (add_sub_self sum (of_line v.asset t.asset t.balance))

  -- The source's line, in whatever it is, gets the limit.
  pub line_limited_lawful : spec.is_exceeded limit t ≡ false → pos 1 ≤ℤ limit → limit ≤ℤ greatest_i64
      → IsLawful ctx m (record { result = spec.answer trust.Success; entries = new; ctx = ctx; moves = [] })
  line_limited_lawful exceeded low high =
      let legal = under.settled.legal in
      let was = line_legal (view m) ctx.id_pool nothing_owed _ m ctx.op_source a t legal there in
      lawful_still ctx m under (spec.answer trust.Success) new
      (still_legal (limit_in_range t was.range limit exceeded low high))
      (line_kept m ctx.op_source a (spec.with_limit limit) t there refl refl ctx.base_reserve legal.keyed refl)
