-- What is left of accounts and amounts where a line of a pool's shares is removed, with the pool that has no line then.
use Rattle.pool_shares.proofs.Prelude as prelude
use prelude.{◌≡◌, refl, sym, ap, subst, ◌∙◌, ℕ, ◌≤◌, Bool, true, false, Option, Some, None, arith, ints, get, ℤ, pos}
use prelude.{neg_ℤ, ◌+ℤ◌, if◌then◌else◌, AccountId, Hash, AccountEntry, Asset, TrustLineEntry, LiquidityPoolEntry}
use prelude.{LedgerEntry, LedgerKey, EntryMap, erase, account_at, sponsor_of, line_at, pool_at, total, part}
use prelude.{without_subentry, map_after_discounting, map_after_removing, map_after_removing_entry, View, none_more}
use prelude.{view, nothing_owed, IsLegalOwing, AreEntriesLegal, map_with_share_lines, held, discharged_kept}
use prelude.{erased_kept, pool_entry, still_holds, Leaves, leaves_itself, keeps_both, line_entry, with_line_body}
use prelude.{line_named, pool_erased, share_line_gone, has_no_line, map_without_bare_pool, map_without_share_line}
use prelude.{int_eq_true}
use Rattle.ledger_types.specs.declared.asset.Asset.TheVariants as asset
use Rattle.ledger_types.specs.declared.asset.TrustLineAsset.TheVariants as line
use Rattle.ledger_types.specs.declared.entry.LedgerEntryBody.TheVariants as body
use Rattle.ledger_types.specs.declared.key.LedgerKey.TheVariants as key
use Rattle.trade_cross.proofs.entry_sums_proofs.Summing.{total_erase}
use Rattle.trade_cross.specs.legal_rules.Supply.{held_in}
use Rattle.trade_cross.proofs.legal_rules_proofs.Legality.{view_of, owing_of}
use Rattle.trade_cross.proofs.legal_rules_proofs.PaidFor.{nothing_settled}
use Rattle.trade_cross.proofs.legal_rules_proofs.Removing.{owns}
use Rattle.trade_cross.proofs.legal_rules_proofs.Subentries.{subentry_of}
use Rattle.pool_shares.proofs.Counted.{counts_left}

-- ---- the line

-- a line as one of an account in shares of a pool
abbrev of_shares : AccountId → Hash → TrustLineEntry → TrustLineEntry
of_shares id pool t = record t { account_id = id; asset = line.PoolShare pool }

module _ (v : View) (id_pool : ℕ) (sum : ℤ) (base : ℕ) (m : EntryMap)
    (legal : IsLegalOwing v id_pool nothing_owed sum m)
    (id : AccountId) (pool : Hash) where
  abbrev its_key : LedgerKey
  its_key = key.TrustLine id (line.PoolShare pool)

  module _ (e : LedgerEntry) (was : TrustLineEntry)
      (there : get m its_key ≡ Some (with_line_body e (of_shares id pool was))) where
    abbrev its : LedgerEntry
    its = with_line_body e (of_shares id pool was)

    had_two : (a : AccountEntry) → account_at m id ≡ Some a → 2 ≤ a.num_sub_entries
    had_two a exists =
        let own = owns v id_pool nothing_owed sum m legal nothing_settled id 2 its_key its there
        (subentry_of its.body id 2 refl) in
        let also = own.exists in
        let same : own.account ≡ a = cc in
        subst (λ (b : AccountEntry). 2 ≤ b.num_sub_entries) same own.enough

    removed_left : Leaves base none_more m (map_after_removing_entry its_key m (Some its))
    removed_left =
        let s = sponsor_of its in
        let now = map_after_discounting id 2 s m in
        let first = discharged_kept base 2 id s m legal.keyed had_two (without_subentry 2 s) (λ a next. next) in
        keeps_both base m now (erase now its_key) first
        (erased_kept base now its_key first.keyed (λ other same. absurd (cc))
        (λ x. still_holds m now first.holds its_key x ∙ ap (part (held x)) there))

  pub line_gone_left : (t : TrustLineEntry) → line_at m id (line.PoolShare pool) ≡ Some t
      → Leaves base none_more m (map_after_removing its_key m)
  line_gone_left t has =
      let found = line_entry m id (line.PoolShare pool) t has in
      let e = found.0 in
      let named = line_named m id (line.PoolShare pool) t legal.keyed has in
      let same : e ≡ with_line_body e (of_shares id pool t) =
      (λ i. record e { body = found.1.is i })
      ∙ (λ i. with_line_body e (record t { account_id = named.0 i; asset = named.1 i })) in
      let there = found.1.there ∙ ap Some same in
      subst (Leaves base none_more m) (sym (ap (map_after_removing_entry its_key m) there)) (removed_left e t there)

-- ---- the pool

nothing_taken : (gone taken all sum : ℤ) → (gone +ℤ taken) ≡ all → gone ≡ sum → all ≡ sum → taken ≡ pos 0
nothing_taken gone taken all sum is left had = omega (arith, ints)

module _ (base : ℕ) (m new : EntryMap) (pool : Hash) (first : Leaves base none_more m new)
    (empty : (p : LiquidityPoolEntry) → pool_at new pool ≡ Some p → has_no_line (Some p) ≡ true
    → (x : Asset) → held_in x (body.LiquidityPool p) ≡ pos 0) where
  bare_by : (o : Option LiquidityPoolEntry) → pool_at new pool ≡ o → (b : Bool) → has_no_line o ≡ b
      → Leaves base none_more new (if b then erase new (key.LiquidityPool pool) else new)
  bare_by None is true none = absurd (cc)
  bare_by (Some p) is true none =
      let found = pool_entry new pool p is in
      erased_kept base new (key.LiquidityPool pool) first.keyed (λ other same. absurd (cc))
      (λ x. ap (part (held x)) found.1.there ∙ ap (held_in x) found.1.is ∙ empty p is none x)
  bare_by o is false none = leaves_itself base new first.keyed

  bare_left : Leaves base none_more m (map_without_bare_pool pool new)
  bare_left = keeps_both base m new (map_without_bare_pool pool new) first
      (bare_by (pool_at new pool) refl (has_no_line (pool_at new pool)) refl)

-- ---- both

-- An empty line is removed, and the pool that has no line then: no account changes, and nothing is held that wasn't.
module _ (id_pool base : ℕ) (m : EntryMap) (legal : AreEntriesLegal id_pool m) (id : AccountId) (pool : Hash)
    (t : TrustLineEntry) (p : LiquidityPoolEntry) (has : line_at m id (line.PoolShare pool) ≡ Some t)
    (empty : t.balance ≡ pos 0) (exists : pool_at m pool ≡ Some p) where
  abbrev counted : EntryMap
  counted = map_with_share_lines (neg_ℤ (pos 1)) id pool p.params
      (map_after_removing (key.TrustLine id (line.PoolShare pool)) m)

  module _ (x : Asset) where
    counted_legal : IsLegalOwing (view_of x m) id_pool nothing_owed (total (held x) m) counted
    counted_legal = share_line_gone (view_of x m) id_pool (total (held x) m) id pool t p m (owing_of x id_pool m legal)
        has empty exists

    bare_empty : (q : LiquidityPoolEntry) → pool_at counted pool ≡ Some q → has_no_line (Some q) ≡ true
        → held_in x (body.LiquidityPool q) ≡ pos 0
    bare_empty q is none =
        let found = pool_entry counted pool q is in
        let at = key.LiquidityPool pool in
        let erased = pool_erased (view_of x m) id_pool (total (held x) m) counted pool found.0 q counted_legal
        (found.1.there ∙ ap Some (λ i. record found.0 { body = found.1.is i }))
        (int_eq_true q.pool_shares_trust_line_count (pos 0) none) in
        sym (ap (part (held x)) found.1.there ∙ ap (held_in x) found.1.is)
        ∙ nothing_taken (total (held x) (erase counted at)) (part (held x) (get counted at)) (total (held x) counted)
        (total (held x) m) (total_erase (held x) counted at) erased.supply counted_legal.supply

  counted_left : Leaves base none_more m counted
  counted_left =
      let gone = map_after_removing (key.TrustLine id (line.PoolShare pool)) m in
      let first = line_gone_left (view m) id_pool (total (held asset.Native) m) base m legal id pool t has in
      keeps_both base m gone counted first (counts_left base (neg_ℤ (pos 1)) gone first.keyed id pool p.params)

  pub gone_left : Leaves base none_more m (map_without_share_line id pool p.params m)
  gone_left = bare_left base m counted pool counted_left (λ q is none x. bare_empty x q is none)
