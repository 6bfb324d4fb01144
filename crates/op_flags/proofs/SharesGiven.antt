-- Shares that an account gives back to a pool, and what stays of other pools.
use Rattle.std.proofs.Common.{false, inl, inr, true}
use Rattle.entry_map.proofs.KeyMaps.{same_itself}
use Rattle.entry_map.proofs.Lookups.{erase_elsewhere, erase_there}
use Rattle.entry_map.specs.EntryMap.{EntryMap, erase}
use Rattle.entry_slots.specs.EntrySponsor.{sponsor_of}
use Rattle.entry_slots.specs.Lines.{line_at, line_of}
use Rattle.entry_slots.specs.Pools.{pool_at, with_pool}
use Rattle.entry_sums.proofs.Lookups.{erase_each}
use Rattle.ledger_types.proofs.KeyOrdering.{same_keys}
use Rattle.ledger_types.specs.KeyOrder.{key_cmp}
use Rattle.ledger_types.specs.Keys.{key_of}
use Rattle.ledger_types.specs.declared.entry.LedgerEntry.{LedgerEntry}
use Rattle.ledger_types.specs.declared.ids.AccountId.{AccountId}
use Rattle.ledger_types.specs.declared.ids.Hash.{Hash}
use Rattle.ledger_types.specs.declared.key.LedgerKey.{LedgerKey}
use Rattle.ledger_types.specs.declared.liquidity_pool.LiquidityPoolEntry.{LiquidityPoolEntry}
use Rattle.ledger_types.specs.declared.trust_line.TrustLineEntry.{TrustLineEntry}
use Rattle.legal_rules.proofs.LinesLeft.{line_legal}
use Rattle.legal_rules.specs.Holdings.{IsKeyed}
use Rattle.legal_rules.specs.Legal.{view}
use Rattle.legal_rules.specs.Owing.{AreEntriesLegal, nothing_owed}
use Rattle.legal_rules.specs.ShareLaws.{map_with_uses, with_lines}
use Rattle.pool_shares.proofs.Beside.{paying_beside, paying_keyed, pool_beside, pool_keyed, removing_beside}
use Rattle.pool_shares.proofs.Beside.{removing_keyed}
use Rattle.pool_shares.proofs.Sound.{entries_sound}
use Rattle.pool_shares.specs.Premises.{ArePoolsSound}
use Rattle.pool_shares.specs.ShareLines.{has_no_line}
use Rattle.pool_shares.specs.Withdrawing.{Part, map_after_withdrawing, share_key, with_change}
use Rattle.sponsor_rules.specs.Charge.{charge_of}
use Rattle.sponsor_rules.specs.Removing.{map_after_removing, map_after_removing_entry, map_without_charge}
use Rattle.std.proofs.Common.{ap, refl, sym, ◌∙◌}
use Rattle.std.specs.FinMap.{get}
use Rattle.std.specs.Ordering.{eq_by_cmp}
use Rattle.std.specs.Prelude.{Bool, None, Option, Some, if◌then◌else◌, neg_ℤ, pos, ℕ, ◌≡◌, ◌≢◌, ◌≤ℤ◌, ◌⊎◌}
use Rattle.trade_cross.specs.Holdings.{paying}
use Rattle.op_flags.proofs.SharesBeside.{IsOfPools, KeepsPools, keeps_twice, no_account, uses_keep}
use Rattle.pool_shares.proofs.SharesHold.{same_pool}
use Rattle.ledger_types.specs.declared.asset.TrustLineAsset.TheVariants as line
use Rattle.ledger_types.specs.declared.key.LedgerKey.TheVariants as key
use Rattle.op_flags.specs.RevokedShares as revoking

-- ---- shares that can be given back

-- a line's shares are of a pool that has so many, and both reserves
pub record IsWithdrawable (t : TrustLineEntry) (p : LiquidityPoolEntry) : Type 0 where
  pub low : pos 0 ≤ℤ t.balance
  pub within : t.balance ≤ℤ p.total_pool_shares
  pub reserve_a : pos 0 ≤ℤ p.reserve_a
  pub reserve_b : pos 0 ≤ℤ p.reserve_b

-- all shares of an account can be given back
pub record CanRevoke (trustor : AccountId) (m : EntryMap) : Type 0 where
  pub keyed : IsKeyed m
  pub shares : (pool : Hash) (t : TrustLineEntry) (p : LiquidityPoolEntry)
      → line_at m trustor (line.PoolShare pool) ≡ Some t → pool_at m pool ≡ Some p → IsWithdrawable t p

-- a legal state
module _ (id_pool : ℕ) (trustor : AccountId) (m : EntryMap) (legal : AreEntriesLegal id_pool m) where
  sound : ArePoolsSound m
  sound = entries_sound id_pool m legal

  withdrawable : (pool : Hash) (t : TrustLineEntry) (p : LiquidityPoolEntry)
      → line_at m trustor (line.PoolShare pool) ≡ Some t → pool_at m pool ≡ Some p → IsWithdrawable t p
  withdrawable pool t p held exists =
      let its = line_legal (view m) id_pool nothing_owed _ m trustor (line.PoolShare pool) t legal held in
      record {
        low = its.range.range.balance;
        within = sound.shares trustor pool t p held exists;
        reserve_a = (sound.ranges pool p exists).reserve_a;
        reserve_b = (sound.ranges pool p exists).reserve_b;
      }

  -- all of an account's shares can be given back
  pub can_revoke : CanRevoke trustor m
  can_revoke = record { keyed = legal.keyed; shares = withdrawable }

same_line : (m n : EntryMap) (trustor : AccountId) (pool : Hash)
    → get n (key.TrustLine trustor (line.PoolShare pool)) ≡ get m (key.TrustLine trustor (line.PoolShare pool))
    → line_at n trustor (line.PoolShare pool) ≡ line_at m trustor (line.PoolShare pool)
unfolding line_at
same_line m n trustor pool same = ap line_of same

pub still_can : (trustor : AccountId) (m n : EntryMap) → CanRevoke trustor m → KeepsPools m n → CanRevoke trustor n
still_can trustor m n can keeps = record {
  keyed = keeps.keyed;
  shares = λ pool t p held exists. can.shares pool t p
      (sym (same_line m n trustor pool (keeps.same (key.TrustLine trustor (line.PoolShare pool)) tt)) ∙ held)
      (sym (same_pool n m pool (keeps.same (key.LiquidityPool pool) tt)) ∙ exists);
}

-- ---- what is left of one pool

removed_none : (k : LedgerKey) (m : EntryMap) (found : Option LedgerEntry) → get m k ≡ found
    → get (map_after_removing_entry k m found) k ≡ None
removed_none k m None there = there
removed_none k m (Some e) there = erase_there (map_without_charge (charge_of e.body) (sponsor_of e) m) k

either_same : (b : Bool) (m : EntryMap) (k q : LedgerKey) → q ≢ k → get (if b then erase m k else m) q ≡ get m q
either_same true m k q apart = erase_elsewhere m k q apart
either_same false m k q apart = refl

either_keyed : (b : Bool) (m : EntryMap) (k : LedgerKey) → IsKeyed m → IsKeyed (if b then erase m k else m)
either_keyed true m k keyed = erase_each (λ q e. key_of e ≡ q) m k keyed
either_keyed false m k keyed = keyed

module _ (trustor : AccountId) (id : Hash) (pool : LiquidityPoolEntry) (share : TrustLineEntry) (part : Part)
    (m : EntryMap) (can : CanRevoke trustor m) where
  abbrev its_line : LedgerKey
  its_line = key.TrustLine trustor (line.PoolShare id)

  abbrev its_pool : LedgerKey
  its_pool = key.LiquidityPool id

  abbrev paid : EntryMap
  paid = paying (share_key trustor id) (neg_ℤ share.balance) m

  abbrev had : EntryMap
  had = map_after_withdrawing trustor id share.balance part m

  abbrev gone : EntryMap
  gone = map_after_removing its_line had

  abbrev used_a : EntryMap
  used_a = map_with_uses (neg_ℤ (pos 1)) trustor pool.params.asset_a gone

  abbrev used_b : EntryMap
  used_b = map_with_uses (neg_ℤ (pos 1)) trustor pool.params.asset_b used_a

  abbrev counted : EntryMap
  counted = with_pool used_b id (with_lines (neg_ℤ (pos 1)))

  abbrev left : EntryMap
  left = revoking.map_without_shares trustor id pool share part m

  paid_keyed : IsKeyed paid
  paid_keyed = paying_keyed m can.keyed (share_key trustor id) (neg_ℤ share.balance)

  had_keyed : IsKeyed had
  had_keyed = pool_keyed paid id (with_change (neg_ℤ (pos part.a)) (neg_ℤ (pos part.b)) (neg_ℤ share.balance))
      paid_keyed

  a_keeps : KeepsPools gone used_a
  a_keeps = uses_keep (neg_ℤ (pos 1)) trustor pool.params.asset_a gone (removing_keyed its_line had had_keyed)

  uses_kept : KeepsPools gone used_b
  uses_kept = keeps_twice gone used_a used_b a_keeps
      (uses_keep (neg_ℤ (pos 1)) trustor pool.params.asset_b used_a a_keeps.keyed)

  left_keyed : IsKeyed left
  left_keyed = either_keyed (has_no_line (pool_at counted id)) counted its_pool
      (pool_keyed used_b id (with_lines (neg_ℤ (pos 1))) uses_kept.keyed)

  -- what comes after the line is of its pool, and of lines in assets
  after_line : (q : LedgerKey) → IsOfPools q → q ≢ its_pool → get left q ≡ get gone q
  after_line q ours apart =
      either_same (has_no_line (pool_at counted id)) counted its_pool q apart
      ∙ pool_beside used_b uses_kept.keyed id (with_lines (neg_ℤ (pos 1))) (λ p. refl) q apart
      ∙ uses_kept.same q ours

  line_gone : get left its_line ≡ None
  line_gone = after_line its_line tt (λ same. absurd (cc)) ∙ removed_none its_line had (get had its_line) refl

  other_key : (q : LedgerKey) → q ≢ its_line → share_key trustor id ≢ Some q
  other_key q apart same = apart (by same)
    where
      by : Some its_line ≡ Some q → q ≡ its_line
      by is = cc

  -- other pools, and lines of their shares, stay as they were
  others_kept : (q : LedgerKey) → IsOfPools q → q ≢ its_line → q ≢ its_pool → get left q ≡ get m q
  others_kept q ours no_line no_pool =
      after_line q ours no_pool
      ∙ removing_beside its_line had had_keyed q no_line (no_account q ours)
      ∙ pool_beside paid paid_keyed id
      (with_change (neg_ℤ (pos part.a)) (neg_ℤ (pos part.b)) (neg_ℤ share.balance)) (λ p. refl) q no_pool
      ∙ paying_beside m can.keyed (share_key trustor id) (neg_ℤ share.balance) q (other_key q no_line)

  none_held : (q : Hash) (t : TrustLineEntry) → q ≡ id → line_at left trustor (line.PoolShare q) ≡ Some t → ⊥
  unfolding line_at
  none_held q t same held =
      let none = ap (λ (h : Hash). line_of (get left (key.TrustLine trustor (line.PoolShare h)))) same
      ∙ ap line_of line_gone in
      absurd (cc)

  other_kept : (q : Hash) (t : TrustLineEntry) (p : LiquidityPoolEntry) → q ≢ id
      → line_at left trustor (line.PoolShare q) ≡ Some t → pool_at left q ≡ Some p → IsWithdrawable t p
  other_kept q t p apart held exists = can.shares q t p
      (sym (same_line m left trustor q (others_kept (key.TrustLine trustor (line.PoolShare q)) tt
      (λ same. apart (cc)) (λ same. absurd (cc)))) ∙ held)
      (sym (same_pool left m q (others_kept (key.LiquidityPool q) tt (λ same. absurd (cc))
      (λ same. apart (cc)))) ∙ exists)

  tied : (q : Hash) → q ≡ id → eq_by_cmp key_cmp (key.LiquidityPool q) its_pool ≡ true
  tied q same = ap (λ (h : Hash). eq_by_cmp key_cmp (key.LiquidityPool h) its_pool) same ∙ same_itself its_pool

  same_or_other : (q : Hash) → (q ≡ id) ⊎ (q ≢ id)
  same_or_other q = elim (eq_by_cmp key_cmp (key.LiquidityPool q) its_pool) as
      (λ b. eq_by_cmp key_cmp (key.LiquidityPool q) its_pool ≡ b → (q ≡ id) ⊎ (q ≢ id)) [
        | true ↦ λ is. inl (let same = same_keys (key.LiquidityPool q) its_pool is in cc)
        | false ↦ λ apart. inr (λ same. let is = tied q same in absurd (cc))
      ] refl

  pub left_can : CanRevoke trustor left
  left_can = record {
    keyed = left_keyed;
    shares = λ q t p held exists. elim (same_or_other q) [
      | inl same ↦ absurd (none_held q t same held)
      | inr apart ↦ other_kept q t p apart held exists
    ];
  }
