-- Ledgers without pools: an entry that is put into one, and that their pools are sound.
use Rattle.probe.proofs.Prelude.{◌≡◌, refl, sym, ap, ◌∙◌, ℕ, ◌+◌, ◌≤◌, Some, arith, none-some, pos, ◌+ℤ◌, ◌≤ℤ◌}
use Rattle.probe.proofs.Prelude.{AccountId, AccountEntry, TrustLineAsset, TrustLineEntry, LedgerEntry, key_of_body}
use Rattle.probe.proofs.Prelude.{EntryMap, put, num_sponsored, num_sponsoring, account_in, account_at, line_in, line_at}
use Rattle.probe.proofs.Prelude.{IsPlain, IsPlainLine, IsPlainUnder, IsPlainLedger}
use Rattle.std.proofs.lemmas.Int.{ints}
use Rattle.entry_slots.specs.Pools.{pool_in, pool_at}
use Rattle.entry_sums.proofs.Lookups.{put_each}
use Rattle.reserve_rules.specs.Reserve.{min_balance}
use Rattle.legal_rules.specs.PoolShares.{pool_named}
use Rattle.ledger_types.specs.declared.ids.Hash.{Hash}
use Rattle.ledger_types.specs.declared.asset.TrustLineAsset.TheVariants as line
use Rattle.ledger_types.specs.declared.liquidity_pool.LiquidityPoolEntry.{LiquidityPoolEntry}
use Rattle.ledger_types.specs.declared.key.LedgerKey.TheVariants as key
use Rattle.legal_rules.proofs.Changed.{pool_entry}
use Rattle.legal_rules.proofs.Covered.{minimum_low}
use Rattle.legal_rules.proofs.Liable.{line_entry}
use Rattle.legal_rules.proofs.Steps.{account_entry}
use Rattle.pool_shares.specs.Premises.{ArePoolsSound}
use Rattle.legal_rules.proofs.LinesLeft.{asset_of_key}

pub plain_put : (m : EntryMap) (e : LedgerEntry) → IsPlain e.body → IsPlainLedger m → IsPlainLedger (put m e)
plain_put m e plain all = put_each IsPlainUnder m e all (record { own = refl; plain = plain })

sponsored_within_two_more : (subs sponsored : ℕ) → sponsored ≤ 2 + subs → pos sponsored ≤ℤ (pos subs +ℤ pos 2)
sponsored_within_two_more subs sponsored le = omega (arith, ints)

module _ (m : EntryMap) (plain : IsPlainLedger m) where
  no_pool : (id : Hash) (p : LiquidityPoolEntry) → pool_at m id ≡ Some p → ⊥
  no_pool id p exists =
      let found = pool_entry m id p exists in
      none-some p (sym (plain (key.LiquidityPool id) found.0 found.1.there).plain.no_pool ∙ ap pool_in found.1.is)

  plain_line : (id : AccountId) (held : TrustLineAsset) (t : TrustLineEntry) → line_at m id held ≡ Some t
      → IsPlainLine t
  plain_line id held t exists =
      let found = line_entry m id held t exists in
      (plain (key.TrustLine id held) found.0 found.1.there).plain.line t (ap line_in found.1.is)

  its_asset : (id : AccountId) (held : TrustLineAsset) (t : TrustLineEntry) → line_at m id held ≡ Some t
      → t.asset ≡ held
  its_asset id held t exists =
      let found = line_entry m id held t exists in
      asset_of_key t.account_id id t.asset held
      (sym (ap key_of_body found.1.is) ∙ (plain (key.TrustLine id held) found.0 found.1.there).own)

  no_shares : (id : AccountId) (pool : Hash) (t : TrustLineEntry) → line_at m id (line.PoolShare pool) ≡ Some t → ⊥
  no_shares id pool t exists = none-some (key.LiquidityPool pool)
      (sym (plain_line id (line.PoolShare pool) t exists).no_shares
      ∙ ap pool_named (its_asset id (line.PoolShare pool) t exists))

  minimum : (id : AccountId) (a : AccountEntry) (base_reserve : ℕ) → account_at m id ≡ Some a
      → pos 0 ≤ℤ min_balance a base_reserve
  minimum id a base_reserve exists =
      let found = account_entry m id a exists in
      let its = (plain (key.Account id) found.0 found.1.there).plain.account a (ap account_in found.1.is) in
      minimum_low a.num_sub_entries (num_sponsoring a) (num_sponsored a) base_reserve
      (sponsored_within_two_more a.num_sub_entries (num_sponsored a) its)

  -- Where there are no pools, and no lines of shares, they are sound.
  pub plain_is_sound : ArePoolsSound m
  plain_is_sound = record {
    keyed = λ k e there. (plain k e there).own;
    ranges = λ id p exists. absurd (no_pool id p exists);
    filled = λ id p exists. absurd (no_pool id p exists);
    shares = λ id pool t p exists beside. absurd (no_shares id pool t exists);
    limits = λ id held t exists. (plain_line id held t exists).limit;
    minimums = minimum;
    uses = λ id held t exists. (plain_line id held t exists).uses;
    pooled = λ id pool t exists. absurd (no_shares id pool t exists);
    counted = λ id pool t p exists beside. absurd (no_shares id pool t exists);
  }
