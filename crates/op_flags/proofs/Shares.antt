-- That an account's shares of a pool can be given back, and their line removed.
use Rattle.op_flags.proofs.Prelude.{◌≡◌, ℕ, Some, arith, ints, get, ℤ, pos, neg_ℤ, ◌+ℤ◌, ◌≤ℤ◌, AccountId, Hash}
use Rattle.op_flags.proofs.Prelude.{TrustLineAsset, TrustLineEntry, LiquidityPoolEntry, EntryMap, sponsor_in, line_at}
use Rattle.op_flags.proofs.Prelude.{line_slot_at, pool_at, view, nothing_owed, AreEntriesLegal, IsPoolInRange}
use Rattle.op_flags.proofs.Prelude.{IsLegalLine, line_legal, DoesFit, DoesPoolFit, DoShareLinesFit, part_of}
use Rattle.op_flags.proofs.Prelude.{map_after_withdrawing, shared_fits, CanShare, IsLegalPool, pool_legal}
use Rattle.op_flags.proofs.Prelude.{entries_sound, sponsor_at, at_most_refl, natural_nonnegative, line_slot, ap, sym}
use Rattle.op_flags.proofs.Prelude.{◌∙◌, lines_exact, slot_entry}
use Rattle.ledger_types.specs.declared.asset.TrustLineAsset.TheVariants as line
use Rattle.ledger_types.specs.declared.key.LedgerKey.TheVariants as key
use Rattle.entry_slots.specs.declared.lines.LineSlot.{LineSlot}
use Rattle.pool_shares.specs.Premises.{ArePoolsSound}
use Rattle.pool_shares.proofs.Parts.{can_withdraw}

-- ---- what was loaded

pub payer_loaded : (m : EntryMap) (id : AccountId) (held : TrustLineAsset) (slot : LineSlot)
    → Some slot ≡ line_slot_at m id held → sponsor_at (get m (key.TrustLine id held)) ≡ sponsor_in slot.ext
payer_loaded m id held slot is =
    let found = slot_entry lines_exact line_slot slot m (key.TrustLine id held) is in
    ap sponsor_at found.2.there ∙ ap (λ (s : LineSlot). sponsor_in s.ext) (sym found.3)

-- ---- what fits

fits : (number delta : ℤ) → pos 0 ≤ℤ (number +ℤ neg_ℤ delta) → pos 0 ≤ℤ delta → DoesFit number (neg_ℤ delta)
fits number delta low some = record { low = low; high = λ above. absurd (omega (arith, ints)) }

-- ---- shares that are given back entirely

module _ (id_pool : ℕ) (m : EntryMap) (legal : AreEntriesLegal id_pool m) (id : AccountId) (pool : Hash)
    (t : TrustLineEntry) (p : LiquidityPoolEntry) (has : line_at m id (line.PoolShare pool) ≡ Some t)
    (exists : pool_at m pool ≡ Some p) where
  sound : ArePoolsSound m
  sound = entries_sound id_pool m legal

  its : IsLegalLine id (line.PoolShare pool) t
  its = line_legal (view m) id_pool nothing_owed _ m id (line.PoolShare pool) t legal has

  pub some_shares : pos 0 ≤ℤ t.balance
  some_shares = its.range.range.balance

  pub as_there_are : t.balance ≤ℤ p.total_pool_shares
  as_there_are = sound.shares id pool t p has exists

  pub pool_in_range : IsPoolInRange p
  pool_in_range = sound.ranges pool p exists

  was : IsLegalPool pool p
  was = pool_legal (view m) id_pool nothing_owed _ m pool p legal exists

  pub can_give_all : CanShare t p (neg_ℤ (pos (part_of p t.balance).a)) (neg_ℤ (pos (part_of p t.balance).b))
      (neg_ℤ t.balance)
  can_give_all = can_withdraw id pool t p t.balance its was some_shares (at_most_refl t.balance) as_there_are

  pub balance_fits : DoesFit t.balance (neg_ℤ t.balance)
  balance_fits = fits t.balance t.balance can_give_all.low some_shares

  pub pool_fits : DoesPoolFit p (record {
    a = neg_ℤ (pos (part_of p t.balance).a);
    b = neg_ℤ (pos (part_of p t.balance).b);
    shares = neg_ℤ t.balance;
  })
  pool_fits = record {
    a = fits p.reserve_a (pos (part_of p t.balance).a) can_give_all.range.reserve_a
        (natural_nonnegative (part_of p t.balance).a);
    b = fits p.reserve_b (pos (part_of p t.balance).b) can_give_all.range.reserve_b
        (natural_nonnegative (part_of p t.balance).b);
    shares = fits p.total_pool_shares t.balance can_give_all.range.shares some_shares;
  }

  pub counts_fit : DoShareLinesFit (neg_ℤ (pos 1)) id pool p.params (map_after_withdrawing id pool t.balance
      (part_of p t.balance) m)
  counts_fit = shared_fits m legal.keyed id pool (neg_ℤ (pos (part_of p t.balance).a))
      (neg_ℤ (pos (part_of p t.balance).b)) (neg_ℤ t.balance) p exists (neg_ℤ (pos 1))
      (sound.counted id pool t p has exists)
