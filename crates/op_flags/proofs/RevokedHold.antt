-- A revocation of pool shares, step by step, in a map of which an invariant holds.
use Rattle.op_form.specs.Assets.{is_issued_by}
use Rattle.entry_map.specs.EntryMap.{EntryMap}
use Rattle.entry_slots.specs.Balances.{balance_at}
use Rattle.entry_slots.specs.EntrySponsor.{with_sponsor}
use Rattle.entry_slots.specs.Lines.{line_at}
use Rattle.entry_slots.specs.Pools.{pool_at}
use Rattle.ledger_types.proofs.Arithmetic.{natural_at_most_trans, unsigned_abs_at_most}
use Rattle.ledger_types.specs.declared.asset.Asset.{Asset}
use Rattle.ledger_types.specs.declared.entry.LedgerEntry.{LedgerEntry}
use Rattle.ledger_types.specs.declared.ids.AccountId.{AccountId}
use Rattle.ledger_types.specs.declared.ids.Hash.{Hash}
use Rattle.ledger_types.specs.declared.key.LedgerKey.{LedgerKey}
use Rattle.ledger_types.specs.declared.liquidity_pool.LiquidityPoolEntry.{LiquidityPoolEntry}
use Rattle.ledger_types.specs.declared.offer.OfferEntry.{OfferEntry}
use Rattle.ledger_types.specs.declared.trust_line.TrustLineEntry.{TrustLineEntry}
use Rattle.legal_rules.proofs.Changed.{pool_entry}
use Rattle.legal_rules.proofs.Passed.{unless_first_ok}
use Rattle.legal_rules.specs.Holdings.{IsKeyed}
use Rattle.offer_book.specs.Book.{offers_by}
use Rattle.offer_exchange.specs.Exchange.{unlimited}
use Rattle.op_flags.specs.LineFlags.{map_after_revoking}
use Rattle.op_flags.specs.RevokedShares.{Given, Revoked, given_of, left}
use Rattle.op_flags.specs.Revoking.{map_after_cancelling_all, map_without_offers, trades_in}
use Rattle.op_form.specs.Done.{Move}
use Rattle.op_types.specs.declared.operation_result.OperationResult.{OperationResult}
use Rattle.pool_math.proofs.WithdrawalLaws.{withdrawn_fair}
use Rattle.pool_math.specs.Pools.{withdrawn}
use Rattle.pool_shares.specs.Withdrawing.{Part, map_after_withdrawing, part_of}
use Rattle.reserve_rules.specs.Reserve.{greatest_i64}
use Rattle.sponsor_rules.specs.Adding.{map_after_adding}
use Rattle.sponsor_rules.specs.Payers.{open_sponsor, payer_of, payer_tests_at}
use Rattle.sponsor_rules.specs.Paying.{map_after_charging}
use Rattle.sponsor_rules.specs.declared.context.Ctx.{Ctx}
use Rattle.std.proofs.Common.{arith, refl, subst, suc, sym, zero}
use Rattle.std.proofs.lemmas.Int.{ints}
use Rattle.std.specs.FinMap.{get}
use Rattle.std.specs.List.{filter}
use Rattle.std.specs.Prelude.{Bool, List, None, Ok, Option, Some, [], false, is_some, neg_ℤ, pos, true, unsigned_abs}
use Rattle.std.specs.Prelude.{ℕ, ℤ, ◌∷◌, ◌≡◌, ◌≤ℤ◌, ◌≤◌}
use Rattle.sponsor_rules.proofs.Charges.{adding_balance, payer_named}
use Rattle.sponsor_rules.proofs.Entries.{Fits, FitsBody, Invariant}
use Rattle.op_form.proofs.Steps.{Ends, either_ends, past, past_charge, past_part}
use Rattle.op_form.proofs.Walks.{Logic, made_holds}
use Rattle.trade_cross.specs.Cancelling.{map_after_cancelling}
use Rattle.trade_cross.proofs.BoundHold.{cancelling_holds}
use Rattle.op_flags.proofs.SharesBeside.{KeepsPools, charging_keeps, keeps_itself, keeps_twice, putting_keeps}
use Rattle.op_flags.proofs.SharesGiven.{CanRevoke, IsWithdrawable, left_can, still_can}
use Rattle.pool_shares.proofs.SharesHold.{may_give, share_line_removed, shares_hold}
use Rattle.ledger_types.specs.declared.asset.TrustLineAsset.TheVariants as line
use Rattle.ledger_types.specs.declared.key.LedgerKey.TheVariants as key
use Rattle.op_flags.specs.LineFlags as flagging
use Rattle.op_flags.specs.RevokedShares as revoking
use Rattle.op_types.specs.declared.operation_result.OperationResult.TheVariants.{NotSupported}

-- ---- amounts

few_reserves : (n : ℤ) → pos 0 ≤ℤ n → n ≤ℤ greatest_i64 → unsigned_abs n ≤ unlimited
few_reserves n low le = omega (arith, ints)

-- no more is given than there is
few_given : (reserve total shares : ℤ) → pos 0 ≤ℤ reserve → reserve ≤ℤ greatest_i64 → pos 0 ≤ℤ shares
    → shares ≤ℤ total → withdrawn (unsigned_abs reserve) (unsigned_abs total) (unsigned_abs shares) ≤ unlimited
few_given reserve total shares reserve_low most low within =
    natural_at_most_trans _ (unsigned_abs reserve) unlimited
    (withdrawn_fair (unsigned_abs reserve) (unsigned_abs total) (unsigned_abs shares)
    (unsigned_abs_at_most shares total low within)).within
    (few_reserves reserve reserve_low most)

-- ---- who pays

sponsor_named : (v : Invariant) (m : EntryMap) (k : LedgerKey) (o : Option LedgerEntry) → get m k ≡ o → v.Holds m
    → v.of.Sponsor (revoking.sponsor_at o)
sponsor_named v m k None there holds = v.nobody
sponsor_named v m k (Some e) there holds = (v.found m k e holds there).sponsor

none_open : (ctx : Ctx) (id : AccountId) → open_sponsor (revoking.alone ctx) id ≡ None
unfolding open_sponsor
none_open ctx id = refl

-- the balances in which shares are left can be put
abbrev pub DoBalancesFit : Invariant → Ctx → AccountId → Type 0
DoBalancesFit v ctx trustor =
    (pool : Hash) (payer : AccountId) (held : Asset) (amount : ℕ) (m : EntryMap) → v.of.Named held
    → (v.Asks → amount ≤ unlimited)
    → Fits v.of (revoking.revoked_balance ctx (given_of trustor pool payer held amount) m)

module _ (w : Logic) (ctx : Ctx) (low : OperationResult) (answer : w.answers.Answer low) (trustor : AccountId)
    (fits : DoBalancesFit w.inv ctx trustor) (named : w.inv.of.Sponsor (Some trustor)) where
  -- what the steps of one pool leave
  record IsLeft (m : EntryMap) (left : Revoked) : Type 0 where
    entries : w.inv.Holds left.entries
    keeps : w.inv.Asks → IsKeyed m → KeepsPools m left.entries

  nothing_left : (m : EntryMap) (moves : List Move) → w.inv.Holds m
      → IsLeft m (record { entries = m; moves = moves })
  nothing_left m moves holds = record { entries = holds; keeps = λ asks keyed. keeps_itself m keyed }

  -- a balance is added
  module _ (pool : Hash) (payer : AccountId) (held : Asset) (amount : ℕ) (asset : w.inv.of.Named held)
      (few : w.inv.Asks → amount ≤ unlimited) (paid : w.inv.of.Sponsor (Some payer)) (m : EntryMap)
      (holds : w.inv.Holds m) where
    abbrev its : Given
    its = given_of trustor pool payer held amount

    abbrev balance : LedgerEntry
    balance = revoking.revoked_balance ctx its m

    abbrev its_payer : AccountId
    its_payer = payer_of (revoking.alone ctx) payer

    added_keeps : (new : EntryMap) → map_after_adding (revoking.alone ctx) payer balance m ≡ Ok new → IsKeyed m
        → KeepsPools m new
    added_keeps new done keyed =
        let first = charging_keeps 1 (Some its_payer) m keyed in
        subst (KeepsPools m) (unless_first_ok (payer_tests_at (revoking.alone ctx) m its_payer 1) _ new done).1
        (keeps_twice m (map_after_charging 1 (Some its_payer) m) _ first
        (putting_keeps (map_after_charging 1 (Some its_payer) m) (with_sponsor (Some its_payer) balance)
        (λ none. none) first.keyed))

    balance_added : Ends w.answers (IsLeft m) (revoking.balance_added ctx low its m)
    balance_added =
        past ((is_some (balance_at m (revoking.revoked_id ctx its)), NotSupported) ∷ []) _
        (w.answers.not_supported, tt)
        (λ free. past_charge (map_after_adding (revoking.alone ctx) payer balance m) low _ answer
        (λ added done. record {
          ends = record {
            entries = made_holds w.inv _ added done (adding_balance w.inv (revoking.alone ctx) balance its_payer 1 m
                (fits pool payer held amount m asset few)
                (payer_named w.inv payer (open_sponsor (revoking.alone ctx) payer) paid
                (subst w.inv.of.Sponsor (sym (none_open ctx payer)) w.inv.nobody)) holds);
            keeps = λ asks keyed. added_keeps added done keyed;
          };
        }))

    left_by : (n : ℕ) → Ends w.answers (IsLeft m) (revoking.left_by ctx low its m n)
    left_by zero = record { ends = nothing_left m [] holds }
    left_by (suc n) =
        either_ends (is_issued_by held trustor) (Ok (record { entries = m; moves = _ })) _
        (λ issued. record { ends = nothing_left m _ holds }) (λ other. balance_added)

  -- ---- one pool

  -- what the steps of a revocation leave
  pub record IsRevoked (left : Revoked) : Type 0 where
    pub entries : w.inv.Holds left.entries
    pub can : w.inv.Asks → CanRevoke trustor left.entries

  -- the account's line of a pool's shares goes
  module _ (id : Hash) (m : EntryMap) (share : TrustLineEntry) (pool : LiquidityPoolEntry)
      (held : line_at m trustor (line.PoolShare id) ≡ Some share) (exists : pool_at m id ≡ Some pool)
      (can : w.inv.Asks → CanRevoke trustor m) (holds : w.inv.Holds m) where
    abbrev part : Part
    part = part_of pool share.balance

    abbrev payer : AccountId
    payer = revoking.payer_of_share trustor id m

    abbrev without : EntryMap
    without = revoking.map_without_shares trustor id pool share part m

    may : w.inv.Asks → IsWithdrawable share pool
    may asks = (can asks).shares id share pool held exists

    pool_fits : w.inv.of.Pool pool
    pool_fits =
        let found = pool_entry m id pool exists in
        subst (FitsBody w.inv.of) found.1.is
        (w.inv.found m (key.LiquidityPool id) found.0 holds found.1.there).body

    paid : w.inv.of.Sponsor (Some payer)
    paid = payer_named w.inv trustor _ named
        (sponsor_named w.inv m (key.TrustLine trustor (line.PoolShare id))
        (get m (key.TrustLine trustor (line.PoolShare id))) refl holds)

    still : w.inv.Asks → CanRevoke trustor without
    still asks = left_can trustor id pool share part m (can asks)

    left_holds : w.inv.Holds without
    left_holds =
        share_line_removed w.inv trustor id pool.params (map_after_withdrawing trustor id share.balance part m)
        (shares_hold w.inv trustor id (neg_ℤ (pos part.a)) (neg_ℤ (pos part.b)) (neg_ℤ share.balance) m
        (λ asks p at. may_give part.a part.b share.balance p (may asks).low) holds)

    line_revoked : Ends w.answers IsRevoked (revoking.share_revoked_by ctx low trustor id pool share m)
    line_revoked =
        let assets = w.inv.pool_assets pool pool_fits in
        let first = given_of trustor id payer pool.params.asset_a part.a in
        let second = given_of trustor id payer pool.params.asset_b part.b in
        past_part (IsLeft without) (left ctx low first without) _
        (left_by id payer pool.params.asset_a part.a assets.0
        (λ asks. few_given pool.reserve_a pool.total_pool_shares share.balance (may asks).reserve_a
        (w.inv.pool_bounds pool pool_fits asks).0 (may asks).low (may asks).within) paid without left_holds part.a)
        (λ one is gone. past_part (IsLeft one.entries) (left ctx low second one.entries) _
        (left_by id payer pool.params.asset_b part.b assets.1
        (λ asks. few_given pool.reserve_b pool.total_pool_shares share.balance (may asks).reserve_b
        (w.inv.pool_bounds pool pool_fits asks).1 (may asks).low (may asks).within) paid one.entries gone.entries
        part.b)
        (λ two also then_left. record {
          ends = record {
            entries = then_left.entries;
            can = λ asks. still_can trustor without two.entries (still asks)
                (keeps_twice without one.entries two.entries (gone.keeps asks (still asks).keyed)
                (then_left.keeps asks (gone.keeps asks (still asks).keyed).keyed));
          };
        }))

  one_revoked : (id : Hash) (m : EntryMap) (share : Option TrustLineEntry) (pool : Option LiquidityPoolEntry)
      → line_at m trustor (line.PoolShare id) ≡ share → pool_at m id ≡ pool → (w.inv.Asks → CanRevoke trustor m)
      → w.inv.Holds m → Ends w.answers IsRevoked (revoking.share_revoked_of ctx low trustor id m share pool)
  one_revoked id m (Some share) (Some pool) held exists can holds = line_revoked id m share pool held exists can holds
  one_revoked id m (Some share) None held exists can holds = record { ends = record { entries = holds; can = can } }
  one_revoked id m None pool held exists can holds = record { ends = record { entries = holds; can = can } }

  -- ---- all pools

  all_are_revoked : (ids : List Hash) (m : EntryMap) → (w.inv.Asks → CanRevoke trustor m) → w.inv.Holds m
      → Ends w.answers IsRevoked (revoking.all_revoked ctx low trustor ids m)
  all_are_revoked [] m can holds = record { ends = record { entries = holds; can = can } }
  all_are_revoked (id ∷ ids) m can holds =
      past_part IsRevoked (revoking.share_revoked ctx low trustor id m) _
      (one_revoked id m (line_at m trustor (line.PoolShare id)) (pool_at m id) refl refl can holds)
      (λ first is left. past_part IsRevoked (revoking.all_revoked ctx low trustor ids first.entries) _
      (all_are_revoked ids first.entries left.can left.entries)
      (λ second also then_left. record { ends = record { entries = then_left.entries; can = then_left.can } }))

  shares_go : (held : Asset) (m : EntryMap) → (w.inv.Asks → CanRevoke trustor m) → w.inv.Holds m
      → Ends w.answers IsRevoked (revoking.shares_revoked ctx low trustor held m)
  unfolding revoking.shares_revoked
  shares_go held m can holds = all_are_revoked (revoking.pools_revoked trustor held m) m can holds

  pub shares_left_hold : (held : Asset) (revoked : Bool) (m : EntryMap) → (w.inv.Asks → CanRevoke trustor m)
      → w.inv.Holds m → Ends w.answers IsRevoked (flagging.shares_left ctx low trustor held revoked m)
  shares_left_hold held true m can holds = shares_go held m can holds
  shares_left_hold held false m can holds = record { ends = record { entries = holds; can = can } }

-- ---- offers that go

module _ (v : Invariant) where
  all_cancelled : (os : List OfferEntry) (m : EntryMap) → v.Holds m → v.Holds (map_after_cancelling_all os m)
  all_cancelled [] m holds = holds
  all_cancelled (o ∷ os) m holds = all_cancelled os (map_after_cancelling o m) (cancelling_holds v o m holds)

  without_offers : (trustor : AccountId) (held : Asset) (m : EntryMap) → v.Holds m
      → v.Holds (map_without_offers trustor held m)
  unfolding map_without_offers
  without_offers trustor held m holds = all_cancelled (filter (trades_in held) (offers_by m trustor)) m holds

  pub revoking_holds : (trustor : AccountId) (held : Asset) (revoked : Bool) (m : EntryMap) → v.Holds m
      → v.Holds (map_after_revoking trustor held revoked m)
  revoking_holds trustor held true m holds = without_offers trustor held m holds
  revoking_holds trustor held false m holds = holds
