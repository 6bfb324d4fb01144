-- What a revocation leaves of shares of a pool is legal, and the accounts that existed still exist.
use Rattle.op_flags.proofs.Prelude as prelude
use prelude.{◌≡◌, ◌⊎◌, inl, inr, refl, sym, ap, subst, ◌∙◌, ℕ, zero, suc, ◌≤◌, Bool, true, false, [], ◌∷◌, ◌++◌}
use prelude.{is_some, Option, Some, None, Ok, arith, ints, All-nil, All-cons, get, ℤ, pos, neg_ℤ, ◌+ℤ◌, ◌≤ℤ◌, AccountId}
use prelude.{Hash, Asset, ClaimableBalanceEntry, TrustLineEntry, LiquidityPoolEntry, LedgerEntry, LedgerKey}
use prelude.{OperationResult, EntryMap, HasAccount, balance_at, sponsor_of, line_at, pool_at, total, Ctx}
use prelude.{map_after_adding, map_after_adding_balance, open_sponsor, payer_by, payer_of, Uses, View, stated_at}
use prelude.{IsKeyed, none_more, under_key, view, nothing_owed, IsLegalOwing, AreEntriesLegal, needed_line, IsHeldIn}
use prelude.{AreClaimantsInRange, IsBalanceInRange, of_asset, held, Leaves, entries_legal, line_entry, with_line_body}
use prelude.{line_legal, line_named, first_passed, part_of, with_change, map_after_withdrawing, line_now, pool_now}
use prelude.{sharing_legal, sharing_left, first_used, second_used, line_exists_so, is_issued_by, is_clawback_line}
use prelude.{flagged_ext, line_of_asset, sponsor_at, Revoked, Given, revoked_id, sole_claimant, revoked_balance}
use prelude.{move_to, alone, balance_put, balance_added, left_by, left, payer_of_share, given_of, and_then, both_left}
use prelude.{map_without_shares, share_revoked_by, share_revoked_of, share_revoked, add_neg_self, add_zero_at_most}
use prelude.{natural_nonnegative, natural_positive}
use Rattle.std.proofs.Common.{if◌then◌else◌}
use Rattle.ledger_types.specs.declared.asset.Asset.TheVariants as asset
use Rattle.ledger_types.specs.declared.asset.TrustLineAsset.TheVariants as line
use Rattle.ledger_types.specs.declared.claimable_balance.Claimant.{Claimant}
use Rattle.ledger_types.specs.declared.predicate.ClaimPredicate.TheVariants.{Unconditional}
use Rattle.ledger_types.specs.declared.predicate.ClaimPredicate.TheViews.{out-ClaimPredicate}
use Rattle.ledger_types.specs.declared.key.LedgerKey.TheVariants as key
use Rattle.op_types.specs.declared.operation_result.OperationResult.TheVariants.{NotSupported}
use Rattle.valid_values.specs.Assets.{is_valid_asset}
use Rattle.valid_values.specs.Predicates.{is_valid_below, is_valid_stored_predicate}
use Rattle.sponsor_rules.specs.declared.count.Count.TheVariants as count
use Rattle.trade_cross.proofs.legal_rules_proofs.Kept.{balance_added_so}
use Rattle.trade_cross.proofs.legal_rules_proofs.Needed.{for_own}
use Rattle.trade_cross.proofs.legal_rules_proofs.PaidFor.{nothing_settled}
use Rattle.trade_cross.proofs.legal_rules_proofs.Removing.{owns}
use Rattle.trade_cross.proofs.legal_rules_proofs.Existing.{counted_exists}
use Rattle.trade_cross.proofs.legal_rules_proofs.Subentries.{subentry_of}
use Rattle.trade_cross.specs.Holdings.{line_paid}
use Rattle.pool_shares.proofs.Gone.{gone_legal}
use Rattle.pool_shares.proofs.GoneLeft.{gone_left}
use Rattle.op_form.specs.Done.{OfAccount, OfBalance}
use Rattle.op_flags.proofs.BalanceLeft.{balance_left, no_balance, new_flags, payer_exists}
use Rattle.op_flags.proofs.Shares.{can_give_all}
use Rattle.op_flags.proofs.Went.{went_on, went_after, went_after_charge}

-- ---- who pays, and what can be left

one_and_none : (x y : ℤ) → pos 1 ≤ℤ x → y ≡ pos 0 → pos 1 ≤ℤ (x +ℤ y)
one_and_none x y some none = omega (arith, ints)

module _ (v : View) (id_pool : ℕ) (sum : ℤ) (m : EntryMap) (legal : IsLegalOwing v id_pool nothing_owed sum m)
    (id : AccountId) (pool : Hash) where
  abbrev its_key : LedgerKey
  its_key = key.TrustLine id (line.PoolShare pool)

  abbrev share_of : TrustLineEntry → TrustLineEntry
  share_of was = record was { account_id = id; asset = line.PoolShare pool }

  module _ (e : LedgerEntry) (was : TrustLineEntry)
      (there : get m its_key ≡ Some (with_line_body e (share_of was))) where
    abbrev its : LedgerEntry
    its = with_line_body e (share_of was)

    owner_there : HasAccount m id
    owner_there =
        let own = owns v id_pool nothing_owed sum m legal nothing_settled id 2 its_key its there
        (subentry_of its.body id 2 refl) in
        (own.account, own.exists)

    sponsor_there : (s : AccountId) → sponsor_of its ≡ Some s → HasAccount m s
    sponsor_there s is =
        let own = counted_exists v id_pool nothing_owed sum m legal count.Sponsoring s 1 its_key its
        (natural_nonnegative 0) there
        (one_and_none _ _ (for_own s (sponsor_of its) 2 is (omega arith)) refl) (omega arith) in
        (own.account, own.exists)

    payer_by_there : HasAccount m (payer_by id (sponsor_of its))
    payer_by_there = payer_exists m id (sponsor_of its) owner_there sponsor_there

  pub payer_there : (t : TrustLineEntry) → line_at m id (line.PoolShare pool) ≡ Some t
      → HasAccount m (payer_of_share id pool m)
  payer_there t has =
      let found = line_entry m id (line.PoolShare pool) t has in
      let e = found.0 in
      let named = line_named m id (line.PoolShare pool) t legal.keyed has in
      let same : e ≡ with_line_body e (share_of t) =
      (λ i. record e { body = found.1.is i })
      ∙ (λ i. with_line_body e (record t { account_id = named.0 i; asset = named.1 i })) in
      let at = found.1.there ∙ ap Some same in
      subst (λ (o : Option LedgerEntry). HasAccount m (payer_by id (sponsor_at o))) (sym at) (payer_by_there e t at)

  -- an asset whose line an account needs, if it doesn't issue it, is valid
  valid_by : (a : Asset) → ((q : LedgerKey) → needed_line id a ≡ Some q → pos 1 ≤ℤ stated_at Uses (get m q))
      → is_issued_by a id ≡ false → is_valid_asset a ≡ true
  unfolding is_valid_asset
  valid_by asset.Native used other = refl
  valid_by (asset.Alphanum4 code issuer) used other =
      let x = line.Alphanum4 code issuer in
      let existed = line_exists_so m id x (used (key.TrustLine id x)
      (ap (λ (b : Bool). if b then None else Some (key.TrustLine id x)) other)) in
      let its_line = line_legal v id_pool nothing_owed sum m id x existed.0 legal existed.1 in
      (subst (IsHeldIn existed.0.account_id) its_line.asset its_line.range.held).0
  valid_by (asset.Alphanum12 code issuer) used other =
      let x = line.Alphanum12 code issuer in
      let existed = line_exists_so m id x (used (key.TrustLine id x)
      (ap (λ (b : Bool). if b then None else Some (key.TrustLine id x)) other)) in
      let its_line = line_legal v id_pool nothing_owed sum m id x existed.0 legal existed.1 in
      (subst (IsHeldIn existed.0.account_id) its_line.asset its_line.range.held).0

  module _ (t : TrustLineEntry) (p : LiquidityPoolEntry) (has : line_at m id (line.PoolShare pool) ≡ Some t)
      (exists : pool_at m pool ≡ Some p) where
    pub first_valid : is_issued_by p.params.asset_a id ≡ false → is_valid_asset p.params.asset_a ≡ true
    first_valid = valid_by p.params.asset_a (first_used v id_pool sum m legal id pool t has p exists)

    pub second_valid : is_issued_by p.params.asset_b id ≡ false → is_valid_asset p.params.asset_b ≡ true
    second_valid = valid_by p.params.asset_b (second_used v id_pool sum m legal id pool t has p exists)

-- ---- the shares go, and their line

module _ (id_pool : ℕ) (m : EntryMap) (legal : AreEntriesLegal id_pool m) (id : AccountId) (pool : Hash)
    (t : TrustLineEntry) (p : LiquidityPoolEntry) (has : line_at m id (line.PoolShare pool) ≡ Some t)
    (exists : pool_at m pool ≡ Some p) where
  abbrev a : ℤ
  a = neg_ℤ (pos (part_of p t.balance).a)

  abbrev b : ℤ
  b = neg_ℤ (pos (part_of p t.balance).b)

  abbrev withdrawn : EntryMap
  withdrawn = map_after_withdrawing id pool t.balance (part_of p t.balance) m

  abbrev gone : EntryMap
  gone = map_without_shares id pool p t (part_of p t.balance) m

  pub withdrawn_legal : AreEntriesLegal id_pool withdrawn
  withdrawn_legal = entries_legal (view m) id_pool _ withdrawn
      (sharing_legal (view m) id_pool (total (held asset.Native) m) m id pool t p a b (neg_ℤ t.balance) legal has exists
      (can_give_all id_pool m legal id pool t p has exists))

  pub line_empty : line_at withdrawn id (line.PoolShare pool) ≡ Some (line_paid (neg_ℤ t.balance) t)
  line_empty = line_now m legal.keyed id pool a b (neg_ℤ t.balance) t has

  pub pool_left_there : pool_at withdrawn pool ≡ Some (with_change a b (neg_ℤ t.balance) p)
  pool_left_there = pool_now m legal.keyed id pool a b (neg_ℤ t.balance) p exists

  pub gone_entries : AreEntriesLegal id_pool gone
  gone_entries = entries_legal _ id_pool _ gone
      (gone_legal (view withdrawn) id_pool (total (held asset.Native) withdrawn) id pool
      (line_paid (neg_ℤ t.balance) t) (with_change a b (neg_ℤ t.balance) p) withdrawn withdrawn_legal line_empty
      (add_neg_self t.balance) pool_left_there)

  pub then_gone : (base : ℕ) → Leaves base none_more withdrawn gone
  then_gone base = gone_left id_pool base withdrawn withdrawn_legal id pool (line_paid (neg_ℤ t.balance) t)
      (with_change a b (neg_ℤ t.balance) p) line_empty (add_neg_self t.balance) pool_left_there

  pub still_exists : (x : AccountId) → HasAccount m x → HasAccount gone x
  still_exists x existed = (then_gone 0).exist x
      ((sharing_left 0 m legal.keyed id pool t p has exists a b (neg_ℤ t.balance)).exist x existed)

-- ---- what an amount becomes

-- what a step is that leaves an amount to an account: nothing, where there is none of it or the account issues the
-- asset; else a balance
pub record IsPut (ctx : Ctx) (given : Given) (m : EntryMap) (r : Revoked) : Type 0 where
  pub some : 1 ≤ given.amount
  pub other : is_issued_by given.asset given.trustor ≡ false
  pub free : is_some (balance_at m (revoked_id ctx given)) ≡ false
  pub added : map_after_adding (alone ctx) given.payer (revoked_balance ctx given m) m ≡ Ok r.entries
  pub moved : r.moves ≡ move_to given (OfBalance (revoked_id ctx given)) ∷ []

pub record IsKeptByIssuer (given : Given) (m : EntryMap) (r : Revoked) : Type 0 where
  pub some : 1 ≤ given.amount
  pub own : is_issued_by given.asset given.trustor ≡ true
  pub entries : r.entries ≡ m
  pub moved : r.moves ≡ move_to given (OfAccount given.trustor) ∷ []

pub record IsNothing (given : Given) (m : EntryMap) (r : Revoked) : Type 0 where
  pub none : given.amount ≡ 0
  pub entries : r.entries ≡ m
  pub moved : r.moves ≡ []

abbrev pub IsLeft : Ctx → Given → EntryMap → Revoked → Type 0
IsLeft ctx given m r = IsNothing given m r ⊎ (IsKeptByIssuer given m r ⊎ IsPut ctx given m r)

module _ (ctx : Ctx) (low : OperationResult) (given : Given) (m : EntryMap) (r : Revoked) where
  put_so : 1 ≤ given.amount → is_issued_by given.asset given.trustor ≡ false → balance_added ctx low given m ≡ Ok r
      → IsPut ctx given m r
  put_so some other is =
      let taken = is_some (balance_at m (revoked_id ctx given)) in
      let went = went_on ((taken, NotSupported) ∷ []) (balance_put ctx low given m) r is in
      let put = went_after_charge (map_after_adding (alone ctx) given.payer (revoked_balance ctx given m) m) low _ r
      went.1 in
      let made : Revoked = record { entries = put.0; moves = move_to given (OfBalance (revoked_id ctx given)) ∷ [] } in
      let done = put.2 in
      let same : made ≡ r = cc in
      record {
        some = some;
        other = other;
        free = (first_passed taken NotSupported [] went.0).0;
        added = put.1 ∙ ap (λ (x : Revoked). Ok x.entries) same;
        moved = sym (ap (λ (x : Revoked). x.moves) same);
      }

  some_so : 1 ≤ given.amount → (own : Bool) → is_issued_by given.asset given.trustor ≡ own
      → (if own then Ok (record { entries = m; moves = move_to given (OfAccount given.trustor) ∷ [] })
      else balance_added ctx low given m) ≡ Ok r → IsKeptByIssuer given m r ⊎ IsPut ctx given m r
  some_so some true own is =
      let made : Revoked = record { entries = m; moves = move_to given (OfAccount given.trustor) ∷ [] } in
      let same : made ≡ r = cc in
      inl (record {
        some = some;
        own = own;
        entries = sym (ap (λ (x : Revoked). x.entries) same);
        moved = sym (ap (λ (x : Revoked). x.moves) same);
      })
  some_so some false own is = inr (put_so some own is)

  by_amount : (n : ℕ) → given.amount ≡ n → left_by ctx low given m n ≡ Ok r → IsLeft ctx given m r
  by_amount zero none is =
      let made : Revoked = record { entries = m; moves = [] } in
      let same : made ≡ r = cc in
      inl (record {
        none = none;
        entries = sym (ap (λ (x : Revoked). x.entries) same);
        moved = sym (ap (λ (x : Revoked). x.moves) same);
      })
  by_amount (suc n) some is =
      inr (some_so (omega (arith, some)) (is_issued_by given.asset given.trustor) refl is)

  pub left_so : left ctx low given m ≡ Ok r → IsLeft ctx given m r
  left_so is = by_amount given.amount refl is

-- ---- what is left is legal

at_once : is_valid_stored_predicate Unconditional ≡ true
unfolding is_valid_below out-ClaimPredicate denote.Hole.Carrier.out
at_once = refl

-- where no sponsorship is open, an account pays itself
pays_alone : (ctx : Ctx) (id : AccountId) → payer_of (alone ctx) id ≡ id
unfolding open_sponsor
pays_alone ctx id = refl

sole_in_range : (id : AccountId) → AreClaimantsInRange (sole_claimant id)
sole_in_range id = record {
  some = omega arith;
  few = omega arith;
  apart = λ i j d lt le. absurd (omega arith);
  predicates = All-cons (λ (c : Claimant). is_valid_stored_predicate c.predicate ≡ true)
      (record { destination = id; predicate = Unconditional }) [] at_once
      (All-nil (λ (c : Claimant). is_valid_stored_predicate c.predicate ≡ true));
}

abbrev pub balance_of_given : Ctx → Given → EntryMap → ClaimableBalanceEntry
balance_of_given ctx given m = record {
  balance_id = revoked_id ctx given;
  claimants = sole_claimant given.trustor;
  asset = given.asset;
  amount = pos given.amount;
  ext = flagged_ext (is_clawback_line (line_of_asset m given.trustor given.asset));
}

balance_in_range : (ctx : Ctx) (given : Given) (m : EntryMap) → 1 ≤ given.amount → is_valid_asset given.asset ≡ true
    → IsBalanceInRange (balance_of_given ctx given m)
balance_in_range ctx given m some valid = record {
  amount = natural_positive given.amount some;
  asset = valid;
  flags = new_flags (is_clawback_line (line_of_asset m given.trustor given.asset));
  claimants = sole_in_range given.trustor;
}

module _ (id_pool : ℕ) (ctx : Ctx) (given : Given) (m : EntryMap) (r : Revoked) (exists : HasAccount m given.payer)
    (valid : is_issued_by given.asset given.trustor ≡ false → is_valid_asset given.asset ≡ true) where
  module _ (put : IsPut ctx given m r) where
    pub put_legal : (v : View) (sum : ℤ) → IsLegalOwing v id_pool nothing_owed sum m
        → IsLegalOwing v id_pool nothing_owed (sum +ℤ of_asset v.asset given.asset (pos given.amount)) r.entries
    put_legal v sum legal =
        balance_added_so v id_pool nothing_owed sum (alone ctx) given.payer (balance_of_given ctx given m)
        (revoked_balance ctx given m) m r.entries legal refl (record {
          free = no_balance m (revoked_id ctx given) legal.keyed put.free;
          unsponsored = refl;
          id_free = λ id. add_zero_at_most _ (pos 1) (legal.offers id);
        }) (balance_in_range ctx given m put.some (valid put.other))
        (subst (HasAccount m) (sym (pays_alone ctx given.payer)) exists) put.added

    pub put_left : IsKeyed m → Leaves ctx.base_reserve
        (under_key (key.ClaimableBalance (revoked_id ctx given)) (λ x. of_asset x given.asset (pos given.amount))) m
        r.entries
    put_left keyed =
        balance_left (alone ctx) m given.payer 1 (revoked_balance ctx given m) r.entries keyed
        (λ id at. absurd (cc)) (no_balance m (revoked_id ctx given) keyed put.free)
        (ap (λ p. map_after_adding_balance (alone ctx) (revoked_balance ctx given m) p 1 m)
        (sym (pays_alone ctx given.payer)) ∙ put.added)

  -- legal entries, in which the accounts that existed still exist
  abbrev pub IsGood : EntryMap → Type 0
  IsGood new = AreEntriesLegal id_pool new × ((x : AccountId) → HasAccount m x → HasAccount new x)

  pub left_good : AreEntriesLegal id_pool m → IsLeft ctx given m r → IsGood r.entries
  left_good legal (inl none) = subst IsGood (sym none.entries) (legal, λ x existed. existed)
  left_good legal (inr (inl kept)) = subst IsGood (sym kept.entries) (legal, λ x existed. existed)
  left_good legal (inr (inr put)) = (
    entries_legal (view m) id_pool _ r.entries (put_legal put (view m) (total (held asset.Native) m) legal),
    (put_left put legal.keyed).exist,
  )

-- ---- one share line

module _ (ctx : Ctx) (low : OperationResult) (m : EntryMap) (legal : AreEntriesLegal ctx.id_pool m) (id : AccountId)
    (pool : Hash) where
  module _ (t : TrustLineEntry) (p : LiquidityPoolEntry) (has : line_at m id (line.PoolShare pool) ≡ Some t)
      (exists : pool_at m pool ≡ Some p) where
    abbrev payer : AccountId
    payer = payer_of_share id pool m

    abbrev given_a : Given
    given_a = given_of id pool payer p.params.asset_a (part_of p t.balance).a

    abbrev given_b : Given
    given_b = given_of id pool payer p.params.asset_b (part_of p t.balance).b

    abbrev emptied : EntryMap
    emptied = map_without_shares id pool p t (part_of p t.balance) m

    payer_still : HasAccount emptied payer
    payer_still = still_exists ctx.id_pool m legal id pool t p has exists payer
        (payer_there (view m) ctx.id_pool _ m legal id pool t has)

    -- both amounts are left, one after the other
    pub both_so : (r : Revoked) → both_left ctx low given_a given_b emptied ≡ Ok r
        → (first : Revoked) × (second : Revoked) × (left ctx low given_a emptied ≡ Ok first)
        × (left ctx low given_b first.entries ≡ Ok second)
        × (r ≡ record { entries = second.entries; moves = first.moves ++ second.moves })
    both_so r is =
        let one = went_after (left ctx low given_a emptied)
        (λ first. and_then first (left ctx low given_b first.entries)) r is in
        let two = went_after (left ctx low given_b one.0.entries)
        (λ second. Ok (record { entries = second.entries; moves = one.0.moves ++ second.moves })) r one.2 in
        let done = two.2 in (
          one.0,
          two.0,
          one.1,
          two.1,
          sym (let same : record { entries = two.0.entries; moves = one.0.moves ++ two.0.moves }
              ≡ r = cc in same),
        )

    pub share_by : (r : Revoked) → share_revoked_by ctx low id pool p t m ≡ Ok r → AreEntriesLegal ctx.id_pool r.entries
    share_by r is =
        let both = both_so r is in
        let first = left_good ctx.id_pool ctx given_a emptied both.0 payer_still
        (first_valid (view m) ctx.id_pool _ m legal id pool t p has exists)
        (gone_entries ctx.id_pool m legal id pool t p has exists)
        (left_so ctx low given_a emptied both.0 both.2) in
        let second = left_good ctx.id_pool ctx given_b both.0.entries both.1 (first.1 payer payer_still)
        (second_valid (view m) ctx.id_pool _ m legal id pool t p has exists) first.0
        (left_so ctx low given_b both.0.entries both.1 both.3) in
        subst (λ (x : Revoked). AreEntriesLegal ctx.id_pool x.entries) (sym both.4) second.0

  share_of_both : (o : Option TrustLineEntry) (q : Option LiquidityPoolEntry)
      → line_at m id (line.PoolShare pool) ≡ o → pool_at m pool ≡ q → (r : Revoked)
      → share_revoked_of ctx low id pool m o q ≡ Ok r → AreEntriesLegal ctx.id_pool r.entries
  share_of_both (Some t) (Some p) has exists r is = share_by t p has exists r is
  share_of_both None q has exists r is =
      let same : record { entries = m; moves = [] } ≡ r = cc in
      subst (λ (x : Revoked). AreEntriesLegal ctx.id_pool x.entries) same legal
  share_of_both (Some t) None has exists r is =
      let same : record { entries = m; moves = [] } ≡ r = cc in
      subst (λ (x : Revoked). AreEntriesLegal ctx.id_pool x.entries) same legal

  pub share_legal : (r : Revoked) → share_revoked ctx low id pool m ≡ Ok r → AreEntriesLegal ctx.id_pool r.entries
  share_legal r is = share_of_both (line_at m id (line.PoolShare pool)) (pool_at m pool) refl refl r is
