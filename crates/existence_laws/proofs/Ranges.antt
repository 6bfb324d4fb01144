-- Whether an entry is in its ranges.
use Rattle.existence_laws.proofs.Prelude as prelude
use prelude.{◌≡◌, ◌≢◌, inl, inr, ℕ, ◌%◌, ◌≤◌, pos, length, Option, Some, None, true, refl, coded_option, TrustLineEntry}
use prelude.{LedgerEntry, LedgerEntryBody, asset_cmp, signer_key_cmp, pool_id_of, account_liabilities, sponsorship_of}
use prelude.{has_flag, AreAccountFlags, AreSignersInRange, IsAccountInRange, IsHeldIn, AreLineFlags, IsTrustLineInRange}
use prelude.{IsOfferInRange, IsDataInRange, balance_flags, AreClaimantsInRange, IsBalanceInRange, IsPoolInRange}
use prelude.{IsBodyInRange, IsPaidRightly, IsEntryInRange}
use Rattle.std.specs.declared.cmp.Ordering.{Ordering}
use Rattle.std.specs.declared.cmp.Ordering.TheVariants.{Less, Equal, Greater}
use Rattle.close_laws.specs.ledger_types.contracts.ids.AccountId as account_id
use Rattle.close_laws.specs.ledger_types.contracts.ids.Hash as hash
use Rattle.close_laws.specs.ledger_types.contracts.signer.SignerKey as signer_key
use Rattle.close_laws.specs.ledger_types.contracts.asset.Asset as an_asset
use Rattle.close_laws.specs.ledger_types.declared.ids.AccountId.{AccountId}
use Rattle.close_laws.specs.ledger_types.declared.asset.TrustLineAsset.{TrustLineAsset}
use Rattle.close_laws.specs.ledger_types.declared.asset.TrustLineAsset.TheVariants as line
use Rattle.close_laws.specs.ledger_types.declared.signer.Signer.{Signer}
use Rattle.close_laws.specs.ledger_types.declared.signer.SignerKey.{SignerKey}
use Rattle.close_laws.specs.ledger_types.declared.signer.SignerKey.TheVariants as signer
use Rattle.close_laws.specs.ledger_types.declared.account.AccountEntry.{AccountEntry}
use Rattle.close_laws.specs.ledger_types.declared.account.AccountEntryExtensionV3.{AccountEntryExtensionV3}
use Rattle.close_laws.specs.ledger_types.declared.offer.OfferEntry.{OfferEntry}
use Rattle.close_laws.specs.ledger_types.declared.data_entry.DataEntry.{DataEntry}
use Rattle.close_laws.specs.ledger_types.declared.claimable_balance.Claimant.{Claimant}
use Rattle.close_laws.specs.ledger_types.declared.claimable_balance.ClaimableBalanceEntry.{ClaimableBalanceEntry}
use Rattle.close_laws.specs.ledger_types.declared.liquidity_pool.LiquidityPoolEntry.{LiquidityPoolEntry}
use Rattle.close_laws.specs.ledger_types.declared.entry.LedgerEntryBody.TheVariants as body
use Rattle.replay.specs.valid_values.Texts.{is_valid_text}
use Rattle.replay.specs.valid_values.Assets.{is_valid_code, is_valid_asset}
use Rattle.replay.specs.valid_values.Predicates.{is_valid_stored_predicate}
use Rattle.close_laws.specs.entry_slots.LineExtensions.{line_liabilities, use_count}
use Rattle.close_laws.specs.entry_slots.EntrySponsor.{sponsor_of}
use Rattle.replay.specs.reserve_rules.Reserve.{greatest_i64, IsInRange, IsLineInRange}
use Rattle.close_laws.specs.sponsor_rules.Charge.{owner_of}
use Rattle.close_laws.specs.entry_slots.AccountExtensions.{second_in, third_in}
use Rattle.close_laws.specs.legal_rules.OfferLiabilities.{bound_of}
use Rattle.close_laws.specs.legal_rules.Dated.{dated_from, IsThirdDated, IsKeyDated, IsAccountDated, IsBodyDated}
use Rattle.existence_laws.proofs.Decided.{Decided, decided_as, both, implied, opposite, below, same_number, is_true}
use Rattle.existence_laws.proofs.Decided.{below_int, same_int, same_value, each, each_pair}

same_account : (a b : AccountId) → Decided (a ≡ b)
same_account a b = same_value account_id.the_row.coded a b

same_sponsor : (a b : Option AccountId) → Decided (a ≡ b)
same_sponsor a b = same_value (coded_option account_id.the_row.coded) a b

less : (o : Ordering) → Decided (o ≡ Less)
less Less = inl refl
less Equal = inr (λ e. cc)
less Greater = inr (λ e. cc)

-- ---- accounts

balance_in_range : (a : AccountEntry) → Decided (IsInRange a)
balance_in_range a =
    let zero = below_int (pos 0) in
    decided_as (λ h. record { balance = h.0; buying = h.1.0; selling = h.1.1.0; fits = h.1.1.1 })
    (λ r. (r.balance, (r.buying, (r.selling, r.fits))))
    (both (zero a.balance) (both (zero (account_liabilities a).buying) (both (zero (account_liabilities a).selling)
    (below_int _ greatest_i64))))

account_flags : (flags : ℕ) → Decided (AreAccountFlags flags)
account_flags flags =
    decided_as (λ h. record { known = h.0; clawback = h.1 }) (λ r. (r.known, r.clawback))
    (both (below flags 15) (implied (is_true (has_flag flags 8)) (is_true (has_flag flags 2))))

abbrev IsWeight : Signer → Type 0
IsWeight s = (1 ≤ s.weight) × (s.weight ≤ 255)

signers_in_range : (a : AccountEntry)
    → Decided (AreSignersInRange a.account_id a.signers (sponsorship_of a).signer_sponsoring_ids)
signers_in_range a =
    let id = a.account_id in
    let signers = a.signers in
    let sponsors = (sponsorship_of a).signer_sponsoring_ids in
    decided_as (λ h. record {
      few = h.0;
      rising = h.1.0;
      weights = h.1.1.0;
      others = h.1.1.1.0;
      items = h.1.1.1.1.0;
      paid_by_others = h.1.1.1.1.1;
    })
    (λ r. (r.few, (r.rising, (r.weights, (r.others, (r.items, r.paid_by_others))))))
    (both (below (length signers) 20)
    (both (each_pair (λ (x y : Signer). signer_key_cmp x.key y.key ≡ Less) signers
    (λ x y. less (signer_key_cmp x.key y.key)))
    (both (each IsWeight signers (λ s. both (below 1 s.weight) (below s.weight 255)))
    (both (each (λ (s : Signer). s.key ≢ signer.Ed25519 id.0) signers
    (λ s. opposite (same_value signer_key.the_row.coded s.key (signer.Ed25519 id.0))))
    (both (same_number (length sponsors) (length signers))
    (each (λ (s : Option AccountId). s ≢ Some id) sponsors (λ s. opposite (same_sponsor s (Some id)))))))))

account_in_range : (a : AccountEntry) → Decided (IsAccountInRange a)
account_in_range a =
    decided_as (λ h. record {
      range = h.0;
      seq_num = h.1.0;
      greatest_seq_num = h.1.1.0;
      flags = h.1.1.1.0;
      home_domain = h.1.1.1.1.0;
      signers = h.1.1.1.1.1;
    })
    (λ r. (r.range, (r.seq_num, (r.greatest_seq_num, (r.flags, (r.home_domain, r.signers))))))
    (both (balance_in_range a) (both (below_int (pos 0) a.seq_num) (both (below_int a.seq_num greatest_i64)
    (both (account_flags a.flags) (both (is_true (is_valid_text a.home_domain)) (signers_in_range a))))))

-- ---- what accounts have from a version on

third_dated : (version seq close_time : ℕ) (third : Option AccountEntryExtensionV3)
    → Decided (IsThirdDated version seq close_time third)
third_dated version seq close_time None = inl tt
third_dated version seq close_time (Some third) =
    both (below dated_from version) (both (below third.seq_ledger seq) (below third.seq_time close_time))

key_dated : (version : ℕ) (key : SignerKey) → Decided (IsKeyDated version key)
key_dated version (signer.SignedPayload key payload) = both (below dated_from version) (below 1 (length payload))
key_dated version other = inl tt

account_dated : (version seq close_time : ℕ) (a : AccountEntry) → Decided (IsAccountDated version seq close_time a)
account_dated version seq close_time a =
    decided_as (λ h. record { third = h.0; signers = h.1 }) (λ r. (r.third, r.signers))
    (both (third_dated version seq close_time (third_in (second_in a.ext)))
    (each (λ (s : Signer). IsKeyDated version s.key) a.signers (λ s. key_dated version s.key)))

pub body_dated : (version seq close_time : ℕ) (b : LedgerEntryBody) → Decided (IsBodyDated version seq close_time b)
body_dated version seq close_time (body.Account account) = account_dated version seq close_time account
body_dated version seq close_time other = inl tt

-- ---- trust lines, offers and data

line_range : (t : TrustLineEntry) → Decided (IsLineInRange t)
line_range t =
    decided_as
    (λ h. record { balance = h.0; buying = h.1.0; selling = h.1.1.0; covered = h.1.1.1.0; fits = h.1.1.1.1 })
    (λ r. (r.balance, (r.buying, (r.selling, (r.covered, r.fits)))))
    (both (below_int (pos 0) t.balance) (both (below_int (pos 0) (line_liabilities t).buying)
    (both (below_int (pos 0) (line_liabilities t).selling) (both (below_int (line_liabilities t).selling t.balance)
    (below_int _ t.limit)))))

held_in : (id : AccountId) (asset : TrustLineAsset) → Decided (IsHeldIn id asset)
held_in id line.Native = inr (λ h. h)
held_in id (line.Alphanum4 code issuer) =
    both (is_true (is_valid_code 1 code)) (opposite (same_account issuer id))
held_in id (line.Alphanum12 code issuer) =
    both (is_true (is_valid_code 5 code)) (opposite (same_account issuer id))
held_in id (line.PoolShare pool) = inl tt

line_flags : (asset : TrustLineAsset) (flags : ℕ) → Decided (AreLineFlags asset flags)
line_flags (line.PoolShare pool) flags = same_number flags 0
line_flags other flags = both (below flags 7) (opposite (same_number (flags % 4) 3))

line_in_range : (t : TrustLineEntry) → Decided (IsTrustLineInRange t)
line_in_range t =
    decided_as (λ h. record {
      range = h.0;
      limit = h.1.0;
      greatest = h.1.1.0;
      held = h.1.1.1.0;
      flags = h.1.1.1.1.0;
      uses = h.1.1.1.1.1;
    })
    (λ r. (r.range, (r.limit, (r.greatest, (r.held, (r.flags, r.uses))))))
    (both (line_range t) (both (below_int (pos 1) t.limit) (both (below_int t.limit greatest_i64)
    (both (held_in t.account_id t.asset) (both (line_flags t.asset t.flags) (below_int (pos 0) (use_count t)))))))

offer_in_range : (id_pool : ℕ) (o : OfferEntry) → Decided (IsOfferInRange id_pool o)
offer_in_range id_pool o =
    decided_as (λ h. record {
      amount = h.0;
      n = h.1.0;
      d = h.1.1.0;
      wheat = h.1.1.1.0;
      sheep = h.1.1.1.1.0;
      id_low = h.1.1.1.1.1.0;
      id_high = h.1.1.1.1.1.1.0;
      selling = h.1.1.1.1.1.1.1.0;
      buying = h.1.1.1.1.1.1.1.1.0;
      assets = h.1.1.1.1.1.1.1.1.1.0;
      flags = h.1.1.1.1.1.1.1.1.1.1;
    })
    (λ r. (
      r.amount,
      (
        r.n,
        (
          r.d,
          (
            r.wheat,
            (
              r.sheep,
              (
                r.id_low,
                (
                  r.id_high,
                  (
                    r.selling,
                    (
                      r.buying,
                      (r.assets, r.flags),
                    ),
                  ),
                ),
              ),
            ),
          ),
        ),
      ),
    ))
    (both (below_int (pos 1) o.amount) (both (below_int (pos 1) o.price.n) (both (below_int (pos 1) o.price.d)
    (both (below 1 (bound_of o).wheat) (both (below 1 (bound_of o).sheep) (both (below_int (pos 1) o.offer_id)
    (both (below_int o.offer_id (pos id_pool)) (both (is_true (is_valid_asset o.selling))
    (both (is_true (is_valid_asset o.buying)) (both (opposite (same_value an_asset.the_row.coded o.selling o.buying))
    (below o.flags 1)))))))))))

data_in_range : (entry : DataEntry) → Decided (IsDataInRange entry)
data_in_range entry =
    decided_as (λ h. record { some = h.0; name = h.1 }) (λ r. (r.some, r.name))
    (both (below 1 (length entry.data_name)) (is_true (is_valid_text entry.data_name)))

-- ---- claimable balances

claimants_in_range : (balance : ClaimableBalanceEntry) → Decided (AreClaimantsInRange balance.claimants)
claimants_in_range balance =
    let claimants = balance.claimants in
    decided_as (λ h. record { some = h.0; few = h.1.0; apart = h.1.1.0; predicates = h.1.1.1 })
    (λ r. (r.some, (r.few, (r.apart, r.predicates))))
    (both (below 1 (length claimants)) (both (below (length claimants) 10)
    (both (each_pair (λ (x y : Claimant). x.destination ≢ y.destination) claimants
    (λ x y. opposite (same_account x.destination y.destination)))
    (each (λ (c : Claimant). is_valid_stored_predicate c.predicate ≡ true) claimants
    (λ c. is_true (is_valid_stored_predicate c.predicate))))))

balance_decided : (balance : ClaimableBalanceEntry) → Decided (IsBalanceInRange balance)
balance_decided balance =
    decided_as (λ h. record { amount = h.0; asset = h.1.0; flags = h.1.1.0; claimants = h.1.1.1 })
    (λ r. (r.amount, (r.asset, (r.flags, r.claimants))))
    (both (below_int (pos 1) balance.amount) (both (is_true (is_valid_asset balance.asset))
    (both (below (balance_flags balance.ext) 1) (claimants_in_range balance))))

-- ---- pools

pool_in_range : (p : LiquidityPoolEntry) → Decided (IsPoolInRange p)
pool_in_range p =
    decided_as (λ h. record {
      fee = h.0;
      assets = h.1.0;
      id = h.1.1.0;
      reserve_a = h.1.1.1.0;
      reserve_b = h.1.1.1.1.0;
      shares = h.1.1.1.1.1.0;
      lines = h.1.1.1.1.1.1;
    })
    (λ r. (r.fee, (r.assets, (r.id, (r.reserve_a, (r.reserve_b, (r.shares, r.lines)))))))
    (both (same_int p.params.fee (pos 30)) (both (less (asset_cmp p.params.asset_a p.params.asset_b))
    (both (same_value hash.the_row.coded p.pool_id (pool_id_of p.params.asset_a p.params.asset_b))
    (both (below_int (pos 0) p.reserve_a) (both (below_int (pos 0) p.reserve_b)
    (both (below_int (pos 0) p.total_pool_shares) (below_int (pos 0) p.pool_shares_trust_line_count)))))))

-- ---- entries

body_in_range : (id_pool : ℕ) (b : LedgerEntryBody) → Decided (IsBodyInRange id_pool b)
body_in_range id_pool (body.Account account) = account_in_range account
body_in_range id_pool (body.TrustLine line) = line_in_range line
body_in_range id_pool (body.Offer offer) = offer_in_range id_pool offer
body_in_range id_pool (body.Data entry) = data_in_range entry
body_in_range id_pool (body.ClaimableBalance balance) = balance_decided balance
body_in_range id_pool (body.LiquidityPool pool) = pool_in_range pool

paid_rightly : (b : LedgerEntryBody) (sponsor : Option AccountId) → Decided (IsPaidRightly b sponsor)
paid_rightly (body.ClaimableBalance balance) sponsor = opposite (same_sponsor sponsor None)
paid_rightly (body.LiquidityPool pool) sponsor = same_sponsor sponsor None
paid_rightly other sponsor =
    implied (opposite (same_sponsor sponsor None)) (opposite (same_sponsor sponsor (owner_of other)))

pub in_range : (id_pool : ℕ) (e : LedgerEntry) → Decided (IsEntryInRange id_pool e)
in_range id_pool e =
    decided_as (λ h. record { body = h.0; paid = h.1 }) (λ r. (r.body, r.paid))
    (both (body_in_range id_pool e.body) (paid_rightly e.body (sponsor_of e)))
