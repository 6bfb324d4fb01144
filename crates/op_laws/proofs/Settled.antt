-- Settled entries, by the forms in which changes are stated, and what they give.
use Rattle.op_laws.proofs.Prelude as prelude
use prelude.{◌≡◌, refl, subst, ℕ, ◌≤◌, Bool, true, false, Option, Some, None, arith, ints, ℤ, pos, ◌+ℤ◌, ◌≤ℤ◌}
use prelude.{if◌then◌else◌, get, is_eq, AccountId, Asset, TrustLineAsset, TrustLineEntry, ClaimableBalanceEntry}
use prelude.{LedgerEntry, LedgerEntryBody, asset_cmp, EntryMap, num_sponsored, balance_in, balance_of, balance_at}
use prelude.{line_at, IsLineInRange, total, Subentries, Sponsored, IsBodyInRange, of_asset, of_line, held_in, held}
use prelude.{view, pools_in, nothing_owed, IsEntryLegal, IsLegalOwing, AreEntriesLegal, account_legal}
use prelude.{sponsored_at_most, account_states, sponsors_ready, owing_nothing_of, legal_of, line_entry, entries_sound}
use prelude.{LegalSettles, SettledLegal, SettledAccounts, SettledReady, SettledInRange, SettledHeld, SettledSound}
use prelude.{SettledFew, SettledAmounts, UnderwayManageable, add_nonnegative, nonnegative_from_positive, balances_exact}
use Rattle.op_flags.specs.ledger_types.declared.asset.Asset.TheVariants as asset
use Rattle.op_flags.specs.ledger_types.declared.asset.TrustLineAsset.TheVariants as line
use Rattle.op_flags.specs.ledger_types.declared.entry.LedgerEntryBody.TheVariants as body
use Rattle.op_flags.specs.ledger_types.declared.key.LedgerKey.TheVariants as key
use Rattle.op_flags.proofs.entry_sums_proofs.Summing.{total_not_below}
use Rattle.op_flags.proofs.legal_rules_proofs.Numbers.{taken_off}

-- ---- legal states

pub legal_settles : LegalSettles
legal_settles h m legal = record { legal = owing_nothing_of asset.Native h m legal }

pub settled_legal : SettledLegal
settled_legal h m header settled sum =
    legal_of h (pools_in m) m header (subst (λ n. IsLegalOwing (view m) h.id_pool nothing_owed n m)
    (taken_off h.total_coins h.fee_pool (total (held asset.Native) m) sum) settled.legal)

-- ---- what settled entries give

pub settled_accounts : SettledAccounts
settled_accounts id_pool m id a settled exists =
    (account_legal (view m) id_pool nothing_owed (total (held asset.Native) m) m id a settled.legal exists).range

line_in_range : (id_pool : ℕ) (m : EntryMap) (id : AccountId) (held : TrustLineAsset) (t : TrustLineEntry)
    → AreEntriesLegal id_pool m → line_at m id held ≡ Some t → IsLineInRange t
line_in_range id_pool m id held t legal exists =
    let found = line_entry m id held t exists in
    (subst (IsBodyInRange id_pool) found.1.is
    (legal.entries (key.TrustLine id held) found.0 found.1.there).range.body).range

ready_of : (stated_sponsored stated_subs : ℤ) (sponsored subs : ℕ) → stated_sponsored ≡ pos sponsored
    → stated_subs ≡ pos subs → stated_sponsored ≤ℤ (stated_subs +ℤ pos 2) → subs ≤ 1000 → sponsored ≤ 4294967293
ready_of stated_sponsored stated_subs sponsored subs is also le few = omega (arith, ints)

pub settled_few : SettledFew
settled_few id_pool m settled = record {
  few = λ id a exists. (settled_accounts id_pool m id a settled exists).signers.few;
}

pub settled_ready : SettledReady
settled_ready id_pool m settled = record {
  ready = λ id a exists. record {
    sponsored = ready_of _ _ (num_sponsored a) a.num_sub_entries (account_states m id a Sponsored exists)
        (account_states m id a Subentries exists)
        (sponsored_at_most (view m) id_pool nothing_owed (total (held asset.Native) m) m (key.Account id) settled.legal
        (omega (arith, ints)))
        (account_legal (view m) id_pool nothing_owed (total (held asset.Native) m) m id a settled.legal exists).few;
  };
}

pub settled_in_range : SettledInRange
settled_in_range id_pool m settled = record {
  accounts = record { in_range = λ id a exists. (settled_accounts id_pool m id a settled exists).range };
  lines = λ id held t exists. line_in_range id_pool m id held t settled.legal exists;
}

pub settled_sound : SettledSound
settled_sound id_pool m settled = entries_sound id_pool m settled.legal

-- ---- what is held

of_not_below : (x a : Asset) (n : ℤ) → pos 0 ≤ℤ n → pos 0 ≤ℤ of_asset x a n
of_not_below x a n low = by (is_eq (asset_cmp x a))
  where
    by : (same : Bool) → pos 0 ≤ℤ (if same then n else pos 0)
    by true = low
    by false = omega (arith, ints)

line_not_below : (x : Asset) (a : TrustLineAsset) (n : ℤ) → pos 0 ≤ℤ n → pos 0 ≤ℤ of_line x a n
line_not_below x line.Native n low = omega (arith, ints)
line_not_below x (line.Alphanum4 code issuer) n low = of_not_below x (asset.Alphanum4 code issuer) n low
line_not_below x (line.Alphanum12 code issuer) n low = of_not_below x (asset.Alphanum12 code issuer) n low
line_not_below x (line.PoolShare pool) n low = omega (arith, ints)

in_not_below : (x : Asset) (id_pool : ℕ) (of : LedgerEntryBody) → IsBodyInRange id_pool of → pos 0 ≤ℤ held_in x of
in_not_below x id_pool (body.Account account) r = of_not_below x asset.Native account.balance r.range.balance
in_not_below x id_pool (body.TrustLine line) r = line_not_below x line.asset line.balance r.range.balance
in_not_below x id_pool (body.Offer offer) r = omega (arith, ints)
in_not_below x id_pool (body.Data entry) r = omega (arith, ints)
in_not_below x id_pool (body.ClaimableBalance balance) r =
    of_not_below x balance.asset balance.amount (nonnegative_from_positive balance.amount r.amount)
in_not_below x id_pool (body.LiquidityPool pool) r =
    add_nonnegative (of_asset x pool.params.asset_a pool.reserve_a) (of_asset x pool.params.asset_b pool.reserve_b)
    (of_not_below x pool.params.asset_a pool.reserve_a r.reserve_a)
    (of_not_below x pool.params.asset_b pool.reserve_b r.reserve_b)

amount_low : (id_pool : ℕ) (of : LedgerEntryBody) (x : ClaimableBalanceEntry) → balance_in of ≡ Some x
    → IsBodyInRange id_pool of → pos 0 ≤ℤ x.amount
amount_low id_pool of x is range =
    nonnegative_from_positive x.amount (subst (IsBodyInRange id_pool) (balances_exact.body of x is) range).amount

pub settled_amounts : SettledAmounts
unfolding balance_at
settled_amounts id_pool m settled = record {
  low = λ id x exists. by x (get m (key.ClaimableBalance id)) (settled.legal.entries (key.ClaimableBalance id)) exists;
}
  where
    by : (x : ClaimableBalanceEntry) (o : Option LedgerEntry)
        → ((e : LedgerEntry) → o ≡ Some e → IsEntryLegal id_pool e) → balance_of o ≡ Some x → pos 0 ≤ℤ x.amount
    by x None each is = absurd (cc)
    by x (Some e) each is = amount_low id_pool e.body x is (each e refl).range.body

pub settled_held : SettledHeld
settled_held id_pool m settled = total_not_below (held asset.Native) m
    (λ k e there. in_not_below asset.Native id_pool e.body (settled.legal.entries k e there).range.body)

-- ---- what operations on offers ask for

pub underway_manageable : UnderwayManageable
underway_manageable ctx m under exists ids = record {
  view = view m;
  sum = total (held asset.Native) m;
  legal = under.settled.legal;
  ids = ids;
  ready = settled_ready ctx.id_pool m under.settled;
  source = exists;
  sponsor = sponsors_ready ctx m ctx.op_source under.sponsorships;
}
