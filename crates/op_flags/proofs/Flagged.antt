-- A line that gets its flags, once the offers are gone that went with an authorisation.
use Rattle.op_flags.proofs.Prelude.{◌≡◌, ◌≢◌, refl, sym, ap, subst, ◌∙◌, ℕ, ◌%◌, ◌≤◌, Bool, true, false, not, ◌&&◌}
use Rattle.op_flags.proofs.Prelude.{Option, Some, None, ℤ, pos, ◌+ℤ◌, ◌-ℤ◌, if◌then◌else◌, AccountId, Asset}
use Rattle.op_flags.proofs.Prelude.{TrustLineAsset, TrustLineEntry, LedgerKey, EntryMap, line_liabilities, line_at}
use Rattle.op_flags.proofs.Prelude.{with_line, Kind, Shares, View, is_key, for_key, nothing_owed, plus, IsEntryLegal}
use Rattle.op_flags.proofs.Prelude.{IsBoundRightly, IsLegalOwing, pool_named, AreLineFlags, IsTrustLineInRange, of_line}
use Rattle.op_flags.proofs.Prelude.{IsLegalLine, line_legal, is_native, line_asset_of, has_any, with_flags, is_revoked}
use Rattle.op_flags.proofs.Prelude.{map_after_revoking, map_after_flagging, add_sub_self, sub_self}
use Rattle.ledger_types.specs.declared.entry.LedgerEntryBody.TheVariants as body
use Rattle.trade_cross.specs.legal_rules.ChangeLaws.{KeepsLineAggregates, in_shares}
use Rattle.trade_cross.proofs.legal_rules_proofs.Changed.{line_changed}
use Rattle.trade_cross.proofs.legal_rules_proofs.Steps.{legal_as}
use Rattle.pool_shares.proofs.Counted.{no_line_changed}
use Rattle.op_flags.proofs.FlagNumbers.{masked, flags_in, are_flags}
use Rattle.op_flags.proofs.Revoked.{revoked_legal, revoked_unbound}

-- ---- what is left where an authorisation is taken back

abbrev pub AreNone : TrustLineEntry → Type 0
AreNone t = ((line_liabilities t).selling ≡ pos 0) × ((line_liabilities t).buying ≡ pos 0)

-- a line that keeps an authorisation had one, or is bound by no offer
pub still_unbound : (t : TrustLineEntry) (f : ℕ) (had has : Bool) → has_any t.flags 3 ≡ had → has_any f 3 ≡ has
    → (had && not has) ≡ false → t.flags ≤ 7 → f ≤ 7 → IsBoundRightly (body.TrustLine t) → f % 4 ≡ 0 → AreNone t
still_unbound t f true true was now test le also bound none = let off = (masked f also).1 none in absurd (cc)
still_unbound t f true false was now test le also bound none = absurd (cc)
still_unbound t f false has was now test le also bound none = bound ((masked t.flags le).0 was)

-- ---- the line gets its flags

none_of_each : (o : Option LedgerKey) (k : LedgerKey) → for_key k o (pos 0) ≡ pos 0
none_of_each None k = refl
none_of_each (Some q) k = by_test (is_key q k)
  where
    by_test : (t : Bool) → (if t then pos 0 else pos 0) ≡ pos 0
    by_test true = refl
    by_test false = refl

no_shares_more : (a : TrustLineAsset) (n : ℤ) (kind : Kind) (k : LedgerKey)
    → plus nothing_owed (in_shares a (n -ℤ n)) kind k ≡ pos 0
no_shares_more a n Shares k = (λ i. pos 0 +ℤ for_key k (pool_named a) (sub_self n i))
    ∙ ap (λ x. pos 0 +ℤ x) (none_of_each (pool_named a) k)
no_shares_more a n kind k = refl

module _ (v : View) (id_pool : ℕ) (sum : ℤ) (trustor : AccountId) (held : Asset) (issued : is_native held ≡ false)
  where
    abbrev its : TrustLineAsset
    its = line_asset_of held

    module _ (now : EntryMap) (legal : IsLegalOwing v id_pool nothing_owed sum now) (f : ℕ)
        (known : (f ≤ 7) × (f % 4 ≢ 3))
        (bound : (t : TrustLineEntry) → line_at now trustor its ≡ Some t
        → IsBoundRightly (body.TrustLine (with_flags f t))) where
      abbrev new : EntryMap
      new = with_line now trustor its (with_flags f)

      module _ (t : TrustLineEntry) (there : line_at now trustor its ≡ Some t) where
        keeps : KeepsLineAggregates t (with_flags f t)
        keeps = record { id = refl; asset = refl; liabilities = refl; uses = refl }

        was : IsLegalLine trustor its t
        was = line_legal v id_pool nothing_owed sum now trustor its t legal there

        range : IsTrustLineInRange (with_flags f t)
        range = record {
          range = record {
            balance = was.range.range.balance;
            buying = was.range.range.buying;
            selling = was.range.range.selling;
            covered = was.range.range.covered;
            fits = was.range.range.fits;
          };
          limit = was.range.limit;
          greatest = was.range.greatest;
          held = was.range.held;
          flags = subst (λ a. AreLineFlags a f) (sym was.asset) (are_flags held issued f known);
          uses = was.range.uses;
        }

        flags_legal : IsLegalOwing v id_pool nothing_owed sum new
        flags_legal = legal_as v (IsEntryLegal id_pool) _ nothing_owed _ sum new
            (line_changed v id_pool nothing_owed sum now trustor its (with_flags f) t legal there keeps range
            (bound t there))
            (λ kind k. no_shares_more t.asset t.balance kind k) (add_sub_self sum (of_line v.asset t.asset t.balance))

      by_line : (o : Option TrustLineEntry) → line_at now trustor its ≡ o → IsLegalOwing v id_pool nothing_owed sum new
      by_line None none = subst (IsLegalOwing v id_pool nothing_owed sum)
          (sym (no_line_changed now trustor its (with_flags f) none)) legal
      by_line (Some t) there = flags_legal t there

      pub line_flagged : IsLegalOwing v id_pool nothing_owed sum new
      line_flagged = by_line (line_at now trustor its) refl

    -- ---- with what goes before

    module _ (m : EntryMap) (legal : IsLegalOwing v id_pool nothing_owed sum m) (t : TrustLineEntry)
        (there : line_at m trustor its ≡ Some t) where
      old : IsLegalLine trustor its t
      old = line_legal v id_pool nothing_owed sum m trustor its t legal there

      pub old_flags : (t.flags ≤ 7) × (t.flags % 4 ≢ 3)
      old_flags = flags_in held issued t.flags (subst (λ a. AreLineFlags a t.flags) old.asset old.range.flags)

      unbound_by : (f : ℕ) → f ≤ 7 → (revoked : Bool) → is_revoked t f ≡ revoked → (u : TrustLineEntry)
          → line_at (map_after_revoking trustor held revoked m) trustor its ≡ Some u
          → IsBoundRightly (body.TrustLine (with_flags f u))
      unbound_by f low true is u here none = revoked_unbound v id_pool sum m legal trustor held u here
      unbound_by f low false is u here none =
          let same : t ≡ u = cc in
          subst AreNone same
          (still_unbound t f (has_any t.flags 3) (has_any f 3) refl refl is old_flags.0 low old.bound none)

      left_legal : (revoked : Bool)
          → IsLegalOwing v id_pool nothing_owed sum (map_after_revoking trustor held revoked m)
      left_legal true = revoked_legal v id_pool sum m legal trustor held
      left_legal false = legal

      pub flagged_legal : (f : ℕ) → (f ≤ 7) × (f % 4 ≢ 3) → (revoked : Bool) → is_revoked t f ≡ revoked
          → IsLegalOwing v id_pool nothing_owed sum (map_after_flagging trustor held f revoked m)
      flagged_legal f known revoked is =
          line_flagged (map_after_revoking trustor held revoked m) (left_legal revoked) f known
          (unbound_by f known.0 revoked is)
