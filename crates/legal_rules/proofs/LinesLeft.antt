-- What a change of a line leaves: what the line holds more, and the accounts as they were.
use Rattle.legal_rules.proofs.Prelude as prelude
use prelude.{◌≡◌, refl, sym, ap, subst, ◌∙◌, ℕ, Bool, true, false, Some, arith, ints, get, ℤ, pos, ◌+ℤ◌, ◌-ℤ◌}
use prelude.{if◌then◌else◌, is_eq, AccountId, Asset, TrustLineAsset, TrustLineEntry, LedgerKey, asset_cmp, key_of_body}
use prelude.{EntryMap, put, line_at, with_line, part, View, IsKeyed, none_more, under_key, HoldsMore, Owed}
use prelude.{IsBoundRightly, IsLegalOwing, IsBodyInRange, IsTrustLineInRange, of_line, held_in, held_of, if_zero}
use Rattle.hash_ids.specs.ledger_types.declared.asset.Asset.TheVariants as asset
use Rattle.hash_ids.specs.ledger_types.declared.asset.TrustLineAsset.TheVariants as line
use Rattle.hash_ids.specs.ledger_types.declared.entry.LedgerEntryBody.TheVariants as body
use Rattle.hash_ids.specs.ledger_types.declared.key.LedgerKey.TheVariants as key
use Rattle.legal_rules.proofs.ChargesLeft.{put_beside}
use Rattle.legal_rules.proofs.Holdings.{none_under, put_holds}
use Rattle.legal_rules.proofs.Leaving.{Leaves, leaves_as, accounts_kept, keyed_put}
use Rattle.legal_rules.proofs.Liable.{line_entry, with_line_body, with_line_is}

-- ---- a line that exists

pub record IsLegalLine (id : AccountId) (held : TrustLineAsset) (t : TrustLineEntry) : Type 0 where
  pub range : IsTrustLineInRange t
  pub bound : IsBoundRightly (body.TrustLine t)
  pub owner : t.account_id ≡ id
  pub asset : t.asset ≡ held

owner_of_key : (id other : AccountId) (a b : TrustLineAsset) → key.TrustLine id a ≡ key.TrustLine other b → id ≡ other
owner_of_key id other a b same = cc

pub asset_of_key : (id other : AccountId) (a b : TrustLineAsset) → key.TrustLine id a ≡ key.TrustLine other b → a ≡ b
asset_of_key id other a b same = cc

pub line_legal : (v : View) (id_pool : ℕ) (owed : Owed) (sum : ℤ) (m : EntryMap) (id : AccountId)
    (held : TrustLineAsset) (t : TrustLineEntry) → IsLegalOwing v id_pool owed sum m → line_at m id held ≡ Some t
    → IsLegalLine id held t
line_legal v id_pool owed sum m id held t legal exists =
    let found = line_entry m id held t exists in
    let e = found.0 in
    let is = found.1.is in
    let entry = legal.entries (key.TrustLine id held) e found.1.there in
    let named = sym (ap key_of_body is) ∙ legal.keyed (key.TrustLine id held) e found.1.there in
    record {
      range = subst (IsBodyInRange id_pool) is entry.range.body;
      bound = subst IsBoundRightly is entry.bound;
      owner = owner_of_key t.account_id id t.asset held named;
      asset = asset_of_key t.account_id id t.asset held named;
    }

pub line_named : (m : EntryMap) (id : AccountId) (held : TrustLineAsset) (t : TrustLineEntry) → IsKeyed m
    → line_at m id held ≡ Some t → (t.account_id ≡ id) × (t.asset ≡ held)
line_named m id held t keyed exists =
    let found = line_entry m id held t exists in
    let named = sym (ap key_of_body found.1.is) ∙ keyed (key.TrustLine id held) found.0 found.1.there in
    (owner_of_key t.account_id id t.asset held named, asset_of_key t.account_id id t.asset held named)

-- ---- a line that is changed

apart_by : (b : Bool) (new old : ℤ) → (if b then new else pos 0) ≡ ((if b then old else pos 0)
    +ℤ (if b then new -ℤ old else pos 0))
apart_by true new old = omega (arith, ints)
apart_by false new old = refl

-- a balance by an older one
pub line_by_difference : (x : Asset) (held : TrustLineAsset) (new old : ℤ)
    → of_line x held new ≡ (of_line x held old +ℤ of_line x held (new -ℤ old))
line_by_difference x line.Native new old = refl
line_by_difference x (line.Alphanum4 code issuer) new old =
    apart_by (is_eq (asset_cmp x (asset.Alphanum4 code issuer))) new old
line_by_difference x (line.Alphanum12 code issuer) new old =
    apart_by (is_eq (asset_cmp x (asset.Alphanum12 code issuer))) new old
line_by_difference x (line.PoolShare pool) new old = refl

no_difference : (new old : ℤ) → new ≡ old → (new -ℤ old) ≡ pos 0
no_difference new old same = omega (arith, ints)

pub of_line_zero : (x : Asset) (held : TrustLineAsset) → of_line x held (pos 0) ≡ pos 0
of_line_zero x line.Native = refl
of_line_zero x (line.Alphanum4 code issuer) = if_zero (is_eq (asset_cmp x (asset.Alphanum4 code issuer))) (pos 0) refl
of_line_zero x (line.Alphanum12 code issuer) = if_zero (is_eq (asset_cmp x (asset.Alphanum12 code issuer))) (pos 0) refl
of_line_zero x (line.PoolShare pool) = refl

module _ (m : EntryMap) (id : AccountId) (held : TrustLineAsset) (f : TrustLineEntry → TrustLineEntry)
    (t : TrustLineEntry) (exists : line_at m id held ≡ Some t) (owner : (f t).account_id ≡ t.account_id)
    (asset : (f t).asset ≡ t.asset) (base : ℕ) (keyed : IsKeyed m) where
  abbrev new : EntryMap
  new = with_line m id held f

  abbrev more : Asset → ℤ
  more x = of_line x held ((f t).balance -ℤ t.balance)

  abbrev at : LedgerKey
  at = key.TrustLine id held

  its_key : key.TrustLine (f t).account_id (f t).asset ≡ at
  its_key =
      let named = line_named m id held t keyed exists in
      λ i. key.TrustLine ((owner ∙ named.0) i) ((asset ∙ named.1) i)

  had : (x : Asset) → part (held_of x) (get m (key.TrustLine (f t).account_id (f t).asset)) ≡ of_line x held t.balance
  had x =
      let found = line_entry m id held t exists in
      ap (λ q. part (held_of x) (get m q)) its_key ∙ ap (part (held_of x)) found.1.there
      ∙ ap (held_in x) found.1.is
      ∙ ap (λ (a : TrustLineAsset). of_line x a t.balance) (line_named m id held t keyed exists).1

  has_more : (x : Asset) → of_line x (f t).asset (f t).balance
      ≡ (part (held_of x) (get m (key.TrustLine (f t).account_id (f t).asset)) +ℤ more x)
  has_more x =
      ap (λ (a : TrustLineAsset). of_line x a (f t).balance) (asset ∙ (line_named m id held t keyed exists).1)
      ∙ line_by_difference x held (f t).balance t.balance ∙ ap (λ n. n +ℤ more x) (sym (had x))

  -- No account changes, and the line holds so much more.
  pub line_left : Leaves base (under_key at more) m new
  line_left =
      let found = line_entry m id held t exists in
      let e = with_line_body found.0 (f t) in
      subst (Leaves base (under_key at more) m) (sym (with_line_is m id held f t found.0 found.1))
      (accounts_kept base (under_key at more) m (put m e) (keyed_put m e keyed)
      (put_beside m e (λ other same. absurd (cc)))
      (subst (λ q. HoldsMore (under_key q more) m (put m e)) its_key (put_holds m e more has_more)))

  -- the same of a line with the balance that it had
  pub line_kept : (f t).balance ≡ t.balance → Leaves base none_more m new
  line_kept same = leaves_as base (under_key at more) none_more m new line_left
      (none_under at more (λ x. ap (of_line x held) (no_difference (f t).balance t.balance same) ∙ of_line_zero x held))
