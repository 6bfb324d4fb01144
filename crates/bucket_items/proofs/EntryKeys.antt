-- The key of an entry lies in the entry's encoding as one piece, after the number of its last change.
use Rattle.bucket_items.proofs.Prelude as prelude
use prelude.{◌≡◌, ℕ, ℤ, pos, List, ◌++◌, sym, ap, ◌∙◌, append_assoc, Option, u32, i32, i64, var, ◌⨾◌, closed, Xdr, tag}
use prelude.{optional, list_of, extension_of, AccountId, LedgerEntry, key_of, key_of_body, account_id, hash}
use prelude.{claimable_balance_id, asset, trust_line_asset, price, pool_params, ledger_key, account_head, account_tail}
use prelude.{account_entry, trust_line_entry, offer_entry, data_entry, claimable_balance_entry, liquidity_pool_entry}
use prelude.{ledger_entry_body, ledger_entry, ledger_entry_extension_v1, trust_line_extension_v1, claimant}
use prelude.{claimable_balance_extension_v1, account_fields, line_fields, offer_fields, data_fields, balance_fields}
use prelude.{pool_fields}
use Rattle.ledger_types.specs.declared.asset.Asset.{Asset}
use Rattle.ledger_types.specs.declared.asset.PoolParams.{PoolParams}
use Rattle.ledger_types.specs.declared.price.Price.{Price}
use Rattle.ledger_types.specs.declared.trust_line.TrustLineEntryExtensionV1.{TrustLineEntryExtensionV1}
use Rattle.ledger_types.specs.declared.claimable_balance.Claimant.{Claimant}
use Rattle.ledger_types.specs.declared.claimable_balance.ClaimableBalanceEntryExtensionV1.{
  ClaimableBalanceEntryExtensionV1,
}
use Rattle.ledger_types.specs.declared.entry.LedgerEntryBody.{LedgerEntryBody}
use Rattle.ledger_types.specs.declared.entry.LedgerEntryBody.TheVariants as body

-- the first part, or the first two, of what comes after a discriminant
one_after : {A B : Type 0} (mark : ℤ) (f : Xdr A) (g : Xdr B) (v : A × B)
    → (t : List ℕ) × (i32.encoding mark ++ (f ⨾ g).encoding v ≡ (i32.encoding mark ++ f.encoding v.0) ++ t)
one_after mark f g v = (g.encoding v.1, sym (append_assoc (i32.encoding mark) (f.encoding v.0) (g.encoding v.1)))

two_after : {A B C : Type 0} (mark : ℤ) (f : Xdr A) (g : Xdr B) (h : Xdr C) (v : A × (B × C))
    → (t : List ℕ) × (i32.encoding mark ++ (f ⨾ g ⨾ h).encoding v ≡ (i32.encoding mark ++ (f ⨾ g).encoding (v.0, v.1.0))
    ++ t)
two_after mark f g h v = (h.encoding v.1.1, simp append_assoc)

-- the first part of the first of two
one_of_head : {A B C : Type 0} (mark : ℤ) (f : Xdr A) (g : Xdr B) (h : Xdr C) (v : (A × B) × C)
    → (t : List ℕ) × (i32.encoding mark ++ ((f ⨾ g) ⨾ h).encoding v ≡ (i32.encoding mark ++ f.encoding v.0.0) ++ t)
one_of_head mark f g h v = (g.encoding v.0.1 ++ h.encoding v.1, simp append_assoc)

-- ---- what comes after each kind of key

abbrev account_rest : Xdr (ℤ × (ℤ × (ℕ × (Option AccountId × ℕ))))
account_rest = i64 ⨾ i64 ⨾ u32 ⨾ optional account_id ⨾ u32

abbrev line_rest : Xdr (ℤ × (ℤ × (ℕ × Option TrustLineEntryExtensionV1)))
line_rest = i64 ⨾ i64 ⨾ u32 ⨾ extension_of (pos 1) trust_line_extension_v1

abbrev offer_rest : Xdr (Asset × (Asset × (ℤ × (Price × ℕ))))
offer_rest = asset ⨾ asset ⨾ i64 ⨾ price ⨾ closed u32 (tag (pos 0))

abbrev data_rest : Xdr (List ℕ)
data_rest = closed (var 64) (tag (pos 0))

abbrev balance_rest : Xdr (List Claimant × (Asset × (ℤ × Option ClaimableBalanceEntryExtensionV1)))
balance_rest = list_of 10 claimant ⨾ asset ⨾ i64 ⨾ extension_of (pos 1) claimable_balance_extension_v1

abbrev pool_rest : Xdr (PoolParams × (ℤ × (ℤ × (ℤ × ℤ))))
pool_rest = pool_params ⨾ i64 ⨾ i64 ⨾ i64 ⨾ i64

body_holds_key : (b : LedgerEntryBody)
    → (tail : List ℕ) × (ledger_entry_body.encoding b ≡ ledger_key.encoding (key_of_body b) ++ tail)
unfolding ledger_entry_body account_entry account_head trust_line_entry offer_entry data_entry claimable_balance_entry
    liquidity_pool_entry ledger_key
body_holds_key (body.Account e) = one_of_head (pos 0) account_id account_rest account_tail (account_fields.from e)
body_holds_key (body.TrustLine e) = two_after (pos 1) account_id trust_line_asset line_rest (line_fields.from e)
body_holds_key (body.Offer e) = two_after (pos 2) account_id i64 offer_rest (offer_fields.from e)
body_holds_key (body.Data e) = two_after (pos 3) account_id (var 64) data_rest (data_fields.from e)
body_holds_key (body.ClaimableBalance e) = one_after (pos 4) claimable_balance_id balance_rest (balance_fields.from e)
body_holds_key (body.LiquidityPool e) = one_after (pos 5) hash pool_rest (pool_fields.from e)

body_key_within : (b : LedgerEntryBody) → ledger_entry_body.within b → ledger_key.within (key_of_body b)
unfolding ledger_entry_body account_entry account_head trust_line_entry offer_entry data_entry claimable_balance_entry
    liquidity_pool_entry ledger_key
body_key_within (body.Account e) h = h.0.0
body_key_within (body.TrustLine e) h = (h.0, h.1.0)
body_key_within (body.Offer e) h = (h.0, h.1.0)
body_key_within (body.Data e) h = (h.0, h.1.0)
body_key_within (body.ClaimableBalance e) h = h.0
body_key_within (body.LiquidityPool e) h = h.0

body_key_sized : (b : LedgerEntryBody) → ledger_entry_body.sized b → ledger_key.sized (key_of_body b)
unfolding ledger_entry_body account_entry account_head trust_line_entry offer_entry data_entry claimable_balance_entry
    liquidity_pool_entry ledger_key
body_key_sized (body.Account e) h = h.0.0
body_key_sized (body.TrustLine e) h = (h.0, h.1.0)
body_key_sized (body.Offer e) h = (h.0, h.1.0)
body_key_sized (body.Data e) h = (h.0, h.1.0)
body_key_sized (body.ClaimableBalance e) h = h.0
body_key_sized (body.LiquidityPool e) h = h.0

pub entry_holds_key : (e : LedgerEntry) → (tail : List ℕ)
    × (ledger_entry.encoding e ≡ u32.encoding e.last_modified_ledger_seq ++ (ledger_key.encoding (key_of e) ++ tail))
unfolding ledger_entry
entry_holds_key e =
    let b = body_holds_key e.body in
    let seq : List ℕ = u32.encoding e.last_modified_ledger_seq in
    let ext : List ℕ = (extension_of (pos 1) ledger_entry_extension_v1).encoding e.ext in (
      b.0 ++ ext,
      ap (λ (t : List ℕ). seq ++ (t ++ ext)) b.1
          ∙ ap (λ (t : List ℕ). seq ++ t) (append_assoc (ledger_key.encoding (key_of e)) b.0 ext),
    )

pub entry_key_within : (e : LedgerEntry) → ledger_entry.within e → ledger_key.within (key_of e)
unfolding ledger_entry
entry_key_within e h = body_key_within e.body h.1.0

pub entry_key_sized : (e : LedgerEntry) → ledger_entry.sized e → ledger_key.sized (key_of e)
unfolding ledger_entry
entry_key_sized e h = body_key_sized e.body h.1.0
