-- What the tests of operations on offers leave: an offer whose fields are valid, and a source that holds both assets.
use Rattle.op_offers.proofs.Prelude.{◌≡◌, ◌≢◌, refl, ap, ◌∙◌, ℕ, ◌%◌, Bool, true, false, not, ◌||◌, ◌&&◌, [], ◌∷◌}
use Rattle.op_offers.proofs.Prelude.{nat_eq, bit_and, Option, Some, None, arith, pos, int_le, int_lt, ◌≤ℤ◌, is_eq}
use Rattle.op_offers.proofs.Prelude.{int_eq, AccountId, LedgerKey, EntryMap, account_at, HasAccount, line_at, Tests}
use Rattle.op_offers.proofs.Prelude.{first_passed, IsHeld, IsOwnKey, Ask, OfferFault, is_no_pair, is_out_of_range}
use Rattle.op_offers.proofs.Prelude.{is_malformed, sell_line_fault, sell_fault, buy_line_fault, buy_fault}
use Rattle.op_offers.proofs.Prelude.{positive_from_int_le, not-false, or_parts}
use Rattle.ledger_types.specs.KeyOrder.{asset_cmp}
use Rattle.std.proofs.lemmas.Nat.{and_mask}
use Rattle.std.specs.Cmp.{tied_itself}
use Rattle.ledger_types.specs.declared.asset.Asset.{Asset}
use Rattle.ledger_types.specs.declared.trust_line.TrustLineEntry.{TrustLineEntry}
use Rattle.ledger_types.specs.declared.key.LedgerKey.TheVariants as key
use Rattle.ledger_types.proofs.KeyOrdering.{assets_total}
use Rattle.valid_values.specs.Assets.{is_valid_asset}
use Rattle.op_form.specs.Flags.{is_authorized}
use Rattle.op_offers.specs.declared.fault.OfferFault.TheVariants as fault

-- ---- fields

-- what the tests of its fields leave of what is asked for
pub record IsValidAsk (ask : Ask) : Type 0 where
  pub n : pos 1 ≤ℤ ask.price.n
  pub d : pos 1 ≤ℤ ask.price.d
  pub selling : is_valid_asset ask.selling ≡ true
  pub buying : is_valid_asset ask.buying ≡ true
  pub assets : ask.selling ≢ ask.buying

apart_assets : (a b : Asset) → is_eq (asset_cmp a b) ≡ false → a ≢ b
apart_assets a b apart same =
    let tied = ap is_eq (ap (asset_cmp a) same) in
    let itself = ap is_eq (tied_itself assets_total a) in
    absurd (cc)

pub valid_ask : (ask : Ask) → is_malformed ask ≡ false → IsValidAsk ask
valid_ask ask test =
    let both = or_parts (is_no_pair ask) (is_out_of_range ask) test in
    let pair = or_parts (not (is_valid_asset ask.selling))
    (not (is_valid_asset ask.buying) || is_eq (asset_cmp ask.selling ask.buying)) both.0 in
    let other = or_parts (not (is_valid_asset ask.buying)) (is_eq (asset_cmp ask.selling ask.buying)) pair.1 in
    let low : Bool = int_lt ask.offer_id (pos 0) || (int_eq ask.amount (pos 0) && int_eq ask.offer_id (pos 0)) in
    let amount = or_parts (int_lt ask.amount (pos 0))
    (int_le ask.price.n (pos 0) || (int_le ask.price.d (pos 0) || low))
    both.1 in
    let n = or_parts (int_le ask.price.n (pos 0)) (int_le ask.price.d (pos 0) || low) amount.1 in
    let d = or_parts (int_le ask.price.d (pos 0)) low n.1 in
    record {
      n = positive_from_int_le ask.price.n n.0;
      d = positive_from_int_le ask.price.d d.0;
      selling = not-false (is_valid_asset ask.selling) pair.0;
      buying = not-false (is_valid_asset ask.buying) other.0;
      assets = apart_assets ask.selling ask.buying other.1;
    }

-- ---- lines

line_flag : (flags : ℕ) → not (nat_eq (bit_and flags 1) 0) ≡ true → flags % 4 ≢ 0
line_flag flags is none =
    let low : bit_and flags 1 ≡ flags % 2 = and_mask flags 1 in
    grind arith

authorized : (t : TrustLineEntry) → not (is_authorized t) ≡ false → t.flags % 4 ≢ 0
authorized t is = line_flag t.flags (not-false (is_authorized t) is)

sells_line : (o : Option TrustLineEntry) → sell_line_fault o ≡ None
    → (t : TrustLineEntry) × (o ≡ Some t) × (t.flags % 4 ≢ 0)
sells_line None is = absurd (cc)
sells_line (Some t) is =
    let rest : Tests OfferFault = (not (is_authorized t), fault.SellNotAuthorized) ∷ [] in
    let first = first_passed (int_eq t.balance (pos 0)) fault.NothingToSell rest is in
    let second = first_passed (not (is_authorized t)) fault.SellNotAuthorized [] first.1 in
    (t, refl, authorized t second.0)

buys_line : (o : Option TrustLineEntry) → buy_line_fault o ≡ None
    → (t : TrustLineEntry) × (o ≡ Some t) × (t.flags % 4 ≢ 0)
buys_line None is = absurd (cc)
buys_line (Some t) is =
    let first = first_passed (not (is_authorized t)) fault.BuyNotAuthorized [] is in
    (t, refl, authorized t first.0)

module _ (m : EntryMap) (source : AccountId) (exists : HasAccount m source) where
  pub sells_held : (k : Option LedgerKey) → IsOwnKey source k → sell_fault m k ≡ None → IsHeld m k
  sells_held None own is = tt
  sells_held (Some (key.Account id)) own is = (exists.0, ap (account_at m) own ∙ exists.1)
  sells_held (Some (key.TrustLine id x)) own is = sells_line (line_at m id x) is
  sells_held (Some other) own is = absurd own

  pub buys_held : (k : Option LedgerKey) → IsOwnKey source k → buy_fault m k ≡ None → IsHeld m k
  buys_held None own is = tt
  buys_held (Some (key.Account id)) own is = (exists.0, ap (account_at m) own ∙ exists.1)
  buys_held (Some (key.TrustLine id x)) own is = buys_line (line_at m id x) is
  buys_held (Some other) own is = absurd own
