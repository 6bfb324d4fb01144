-- Changes of the entire state break rules.
use Rattle.legal_rules.proofs.Prelude as prelude
use prelude.{◌≡◌, refl, sym, ap, subst, ◌∙◌, true, false, List, [], ◌∷◌, Some, None, ℕ, ◌≤◌, inl, inr, arith, ints}
use prelude.{All-head, ℤ, pos, ◌+ℤ◌, ◌≤ℤ◌, ◌<ℤ◌, is_eq, int_cmp, get, LedgerEntry, LedgerHeader, LedgerKey, key_of}
use prelude.{same_itself, line_of, Kind, Subentries, Sponsoring, Sponsored, Selling, Buying, Shares, ShareLines, Uses}
use prelude.{counted, stated_at, liabilities, wheat_stays, IsLegal, IsAuthorized, held, offer_with, own_data}
use prelude.{own_promise, two_sales, full_list, full_header, full_entries, RulesBind, entry_by, owner, sponsor}
use prelude.{stranger, dollars, note, promise, pool, sale, owner_account, state_of, overfull_owner, owner_signed_by}
use prelude.{lost_signer, lost_promise, lost_pool, lost_dollars, lost_sale, sponsor_account, account_ext, line_ext}
use prelude.{pool_id, put_there, one_not_at_most_zero}
use Rattle.std.specs.Cmp.{tied_itself}
use Rattle.std.proofs.lemmas.Cmp.{int_cmp_total}
use Rattle.hash_ids.specs.ledger_types.declared.entry.LedgerEntryBody.TheVariants as body
use Rattle.hash_ids.specs.ledger_types.declared.key.LedgerKey.TheVariants as key
use Rattle.hash_ids.specs.ledger_types.declared.asset.Asset.TheVariants as asset
use Rattle.legal_rules.proofs.Evaluated.{book_in, lumens_in, get_in, total_in, value, exists_in, view_in}

differ : (a b : ℤ) → is_eq (int_cmp a b) ≡ false → a ≡ b → ⊥
differ a b apart same =
    let tied : is_eq (int_cmp b b) ≡ true = ap is_eq (tied_itself int_cmp_total b) in
    let also : is_eq (int_cmp b b) ≡ false = ap (λ x. is_eq (int_cmp x b)) (sym same) ∙ apart in
    absurd (cc)

module _ (h : LedgerHeader) (es : List LedgerEntry) where
  -- a number that isn't the sum
  unbooked : (kind : Kind) (k : LedgerKey)
      → is_eq (int_cmp (stated_at kind (exists_in es k)) (value (counted (view_in asset.Native es) kind k) es)) ≡ false
      → IsLegal h (state_of es) → ⊥
  unbooked kind k apart legal = differ _ _ apart (book_in h es legal kind k)

  lost_lumens : is_eq (int_cmp (value (held asset.Native) es +ℤ h.fee_pool) h.total_coins) ≡ false
      → IsLegal h (state_of es) → ⊥
  lost_lumens apart legal = differ _ _ apart (lumens_in h es legal)

abbrev data_of_no_account_list : List LedgerEntry
data_of_no_account_list = entry_by None (body.Data (record note { account_id = stranger })) ∷ full_list

data_of_no_account : IsLegal full_header (state_of data_of_no_account_list) → ⊥
data_of_no_account = unbooked full_header data_of_no_account_list Subentries (key.Account stranger) refl

abbrev a_line_that_sells_less_than_its_offer_list : List LedgerEntry
a_line_that_sells_less_than_its_offer_list =
    entry_by None (body.TrustLine (record dollars { ext = line_ext (pos 9) (pos 1) })) ∷ full_list

a_line_that_sells_less_than_its_offer : IsLegal full_header (state_of a_line_that_sells_less_than_its_offer_list) → ⊥
unfolding liabilities wheat_stays
a_line_that_sells_less_than_its_offer =
    unbooked full_header a_line_that_sells_less_than_its_offer_list Selling
    (key_of (entry_by None (body.TrustLine dollars))) refl

abbrev an_account_that_buys_less_than_its_offer_list : List LedgerEntry
an_account_that_buys_less_than_its_offer_list =
    entry_by (Some sponsor)
    (body.Account (record owner_account { ext = account_ext (pos 0) (pos 0) 6 0 (Some sponsor ∷ []) })) ∷ full_list

an_account_that_buys_less_than_its_offer : IsLegal full_header
    (state_of an_account_that_buys_less_than_its_offer_list) → ⊥
unfolding liabilities wheat_stays
an_account_that_buys_less_than_its_offer =
    unbooked full_header an_account_that_buys_less_than_its_offer_list Buying (key.Account owner) refl

abbrev an_account_that_sells_without_offer_list : List LedgerEntry
an_account_that_sells_without_offer_list =
    entry_by (Some sponsor)
    (body.Account (record owner_account { ext = account_ext (pos 20) (pos 1) 6 0 (Some sponsor ∷ []) })) ∷ full_list

an_account_that_sells_without_offer : IsLegal full_header (state_of an_account_that_sells_without_offer_list) → ⊥
unfolding liabilities wheat_stays
an_account_that_sells_without_offer =
    unbooked full_header an_account_that_sells_without_offer_list Selling (key.Account owner) refl

abbrev a_subentry_too_few_list : List LedgerEntry
a_subentry_too_few_list = entry_by (Some sponsor) (body.Account (record owner_account { num_sub_entries = 5 }))
    ∷ full_list

a_subentry_too_few : IsLegal full_header (state_of a_subentry_too_few_list) → ⊥
a_subentry_too_few = unbooked full_header a_subentry_too_few_list Subentries (key.Account owner) refl

abbrev a_sponsored_reserve_too_few_list : List LedgerEntry
a_sponsored_reserve_too_few_list =
    entry_by (Some sponsor)
    (body.Account (record owner_account { ext = account_ext (pos 20) (pos 0) 5 0 (Some sponsor ∷ []) })) ∷ full_list

a_sponsored_reserve_too_few : IsLegal full_header (state_of a_sponsored_reserve_too_few_list) → ⊥
a_sponsored_reserve_too_few = unbooked full_header a_sponsored_reserve_too_few_list Sponsored (key.Account owner) refl

abbrev an_owner_that_sponsors_nothing_list : List LedgerEntry
an_owner_that_sponsors_nothing_list =
    entry_by (Some sponsor)
    (body.Account (record owner_account { ext = account_ext (pos 20) (pos 0) 6 1 (Some sponsor ∷ []) })) ∷ full_list

an_owner_that_sponsors_nothing : IsLegal full_header (state_of an_owner_that_sponsors_nothing_list) → ⊥
an_owner_that_sponsors_nothing =
    unbooked full_header an_owner_that_sponsors_nothing_list Sponsoring (key.Account owner) refl

abbrev a_sponsoring_reserve_too_few_list : List LedgerEntry
a_sponsoring_reserve_too_few_list =
    entry_by None (body.Account (record sponsor_account { ext = account_ext (pos 0) (pos 0) 0 7 [] })) ∷ full_list

a_sponsoring_reserve_too_few : IsLegal full_header (state_of a_sponsoring_reserve_too_few_list) → ⊥
a_sponsoring_reserve_too_few =
    unbooked full_header a_sponsoring_reserve_too_few_list Sponsoring (key.Account sponsor) refl

abbrev an_unused_line_of_shares_list : List LedgerEntry
an_unused_line_of_shares_list = entry_by None (body.TrustLine (record dollars { ext = line_ext (pos 10) (pos 0) }))
    ∷ full_list

an_unused_line_of_shares : IsLegal full_header (state_of an_unused_line_of_shares_list) → ⊥
an_unused_line_of_shares =
    unbooked full_header an_unused_line_of_shares_list Uses (key_of (entry_by None (body.TrustLine dollars)))
    (rw (same_itself (key.LiquidityPool pool_id)) refl)

abbrev shares_that_nobody_has_list : List LedgerEntry
shares_that_nobody_has_list = entry_by None (body.LiquidityPool (record pool { total_pool_shares = pos 49 }))
    ∷ full_list

shares_that_nobody_has : IsLegal full_header (state_of shares_that_nobody_has_list) → ⊥
shares_that_nobody_has =
    unbooked full_header shares_that_nobody_has_list Shares (key.LiquidityPool pool_id)
    (rw (same_itself (key.LiquidityPool pool_id)) refl)

abbrev two_lines_where_one_exists_list : List LedgerEntry
two_lines_where_one_exists_list =
    entry_by None (body.LiquidityPool (record pool { pool_shares_trust_line_count = pos 2 })) ∷ full_list

two_lines_where_one_exists : IsLegal full_header (state_of two_lines_where_one_exists_list) → ⊥
two_lines_where_one_exists =
    unbooked full_header two_lines_where_one_exists_list ShareLines (key.LiquidityPool pool_id)
    (rw (same_itself (key.LiquidityPool pool_id)) refl)

a_signer_whose_sponsor_is_no_account : IsLegal full_header (state_of lost_signer) → ⊥
a_signer_whose_sponsor_is_no_account = unbooked full_header lost_signer Sponsoring (key.Account stranger) refl

a_claimable_balance_whose_sponsor_is_no_account : IsLegal full_header (state_of lost_promise) → ⊥
a_claimable_balance_whose_sponsor_is_no_account =
    unbooked full_header lost_promise Sponsoring (key.Account stranger) refl

shares_of_no_pool : IsLegal full_header (state_of lost_pool) → ⊥
shares_of_no_pool =
    unbooked full_header lost_pool Shares (key.LiquidityPool pool_id)
    (rw (same_itself (key.LiquidityPool pool_id)) refl)

shares_without_a_line_that_they_need : IsLegal full_header (state_of lost_dollars) → ⊥
shares_without_a_line_that_they_need =
    unbooked full_header lost_dollars Uses (key_of (entry_by None (body.TrustLine dollars)))
    (rw (same_itself (key.LiquidityPool pool_id)) refl)

an_offer_without_its_line : IsLegal full_header (state_of lost_sale) → ⊥
an_offer_without_its_line legal =
    legal.existing (key.Offer owner (pos 1)) (entry_by None (body.Offer sale))
    (get_in lost_sale (key.Offer owner (pos 1))) 1 (key.Account owner) (omega arith)
    (get_in lost_sale (key_of (entry_by None (body.TrustLine dollars))))

a_lumen_too_few : IsLegal (record full_header { total_coins = pos 1374 }) full_entries → ⊥
a_lumen_too_few = lost_lumens (record full_header { total_coins = pos 1374 }) full_list refl

lumens_without_the_reserves_of_pools : IsLegal (record full_header { total_coins = pos 1335 }) full_entries → ⊥
lumens_without_the_reserves_of_pools = lost_lumens (record full_header { total_coins = pos 1335 }) full_list refl

lumens_without_claimable_balances : IsLegal (record full_header { total_coins = pos 1345 }) full_entries → ⊥
lumens_without_claimable_balances = lost_lumens (record full_header { total_coins = pos 1345 }) full_list refl

lumens_without_the_fee_pool : IsLegal (record full_header { total_coins = pos 1370 }) full_entries → ⊥
lumens_without_the_fee_pool = lost_lumens (record full_header { total_coins = pos 1370 }) full_list refl

one_low : 1 ≤ 0 → ⊥
one_low le = omega arith

ids_low : 30064771073 ≤ 30064771072 → ⊥
ids_low le = omega arith

two_low : pos 2 ≤ℤ pos 1 → ⊥
two_low le = omega (arith, ints)

later_version : 20 ≤ 19 → ⊥
later_version le = omega arith

earlier_version : 18 ≤ 17 → ⊥
earlier_version le = omega arith

-- what is first
first_there : (e : LedgerEntry) (es : List LedgerEntry) → get (state_of (e ∷ es)) (key_of e) ≡ Some e
first_there e es = put_there (state_of es) e

two_offers_of_one_id : IsLegal full_header (state_of two_sales) → ⊥
two_offers_of_one_id legal = two_low (subst (λ n. n ≤ℤ pos 1) (total_in (offer_with (pos 1)) two_sales)
    (legal.offers (pos 1)))

data_paid : IsLegal full_header (state_of own_data) → ⊥
data_paid legal = (legal.entries (key.Data owner (120 ∷ [])) (entry_by (Some owner) (body.Data note))
    (get_in own_data (key.Data owner (120 ∷ [])))).paid (λ none. cc) refl

unpaid : IsLegal full_header (state_of own_promise) → ⊥
unpaid legal = (legal.entries (key_of (entry_by None (body.ClaimableBalance promise)))
    (entry_by None (body.ClaimableBalance promise))
    (get_in own_promise (key_of (entry_by None (body.ClaimableBalance promise))))).paid refl

many_subentries : 1001 ≤ 1000 → ⊥
many_subentries le = omega arith

more_than_1000_subentries : IsLegal full_header (state_of (overfull_owner ∷ full_list)) → ⊥
more_than_1000_subentries legal =
    many_subentries (legal.few (key_of overfull_owner) overfull_owner (first_there overfull_owner full_list))

many_signers : 21 ≤ 20 → ⊥
many_signers le = omega arith

more_than_20_signers : IsLegal full_header (state_of (owner_signed_by 21 ∷ full_list)) → ⊥
more_than_20_signers legal =
    many_signers (legal.entries (key_of (owner_signed_by 21)) (owner_signed_by 21)
    (first_there (owner_signed_by 21) full_list)).body.signers.few

abbrev open_line : LedgerEntry
open_line = entry_by None (body.TrustLine (record dollars { flags = 4 }))

unauthorised : IsLegal full_header (state_of (open_line ∷ full_list)) → ⊥
unauthorised legal =
    let at : get (state_of (open_line ∷ full_list)) (key.Offer owner (pos 1)) ≡ Some (entry_by None (body.Offer sale))
    = get_in (open_line ∷ full_list) (key.Offer owner (pos 1)) in
    subst (λ o. IsAuthorized (line_of o)) (first_there open_line full_list)
    (All-head (λ k. IsAuthorized (line_of (get (state_of (open_line ∷ full_list)) k))) (key_of open_line)
    (key.Account owner ∷ [])
    (legal.authorized (key.Offer owner (pos 1)) (entry_by None (body.Offer sale)) at)) refl

abbrev emptied : LedgerEntry
emptied = entry_by None (body.LiquidityPool (record pool { reserve_b = pos 0 }))

nothing_above : pos 0 <ℤ pos 0 → ⊥
nothing_above lt = omega (arith, ints)

half_a_pool : IsLegal full_header (state_of (emptied ∷ full_list)) → ⊥
half_a_pool legal = elim (legal.filled (key_of emptied) emptied (first_there emptied full_list)) [
  | inl full ↦ nothing_above full.1
  | inr none ↦ differ (pos 40) (pos 0) refl none.0
]

pub rules_bind : RulesBind
rules_bind = record {
  a_later_protocol = λ legal. later_version legal.header.version.1;
  an_earlier_protocol = λ legal. earlier_version legal.header.version.0;
  no_base_reserve = λ legal. one_low legal.header.base_reserve;
  more_ids_than_ledgers_draw = λ legal. ids_low legal.header.id_pool;
  an_offer_above_the_pool_of_ids = λ legal. one_not_at_most_zero (legal.entries (key.Offer owner (pos 1))
      (entry_by None (body.Offer sale)) (get_in full_list (key.Offer owner (pos 1)))).body.id_high;
  a_line_of_an_offer_without_authorisation = unauthorised;
  data_that_its_owner_sponsors = data_paid;
  more_than_20_signers = more_than_20_signers;
  a_claimable_balance_without_sponsor = unpaid;
  a_pool_with_a_sponsor =
      λ legal. absurd (let none = (legal.entries _ (entry_by (Some sponsor) (body.LiquidityPool pool))
      (first_there (entry_by (Some sponsor) (body.LiquidityPool pool)) full_list)).paid in cc);
  two_offers_of_one_id = two_offers_of_one_id;
  data_of_no_account = data_of_no_account;
  a_signer_whose_sponsor_is_no_account = a_signer_whose_sponsor_is_no_account;
  a_claimable_balance_whose_sponsor_is_no_account = a_claimable_balance_whose_sponsor_is_no_account;
  shares_of_no_pool = shares_of_no_pool;
  shares_without_a_line_that_they_need = shares_without_a_line_that_they_need;
  an_offer_without_its_line = an_offer_without_its_line;
  a_line_that_sells_less_than_its_offer = a_line_that_sells_less_than_its_offer;
  an_account_that_buys_less_than_its_offer = an_account_that_buys_less_than_its_offer;
  an_account_that_sells_without_offer = an_account_that_sells_without_offer;
  a_subentry_too_few = a_subentry_too_few;
  more_than_1000_subentries = more_than_1000_subentries;
  a_sponsored_reserve_too_few = a_sponsored_reserve_too_few;
  an_owner_that_sponsors_nothing = an_owner_that_sponsors_nothing;
  a_sponsoring_reserve_too_few = a_sponsoring_reserve_too_few;
  an_unused_line_of_shares = an_unused_line_of_shares;
  shares_that_nobody_has = shares_that_nobody_has;
  two_lines_where_one_exists = two_lines_where_one_exists;
  half_a_pool = half_a_pool;
  a_lumen_too_few = a_lumen_too_few;
  lumens_without_the_reserves_of_pools = lumens_without_the_reserves_of_pools;
  lumens_without_claimable_balances = lumens_without_claimable_balances;
  lumens_without_the_fee_pool = lumens_without_the_fee_pool;
}
