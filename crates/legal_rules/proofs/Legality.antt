-- The two forms of legality: by what entries state, and by what aggregates owe.
use Rattle.legal_rules.proofs.Prelude.{◌≡◌, refl, sym, ap, subst, ◌∙◌, ℕ, ℤ, pos, ◌-ℤ◌, if◌then◌else◌, get, Asset}
use Rattle.legal_rules.proofs.Prelude.{LedgerHeader, LedgerEntry, LedgerKey, key_of, EntryMap, total, Kind, Subentries}
use Rattle.legal_rules.proofs.Prelude.{Sponsoring, Sponsored, Selling, Buying, Shares, ShareLines, Uses, View, counted}
use Rattle.legal_rules.proofs.Prelude.{stated, stated_at, is_key, Pools, uses, held, IsHeaderInRange, view, pools_in}
use Rattle.legal_rules.proofs.Prelude.{IsAggregated, IsLegal, weight, nothing_owed, IsLegalOwing, AreEntriesLegal}
use Rattle.hash_ids.specs.ledger_types.declared.asset.Asset.TheVariants as asset
use Rattle.legal_rules.proofs.Numbers.{aggregated, owes_nothing, taken_off, put_on}
use Rattle.legal_rules.proofs.Weighing.{total_weight}
use Rattle.legal_rules.proofs.Needed.{needs_exist}
use Rattle.legal_rules.proofs.Authorized.{bound_rightly, lines_authorized}

-- each aggregate
pub all_aggregated : (h : LedgerHeader) (m : EntryMap) → IsLegal h m → (kind : Kind) → IsAggregated kind m
all_aggregated h m legal Subentries = legal.subentries
all_aggregated h m legal Sponsoring = legal.sponsoring
all_aggregated h m legal Sponsored = legal.sponsored
all_aggregated h m legal Selling = legal.selling
all_aggregated h m legal Buying = legal.buying
all_aggregated h m legal Shares = legal.shares
all_aggregated h m legal ShareLines = legal.share_lines
all_aggregated h m legal Uses = legal.uses

-- a view of an asset, with the pools that exist
abbrev pub view_of : Asset → EntryMap → View
view_of x m = record { pools = pools_in m; asset = x }

-- a legal state owes nothing, whatever asset is asked for
pub owing_nothing_of : (x : Asset) (h : LedgerHeader) (m : EntryMap) → IsLegal h m
    → IsLegalOwing (view_of x m) h.id_pool nothing_owed (total (held x) m) m
owing_nothing_of x h m legal = record {
  params = λ id. refl;
  keyed = legal.keyed;
  entries = λ k e there. record {
    range = legal.entries k e there;
    bound = bound_rightly m legal.authorized legal.selling legal.buying k e there;
    few = legal.few k e there;
    fits = legal.fits k e there;
    filled = legal.filled k e there;
  };
  offers = legal.offers;
  aggregates = λ kind k. owes_nothing _ _ _ (total_weight (view_of x m) kind m k legal.keyed) (same_aggregated kind k);
  supply = refl;
}
  where
    same_counted : (kind : Kind) (k : LedgerKey) (e : LedgerEntry)
        → counted (view m) kind k e ≡ counted (view_of x m) kind k e
    same_counted Subentries k e = refl
    same_counted other k e = refl

    same_aggregated : (kind : Kind) (k : LedgerKey) → stated_at kind (get m k) ≡ total (counted (view_of x m) kind k) m
    same_aggregated kind k = all_aggregated h m legal kind k ∙ ap (λ f. total f m) (λ i e. same_counted kind k e i)

pub owing_nothing : (h : LedgerHeader) (m : EntryMap) → IsLegal h m
    → IsLegalOwing (view m) h.id_pool nothing_owed (h.total_coins -ℤ h.fee_pool) m
owing_nothing h m legal = subst (λ n. IsLegalOwing (view m) h.id_pool nothing_owed n m)
    (taken_off h.total_coins h.fee_pool (total (held asset.Native) m) legal.lumens)
    (owing_nothing_of asset.Native h m legal)

-- lumens, with these pools
abbrev pub viewed : Pools → View
viewed pools = record { pools = pools; asset = asset.Native }

pub legal_of : (h : LedgerHeader) (pools : Pools) (m : EntryMap) → IsHeaderInRange h
    → IsLegalOwing (viewed pools) h.id_pool nothing_owed (h.total_coins -ℤ h.fee_pool) m → IsLegal h m
legal_of h pools m header legal =
    let known : pools_in m ≡ pools = λ i id. legal.params id i in
    let sums : (kind : Kind) → IsAggregated kind m = λ kind k.
    subst (λ p. stated_at kind (get m k) ≡ total (counted (viewed p) kind k) m) (sym known)
    (aggregated _ _ _ (total_weight (viewed pools) kind m k legal.keyed) (legal.aggregates kind k)) in
    record {
      header = header;
      keyed = legal.keyed;
      entries = λ k e there. (legal.entries k e there).range;
      authorized = lines_authorized h.id_pool m (λ k e there. (legal.entries k e there).range)
          (λ k e there. (legal.entries k e there).bound) (sums Selling) (sums Buying);
      existing = needs_exist h.id_pool m legal.keyed (λ k e there. (legal.entries k e there).range) sums;
      offers = legal.offers;
      selling = sums Selling;
      buying = sums Buying;
      subentries = sums Subentries;
      few = λ k e there. (legal.entries k e there).few;
      sponsoring = sums Sponsoring;
      sponsored = sums Sponsored;
      fits = λ k e there. (legal.entries k e there).fits;
      shares = sums Shares;
      share_lines = sums ShareLines;
      uses = sums Uses;
      filled = λ k e there. (legal.entries k e there).filled;
      lumens = put_on h.total_coins h.fee_pool (total (held asset.Native) m) legal.supply;
    }

-- ---- other views

-- what is weighed depends on the pools alone
same_weighed : (v w : View) → v.pools ≡ w.pools → (kind : Kind) (k : LedgerKey) (e : LedgerEntry)
    → weight v kind k e ≡ weight w kind k e
same_weighed v w same Uses k e =
    λ i. uses (same i) k e.body -ℤ (if is_key (key_of e) k then stated Uses e.body else pos 0)
same_weighed v w same other k e = refl

-- the same entries, whatever asset is asked for
viewed_by : (v w : View) (id_pool : ℕ) (sum : ℤ) (m : EntryMap) → v.pools ≡ w.pools
    → IsLegalOwing v id_pool nothing_owed sum m → IsLegalOwing w id_pool nothing_owed (total (held w.asset) m) m
viewed_by v w id_pool sum m same legal = record {
  params = λ id. legal.params id ∙ (λ i. same i id);
  keyed = legal.keyed;
  entries = legal.entries;
  offers = legal.offers;
  aggregates = λ kind k. sym (ap (λ f. total f m) (λ i e. same_weighed v w same kind k e i)) ∙ legal.aggregates kind k;
  supply = refl;
}

-- What owes nothing, by whatever it is viewed, is legal entries.
pub entries_legal : (v : View) (id_pool : ℕ) (sum : ℤ) (m : EntryMap) → IsLegalOwing v id_pool nothing_owed sum m
    → AreEntriesLegal id_pool m
entries_legal v id_pool sum m legal =
    let known : pools_in m ≡ v.pools = λ i id. legal.params id i in
    viewed_by v (view m) id_pool sum m (sym known) legal

-- Legal entries owe nothing, whatever asset is asked for.
pub owing_of : (x : Asset) (id_pool : ℕ) (m : EntryMap) → AreEntriesLegal id_pool m
    → IsLegalOwing (view_of x m) id_pool nothing_owed (total (held x) m) m
owing_of x id_pool m legal = viewed_by (view m) (view_of x m) id_pool (total (held asset.Native) m) m refl legal
