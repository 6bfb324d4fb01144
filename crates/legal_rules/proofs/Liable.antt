-- An account or a line with other liabilities.
use Rattle.legal_rules.proofs.Prelude as prelude
use prelude.{◌≡◌, ◌≢◌, refl, sym, ap, subst, ◌∙◌, ℕ, ◌+◌, ◌≤◌, Bool, true, false, Option, Some, None, arith, ints, ℤ}
use prelude.{pos, neg_ℤ, ◌+ℤ◌, ◌-ℤ◌, ◌≤ℤ◌, if◌then◌else◌, int_eq, count_by, get, AccountId, TrustLineAsset, Liabilities}
use prelude.{AccountEntry, TrustLineEntry, TrustLineEntryExtensionV1, LedgerEntry, LedgerKey, EntryMap, put}
use prelude.{no_liabilities, is_nothing, liabilities_in, with_liabilities_in, account_liabilities, second_in}
use prelude.{sponsored_in, sponsoring_in, sponsorship_in, sponsor_of, line_liabilities, line_liabilities_in}
use prelude.{with_line_liabilities_in, line_second_in, use_count_in, use_count, line_at, with_line, IsInRange}
use prelude.{IsLineInRange, is_there, signer_sponsors, is_key, for_account, is_for, Kind, Sponsoring, Sponsored}
use prelude.{Selling, Buying, Uses, View, counted, of_line, risen, bound_account, bound_line, AreSignersInRange, weight}
use prelude.{Owed, in_aggregate, plus, IsEntryLegal, IsLegalOwing, add_sub_self, add_zero, int_eq_true, and_parts}
use prelude.{line_kind, IsEntryOf, lines_exact, entry_found, with_found}
use Rattle.std.proofs.Common.{◌%◌}
use Rattle.hash_ids.specs.ledger_types.declared.account.AccountEntryExtensionV1.{AccountEntryExtensionV1}
use Rattle.hash_ids.specs.ledger_types.declared.entry.LedgerEntryBody.TheVariants as body
use Rattle.hash_ids.specs.ledger_types.declared.key.LedgerKey.TheVariants as key
use Rattle.legal_rules.proofs.Steps.{with_body, IsStep, replace_legal, legal_as}

-- ---- what is stored

nothing_is : (l : Liabilities) → is_nothing l ≡ true → no_liabilities ≡ l
nothing_is l h =
    let both = and_parts (int_eq l.buying (pos 0)) (int_eq l.selling (pos 0)) h in
    let buying = int_eq_true l.buying (pos 0) both.0 in
    let selling = int_eq_true l.selling (pos 0) both.1 in
    λ i. record { buying = sym buying i; selling = sym selling i }

chosen : (b : Bool) (l : Liabilities) → is_nothing l ≡ b
    → liabilities_in (if b then None else Some (record { liabilities = l; ext = None })) ≡ l
chosen true l h = nothing_is l h
chosen false l h = refl

pub stored : (l : Liabilities) (ext : Option AccountEntryExtensionV1) → liabilities_in (with_liabilities_in l ext) ≡ l
stored l None = chosen (is_nothing l) l refl
stored l (Some ext) = refl

second_of : (b : Bool) (l : Liabilities)
    → second_in (if b then None else Some (record { liabilities = l; ext = None })) ≡ None
second_of true l = refl
second_of false l = refl

same_second : (l : Liabilities) (ext : Option AccountEntryExtensionV1)
    → second_in (with_liabilities_in l ext) ≡ second_in ext
same_second l None = second_of (is_nothing l) l
same_second l (Some ext) = refl

line_chosen : (b : Bool) (l : Liabilities) → is_nothing l ≡ b
    → line_liabilities_in (if b then None else Some (record { liabilities = l; ext = None })) ≡ l
line_chosen true l h = nothing_is l h
line_chosen false l h = refl

pub line_stored : (l : Liabilities) (ext : Option TrustLineEntryExtensionV1)
    → line_liabilities_in (with_line_liabilities_in l ext) ≡ l
line_stored l None = line_chosen (is_nothing l) l refl
line_stored l (Some ext) = refl

line_second_of : (b : Bool) (l : Liabilities)
    → line_second_in (if b then None else Some (record { liabilities = l; ext = None })) ≡ None
line_second_of true l = refl
line_second_of false l = refl

same_line_second : (l : Liabilities) (ext : Option TrustLineEntryExtensionV1)
    → line_second_in (with_line_liabilities_in l ext) ≡ line_second_in ext
same_line_second l None = line_second_of (is_nothing l) l
same_line_second l (Some ext) = refl

-- ---- what aggregates owe

-- once selling and buying rose by these
abbrev pub unbound : LedgerKey → (selling buying : ℤ) → Owed
unbound k selling buying = plus (in_aggregate Selling k (neg_ℤ selling)) (in_aggregate Buying k (neg_ℤ buying))

sells_more : (t : Bool) (c old more : ℤ) → (c -ℤ (if t then (old +ℤ more) else pos 0))
    ≡ ((c -ℤ (if t then old else pos 0)) +ℤ ((if t then neg_ℤ more else pos 0) +ℤ pos 0))
sells_more true c old more = omega (arith, ints)
sells_more false c old more = omega (arith, ints)

buys_more : (t : Bool) (c old more : ℤ) → (c -ℤ (if t then (old +ℤ more) else pos 0))
    ≡ ((c -ℤ (if t then old else pos 0)) +ℤ (pos 0 +ℤ (if t then neg_ℤ more else pos 0)))
buys_more true c old more = omega (arith, ints)
buys_more false c old more = omega (arith, ints)

module _ (selling buying : ℤ) (a : AccountEntry) where
  abbrev b : AccountEntry
  b = bound_account selling buying a

  pub second : second_in b.ext ≡ second_in a.ext
  second = same_second (risen selling buying (account_liabilities a)) a.ext

  now : account_liabilities b ≡ risen selling buying (account_liabilities a)
  now = stored (risen selling buying (account_liabilities a)) a.ext

  same_sponsors : signer_sponsors b ≡ signer_sponsors a
  same_sponsors = ap (λ o. (sponsorship_in a.signers o).signer_sponsoring_ids) second

  abbrev its_key : LedgerKey
  its_key = key.Account a.account_id

  account_aggregates : (v : View) (kind : Kind) (k : LedgerKey) (e : LedgerEntry) → weight v kind k (with_body e b)
      ≡ (weight v kind k (with_body e a) +ℤ unbound its_key selling buying kind k)
  account_aggregates v Sponsored k e =
      (λ i. for_account k (Some a.account_id) ((if is_there (sponsor_of e) then 2 else 0)
      + count_by is_there (same_sponsors i)) -ℤ (if is_key its_key k then pos (sponsored_in (second i)) else pos 0))
      ∙ sym (add_zero _)
  account_aggregates v Sponsoring k e =
      (λ i. (for_account k (sponsor_of e) 2 +ℤ pos (count_by (is_for k) (same_sponsors i)))
      -ℤ (if is_key its_key k then pos (sponsoring_in (second i)) else pos 0)) ∙ sym (add_zero _)
  account_aggregates v Selling k e =
      (λ i. pos 0 -ℤ (if is_key its_key k then (now i).selling else pos 0))
      ∙ sells_more (is_key its_key k) (pos 0) (account_liabilities a).selling selling
  account_aggregates v Buying k e =
      (λ i. pos 0 -ℤ (if is_key its_key k then (now i).buying else pos 0))
      ∙ buys_more (is_key its_key k) (pos 0) (account_liabilities a).buying buying
  account_aggregates v kind k e = sym (add_zero _)

  -- an account with other liabilities, which are in their ranges
  pub bound_step : (id_pool : ℕ) → IsInRange b → IsStep (IsEntryLegal id_pool) (unbound its_key selling buying) a b
  bound_step id_pool range = record {
    move = record { id = refl; aggregates = account_aggregates };
    balance = refl;
    keeps = λ e was. record {
      range = record {
        body = record {
          range = range;
          seq_num = was.range.body.seq_num;
          greatest_seq_num = was.range.body.greatest_seq_num;
          flags = was.range.body.flags;
          home_domain = was.range.body.home_domain;
          signers = subst (AreSignersInRange a.account_id a.signers) (sym same_sponsors) was.range.body.signers;
        };
        paid = was.range.paid;
      };
      bound = tt;
      few = was.few;
      fits = subst (λ o. a.num_sub_entries + sponsoring_in o ≤ 4294967295) (sym second) was.fits;
      filled = tt;
    };
  }

-- ---- lines

abbrev pub IsLineEntry : EntryMap → AccountId → TrustLineAsset → TrustLineEntry → LedgerEntry → Type 0
IsLineEntry m id asset t e = IsEntryOf line_kind m (key.TrustLine id asset) t e

pub line_entry : (m : EntryMap) (id : AccountId) (asset : TrustLineAsset) (t : TrustLineEntry)
    → line_at m id asset ≡ Some t → (e : LedgerEntry) × IsLineEntry m id asset t e
unfolding line_at
line_entry m id asset t h = entry_found lines_exact m (key.TrustLine id asset) t h

abbrev pub with_line_body : LedgerEntry → TrustLineEntry → LedgerEntry
with_line_body e t = record e { body = body.TrustLine t }

pub with_line_is : (m : EntryMap) (id : AccountId) (asset : TrustLineAsset) (f : TrustLineEntry → TrustLineEntry)
    (t : TrustLineEntry) (e : LedgerEntry) → IsLineEntry m id asset t e
    → with_line m id asset f ≡ put m (with_line_body e (f t))
unfolding with_line
with_line_is m id asset f t e here = with_found lines_exact m (key.TrustLine id asset) f t e here

-- a line that is in another's place
pub record IsLineMove (more : Owed) (t u : TrustLineEntry) : Type 0 where
  pub id : u.account_id ≡ t.account_id
  pub asset : u.asset ≡ t.asset
  pub aggregates : (v : View) (kind : Kind) (k : LedgerKey) (e : LedgerEntry)
      → weight v kind k (with_line_body e u) ≡ (weight v kind k (with_line_body e t) +ℤ more kind k)

-- A line that exists is changed.
pub with_line_legal : (v : View) (id_pool : ℕ) (owed more : Owed) (sum : ℤ) (m : EntryMap) (id : AccountId)
    (asset : TrustLineAsset) (f : TrustLineEntry → TrustLineEntry) (t : TrustLineEntry)
    → IsLegalOwing v id_pool owed sum m
    → line_at m id asset ≡ Some t → IsLineMove more t (f t)
    → ((e : LedgerEntry) → IsEntryLegal id_pool (with_line_body e t) → IsEntryLegal id_pool (with_line_body e (f t)))
    → IsLegalOwing v id_pool (plus owed more) (sum +ℤ (of_line v.asset (f t).asset (f t).balance
    -ℤ of_line v.asset t.asset t.balance)) (with_line m id asset f)
with_line_legal v id_pool owed more sum m id asset f t legal exists move keeps =
    let found = line_entry m id asset t exists in
    let there : get m (key.TrustLine id asset) ≡ Some (with_line_body found.0 t) =
    found.1.there ∙ ap Some (λ i. record found.0 { body = found.1.is i }) in
    subst (IsLegalOwing v id_pool (plus owed more) (sum +ℤ (of_line v.asset (f t).asset (f t).balance
    -ℤ of_line v.asset t.asset t.balance))) (sym (with_line_is m id asset f t found.0 found.1))
    (replace_legal v (IsEntryLegal id_pool) owed more sum m (key.TrustLine id asset) (with_line_body found.0 t)
    (with_line_body found.0 (f t)) there legal
    (record {
      own = λ i. key.TrustLine (move.id i) (move.asset i);
      params = refl;
      offers = λ n. refl;
      aggregates = λ kind k. move.aggregates v kind k found.0;
    }) (keeps found.0 (legal.entries _ _ there)))

module _ (selling buying : ℤ) (t : TrustLineEntry) where
  abbrev u : TrustLineEntry
  u = bound_line selling buying t

  line_now : line_liabilities u ≡ risen selling buying (line_liabilities t)
  line_now = line_stored (risen selling buying (line_liabilities t)) t.ext

  same_use_count : use_count u ≡ use_count t
  same_use_count = ap use_count_in (same_line_second (risen selling buying (line_liabilities t)) t.ext)

  abbrev line_key : LedgerKey
  line_key = key.TrustLine t.account_id t.asset

  line_aggregates : (v : View) (kind : Kind) (k : LedgerKey) (e : LedgerEntry) → weight v kind k (with_line_body e u)
      ≡ (weight v kind k (with_line_body e t) +ℤ unbound line_key selling buying kind k)
  line_aggregates v Selling k e =
      (λ i. pos 0 -ℤ (if is_key line_key k then (line_now i).selling else pos 0))
      ∙ sells_more (is_key line_key k) (pos 0) (line_liabilities t).selling selling
  line_aggregates v Buying k e =
      (λ i. pos 0 -ℤ (if is_key line_key k then (line_now i).buying else pos 0))
      ∙ buys_more (is_key line_key k) (pos 0) (line_liabilities t).buying buying
  line_aggregates v Uses k e =
      (λ i. counted v Uses k (with_line_body e t) -ℤ (if is_key line_key k then same_use_count i else pos 0))
      ∙ sym (add_zero _)
  line_aggregates v kind k e = sym (add_zero _)

  pub bound_line_move : IsLineMove (unbound line_key selling buying) t u
  bound_line_move = record { id = refl; asset = refl; aggregates = line_aggregates }

  pub bound_line_keeps : (id_pool : ℕ) → IsLineInRange u → t.flags % 4 ≢ 0 → (e : LedgerEntry)
      → IsEntryLegal id_pool (with_line_body e t) → IsEntryLegal id_pool (with_line_body e u)
  bound_line_keeps id_pool range authorized e was = record {
    range = record {
      body = record {
        range = range;
        limit = was.range.body.limit;
        greatest = was.range.body.greatest;
        held = was.range.body.held;
        flags = was.range.body.flags;
        uses = subst (λ n. pos 0 ≤ℤ n) (sym same_use_count) was.range.body.uses;
      };
      paid = was.range.paid;
    };
    bound = λ none. absurd (authorized none);
    few = tt;
    fits = tt;
    filled = tt;
  }

-- A line's liabilities rise by these, or fall.
pub bound_line_legal : (v : View) (id_pool : ℕ) (owed : Owed) (sum : ℤ) (m : EntryMap) (id : AccountId)
    (asset : TrustLineAsset) (selling buying : ℤ) (t : TrustLineEntry) → IsLegalOwing v id_pool owed sum m
    → line_at m id asset ≡ Some t → IsLineInRange (bound_line selling buying t) → t.flags % 4 ≢ 0
    → key.TrustLine t.account_id t.asset ≡ key.TrustLine id asset
    → IsLegalOwing v id_pool (plus owed (unbound (key.TrustLine id asset) selling buying)) sum
    (with_line m id asset (bound_line selling buying))
bound_line_legal v id_pool owed sum m id asset selling buying t legal exists range authorized same =
    legal_as v (IsEntryLegal id_pool) _ _ _ sum _
    (with_line_legal v id_pool owed _ sum m id asset (bound_line selling buying) t legal exists
    (bound_line_move selling buying t) (bound_line_keeps selling buying t id_pool range authorized))
    (λ kind k. ap (λ q. owed kind k +ℤ unbound q selling buying kind k) same)
    (add_sub_self sum (of_line v.asset t.asset t.balance))
