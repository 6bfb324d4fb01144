-- The pools of an account among entries, by its lines in the order of keys.
use Rattle.pool_shares.proofs.Prelude.{◌≡◌, ◌≢◌, refl, sym, ap, ◌∙◌, arith, Bool, true, false, ◌<◌, List, [], ◌∷◌, ◌++◌}
use Rattle.pool_shares.proofs.Prelude.{append-nil, append_assoc, length, All, Option, Some, None, IfSome, if◌then◌else◌}
use Rattle.pool_shares.proofs.Prelude.{Less, Equal, Greater, ordering_then, get, entries, AccountId, Hash}
use Rattle.pool_shares.proofs.Prelude.{TrustLineAsset, LedgerEntry, LedgerEntryBody, LedgerKey, key_of, key_of_body}
use Rattle.pool_shares.proofs.Prelude.{line_cmp, key_cmp, EntryMap, IsLeastAbove, is_same_account}
use Rattle.pool_shares.proofs.Prelude.{AreKeyed, line_held, left, held_in, IsNextLine, IsAheadOfShares}
use Rattle.std.specs.List.{cons_option}
use Rattle.std.proofs.lemmas.List.Elements.{All-head, All-tail}
use Rattle.std.specs.Cmp.{tied_itself}
use Rattle.std.proofs.lemmas.Cmp.{nat_list_cmp_total}
use Rattle.ledger_types.specs.declared.asset.TrustLineAsset.TheVariants as line
use Rattle.ledger_types.specs.declared.entry.LedgerEntryBody.TheVariants as body
use Rattle.ledger_types.specs.declared.key.LedgerKey.TheVariants as key
use Rattle.std.proofs.Common.{subst}
use Rattle.std.specs.FinMap.{find, get-entries}
use Rattle.std.specs.Ordering.{eq_by_cmp}
use Rattle.entry_map.specs.EntryMap.{IsKeyed, IsNextUpTo}
use Rattle.entry_map.proofs.Aggregates.{found_first}
use Rattle.pool_shares.specs.Held.{AreLinesUpTo}
use Rattle.sponsor_rules.proofs.Ids.{is_itself, same_account}
use Rattle.trade_cross.specs.offer_book.Sold.{above}
use Rattle.trade_cross.proofs.offer_book_proofs.Above.{Pairs, skipped, taken, later_none, next_left}
use Rattle.trade_cross.proofs.offer_book_proofs.Selling.{IsOwn, all_own}
use Rattle.pool_shares.specs.AccountPools.{pool_in_line, pool_held_by, pools_held_by}
use Rattle.ledger_types.proofs.KeyOrdering.{same_from_both_orders}

-- ---- one entry

abbrev pool_of_line : Option TrustLineAsset → Option Hash
pool_of_line None = None
pool_of_line (Some asset) = pool_in_line asset

chosen : (b : Bool) (asset : TrustLineAsset)
    → (if b then pool_in_line asset else None) ≡ pool_of_line (if b then Some asset else None)
chosen true asset = refl
chosen false asset = refl

pool_by_line : (id : AccountId) (b : LedgerEntryBody) → pool_held_by id b ≡ pool_of_line (line_held id b)
pool_by_line id (body.TrustLine t) = chosen (is_same_account t.account_id id) t.asset
pool_by_line id other = refl

held_first : (id : AccountId) (x : LedgerKey × LedgerEntry) (xs : Pairs) (o : Option TrustLineAsset)
    → line_held id x.1.body ≡ o → held_in id (x ∷ xs) ≡ cons_option (pool_of_line o) (held_in id xs)
held_first id x xs o is =
    ap (λ p. cons_option p (held_in id xs)) (pool_by_line id x.1.body ∙ ap pool_of_line is)

-- a line of an account is under its key
line_of : (id : AccountId) (t : LedgerEntryBody) (account : AccountId) (asset held : TrustLineAsset) (b : Bool)
    → is_same_account account id ≡ b → (if b then Some asset else None) ≡ Some held
    → key.TrustLine account asset ≡ key.TrustLine id held
line_of id t account asset held true same is =
    let also : asset ≡ held = cc in
    ap (λ a. key.TrustLine a asset) (same_account account id same) ∙ ap (key.TrustLine id) also
line_of id t account asset held false same is = absurd (cc)

line_under : (id : AccountId) (b : LedgerEntryBody) (held : TrustLineAsset) → line_held id b ≡ Some held
    → key_of_body b ≡ key.TrustLine id held
line_under id (body.TrustLine t) held is =
    line_of id (body.TrustLine t) t.account_id t.asset held (is_same_account t.account_id id) refl is
line_under id other held is = absurd (cc)

-- what is no line of an account is under none of its lines' keys ..
under_none : (id : AccountId) (b : LedgerEntryBody) (x : TrustLineAsset) → line_held id b ≡ None
    → key_of_body b ≢ key.TrustLine id x
under_none id (body.TrustLine t) x none is =
    let same : t.account_id ≡ id = cc is in
    let chosen_asset : (if is_same_account t.account_id id then Some t.asset else None) ≡ Some t.asset =
    ap (λ b. if b then Some t.asset else None) (ap (λ a. is_same_account a id) same ∙ is_itself id) in
    absurd (cc)
under_none id (body.Account a) x none is = absurd (cc)
under_none id (body.Offer a) x none is = absurd (cc)
under_none id (body.Data a) x none is = absurd (cc)
under_none id (body.ClaimableBalance a) x none is = absurd (cc)
under_none id (body.LiquidityPool a) x none is = absurd (cc)

-- .. and what is under none of them is no line of it
none_if : (b : Bool) (asset : TrustLineAsset) → b ≢ true → (if b then Some asset else None) ≡ None
none_if true asset not = absurd (not refl)
none_if false asset not = refl

none_under : (id : AccountId) (k : LedgerKey) (b : LedgerEntryBody) → key_of_body b ≡ k
    → ((x : TrustLineAsset) → k ≢ key.TrustLine id x) → line_held id b ≡ None
none_under id k (body.TrustLine t) own never = none_if (is_same_account t.account_id id) t.asset
    (λ same. never t.asset (sym own ∙ ap (λ a. key.TrustLine a t.asset) (same_account t.account_id id same)))
none_under id k other own never = refl

-- ---- the keys of an account's lines are side by side

side_by_side : (s : AccountId) (i j : TrustLineAsset) (q : LedgerKey) → key_cmp (key.TrustLine s i) q ≡ Less
    → key_cmp q (key.TrustLine s j) ≡ Less → (x : TrustLineAsset) × (q ≡ key.TrustLine s x)
side_by_side s i j (key.TrustLine a l) up down =
    (l, ap (λ b. key.TrustLine b l) (same_from_both_orders s a (line_cmp i l) (line_cmp l j) up down))
side_by_side s i j (key.Account a) up down = absurd (cc)
side_by_side s i j (key.Offer a l) up down = absurd (cc)
side_by_side s i j (key.Data a n) up down = absurd (cc)
side_by_side s i j (key.ClaimableBalance b) up down = absurd (cc)
side_by_side s i j (key.LiquidityPool b) up down = absurd (cc)

-- after a key that is none of the account's lines' there are none of its lines
none_after : (s : AccountId) (i : TrustLineAsset) (q : LedgerKey) (es : Pairs) → All IsOwn es
    → key_cmp (key.TrustLine s i) q ≡ Less → ((x : TrustLineAsset) → q ≢ key.TrustLine s x)
    → held_in s (above q es) ≡ []
none_after s i q [] own up never = refl
none_after s i q (x ∷ xs) own up never =
    let later = none_after s i q xs (All-tail IsOwn x xs own) up never in
    elim (key_cmp q x.0) as (λ r. key_cmp q x.0 ≡ r → held_in s (above q (x ∷ xs)) ≡ []) [
      | Less ↦ λ lt. ap (held_in s) (taken q x xs lt)
          ∙ held_first s x (above q xs) None (none_under s x.0 x.1.body (All-head IsOwn x xs own)
          (λ n is. let two = side_by_side s i n q up (ap (key_cmp q) (sym is) ∙ lt) in never two.0 two.1)) ∙ later
      | Equal ↦ λ e. ap (held_in s) (skipped q x xs (λ lt. absurd (cc (e, lt)))) ∙ later
      | Greater ↦ λ e. ap (held_in s) (skipped q x xs (λ lt. absurd (cc (e, lt)))) ∙ later
    ] refl

-- ---- the next line of an account

if_some : (P : LedgerEntry → Type 0) (o : Option LedgerEntry) → ((e : LedgerEntry) → o ≡ Some e → P e) → IfSome o P
if_some P None all = tt
if_some P (Some e) all = all e refl

own_keys : (m : EntryMap) → AreKeyed m → IsKeyed m
own_keys m keyed k = if_some (λ e. key_of e ≡ k) (get m k) (keyed k)

-- under none of the account's lines' keys above a key there is anything
none_listed : (s : AccountId) (at : LedgerKey) (es : Pairs) → All IsOwn es
    → ((q : LedgerKey) (x : TrustLineAsset) → q ≡ key.TrustLine s x → key_cmp at q ≡ Less → find key_cmp q es ≡ None)
    → held_in s (above at es) ≡ []
none_listed s at [] own none = refl
none_listed s at (x ∷ xs) own none =
    let later = none_listed s at xs (All-tail IsOwn x xs own)
    (λ q a is lt. later_none (eq_by_cmp key_cmp q x.0) x.1 (find key_cmp q xs) (none q a is lt)) in
    elim (key_cmp at x.0) as (λ r. key_cmp at x.0 ≡ r → held_in s (above at (x ∷ xs)) ≡ []) [
      | Less ↦ λ lt. ap (held_in s) (taken at x xs lt)
          ∙ held_first s x (above at xs) None (none_under s x.0 x.1.body (All-head IsOwn x xs own)
          (λ a is. absurd (cc (none x.0 a is lt, found_first x xs)))) ∙ later
      | Equal ↦ λ e. ap (held_in s) (skipped at x xs (λ lt. absurd (cc (e, lt)))) ∙ later
      | Greater ↦ λ e. ap (held_in s) (skipped at x xs (λ lt. absurd (cc (e, lt)))) ∙ later
    ] refl

pub none_next : (m : EntryMap) (s : AccountId) (i : TrustLineAsset) (last : LedgerKey)
    → IsNextUpTo m (key.TrustLine s i) (Some last) None → AreLinesUpTo s last → IsNextLine m s i None
none_next m s i last none within keyed =
    none_listed s (key.TrustLine s i) (entries m) (all_own m (own_keys m keyed))
    (λ q x is lt. sym (get-entries m q) ∙ none q lt
    (subst (λ (k : LedgerKey). key_cmp k last ≢ Greater) (sym is) (within x)))

other_next : (m : EntryMap) (s : AccountId) (i : TrustLineAsset) (e : LedgerEntry)
    → IsLeastAbove m (key.TrustLine s i) e → line_held s e.body ≡ None → IsNextLine m s i None
other_next m s i e least none keyed =
    ap (held_in s) (next_left m (key.TrustLine s i) e least)
    ∙ held_first s (key_of e, e) (above (key_of e) (entries m)) None none
    ∙ none_after s i (key_of e) (entries m) (all_own m (own_keys m keyed)) least.above
    (λ x. under_none s e.body x none)

some_next : (m : EntryMap) (s : AccountId) (i : TrustLineAsset) (e : LedgerEntry) (next : TrustLineAsset)
    → IsLeastAbove m (key.TrustLine s i) e → line_held s e.body ≡ Some next → IsNextLine m s i (Some next)
some_next m s i e next least is =
    let k : key_of e ≡ key.TrustLine s next = line_under s e.body next is in
    let split = next_left m (key.TrustLine s i) e least in
    let rest = ap (λ q. above q (entries m)) k in
    record {
      first = ap (held_in s) split ∙ held_first s (key_of e, e) (above (key_of e) (entries m)) (Some next) is
          ∙ ap (λ r. cons_option (pool_in_line next) (held_in s r)) rest;
      fewer = shorter (left m s i) (above (key_of e) (entries m)) (left m s next) (key_of e, e) split rest;
    }
  where
    shorter : (all rest other : Pairs) (x : LedgerKey × LedgerEntry) → all ≡ x ∷ rest → rest ≡ other
        → length other < length all
    shorter all rest other x is same = omega (arith, ap (λ r. length r) is, ap (λ r. length r) same)

pub entry_next : (m : EntryMap) (s : AccountId) (i : TrustLineAsset) (e : LedgerEntry) (o : Option TrustLineAsset)
    → IsLeastAbove m (key.TrustLine s i) e → line_held s e.body ≡ o → IsNextLine m s i o
entry_next m s i e None least is = other_next m s i e least is
entry_next m s i e (Some next) least is = some_next m s i e next least is

-- ---- no line of shares is left out at the start

module _ (s : AccountId) (start : TrustLineAsset) (ahead : IsAheadOfShares start) where
  abbrev k : LedgerKey
  k = key.TrustLine s start

  share_above : (pool : Hash) → key_cmp k (key.TrustLine s (line.PoolShare pool)) ≡ Less
  share_above pool =
      ap (λ r. ordering_then r (line_cmp start (line.PoolShare pool))) (tied_itself nat_list_cmp_total s.0)
      ∙ ahead pool

  no_pool : (asset : TrustLineAsset) → key_cmp k (key.TrustLine s asset) ≢ Less → pool_in_line asset ≡ None
  no_pool (line.PoolShare pool) past = absurd (past (share_above pool))
  no_pool other past = refl

  low_in : (b : Bool) (account : AccountId) (asset : TrustLineAsset) → is_same_account account s ≡ b
      → key_cmp k (key.TrustLine account asset) ≢ Less → (if b then pool_in_line asset else None) ≡ None
  low_in true account asset same past = no_pool asset
      (λ lt. past (ap (λ a. key_cmp k (key.TrustLine a asset)) (same_account account s same) ∙ lt))
  low_in false account asset same past = refl

  low_by : (b : LedgerEntryBody) → key_cmp k (key_of_body b) ≢ Less → pool_held_by s b ≡ None
  low_by (body.TrustLine t) past = low_in (is_same_account t.account_id s) t.account_id t.asset refl past
  low_by other past = refl

  all_left : (es : Pairs) → All IsOwn es → held_in s (above k es) ≡ held_in s es
  all_left [] own = refl
  all_left (x ∷ xs) own =
      let later = all_left xs (All-tail IsOwn x xs own) in
      let gone = λ (past : key_cmp k x.0 ≢ Less). ap (held_in s) (skipped k x xs past) ∙ later
      ∙ ap (λ p. cons_option p (held_in s xs)) (sym (low_by x.1.body
      (λ lt. past (ap (key_cmp k) (sym (All-head IsOwn x xs own)) ∙ lt)))) in
      elim (key_cmp k x.0) as (λ r. key_cmp k x.0 ≡ r → held_in s (above k (x ∷ xs)) ≡ held_in s (x ∷ xs)) [
        | Less ↦ λ lt. ap (held_in s) (taken k x xs lt) ∙ ap (cons_option (pool_held_by s x.1.body)) later
        | Equal ↦ λ e. gone (λ lt. absurd (cc (e, lt)))
        | Greater ↦ λ e. gone (λ lt. absurd (cc (e, lt)))
      ] refl

  pub all_ahead : (m : EntryMap) → AreKeyed m → held_in s (left m s start) ≡ pools_held_by s m
  unfolding pools_held_by
  all_ahead m keyed = all_left (entries m) (all_own m (own_keys m keyed))

-- the pools found so far, with one more or none
pub pushed : (xs : List Hash) (o : Option Hash) (r : List Hash) → (xs ++ cons_option o []) ++ r ≡ xs ++ cons_option o r
pushed xs None r = ap (λ l. l ++ r) (append-nil xs)
pushed xs (Some pool) r = append_assoc xs (pool ∷ []) r
