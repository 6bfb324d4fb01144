-- The offers of an account among entries.
use Rattle.offer_book.proofs.Prelude as prelude
use prelude.{◌≡◌, ◌≢◌, refl, sym, ap, ◌∙◌, arith, Bool, true, false, cond, T, ℤ, pos, ◌<◌, ◌≤ℤ◌, List, [], ◌∷◌, map}
use prelude.{length, All, Option, Some, None, IfSome, Less, Equal, Greater, is_eq, ordering_then, int_cmp, int_cmp_is}
use prelude.{get, find, entries, entries_sorted, get-entries, is_sorted, first, second, LedgerEntry, LedgerKey, key_of}
use prelude.{key_of_body, account_cmp, key_cmp, EntryMap, IsKeyed, IsLeastAbove, offer_in, offers_in, eq_by_cmp}
use prelude.{above, sold_in, IsSoldIn, found_first, found_later, account_cmp_itself, exact_accounts}
use prelude.{same_from_both_orders}
use Rattle.std.specs.List.{cons_option}
use Rattle.std.proofs.Common.{append_assoc, append-nil, subst, ◌++◌}
use Rattle.std.proofs.lemmas.List.Elements.{All-nil, All-cons, All-head, All-tail, All-push, filter_map-append}
use Rattle.ledger_types.proofs.Lists.{if_some_at}
use Rattle.std.proofs.lemmas.Int.{ints}
use Rattle.ledger_types.specs.declared.ids.AccountId.{AccountId}
use Rattle.ledger_types.specs.declared.offer.OfferEntry.{OfferEntry}
use Rattle.ledger_types.specs.declared.entry.LedgerEntryBody.{LedgerEntryBody}
use Rattle.ledger_types.specs.declared.entry.LedgerEntryBody.TheVariants as body
use Rattle.ledger_types.specs.declared.key.LedgerKey.TheVariants as key
use Rattle.entry_map.specs.EntryMap.{IsNextUpTo}
use Rattle.entry_map.specs.Walk.{WalkAt}
use Rattle.offer_book.specs.Book.{sold_by, offers_by, AreNumbered}
use Rattle.offer_book.specs.Sold.{AreSold, AreUpTo, IsAmong, IsFirstSold, IsOfferOf}
use Rattle.offer_book.proofs.Above.{Pairs, skipped, taken, later_none, next_left}

pub offer_key : (b : LedgerEntryBody) (o : OfferEntry) → offer_in b ≡ Some o
    → key_of_body b ≡ key.Offer o.seller_id o.offer_id
offer_key (body.Offer x) o h = let same : x ≡ o = cc in ap (λ (y : OfferEntry). key.Offer y.seller_id y.offer_id) same
offer_key (body.Account a) o h = absurd (cc)
offer_key (body.TrustLine a) o h = absurd (cc)
offer_key (body.Data a) o h = absurd (cc)
offer_key (body.ClaimableBalance a) o h = absurd (cc)
offer_key (body.LiquidityPool a) o h = absurd (cc)

-- ---- one entry before others

pub first_sold : (s : AccountId) (x : LedgerKey × LedgerEntry) (o : OfferEntry) (xs : Pairs)
    → offer_in x.1.body ≡ Some o
    → o.seller_id ≡ s → sold_in s (x ∷ xs) ≡ o ∷ sold_in s xs
first_sold s x o xs is same = ap (λ y. sold_by s (cons_option y (offers_in (map (λ pair. pair.1) xs)))) is
    ∙ ap (λ b. cond b (o ∷ sold_in s xs) (sold_in s xs))
    (ap is_eq (ap (λ a. account_cmp a s) same ∙ account_cmp_itself s))

not_taken : (b : Bool) (o : OfferEntry) (r : List OfferEntry) → cond b (o ∷ []) [] ≡ [] → cond b (o ∷ r) r ≡ r
not_taken true o r h = absurd (cc)
not_taken false o r h = refl

not_sold_by : (s : AccountId) (o : Option OfferEntry) (r : List OfferEntry) → sold_by s (cons_option o []) ≡ []
    → sold_by s (cons_option o r) ≡ sold_by s r
not_sold_by s None r h = refl
not_sold_by s (Some o) r h = not_taken (is_eq (account_cmp o.seller_id s)) o (sold_by s r) h

pub not_sold : (s : AccountId) (x : LedgerKey × LedgerEntry) (xs : Pairs) → IsSoldIn x.1 s None
    → sold_in s (x ∷ xs) ≡ sold_in s xs
not_sold s x xs h = not_sold_by s (offer_in x.1.body) (offers_in (map (λ pair. pair.1) xs)) h

-- an entry under a key that is none of the account's offers' isn't one of them
by_offer : (s : AccountId) (k : LedgerKey) (b : LedgerEntryBody) → key_of_body b ≡ k → ((n : ℤ) → k ≢ key.Offer s n)
    → sold_by s (cons_option (offer_in b) []) ≡ []
by_offer s k (body.Offer o) own never = elim (account_cmp o.seller_id s) as (λ r. account_cmp o.seller_id s ≡ r
    → cond (is_eq r) (o ∷ []) [] ≡ []) [
      | Less ↦ λ _. refl
      | Equal ↦ λ e. absurd
          (never o.offer_id (sym own ∙ ap (λ a. key.Offer a o.offer_id) (exact_accounts o.seller_id s e)))
      | Greater ↦ λ _. refl
    ] refl
by_offer s k (body.Account a) own never = refl
by_offer s k (body.TrustLine a) own never = refl
by_offer s k (body.Data a) own never = refl
by_offer s k (body.ClaimableBalance a) own never = refl
by_offer s k (body.LiquidityPool a) own never = refl

by_key : (s : AccountId) (b : LedgerEntryBody) (n : ℤ) → sold_by s (cons_option (offer_in b) []) ≡ []
    → key_of_body b ≢ key.Offer s n
by_key s (body.Offer o) n none e =
    let same : o.seller_id ≡ s = cc e in
    absurd (cc (none, ap (λ b. cond b (o ∷ []) []) (ap is_eq (ap (λ a. account_cmp a s) same ∙ account_cmp_itself s))))
by_key s (body.Account a) n none e = absurd (cc)
by_key s (body.TrustLine a) n none e = absurd (cc)
by_key s (body.Data a) n none e = absurd (cc)
by_key s (body.ClaimableBalance a) n none e = absurd (cc)
by_key s (body.LiquidityPool a) n none e = absurd (cc)

-- ---- the keys of an account's offers are side by side

side_by_side : (s : AccountId) (i j : ℤ) (q : LedgerKey) → key_cmp (key.Offer s i) q ≡ Less
    → key_cmp q (key.Offer s j) ≡ Less → (n : ℤ) × (q ≡ key.Offer s n)
side_by_side s i j (key.Offer a n) up down =
    (n, ap (λ b. key.Offer b n) (same_from_both_orders s a (int_cmp i n) (int_cmp n j) up down))
side_by_side s i j (key.Account a) up down = absurd (cc)
side_by_side s i j (key.TrustLine a l) up down = absurd (cc)
side_by_side s i j (key.Data a n) up down = absurd (cc)
side_by_side s i j (key.ClaimableBalance b) up down = absurd (cc)
side_by_side s i j (key.LiquidityPool b) up down = absurd (cc)

abbrev pub IsOwn : LedgerKey × LedgerEntry → Type 0
IsOwn x = key_of x.1 ≡ x.0

-- after a key that is none of the account's there are none of its offers
none_sold : (s : AccountId) (i : ℤ) (q : LedgerKey) (es : Pairs) → All IsOwn es → key_cmp (key.Offer s i) q ≡ Less
    → ((n : ℤ) → q ≢ key.Offer s n) → sold_in s (above q es) ≡ []
none_sold s i q [] own up never = refl
none_sold s i q (x ∷ xs) own up never =
    let later = none_sold s i q xs (All-tail IsOwn x xs own) up never in
    elim (key_cmp q x.0) as (λ r. key_cmp q x.0 ≡ r → sold_in s (above q (x ∷ xs)) ≡ []) [
      | Less ↦ λ lt. ap (sold_in s) (taken q x xs lt)
          ∙ not_sold s x (above q xs) (by_offer s x.0 x.1.body (All-head IsOwn x xs own)
          (λ n is. let two = side_by_side s i n q up (ap (key_cmp q) (sym is) ∙ lt) in never two.0 two.1)) ∙ later
      | Equal ↦ λ e. ap (sold_in s) (skipped q x xs (λ lt. absurd (cc (e, lt)))) ∙ later
      | Greater ↦ λ e. ap (sold_in s) (skipped q x xs (λ lt. absurd (cc (e, lt)))) ∙ later
    ] refl

-- ---- each entry of a map is under its own key

own_listed : (es : Pairs) → T (is_sorted key_cmp es)
    → ((k : LedgerKey) (e : LedgerEntry) → find key_cmp k es ≡ Some e → key_of e ≡ k) → All IsOwn es
own_listed [] h own = All-nil IsOwn
own_listed (x ∷ xs) h own = All-cons IsOwn x xs (own x.0 x.1 (found_first x xs))
    (own_listed xs (second _ _ h) (λ k e f. own k e (found_later x xs k e h f)))

pub all_own : (m : EntryMap) → IsKeyed m → All IsOwn (entries m)
all_own m keyed = own_listed (entries m) (entries_sorted m)
    (λ k e f. if_some_at (λ x. key_of x ≡ k) (get m k) e (keyed k) (get-entries m k ∙ f))

-- ---- the next offer of an account

-- under none of the account's offers' keys above a key there is anything
none_listed : (s : AccountId) (at : LedgerKey) (es : Pairs) → All IsOwn es
    → ((q : LedgerKey) (n : ℤ) → q ≡ key.Offer s n → key_cmp at q ≡ Less → find key_cmp q es ≡ None)
    → sold_in s (above at es) ≡ []
none_listed s at [] own none = refl
none_listed s at (x ∷ xs) own none =
    let later = none_listed s at xs (All-tail IsOwn x xs own)
    (λ q n is lt. later_none (eq_by_cmp key_cmp q x.0) x.1 (find key_cmp q xs) (none q n is lt)) in
    elim (key_cmp at x.0) as (λ r. key_cmp at x.0 ≡ r → sold_in s (above at (x ∷ xs)) ≡ []) [
      | Less ↦ λ lt. ap (sold_in s) (taken at x xs lt)
          ∙ not_sold s x (above at xs) (by_offer s x.0 x.1.body (All-head IsOwn x xs own)
          (λ n is. absurd (cc (none x.0 n is lt, found_first x xs)))) ∙ later
      | Equal ↦ λ e. ap (sold_in s) (skipped at x xs (λ lt. absurd (cc (e, lt)))) ∙ later
      | Greater ↦ λ e. ap (sold_in s) (skipped at x xs (λ lt. absurd (cc (e, lt)))) ∙ later
    ] refl

pub nothing_sold : (m : EntryMap) (at last : LedgerKey) (s : AccountId) → IsNextUpTo m at (Some last) None → IsKeyed m
    → AreUpTo s last → sold_in s (above at (entries m)) ≡ []
nothing_sold m at last s none keyed within = none_listed s at (entries m) (all_own m keyed)
    (λ q n is lt. sym (get-entries m q) ∙ none q lt
    (subst (λ (k : LedgerKey). key_cmp k last ≢ Greater) (sym is) (within n)))

pub other_sold : (m : EntryMap) (at : LedgerKey) (s : AccountId) (e : LedgerEntry) → IsLeastAbove m at e
    → IsSoldIn e s None → IsKeyed m → IsAmong s at → sold_in s (above at (entries m)) ≡ []
other_sold m at s e least none keyed (i, is) =
    ap (sold_in s) (next_left m at e least)
    ∙ not_sold s (key_of e, e) (above (key_of e) (entries m)) none
    ∙ none_sold s i (key_of e) (entries m) (all_own m keyed)
    (subst (λ k. key_cmp k (key_of e) ≡ Less) is least.above) (λ n. by_key s e.body n none)

pub some_sold : (old : WalkAt) (now : LedgerKey) (s : AccountId) (e : LedgerEntry) (o : OfferEntry)
    → IsLeastAbove old.entries old.at e → now ≡ key_of e → IsSoldIn e s (Some o) → IsFirstSold old now s e
some_sold old now s e o least at is =
    let k : key_of e ≡ key.Offer s o.offer_id = offer_key e.body o is.0 ∙ ap (λ a. key.Offer a o.offer_id) is.1 in
    let split = next_left old.entries old.at e least in
    let rest = ap (λ q. above q (entries old.entries)) (sym at) in
    record {
      found = record { offer = o; is = is.0; there = least.there };
      at = (o.offer_id, at ∙ k);
      first = ap (sold_in s) split
          ∙ first_sold s (key_of e, e) o (above (key_of e) (entries old.entries)) is.0 is.1
          ∙ ap (λ r. o ∷ sold_in s r) rest;
      fewer = shorter (above old.at (entries old.entries)) (above (key_of e) (entries old.entries))
          (above now (entries old.entries)) (key_of e, e) split rest;
    }
  where
    shorter : (all rest other : Pairs) (x : LedgerKey × LedgerEntry) → all ≡ x ∷ rest → rest ≡ other
        → length other < length all
    shorter all rest other x is same = omega (arith, ap (λ r. length r) is, ap (λ r. length r) same)

-- ---- what was found so far

pub offers_more : (es : List LedgerEntry) (e : LedgerEntry)
    → offers_in (es ++ e ∷ []) ≡ offers_in es ++ offers_in (e ∷ [])
offers_more es e = filter_map-append (λ x. offer_in x.body) es (e ∷ [])

-- of an account's offers these entries were found, and the others come after the key
pub record AreFound (m : EntryMap) (s : AccountId) (walk : WalkAt) (sold : List LedgerEntry) : Type 0 where
  pub same : walk.entries ≡ m
  pub among : IsAmong s walk.at
  pub within : AreUpTo s walk.last
  pub found : offers_in sold ++ sold_in s (above walk.at (entries m)) ≡ sold_in s (above (key.Offer s (pos 0)) (entries m))
  pub each : All (IsOfferOf m) sold

pub none_found : (m : EntryMap) (s : AccountId) (last : LedgerKey) (walk : WalkAt) (sold : List LedgerEntry)
    → walk ≡ record { entries = m; at = key.Offer s (pos 0); last = last } → AreUpTo s last → sold ≡ []
    → AreFound m s walk sold
none_found m s last walk sold is within empty = record {
  same = ap (λ (w : WalkAt). w.entries) is;
  among = (pos 0, ap (λ (w : WalkAt). w.at) is);
  within = subst (AreUpTo s) (sym (ap (λ (w : WalkAt). w.last) is)) within;
  found = ap (λ (es : List LedgerEntry). offers_in es ++ sold_in s (above walk.at (entries m))) empty
      ∙ ap (λ (w : WalkAt). sold_in s (above w.at (entries m))) is;
  each = subst (All (IsOfferOf m)) (sym empty) (All-nil (IsOfferOf m));
}

pub one_more_found : (m : EntryMap) (s : AccountId) (old new : WalkAt) (sold next : List LedgerEntry) (e : LedgerEntry)
    → AreFound m s old sold → new.entries ≡ old.entries → new.last ≡ old.last → IsFirstSold old new.at s e
    → next ≡ sold ++ e ∷ [] → AreFound m s new next
one_more_found m s old new sold next e far same last first is =
    let in_m : old.entries ≡ m = far.same in
    let rest = sold_in s (above new.at (entries m)) in
    let o : OfferEntry = first.found.offer in
    let split : sold_in s (above old.at (entries m)) ≡ o ∷ rest =
    subst (λ (x : EntryMap). sold_in s (above old.at (entries x)) ≡ o ∷ sold_in s (above new.at (entries x)))
    in_m first.first in
    record {
      same = same ∙ in_m;
      among = first.at;
      within = subst (AreUpTo s) (sym last) far.within;
      found = ap (λ (es : List LedgerEntry). offers_in es ++ rest) is
          ∙ ap (λ (os : List OfferEntry). os ++ rest) (offers_more sold e)
          ∙ ap (λ (x : Option OfferEntry). (offers_in sold ++ cons_option x []) ++ rest) first.found.is
          ∙ append_assoc (offers_in sold) (o ∷ []) rest
          ∙ ap (λ (os : List OfferEntry). offers_in sold ++ os) (sym split) ∙ far.found;
      each = subst (All (IsOfferOf m)) (sym is)
          (All-push (IsOfferOf m) sold e far.each (subst (λ (x : EntryMap). IsOfferOf x e) in_m first.found));
    }

with_option : (s : AccountId) (o : Option OfferEntry) (xs ys : List OfferEntry) → sold_by s xs ≡ sold_by s ys
    → sold_by s (cons_option o xs) ≡ sold_by s (cons_option o ys)
with_option s None xs ys same = same
with_option s (Some o) xs ys same = ap (λ r. cond (is_eq (account_cmp o.seller_id s)) (o ∷ r) r) same

with_first : (s : AccountId) (x : LedgerKey × LedgerEntry) (xs ys : Pairs) → sold_in s xs ≡ sold_in s ys
    → sold_in s (x ∷ xs) ≡ sold_in s (x ∷ ys)
with_first s x xs ys same = with_option s (offer_in x.1.body) (offers_in (map (λ pair. pair.1) xs))
    (offers_in (map (λ pair. pair.1) ys)) same

-- ---- all offers of an account have ids above 0

pub low_key : (s : AccountId) (n : ℤ) → pos 1 ≤ℤ n → key_cmp (key.Offer s (pos 0)) (key.Offer s n) ≡ Less
low_key s n h = ap (λ r. ordering_then r (int_cmp (pos 0) n)) (account_cmp_itself s)
    ∙ sym (int_cmp_is (pos 0) n Less (omega (arith, ints)))

low_by : (s : AccountId) (x : LedgerKey × LedgerEntry) (xs : Pairs) (b : LedgerEntryBody) → x.1.body ≡ b
    → key_of_body b ≡ x.0 → IfSome (offer_in b) (λ o. pos 1 ≤ℤ o.offer_id) → key_cmp (key.Offer s (pos 0)) x.0 ≢ Less
    → sold_by s (cons_option (offer_in b) []) ≡ []
low_by s x xs (body.Offer o) is own low past = elim (account_cmp o.seller_id s) as (λ r. account_cmp o.seller_id s ≡ r
    → cond (is_eq r) (o ∷ []) [] ≡ []) [
      | Less ↦ λ _. refl
      | Equal ↦ λ e. absurd (past (ap (key_cmp (key.Offer s (pos 0))) (sym own
          ∙ ap (λ a. key.Offer a o.offer_id) (exact_accounts o.seller_id s e)) ∙ low_key s o.offer_id low))
      | Greater ↦ λ _. refl
    ] refl
low_by s x xs (body.Account a) is own low past = refl
low_by s x xs (body.TrustLine a) is own low past = refl
low_by s x xs (body.Data a) is own low past = refl
low_by s x xs (body.ClaimableBalance a) is own low past = refl
low_by s x xs (body.LiquidityPool a) is own low past = refl

abbrev IsLow : OfferEntry → Type 0
IsLow o = pos 1 ≤ℤ o.offer_id

first_low : (o : Option OfferEntry) (os : List OfferEntry) → All IsLow (cons_option o os) → IfSome o IsLow
first_low None os all = tt
first_low (Some o) os all = All-head IsLow o os all

others_low : (o : Option OfferEntry) (os : List OfferEntry) → All IsLow (cons_option o os) → All IsLow os
others_low None os all = all
others_low (Some o) os all = All-tail IsLow o os all

all_left : (s : AccountId) (es : Pairs) → All IsOwn es → All IsLow (offers_in (map (λ pair. pair.1) es))
    → sold_in s (above (key.Offer s (pos 0)) es) ≡ sold_in s es
all_left s [] own low = refl
all_left s (x ∷ xs) own low =
    let others = offers_in (map (λ pair. pair.1) xs) in
    let later = all_left s xs (All-tail IsOwn x xs own) (others_low (offer_in x.1.body) others low) in
    let k = key.Offer s (pos 0) in
    let gone = λ (past : key_cmp k x.0 ≢ Less). ap (sold_in s) (skipped k x xs past) ∙ later
    ∙ sym (not_sold s x xs (low_by s x xs x.1.body refl (All-head IsOwn x xs own)
    (first_low (offer_in x.1.body) others low) past)) in
    elim (key_cmp k x.0) as (λ r. key_cmp k x.0 ≡ r → sold_in s (above k (x ∷ xs)) ≡ sold_in s (x ∷ xs)) [
      | Less ↦ λ lt. ap (sold_in s) (taken k x xs lt) ∙ with_first s x (above k xs) xs later
      | Equal ↦ λ e. gone (λ lt. absurd (cc (e, lt)))
      | Greater ↦ λ e. gone (λ lt. absurd (cc (e, lt)))
    ] refl

-- no offer of an account is left out at the start
pub all_ahead : (m : EntryMap) (s : AccountId) → AreNumbered m
    → sold_in s (above (key.Offer s (pos 0)) (entries m)) ≡ offers_by m s
unfolding offers_by
all_ahead m s h = all_left s (entries m) (all_own m h.keyed) h.low

-- all were found where no other comes
pub all_found : (m : EntryMap) (s : AccountId) (walk : WalkAt) (sold : List LedgerEntry) → AreFound m s walk sold
    → sold_in s (above walk.at (entries walk.entries)) ≡ [] → AreNumbered m → AreSold m s sold
all_found m s walk sold far none numbered = record {
  offers = sym (append-nil (offers_in sold))
      ∙ ap (λ (os : List OfferEntry). offers_in sold ++ os)
      (sym (subst (λ (x : EntryMap). sold_in s (above walk.at (entries x)) ≡ []) far.same none))
      ∙ far.found ∙ all_ahead m s numbered;
  each = far.each;
}
