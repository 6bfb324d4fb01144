-- Offers that are removed one after the other: what is left is legal, all accounts keep what they have, no other offer
-- comes, and none of those that were removed exists.
use Rattle.op_flags.proofs.Prelude.{◌≡◌, ◌≢◌, refl, sym, ap, subst, ◌∙◌, ℕ, Bool, true, false, cond, List, [], ◌∷◌, All}
use Rattle.op_flags.proofs.Prelude.{Some, None, suc, ◌+◌, ◌<◌, ◌≤◌, length, drop, get_or, drop-cons, arith, drop_all}
use Rattle.op_flags.proofs.Prelude.{All-nil, All-cons, All-head, All-tail, All-weaker, get, filter, ℤ, if◌then◌else◌}
use Rattle.op_flags.proofs.Prelude.{Asset, OfferEntry, LedgerEntry, EntryMap, Undo, with_current, offer_of, offer_at}
use Rattle.op_flags.proofs.Prelude.{View, is_key, none_more, Owed, IsLegalOwing, Leaves, leaves_itself, keeps_both}
use Rattle.op_flags.proofs.Prelude.{IsCrossable, offer_key, trades_in, map_after_cancelling_all, IsThere, AreExisting}
use Rattle.op_flags.proofs.Prelude.{map_after_one, same_keys, all_both, cons_option, key_of, Option}
use Rattle.entry_map.specs.Book.{offer_in, offers_in}
use Rattle.offer_book.specs.Sold.{IsOfferOf}
use Rattle.op_flags.specs.Existing.{AreFound, map_after_offer}
use Rattle.trade_cross.proofs.Cancelled.{found_key}
use Rattle.entry_map.proofs.KeyMaps.{same_itself}
use Rattle.trade_cross.specs.legal_rules.OneMore.{IsOwedRightly}
use Rattle.trade_cross.specs.Cancelling.{map_after_cancelling}
use Rattle.trade_cross.proofs.Cancelled.{cancelled_keeps}
use Rattle.trade_cross.proofs.CancelledLeft.{cancelling_left, cancelling_takes, cancelling_beside}

other_keys : (o x : OfferEntry) → o.offer_id ≢ x.offer_id → offer_key x ≢ offer_key o
other_keys o x apart same = apart (cc)

abbrev pub IsGone : EntryMap → OfferEntry → Type 0
IsGone m o = get m (offer_key o) ≡ None

module _ (v : View) (id_pool : ℕ) (owed : Owed) (right : IsOwedRightly owed) (sum : ℤ) where
  abbrev IsLegal : EntryMap → Type 0
  IsLegal m = IsLegalOwing v id_pool owed sum m

  -- ---- one offer

  module _ (o : OfferEntry) (m : EntryMap) (legal : IsLegal m) (exists : IsThere m o) where
    abbrev then_ : EntryMap
    then_ = map_after_cancelling o m

    one_legal : IsLegal then_
    one_legal = cancelled_keeps v id_pool 0 owed sum o m legal right exists

    still : (x : OfferEntry) → o.offer_id ≢ x.offer_id → IsThere m x → IsThere then_ x
    unfolding offer_at
    still x apart there =
        ap offer_of (cancelling_beside v id_pool owed sum o m legal right exists x (other_keys o x apart)) ∙ there

    -- no offer comes
    one_existed : (x : OfferEntry) (e : LedgerEntry) → get then_ (offer_key x) ≡ Some e → get m (offer_key x) ≡ Some e
    one_existed x e there = elim (is_key (offer_key x) (offer_key o)) as (λ t. is_key (offer_key x) (offer_key o) ≡ t
        → get m (offer_key x) ≡ Some e) [
          | true ↦ λ tied.
              let same : offer_key x ≡ offer_key o = same_keys _ _ tied in
              let gone : get then_ (offer_key x) ≡ None =
              ap (get then_) same ∙ cancelling_takes v id_pool owed sum o m legal right exists in
              absurd (cc)
          | false ↦ λ apart. sym (cancelling_beside v id_pool owed sum o m legal right exists x (λ same.
              let tied : is_key (offer_key x) (offer_key o) ≡ true = ap (λ k. is_key k (offer_key o)) same
              ∙ same_itself (offer_key o) in absurd (cc))) ∙ there
        ] refl

  pub next_existing : (o : OfferEntry) (os : List OfferEntry) (m : EntryMap) → IsLegal m → AreExisting m (o ∷ os)
      → AreExisting (map_after_cancelling o m) os
  next_existing o os m legal all =
      let exists = All-head (IsThere m) o os all.there in
      record {
        there = All-weaker (λ x. IsThere m x × (o.offer_id ≢ x.offer_id)) (IsThere (map_after_cancelling o m))
            (λ x both. still o m legal exists x both.1 both.0) os
            (all_both {X = OfferEntry} (IsThere m) (λ x. o.offer_id ≢ x.offer_id) os
            (All-tail (IsThere m) o os all.there) all.apart.0);
        apart = all.apart.1;
      }

  -- ---- all of them

  pub all_legal : (os : List OfferEntry) (m : EntryMap) → IsLegal m → AreExisting m os
      → IsLegal (map_after_cancelling_all os m)
  all_legal [] m legal all = legal
  all_legal (o ∷ os) m legal all = all_legal os (map_after_cancelling o m)
      (one_legal o m legal (All-head (IsThere m) o os all.there)) (next_existing o os m legal all)

  pub all_left : (base : ℕ) (os : List OfferEntry) (m : EntryMap) → IsLegal m → AreExisting m os
      → Leaves base none_more m (map_after_cancelling_all os m)
  all_left base [] m legal all = leaves_itself base m legal.keyed
  all_left base (o ∷ os) m legal all =
      let exists = All-head (IsThere m) o os all.there in
      let now = map_after_cancelling o m in
      keeps_both base m now (map_after_cancelling_all os now)
      (cancelling_left v id_pool owed sum o m legal right exists base)
      (all_left base os now (one_legal o m legal exists) (next_existing o os m legal all))

  -- An offer that exists after them existed before.
  pub all_existed : (os : List OfferEntry) (m : EntryMap) → IsLegal m → AreExisting m os → (x : OfferEntry)
      → (e : LedgerEntry) → get (map_after_cancelling_all os m) (offer_key x) ≡ Some e → get m (offer_key x) ≡ Some e
  all_existed [] m legal all x e there = there
  all_existed (o ∷ os) m legal all x e there =
      let exists = All-head (IsThere m) o os all.there in
      one_existed o m legal exists x e (all_existed os (map_after_cancelling o m) (one_legal o m legal exists)
      (next_existing o os m legal all) x e there)

  not_there : (os : List OfferEntry) (m : EntryMap) → IsLegal m → AreExisting m os → (x : OfferEntry)
      → get m (offer_key x) ≡ None → get (map_after_cancelling_all os m) (offer_key x) ≡ None
  not_there os m legal all x none = elim (get (map_after_cancelling_all os m) (offer_key x)) as (λ q.
      get (map_after_cancelling_all os m) (offer_key x) ≡ q → q ≡ None) [
        | None ↦ λ is. refl
        | Some e ↦ λ is. let was = all_existed os m legal all x e is in absurd (cc)
      ] refl

  -- None of them exists any more.
  pub all_gone : (os : List OfferEntry) (m : EntryMap) → IsLegal m → AreExisting m os
      → All (IsGone (map_after_cancelling_all os m)) os
  all_gone [] m legal all = All-nil (IsGone m)
  all_gone (o ∷ os) m legal all =
      let exists = All-head (IsThere m) o os all.there in
      let now = map_after_cancelling o m in
      let legal_now = one_legal o m legal exists in
      let next = next_existing o os m legal all in
      All-cons (IsGone (map_after_cancelling_all os now)) o os
      (not_there os now legal_now next o (cancelling_takes v id_pool owed sum o m legal right exists))
      (all_gone os now legal_now next)

-- ---- entry by entry

module _ (v : View) (id_pool : ℕ) (owed : Owed) (right : IsOwedRightly owed) (sum : ℤ) (o : OfferEntry) (m : EntryMap)
    (legal : IsLegalOwing v id_pool owed sum m) (exists : IsThere m o) where
  -- the entry of another offer is there as it was
  still_found : (e : LedgerEntry) → (f : IsOfferOf m e) → o.offer_id ≢ f.offer.offer_id
      → IsOfferOf (map_after_cancelling o m) e
  still_found e f apart =
      let k : key_of e ≡ offer_key f.offer = found_key e f.offer f.is in
      record {
        offer = f.offer;
        is = f.is;
        there = ap (get (map_after_cancelling o m)) k
            ∙ cancelling_beside v id_pool owed sum o m legal right exists f.offer (other_keys o f.offer apart)
            ∙ ap (get m) (sym k) ∙ f.there;
      }

  all_still_found : (es : List LedgerEntry) → All (IsOfferOf m) es → All (λ x. o.offer_id ≢ x.offer_id) (offers_in es)
      → All (IsOfferOf (map_after_cancelling o m)) es
  all_still_found [] all apart = All-nil (IsOfferOf (map_after_cancelling o m))
  all_still_found (e ∷ es) all apart =
      let f = All-head (IsOfferOf m) e es all in
      let with_first : All (λ x. o.offer_id ≢ x.offer_id) (f.offer ∷ offers_in es) =
      subst (λ (x : Option OfferEntry). All (λ y. o.offer_id ≢ y.offer_id) (cons_option x (offers_in es))) f.is apart in
      All-cons (IsOfferOf (map_after_cancelling o m)) e es
      (still_found e f (All-head (λ x. o.offer_id ≢ x.offer_id) f.offer (offers_in es) with_first))
      (all_still_found es (All-tail (IsOfferOf m) e es all)
      (All-tail (λ x. o.offer_id ≢ x.offer_id) f.offer (offers_in es) with_first))

-- Of some entries of offers those are still to be looked at that are left; the others in the asset are removed.
pub record AreLeft (held : Asset) (sold left : List LedgerEntry) (old now : Undo) : Type 0 where
  pub crossable : IsCrossable now.current
  pub found : AreFound now.current left
  pub kept : now ≡ with_current old now.current
  pub rest : map_after_cancelling_all (filter (trades_in held) (offers_in left)) now.current
      ≡ map_after_cancelling_all (filter (trades_in held) (offers_in sold)) old.current

-- the others exist after one that was looked at
rest_found : (held : Asset) (e : LedgerEntry) (f : OfferEntry) (es : List LedgerEntry) (m : EntryMap) → IsCrossable m
    → offer_in e.body ≡ Some f → AreFound m (e ∷ es) → (t : Bool)
    → AreFound (if t then map_after_cancelling f m else m) es
rest_found held e f es m c is all t = by t
  where
    both : AreExisting m (f ∷ offers_in es)
    both = subst (λ (x : Option OfferEntry). AreExisting m (cons_option x (offers_in es))) is all.existing

    by : (t : Bool) → AreFound (if t then map_after_cancelling f m else m) es
    by true = record {
      each = all_still_found c.view c.id_pool c.owed c.right c.sum f m c.legal
          (All-head (IsThere m) f (offers_in es) both.there) es (All-tail (IsOfferOf m) e es all.each) both.apart.0;
      existing = next_existing c.view c.id_pool c.owed c.right c.sum f (offers_in es) m c.legal both;
    }
    by false = record {
      each = All-tail (IsOfferOf m) e es all.each;
      existing = record {
        there = All-tail (IsThere m) f (offers_in es) both.there;
        apart = both.apart.1;
      };
    }

rest_same : (held : Asset) (o : OfferEntry) (os : List OfferEntry) (m : EntryMap) (t : Bool)
    → map_after_cancelling_all (filter (trades_in held) os) (if t then map_after_cancelling o m else m)
    ≡ map_after_cancelling_all (cond t (o ∷ filter (trades_in held) os) (filter (trades_in held) os)) m
rest_same held o os m true = refl
rest_same held o os m false = refl

pub one_less : (held : Asset) (sold : List LedgerEntry) (e : LedgerEntry) (es : List LedgerEntry) (old now new : Undo)
    → AreLeft held sold (e ∷ es) old now → new ≡ with_current now (map_after_one held e now.current)
    → IsCrossable new.current → AreLeft held sold es old new
one_less held sold e es old now new left is crossable = record {
  crossable = crossable;
  found = subst (λ m. AreFound m es) (sym after)
      (rest_found held e f.offer es now.current left.crossable f.is left.found (trades_in held f.offer));
  kept = is ∙ ap (λ u. with_current u (map_after_one held e now.current)) left.kept
      ∙ ap (with_current old) (sym current_is);
  rest = ap (map_after_cancelling_all (filter (trades_in held) (offers_in es))) after
      ∙ rest_same held f.offer (offers_in es) now.current (trades_in held f.offer)
      ∙ ap (λ (x : Option OfferEntry). map_after_cancelling_all
      (filter (trades_in held) (cons_option x (offers_in es))) now.current) (sym f.is) ∙ left.rest;
}
  where
    f : IsOfferOf now.current e
    f = All-head (IsOfferOf now.current) e es left.found.each

    current_is : new.current ≡ map_after_one held e now.current
    current_is = ap (λ (u : Undo). u.current) is

    after : new.current ≡ (if trades_in held f.offer then map_after_cancelling f.offer now.current else now.current)
    after = current_is ∙ ap (λ (x : Option OfferEntry). map_after_offer held x now.current) f.is

-- ---- by the index of an entry

pub this_found : (sold : List LedgerEntry) (i : ℕ) (e : LedgerEntry) (m : EntryMap) → i < length sold
    → e ≡ get_or sold i e → AreFound m (drop i sold) → IsOfferOf m e
this_found sold i e m lt is all = subst (IsOfferOf m) (sym is)
    (All-head (IsOfferOf m) (get_or sold i e) (drop (suc i) sold)
    (subst (All (IsOfferOf m)) (drop-cons sold i e lt) all.each))

pub one_further : (held : Asset) (sold : List LedgerEntry) (i : ℕ) (e : LedgerEntry) (old now new : Undo)
    → i < length sold → e ≡ get_or sold i e → AreLeft held sold (drop i sold) old now
    → new ≡ with_current now (map_after_one held e now.current) → IsCrossable new.current
    → AreLeft held sold (drop (i + 1) sold) old new
one_further held sold i e old now new lt is left after crossable =
    let next : suc i ≡ i + 1 = omega arith in
    subst (λ n. AreLeft held sold (drop n sold) old new) next
    (one_less held sold e (drop (suc i) sold) old now new
    (subst (λ es. AreLeft held sold es old now)
    (drop-cons sold i e lt ∙ ap (λ x. x ∷ drop (suc i) sold) (sym is)) left) after crossable)

-- none is left
pub all_looked_at : (held : Asset) (sold : List LedgerEntry) (i : ℕ) (old now : Undo) → length sold ≤ i
    → AreLeft held sold (drop i sold) old now
    → now ≡ with_current old (map_after_cancelling_all (filter (trades_in held) (offers_in sold)) old.current)
all_looked_at held sold i old now le left =
    let last = subst (λ es. AreLeft held sold es old now) (drop_all i sold le) left in
    last.kept ∙ ap (with_current old) last.rest
