-- One step of a merge.
use Rattle.bucket_merge.proofs.Prelude.{◌≡◌, ℕ, ◌+◌, ◌<◌, List, [], ◌∷◌, ◌++◌, length, Option, Some, None, refl, sym}
use Rattle.bucket_merge.proofs.Prelude.{ap, subst, ◌∙◌, append_assoc, arith, option_and_then, IsSomeAnd, Result, OnOk}
use Rattle.bucket_merge.proofs.Prelude.{append-nil, on_ok_weaker, Ordering, Less, Equal, Greater, LedgerKey}
use Rattle.bucket_merge.proofs.Prelude.{BucketEntry, key_cmp, keys_exact, BucketItem, Shows, record_of, Change, Init}
use Rattle.bucket_merge.proofs.Prelude.{Live, Dead, item_of, TakesFirst, Side, kept, joined, Pair, put, by_order, walk}
use Rattle.bucket_merge.proofs.Prelude.{States, Has, records_of, first_key, Nearer}
use Rattle.bucket_items.specs.KeyText.{OrdersKeys, IsKeyText}
use Rattle.bucket_core.proofs.Judging.{entry_key_text, init_key_text, dead_key_text}

-- ---- what is in hand

pub hand_states : (side : Side) (x : Pair) (xs : List Pair) (item : BucketItem) → Has side (x ∷ xs)
    → side.hand ≡ Some item → States item x.0 x.1
hand_states side x xs item h is = record {
  shown = subst (λ (o : Option BucketItem). IsSomeAnd o (λ here. Shows here here.bytes.now (item_of x))) is h.first.0;
  keyed = h.keyed.0;
  encoded = h.encoded.0;
}

pub hand_is_there : (side : Side) (x : Pair) (xs : List Pair) → Has side (x ∷ xs) → side.hand ≡ None → ⊥
hand_is_there side x xs h is =
    subst (λ (o : Option BucketItem). IsSomeAnd o (λ here. Shows here here.bytes.now (item_of x))) is h.first.0

pub advanced : (old new : Side) (x : Pair) (xs : List Pair) → Has old (x ∷ xs)
    → TakesFirst old.ahead new.hand new.ahead → Has new xs
advanced old new x xs h t = record {
  first = subst (λ (ahead : List BucketEntry). TakesFirst ahead new.hand new.ahead) h.first.1 t;
  keyed = h.keyed.1;
  encoded = h.encoded.1;
}

key_stated : (item : BucketItem) (k : LedgerKey) (c : Change) → States item k c → IsKeyText item.key.now k
key_stated item k (Init e) t = subst (IsKeyText item.key.now) t.keyed
    (init_key_text item.key.now e t.shown.key (t.shown.reads.within, t.shown.reads.sized))
key_stated item k (Live e) t = subst (IsKeyText item.key.now) t.keyed
    (entry_key_text item.key.now e t.shown.key (t.shown.reads.within, t.shown.reads.sized))
key_stated item k Dead t = dead_key_text item.key.now k t.shown.key (t.shown.reads.within, t.shown.reads.sized)

-- ---- which key is first

pub both_in_hand : (older newer : Side) (a b : BucketItem) (r : Ordering) (old new : List Pair)
    → older.hand ≡ Some a → newer.hand ≡ Some b → OrdersKeys a.key.now b.key.now r → Has older old → Has newer new
    → r ≡ first_key old new
both_in_hand older newer a b r [] new ha hb o h g = absurd (cc (ha, h.first.0))
both_in_hand older newer a b r (x ∷ xs) [] ha hb o h g = absurd (cc (hb, g.first.0))
both_in_hand older newer a b r (x ∷ xs) (y ∷ ys) ha hb o h g =
    o x.0 y.0 (key_stated a x.0 x.1 (hand_states older x xs a h ha))
    (key_stated b y.0 y.1 (hand_states newer y ys b g hb))

pub older_in_hand : (older newer : Side) (a : BucketItem) (old new : List Pair) → older.hand ≡ Some a
    → newer.hand ≡ None → Has older old → Has newer new → Less ≡ first_key old new
older_in_hand older newer a [] new ha hb h g = absurd (cc (ha, h.first.0))
older_in_hand older newer a (x ∷ xs) [] ha hb h g = refl
older_in_hand older newer a (x ∷ xs) (y ∷ ys) ha hb h g = absurd (hand_is_there newer y ys g hb)

pub newer_in_hand : (older newer : Side) (b : BucketItem) (old new : List Pair) → older.hand ≡ None
    → newer.hand ≡ Some b → Has older old → Has newer new → Greater ≡ first_key old new
newer_in_hand older newer b (x ∷ xs) new ha hb h g = absurd (hand_is_there older x xs h ha)
newer_in_hand older newer b [] [] ha hb h g = absurd (cc (hb, g.first.0))
newer_in_hand older newer b [] (y ∷ ys) ha hb h g = refl

pub none_in_hand : (older newer : Side) (old new : List Pair) → older.hand ≡ None → newer.hand ≡ None
    → Has older old → Has newer new → (old ≡ []) × (new ≡ [])
none_in_hand older newer (x ∷ xs) new ha hb h g = absurd (hand_is_there older x xs h ha)
none_in_hand older newer [] [] ha hb h g = (refl, refl)
none_in_hand older newer [] (y ∷ ys) ha hb h g = absurd (hand_is_there newer y ys g hb)

-- ---- what the pass does next

put_records : (k : LedgerKey) (o : Option Change) (zs : List Pair)
    → records_of (put k o zs) ≡ records_of (put k o []) ++ records_of zs
put_records k None zs = refl
put_records k (Some c) zs =
    ap (λ (t : List ℕ). t ++ records_of zs) (sym (append-nil (record_of (item_of (k, c)))))

after_older : (level : ℕ) (x : Pair) (xs ys : List Pair) → first_key (x ∷ xs) ys ≡ Less
    → walk level (x ∷ xs) ys ≡ put x.0 (kept level x.1) (walk level xs ys)
after_older level x xs [] e = refl
after_older level x xs (y ∷ ys) e = ap (λ (o : Ordering). by_order o
    (put x.0 (kept level x.1) (walk level xs (y ∷ ys)))
    (put y.0 (option_and_then (kept level) (joined x.1 y.1)) (walk level xs ys))
    (put y.0 (kept level y.1) (walk level (x ∷ xs) ys))) e

after_newer : (level : ℕ) (xs : List Pair) (y : Pair) (ys : List Pair) → first_key xs (y ∷ ys) ≡ Greater
    → walk level xs (y ∷ ys) ≡ put y.0 (kept level y.1) (walk level xs ys)
after_newer level [] y ys e = refl
after_newer level (x ∷ xs) y ys e = ap (λ (o : Ordering). by_order o
    (put x.0 (kept level x.1) (walk level xs (y ∷ ys)))
    (put y.0 (option_and_then (kept level) (joined x.1 y.1)) (walk level xs ys))
    (put y.0 (kept level y.1) (walk level (x ∷ xs) ys))) e

after_both : (level : ℕ) (x y : Pair) (xs ys : List Pair) → key_cmp x.0 y.0 ≡ Equal
    → walk level (x ∷ xs) (y ∷ ys) ≡ put y.0 (option_and_then (kept level) (joined x.1 y.1)) (walk level xs ys)
after_both level x y xs ys e = ap (λ (o : Ordering). by_order o
    (put x.0 (kept level x.1) (walk level xs (y ∷ ys)))
    (put y.0 (option_and_then (kept level) (joined x.1 y.1)) (walk level xs ys))
    (put y.0 (kept level y.1) (walk level (x ∷ xs) ys))) e

-- what was put and what follows
goes_on : (before after : List ℕ) (k : LedgerKey) (o : Option Change) (zs entire : List Pair)
    → after ≡ before ++ records_of (put k o []) → entire ≡ put k o zs
    → after ++ records_of zs ≡ before ++ records_of entire
goes_on before after k o zs entire a w =
    ap (λ (t : List ℕ). t ++ records_of zs) a
    ∙ append_assoc before (records_of (put k o [])) (records_of zs)
    ∙ ap (λ (t : List ℕ). before ++ t) (sym (put_records k o zs))
    ∙ ap (λ (es : List Pair). before ++ records_of es) (sym w)

-- ---- a step was taken

pub took_older : {E : Type 0} (r : Result (Unit {0}) E) (level : ℕ) (old new : List Pair) (before after : List ℕ)
    (side older newer : Side) → Less ≡ first_key old new → Has side old → Has newer new
    → ((x : Pair) (xs : List Pair) → Has side (x ∷ xs)
    → OnOk r (Has older xs × (after ≡ before ++ records_of (put x.0 (kept level x.1) []))))
    → OnOk r (Nearer level old new before after older newer)
took_older r level [] [] before after side older newer e h g step = absurd (cc (e))
took_older r level [] (y ∷ ys) before after side older newer e h g step = absurd (cc (e))
took_older r level (x ∷ xs) new before after side older newer e h g step = on_ok_weaker r (λ p. record {
  left_old = xs;
  left_new = new;
  has_old = p.0;
  has_new = g;
  same = goes_on before after x.0 (kept level x.1) (walk level xs new) (walk level (x ∷ xs) new) p.1
      (after_older level x xs new (sym e));
  less = omega arith;
}) (step x xs h)

pub took_newer : {E : Type 0} (r : Result (Unit {0}) E) (level : ℕ) (old new : List Pair) (before after : List ℕ)
    (side older newer : Side) → Greater ≡ first_key old new → Has older old → Has side new
    → ((y : Pair) (ys : List Pair) → Has side (y ∷ ys)
    → OnOk r (Has newer ys × (after ≡ before ++ records_of (put y.0 (kept level y.1) []))))
    → OnOk r (Nearer level old new before after older newer)
took_newer r level [] [] before after side older newer e h g step = absurd (cc (e))
took_newer r level (x ∷ xs) [] before after side older newer e h g step = absurd (cc (e))
took_newer r level old (y ∷ ys) before after side older newer e h g step = on_ok_weaker r (λ p. record {
  left_old = old;
  left_new = ys;
  has_old = h;
  has_new = p.0;
  same = goes_on before after y.0 (kept level y.1) (walk level old ys) (walk level old (y ∷ ys)) p.1
      (after_newer level old y ys (sym e));
  less = omega arith;
}) (step y ys g)

pub took_both : {E : Type 0} (r : Result (Unit {0}) E) (level : ℕ) (old new : List Pair) (before after : List ℕ)
    (one two older newer : Side) → Equal ≡ first_key old new → 0 < length old + length new → Has one old → Has two new
    → ((x y : Pair) (xs ys : List Pair) → Has one (x ∷ xs) → Has two (y ∷ ys) → x.0 ≡ y.0
    → OnOk r (Has older xs × Has newer ys
    × (after ≡ before ++ records_of (put y.0 (option_and_then (kept level) (joined x.1 y.1)) []))))
    → OnOk r (Nearer level old new before after older newer)
took_both r level [] [] before after one two older newer e lt h g step = absurd (omega arith)
took_both r level (x ∷ xs) [] before after one two older newer e lt h g step = absurd (cc (e))
took_both r level [] (y ∷ ys) before after one two older newer e lt h g step = absurd (cc (e))
took_both r level (x ∷ xs) (y ∷ ys) before after one two older newer e lt h g step = on_ok_weaker r (λ p. record {
  left_old = xs;
  left_new = ys;
  has_old = p.0;
  has_new = p.1;
  same = goes_on before after y.0 (option_and_then (kept level) (joined x.1 y.1)) (walk level xs ys)
      (walk level (x ∷ xs) (y ∷ ys)) p.2 (after_both level x y xs ys (sym e));
  less = omega arith;
}) (step x y xs ys h g (keys_exact x.0 y.0 (sym e)))

-- what a step asks for

pub older_first : (side : Side) (old new : List Pair) → Less ≡ first_key old new → Has side old
    → (x : Pair) × (xs : List Pair) × Has side (x ∷ xs)
older_first side [] [] e h = absurd (cc (e))
older_first side [] (y ∷ ys) e h = absurd (cc (e))
older_first side (x ∷ xs) new e h = (x, xs, h)

pub newer_first : (side : Side) (old new : List Pair) → Greater ≡ first_key old new → Has side new
    → (y : Pair) × (ys : List Pair) × Has side (y ∷ ys)
newer_first side [] [] e h = absurd (cc (e))
newer_first side (x ∷ xs) [] e h = absurd (cc (e))
newer_first side old (y ∷ ys) e h = (y, ys, h)

pub both_first : (one two : Side) (old new : List Pair) → Equal ≡ first_key old new → 0 < length old + length new
    → Has one old → Has two new
    → (x : Pair) × (y : Pair) × (xs : List Pair) × (ys : List Pair) × Has one (x ∷ xs) × Has two (y ∷ ys) × (x.0 ≡ y.0)
both_first one two [] [] e lt h g = absurd (omega arith)
both_first one two (x ∷ xs) [] e lt h g = absurd (cc (e))
both_first one two [] (y ∷ ys) e lt h g = absurd (cc (e))
both_first one two (x ∷ xs) (y ∷ ys) e lt h g = (x, y, xs, ys, h, g, keys_exact x.0 y.0 (sym e))
