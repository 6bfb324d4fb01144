-- What a hop of a call yields: how many offers it crosses, by the law of hops, and how far it carries an amount.
use Rattle.op_payment.proofs.Prelude as prelude
use prelude.{◌≡◌, ◌≢◌, refl, sym, ap, subst, ◌∙◌, ◌≤◌, Bool, true, false, Result, Ok, Err, unsigned_abs, ◌-◌, ◌++◌}
use prelude.{if◌then◌else◌, Asset, EntryMap, Undo, with_current, Ctx, IsCrossable, AreTradeBounds, IsCrossing}
use prelude.{CarriedOfCall, HopFault, carried_of, needed_before_of, carried_on_of, DoCrossingsFit, IsReceiving}
use prelude.{IsSending, IsHopped, IsCarriedSo, Carried, by_end, hopped, after_hop, receiving, sending, needed_before}
use prelude.{carried_on, is_same_asset, received_hop, sent_hop, natural_nonnegative, nonnegative_from_natural}
use Rattle.offer_exchange.specs.Exchange.{unlimited}
use Rattle.trade_cross.specs.Crossing.{Crossing}
use Rattle.trade_cross.specs.Hop.{hop, is_served}
use Rattle.trade_cross.specs.declared.crossed.Crossed.{Crossed}
use Rattle.trade_cross.specs.declared.crossed.CrossEnd.{CrossEnd}
use Rattle.trade_cross.specs.declared.crossed.CrossEnd.TheVariants.{CrossSelf, TooMany}
use Rattle.trade_cross.specs.declared.trade.Trade.{Trade}
use Rattle.trade_cross.specs.HopLaws.{crossings_in, IsHopTrade}
use Rattle.trade_cross.proofs.HopsKeep.{hop_keeps}
use Rattle.op_payment.specs.declared.hop_fault.HopFault.TheVariants as fault
use Rattle.entry_map.proofs.Pairs.{same_assets_tied}

-- ---- the trades

apart : (sheep wheat : Asset) → is_same_asset sheep wheat ≡ false → sheep ≢ wheat
apart sheep wheat other = λ same. let tied = same_assets_tied sheep wheat same in absurd (cc)

pub receiving_bounds : (ctx : Ctx) (sheep wheat : Asset) (carried : Carried)
    → AreTradeBounds (receiving ctx sheep wheat carried)
receiving_bounds ctx sheep wheat carried =
    record { sheep_send = natural_nonnegative unlimited; wheat_receive = natural_nonnegative carried.amount }

pub sending_bounds : (ctx : Ctx) (sheep wheat : Asset) (carried : Carried)
    → AreTradeBounds (sending ctx sheep wheat carried)
sending_bounds ctx sheep wheat carried =
    record { sheep_send = natural_nonnegative carried.amount; wheat_receive = natural_nonnegative unlimited }

pub receiving_asks : (ctx : Ctx) (sheep wheat : Asset) (carried : Carried) → is_same_asset sheep wheat ≡ false
    → IsHopTrade (receiving ctx sheep wheat carried)
receiving_asks ctx sheep wheat carried other =
    record { apart = apart sheep wheat other; bounds = receiving_bounds ctx sheep wheat carried; once = refl }

pub sending_asks : (ctx : Ctx) (sheep wheat : Asset) (carried : Carried) → is_same_asset sheep wheat ≡ false
    → IsHopTrade (sending ctx sheep wheat carried)
sending_asks ctx sheep wheat carried other =
    record { apart = apart sheep wheat other; bounds = sending_bounds ctx sheep wheat carried; once = refl }

-- ---- how many offers are crossed

by_test : (x done : Crossing) (t : Bool) → (if t then Ok x else Err fault.TooFew) ≡ Ok done → x ≡ done
by_test x done true is = cc
by_test x done false is = absurd (cc)

by_end_is : (trade : Trade) (x done : Crossing) (end : CrossEnd) → by_end trade x end ≡ Ok done → x ≡ done
by_end_is trade x done CrossSelf is = absurd (cc)
by_end_is trade x done TooMany is = absurd (cc)
by_end_is trade x done other is = by_test x done (is_served trade x) is

crossings_few : (ctx : Ctx) (trade : Trade) (m : EntryMap) → IsCrossable m → IsHopTrade trade → (done : Crossing)
    → hopped ctx trade m ≡ Ok done → crossings_in done.atoms ≤ trade.crossings
crossings_few ctx trade m k asks done is =
    let x = hop ctx trade m in
    subst (λ (y : Crossing). crossings_in y.atoms ≤ trade.crossings) (by_end_is trade x done x.end is)
    (hop_keeps k.view k.id_pool k.owed k.sum ctx trade m asks k.legal k.right).atoms.crossings

-- ---- what a call's hop yielded

record IsServed (answer : Crossed) (old new : Undo) (hop : Result Crossing HopFault) : Type 0 where
  pub done : Crossing
  pub is : hop ≡ Ok done
  pub crossing : IsCrossing answer done
  pub entries : new ≡ with_current old done.entries

served : (answer : Crossed) (old new : Undo) (hop : Result Crossing HopFault) → IsHopped (Ok answer) old new hop
    → IsServed answer old new hop
served answer old new (Ok done) its = record { done = done; is = refl; crossing = its.0; entries = its.1 }
served answer old new (Err fault) its = absurd its

crossings_fit : (ctx : Ctx) (trade : Trade) (answer : Crossed) (old new : Undo) → IsCrossable old.current
    → IsHopTrade trade → IsHopped (Ok answer) old new (hopped ctx trade old.current)
    → crossings_in answer.atoms ≤ trade.crossings
crossings_fit ctx trade answer old new k asks its =
    let s = served answer old new (hopped ctx trade old.current) its in
    subst (λ atoms. crossings_in atoms ≤ trade.crossings) (sym s.crossing.atoms)
    (crossings_few ctx trade old.current k asks s.done s.is)

hop_on : (t : Bool) (alone : Result Carried HopFault) (hop : Result Crossing HopFault) (next : Crossing → Carried)
    (done : Crossing) → t ≡ false → hop ≡ Ok done → (if t then alone else after_hop hop next) ≡ Ok (next done)
hop_on t alone hop next done other is = λ i. if other i then alone else after_hop (is i) next

hop_off : (t : Bool) (alone : Result Carried HopFault) (hop : Result Crossing HopFault) (next : Crossing → Carried)
    (why : HopFault) → t ≡ false → hop ≡ Err why → (if t then alone else after_hop hop next) ≡ Err why
hop_off t alone hop next why other is = λ i. if other i then alone else after_hop (is i) next

current_is : (old new : Undo) (m : EntryMap) → new ≡ with_current old m → new.current ≡ m
current_is old new m is = ap (λ (u : Undo). u.current) is

kept : (old new : Undo) (m : EntryMap) → new ≡ with_current old m → new ≡ with_current old new.current
kept old new m is = is ∙ ap (with_current old) (sym (current_is old new m is))

-- ---- one hop, as calls make it

module _ (ctx : Ctx) (sheep wheat : Asset) (carried : CarriedOfCall) (trade : Trade) (old new : Undo)
    (other : is_same_asset sheep wheat ≡ false) where
  abbrev so_far : Carried
  so_far = carried_of carried old.current

  module _ (is : IsReceiving trade ctx sheep wheat carried) where
    abbrev back : Result Crossing HopFault
    back = hopped ctx (receiving ctx sheep wheat so_far) old.current

    received_by : (r : Result Crossed HopFault) → IsHopped r old new (hopped ctx trade old.current)
        → IsHopped r old new back
    received_by r its = subst (λ t. IsHopped r old new (hopped ctx t old.current)) (is old.current) its

    -- no more offers were crossed than might be
    pub receiving_fits : (r : Result Crossed HopFault) (answer : Crossed) → r ≡ Ok answer → IsCrossable old.current
        → IsHopped r old new (hopped ctx trade old.current) → DoCrossingsFit carried answer
    receiving_fits r answer ok k its =
        crossings_fit ctx (receiving ctx sheep wheat so_far) answer old new k
        (receiving_asks ctx sheep wheat so_far other)
        (subst (λ x. IsHopped x old new back) ok (received_by r its))

    pub received_on : (r : Result Crossed HopFault) (answer : Crossed) → r ≡ Ok answer
        → IsHopped r old new (hopped ctx trade old.current) → IsCrossable new.current → (next : CarriedOfCall)
        → next ≡ needed_before_of carried answer
        → IsCarriedSo (Ok next) old new (received_hop ctx sheep wheat so_far)
    received_on r answer ok its k next next_is =
        let s = served answer old new back (subst (λ x. IsHopped x old new back) ok (received_by r its)) in
        let of = s.crossing in
        let at = current_is old new s.done.entries s.entries in
        let same : needed_before so_far s.done ≡ carried_of (needed_before_of carried answer) new.current =
        λ i. record {
          amount = unsigned_abs (sym of.sheep i);
          crossings = carried.crossings - crossings_in (sym of.atoms i);
          atoms = sym of.atoms i ++ carried.atoms;
          entries = sym at i;
        } in
        subst (λ x. IsCarriedSo (Ok x) old new (received_hop ctx sheep wheat so_far)) (sym next_is) (
          hop_on (is_same_asset sheep wheat) (Ok so_far) back (needed_before so_far) s.done other s.is ∙ ap Ok same,
          kept old new s.done.entries s.entries,
          nonnegative_from_natural answer.sheep s.done.sheep of.sheep,
          k,
        )

    pub not_received : (r : Result Crossed HopFault) (why : HopFault) → r ≡ Err why
        → IsHopped r old new (hopped ctx trade old.current)
        → IsCarriedSo (Err why) old new (received_hop ctx sheep wheat so_far)
    not_received r why err its =
        let off = subst (λ x. IsHopped x old new back) err (received_by r its) in (
          hop_off (is_same_asset sheep wheat) (Ok so_far) back (needed_before so_far) why other off.0,
          off.1,
        )

  module _ (is : IsSending trade ctx sheep wheat carried) where
    abbrev on : Result Crossing HopFault
    on = hopped ctx (sending ctx sheep wheat so_far) old.current

    sent_by : (r : Result Crossed HopFault) → IsHopped r old new (hopped ctx trade old.current) → IsHopped r old new on
    sent_by r its = subst (λ t. IsHopped r old new (hopped ctx t old.current)) (is old.current) its

    pub sending_fits : (r : Result Crossed HopFault) (answer : Crossed) → r ≡ Ok answer → IsCrossable old.current
        → IsHopped r old new (hopped ctx trade old.current) → DoCrossingsFit carried answer
    sending_fits r answer ok k its =
        crossings_fit ctx (sending ctx sheep wheat so_far) answer old new k (sending_asks ctx sheep wheat so_far other)
        (subst (λ x. IsHopped x old new on) ok (sent_by r its))

    pub sent_on : (r : Result Crossed HopFault) (answer : Crossed) → r ≡ Ok answer
        → IsHopped r old new (hopped ctx trade old.current) → IsCrossable new.current → (next : CarriedOfCall)
        → next ≡ carried_on_of carried answer → IsCarriedSo (Ok next) old new (sent_hop ctx sheep wheat so_far)
    sent_on r answer ok its k next next_is =
        let s = served answer old new on (subst (λ x. IsHopped x old new on) ok (sent_by r its)) in
        let of = s.crossing in
        let at = current_is old new s.done.entries s.entries in
        let same : carried_on so_far s.done ≡ carried_of (carried_on_of carried answer) new.current = λ i. record {
          amount = unsigned_abs (sym of.wheat i);
          crossings = carried.crossings - crossings_in (sym of.atoms i);
          atoms = carried.atoms ++ sym of.atoms i;
          entries = sym at i;
        } in
        subst (λ x. IsCarriedSo (Ok x) old new (sent_hop ctx sheep wheat so_far)) (sym next_is) (
          hop_on (is_same_asset sheep wheat) (Ok so_far) on (carried_on so_far) s.done other s.is ∙ ap Ok same,
          kept old new s.done.entries s.entries,
          nonnegative_from_natural answer.wheat s.done.wheat of.wheat,
          k,
        )

    pub not_sent : (r : Result Crossed HopFault) (why : HopFault) → r ≡ Err why
        → IsHopped r old new (hopped ctx trade old.current)
        → IsCarriedSo (Err why) old new (sent_hop ctx sheep wheat so_far)
    not_sent r why err its =
        let off = subst (λ x. IsHopped x old new on) err (sent_by r its) in (
          hop_off (is_same_asset sheep wheat) (Ok so_far) on (carried_on so_far) why other off.0,
          off.1,
        )
