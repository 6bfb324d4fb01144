-- MANAGE_SELL_OFFER, CREATE_PASSIVE_SELL_OFFER and MANAGE_BUY_OFFER are lawful.
use Rattle.op_laws.proofs.Prelude as prelude
use prelude.{◌≡◌, refl, sym, ap, subst, ◌∙◌, ℕ, ◌≤◌, Bool, true, false, [], Option, Some, None, Result, Ok, Err, arith}
use prelude.{ℤ, pos, if◌then◌else◌, get, int_eq, AccountId, OfferEntry, LedgerEntry, LedgerEntryBody, key_of_body}
use prelude.{EntryMap, HasAccount, total, Ctx, map_after_counting_subentry, view, IsSponsorReady, held, holder}
use prelude.{sponsors_ready, offer_key, Done, OfAccount, Effect, Made, Changed, Managed, Removed, drawn, of_sold}
use prelude.{unless_some, unless_lines, sell_fault, buy_fault, with_reserve, new_asked, made, old_asked, changed}
use prelude.{managed_old, managed_at, moves_of, Answer, answer_of, success_answer, effect_of, attempt_of_managed}
use prelude.{attempt_of, Asked, Sold, sold, map_without_offer, IsLawful, AreLawful, IsUnderway}
use Rattle.op_flags.specs.trade_cross.Cancelling.{map_after_cancelling}
use Rattle.std.specs.Prelude.{◌+◌}
use Rattle.op_flags.specs.ledger_types.declared.asset.Asset.TheVariants as asset
use Rattle.op_flags.specs.ledger_types.declared.entry.LedgerEntryBody.TheVariants as body
use Rattle.op_flags.specs.ledger_types.declared.key.LedgerKey.TheVariants as key
use Rattle.op_flags.specs.op_types.declared.offer_ops.ManageSellOfferOp.{ManageSellOfferOp}
use Rattle.op_flags.specs.op_types.declared.offer_ops.CreatePassiveSellOfferOp.{CreatePassiveSellOfferOp}
use Rattle.op_flags.specs.op_types.declared.offer_ops.ManageBuyOfferOp.{ManageBuyOfferOp}
use Rattle.op_flags.specs.op_types.declared.offer_results.ManageOfferEffect.TheVariants as effect
use Rattle.op_flags.specs.op_types.declared.operation.OperationBody.TheVariants as operation
use Rattle.op_flags.specs.sponsor_rules.declared.fault.AddFault.{AddFault}
use Rattle.op_offers.specs.declared.answers.Kind.TheVariants as kind
use Rattle.op_offers.specs.declared.ask.Ask.{Ask}
use Rattle.op_offers.specs.declared.fault.OfferFault.{OfferFault}
use Rattle.op_offers.specs.declared.fault.OfferFault.TheVariants as fault
use Rattle.op_offers.specs.Asked.{ask_to_sell, ask_passively, ask_to_buy, is_malformed}
use Rattle.op_offers.specs.Managing.{managed}
use Rattle.op_offers.proofs.NewOffers.{new_counted, new_left, new_rightly}
use Rattle.op_offers.proofs.OldOffers.{old_counted, old_rightly}
use Rattle.op_offers.proofs.OutLeft.{out_left, cancelled_legal, cancelled_left}
use Rattle.op_offers.proofs.Tested.{IsValidAsk, valid_ask}
use Rattle.op_laws.proofs.Lawful.{lawful_still}
use Rattle.op_laws.proofs.Sales.{IsReady, sale_is_lawful}

module _ (ctx : Ctx) (ask : Ask) (m : EntryMap) (under : IsUnderway ctx m) (exists : HasAccount m ctx.op_source)
    (flags : ask.flags ≤ 1) (answer : Answer) (done : Done) where
  abbrev lumens : ℤ
  lumens = total (held asset.Native) m

  paid_for : IsSponsorReady ctx ctx.op_source m
  paid_for = sponsors_ready ctx m ctx.op_source under.sponsorships

  -- the operation is lawful, if this is what becomes of its offer
  abbrev IsLawfulOf : Result Managed OfferFault → Type 0
  IsLawfulOf r = attempt_of_managed ctx answer r ≡ Ok done → IsLawful ctx m done

  -- ---- sales

  sale_lawful : (what : Effect) (next : ℕ) (asked : Asked) → asked.offer.seller_id ≡ ctx.op_source
      → (now : EntryMap) → IsReady ctx next asked m now → (r : Result Sold OfferFault)
      → sold ctx.base_reserve asked now ≡ r → IsLawfulOf (of_sold what asked ctx.id_pool next r)
  sale_lawful what next asked own now ready (Err other) sale is = absurd (cc)
  sale_lawful what next asked own now ready (Ok s) sale is =
      let result = success_answer answer s.crossed.atoms (effect_of what asked s.amount) in
      let after = record ctx { id_pool = drawn ctx.id_pool next s.amount } in
      let made : Done = record {
        result = result;
        entries = s.entries;
        ctx = after;
        moves = moves_of (OfAccount ctx.op_source) s.crossed.atoms;
      } in
      let same : made ≡ done = cc in
      subst (IsLawful ctx m) same (subst (λ x. IsLawful ctx m (record {
        result = result;
        entries = s.entries;
        ctx = after;
        moves = moves_of (OfAccount x) s.crossed.atoms;
      })) own (sale_is_lawful ctx next asked m now under ready s sale result))

  -- the lines pass their tests
  lines_lawful : (next : Result Managed OfferFault) → (sell_fault m (holder ctx.op_source ask.selling) ≡ None
      → buy_fault m (holder ctx.op_source ask.buying) ≡ None → IsLawfulOf next)
      → IsLawfulOf (unless_lines m ctx.op_source ask next)
  lines_lawful next then_ = by (sell_fault m (holder ctx.op_source ask.selling))
      (buy_fault m (holder ctx.op_source ask.buying)) then_
    where
      by : (o p : Option OfferFault) → (o ≡ None → p ≡ None → IsLawfulOf next)
          → IsLawfulOf (unless_some o (unless_some p next))
      by None None go is = go refl refl is
      by None (Some other) go is = absurd (cc)
      by (Some other) p go is = absurd (cc)

  -- ---- a new offer

  module _ (valid : IsValidAsk ask) where
    reserve_lawful : sell_fault m (holder ctx.op_source ask.selling) ≡ None
        → buy_fault m (holder ctx.op_source ask.buying) ≡ None → (r : Result EntryMap AddFault)
        → map_after_counting_subentry ctx ctx.op_source 1 m ≡ r → IsLawfulOf (with_reserve ctx ask r)
    reserve_lawful gives takes (Err other) counted is = absurd (cc)
    reserve_lawful gives takes (Ok now) counted is =
        sale_lawful Made (ctx.id_pool + 1) (new_asked ctx ask) refl now (record {
          counted = λ v sum legal. new_counted ctx ask m v sum legal exists paid_for now counted;
          left = new_left ctx ask m (view m) lumens under.settled.legal exists paid_for now counted;
          right = new_rightly ctx ask m (view m) lumens under.settled.legal exists paid_for now counted valid flags
              gives takes;
          low = omega arith;
          high = omega arith;
        }) _ refl is

    made_lawful : IsLawfulOf (made ctx ask m)
    made_lawful = lines_lawful (with_reserve ctx ask (map_after_counting_subentry ctx ctx.op_source 1 m))
        (λ gives takes. reserve_lawful gives takes (map_after_counting_subentry ctx ctx.op_source 1 m) refl)

    -- ---- an old offer

    module _ (old : OfferEntry) (e : LedgerEntry) (there : get m (offer_key old) ≡ Some e)
        (is_so : e.body ≡ body.Offer old) (own : old.seller_id ≡ ctx.op_source) where
      changed_lawful : IsLawfulOf (changed ctx ask old e m)
      changed_lawful = lines_lawful (of_sold Changed (old_asked ctx ask old e) ctx.id_pool ctx.id_pool
          (sold ctx.base_reserve (old_asked ctx ask old e) (map_without_offer old m)))
          (λ gives takes. sale_lawful Changed ctx.id_pool (old_asked ctx ask old e) refl (map_without_offer old m)
          (record {
            counted = λ v sum legal. old_counted ctx ask m v sum legal old e there is_so own;
            left = out_left (view m) ctx.id_pool lumens old e m under.settled.legal there is_so ctx.base_reserve;
            right = old_rightly ctx ask m (view m) lumens under.settled.legal old e there is_so own exists valid gives
                takes;
            low = omega arith;
            high = omega arith;
          }) _ refl)

      removed_lawful : IsLawfulOf (Ok (Removed (map_after_cancelling old m)))
      removed_lawful is =
          let made : Done = record {
            result = success_answer answer [] effect.Deleted;
            entries = map_after_cancelling old m;
            ctx = ctx;
            moves = [];
          } in
          let same : made ≡ done = cc in
          subst (IsLawful ctx m) same (lawful_still ctx m under (success_answer answer [] effect.Deleted)
          (map_after_cancelling old m)
          (λ v sum legal. cancelled_legal v ctx.id_pool sum old e m legal there is_so)
          (cancelled_left (view m) ctx.id_pool lumens old e m under.settled.legal there is_so ctx.base_reserve))

      by_amount : (b : Bool)
          → IsLawfulOf (if b then Ok (Removed (map_after_cancelling old m)) else changed ctx ask old e m)
      by_amount true = removed_lawful
      by_amount false = changed_lawful

    ids : {i j : ℤ} {p q : AccountId} → key.Offer p i ≡ key.Offer q j → p ≡ q
    ids same = cc

    by_body : (e : LedgerEntry) (b : LedgerEntryBody) → e.body ≡ b
        → get m (key.Offer ctx.op_source ask.offer_id) ≡ Some e → IsLawfulOf (managed_old ctx ask e b m)
    by_body e (body.Offer old) same there is =
        let own : offer_key old ≡ key.Offer ctx.op_source ask.offer_id =
        sym (ap key_of_body same) ∙ under.settled.legal.keyed (key.Offer ctx.op_source ask.offer_id) e there in
        by_amount old e (ap (get m) own ∙ there) same (ids own) (int_eq ask.amount (pos 0)) is
    by_body e other same there is = absurd (cc)

    by_entry : (o : Option LedgerEntry) → get m (key.Offer ctx.op_source ask.offer_id) ≡ o
        → IsLawfulOf (managed_at ctx ask o m)
    by_entry None there is = absurd (cc)
    by_entry (Some e) there is = by_body e e.body refl there is

    by_id : (b : Bool) → IsLawfulOf (if b then made ctx ask m
        else managed_at ctx ask (get m (key.Offer ctx.op_source ask.offer_id)) m)
    by_id true = made_lawful
    by_id false = by_entry (get m (key.Offer ctx.op_source ask.offer_id)) refl

  by_fields : (b : Bool) → is_malformed ask ≡ b → IsLawfulOf (if b then Err fault.Malformed
      else (if int_eq ask.offer_id (pos 0) then made ctx ask m
      else managed_at ctx ask (get m (key.Offer ctx.op_source ask.offer_id)) m))
  by_fields true test is = absurd (cc)
  by_fields false test is = by_id (valid_ask ask test) (int_eq ask.offer_id (pos 0)) is

  managed_lawful : IsLawfulOf (managed ctx ask m)
  managed_lawful = by_fields (is_malformed ask) refl

-- ---- the operations

pub manage_sell_offer_is_lawful : AreLawful (λ ctx (op : ManageSellOfferOp) m. attempt_of ctx
    (operation.ManageSellOffer op) m)
manage_sell_offer_is_lawful ctx op m done under exists is =
    managed_lawful ctx (ask_to_sell op) m under exists (omega arith) (answer_of kind.Sell) done is

pub create_passive_sell_offer_is_lawful : AreLawful (λ ctx (op : CreatePassiveSellOfferOp) m. attempt_of ctx
    (operation.CreatePassiveSellOffer op) m)
create_passive_sell_offer_is_lawful ctx op m done under exists is =
    managed_lawful ctx (ask_passively op) m under exists (omega arith) (answer_of kind.Passive) done is

pub manage_buy_offer_is_lawful : AreLawful (λ ctx (op : ManageBuyOfferOp) m. attempt_of ctx
    (operation.ManageBuyOffer op) m)
manage_buy_offer_is_lawful ctx op m done under exists is =
    managed_lawful ctx (ask_to_buy op) m under exists (omega arith) (answer_of kind.Buy) done is
