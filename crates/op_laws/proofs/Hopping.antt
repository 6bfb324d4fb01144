-- Hops of a path, and paths, carry an amount from one asset to another.
use Rattle.op_laws.proofs.Prelude.{◌≡◌, refl, sym, ap, subst, ◌∙◌, ℕ, Bool, true, false, List, [], ◌∷◌, ◌++◌, Ok, Err}
use Rattle.op_laws.proofs.Prelude.{Result, eqb-true, if◌then◌else◌, Asset, ClaimAtom, EntryMap, Ctx, view, nothing_owed}
use Rattle.op_laws.proofs.Prelude.{AreEntriesLegal, held, total, entries_legal, Trade, Crossing, IsHopTrade, IsHopped}
use Rattle.op_laws.proofs.Prelude.{hop_keeps, HopFault, Carried, and_then, by_end, hopped, after_hop, receiving}
use Rattle.op_laws.proofs.Prelude.{sending, needed_before, carried_on, is_same_asset, received_hop, sent_hop, received}
use Rattle.op_laws.proofs.Prelude.{sent, same_assets}
use Rattle.op_flags.specs.trade_cross.Hop.{hop, is_served}
use Rattle.op_flags.proofs.legal_rules_proofs.MayOwe.{nothing_right}
use Rattle.op_flags.specs.ledger_types.declared.asset.Asset.TheVariants as asset
use Rattle.op_flags.specs.trade_cross.declared.crossed.CrossEnd.{CrossEnd}
use Rattle.op_flags.specs.trade_cross.declared.crossed.CrossEnd.TheVariants as ends
use Rattle.op_payment.proofs.HopsMade.{receiving_asks, sending_asks}
use Rattle.op_laws.proofs.Carrying as carrying
use Rattle.op_laws.proofs.Carrying.{IsCarried, nothing_carried, carried_back, hop_way, hop_kept, hop_more}

-- ---- one hop

its_law : (ctx : Ctx) (id_pool : ℕ) (trade : Trade) (m : EntryMap) → IsHopTrade trade → AreEntriesLegal id_pool m
    → IsHopped (view m) id_pool ctx.base_reserve nothing_owed (total (held asset.Native) m) trade m (hop ctx trade m)
its_law ctx id_pool trade m asks legal =
    hop_keeps (view m) id_pool nothing_owed (total (held asset.Native) m) ctx trade m asks legal nothing_right

pub hop_legal : (ctx : Ctx) (id_pool : ℕ) (trade : Trade) (m : EntryMap) → IsHopTrade trade → AreEntriesLegal id_pool m
    → AreEntriesLegal id_pool (hop ctx trade m).entries
hop_legal ctx id_pool trade m asks legal =
    entries_legal (view m) id_pool _ (hop ctx trade m).entries (its_law ctx id_pool trade m asks legal).legal

pub hop_carried : (ctx : Ctx) (id_pool : ℕ) (trade : Trade) (m : EntryMap) → IsHopTrade trade
    → AreEntriesLegal id_pool m
    → IsCarried id_pool ctx.base_reserve trade.sheep (hop ctx trade m).sheep trade.wheat (hop ctx trade m).wheat m
    (hop ctx trade m).entries (hop ctx trade m).atoms
hop_carried ctx id_pool trade m asks legal =
    let law = its_law ctx id_pool trade m asks legal in
    record {
      shifts = λ v sum its. (hop_keeps v id_pool nothing_owed sum ctx trade m asks its nothing_right).legal;
      left = record {
        each = law.accounts;
        holds = law.holds;
        exist = law.exist;
        keyed = (hop_legal ctx id_pool trade m asks legal).keyed;
      };
      way = hop_way trade (hop ctx trade m) law.atoms;
      kept = hop_kept trade (hop ctx trade m) law.atoms;
      more = hop_more trade (hop ctx trade m) law.atoms;
    }

-- a hop that was served
served_if : (b : Bool) (done was : Crossing) (fault : HopFault) → (if b then Ok was else Err fault) ≡ Ok done
    → (b ≡ true) × (was ≡ done)
served_if true done was fault is = (refl, cc)
served_if false done was fault is = absurd (cc)

served_by_end : (trade : Trade) (done was : Crossing) (end : CrossEnd) → by_end trade was end ≡ Ok done
    → (is_served trade was ≡ true) × (was ≡ done)
served_by_end trade done was ends.CrossSelf is = absurd (cc)
served_by_end trade done was ends.TooMany is = absurd (cc)
served_by_end trade done was ends.Converted is = served_if (is_served trade was) done was _ is
served_by_end trade done was ends.Partial is = served_if (is_served trade was) done was _ is
served_by_end trade done was ends.BadPrice is = served_if (is_served trade was) done was _ is

went_hop : (step : Result Crossing HopFault) (next : Crossing → Carried) (new : Carried) → after_hop step next ≡ Ok new
    → (done : Crossing) × (step ≡ Ok done) × (next done ≡ new)
went_hop (Err fault) next new is = absurd (cc)
went_hop (Ok done) next new is = (done, refl, cc)

-- ---- between two assets

-- An amount of an asset becomes an amount of another one, by atoms that come before or after others.
pub record IsWent (ctx : Ctx) (id_pool : ℕ) (p : Asset) (a : ℕ) (q : Asset) (b : ℕ) (old new : EntryMap)
    (atoms : List ClaimAtom) : Type 0 where
  pub carried : IsCarried id_pool ctx.base_reserve p a q b old new atoms
  pub legal : AreEntriesLegal id_pool new

went_as : (ctx : Ctx) (id_pool : ℕ) (trade : Trade) (m : EntryMap) → IsHopTrade trade → AreEntriesLegal id_pool m
    → (done : Crossing) → hop ctx trade m ≡ done
    → IsWent ctx id_pool trade.sheep done.sheep trade.wheat done.wheat m done.entries done.atoms
went_as ctx id_pool trade m asks legal done is =
    subst (λ (d : Crossing). IsWent ctx id_pool trade.sheep d.sheep trade.wheat d.wheat m d.entries d.atoms) is
    (record {
      carried = hop_carried ctx id_pool trade m asks legal;
      legal = hop_legal ctx id_pool trade m asks legal;
    })

module _ (ctx : Ctx) (id_pool : ℕ) where
  -- back from what is needed
  pub record IsBack (p q : Asset) (old new : Carried) : Type 0 where
    pub atoms : List ClaimAtom
    pub listed : new.atoms ≡ atoms ++ old.atoms
    pub went : IsWent ctx id_pool p new.amount q old.amount old.entries new.entries atoms

  -- on with what is sent
  pub record IsOn (p q : Asset) (old new : Carried) : Type 0 where
    pub atoms : List ClaimAtom
    pub listed : new.atoms ≡ old.atoms ++ atoms
    pub went : IsWent ctx id_pool p old.amount q new.amount old.entries new.entries atoms

  module _ (p q : Asset) (carried new : Carried) (legal : AreEntriesLegal id_pool carried.entries) where
    same_back : is_same_asset p q ≡ true → carried ≡ new → IsBack p q carried new
    same_back is same = subst (λ (x : Asset). IsBack p x carried new) (same_assets p q is)
        (subst (IsBack p p carried) same (record {
          atoms = [];
          listed = refl;
          went = record {
            carried = nothing_carried id_pool ctx.base_reserve p carried.amount carried.entries legal.keyed;
            legal = legal;
          };
        }))

    traded_back : is_same_asset p q ≡ false
        → after_hop (hopped ctx (receiving ctx p q carried) carried.entries) (needed_before carried) ≡ Ok new
        → IsBack p q carried new
    traded_back other is =
        let trade = receiving ctx p q carried in
        let asks = receiving_asks ctx p q carried other in
        let its = went_hop (hopped ctx trade carried.entries) (needed_before carried) new is in
        let done = its.0 in
        let was = hop ctx trade carried.entries in
        let served = served_by_end trade done was was.end its.1 in
        let needed : done.wheat ≡ carried.amount = ap (λ (d : Crossing). d.wheat) (sym served.1)
        ∙ eqb-true was.wheat carried.amount served.0 in
        subst (IsBack p q carried) its.2 (record {
          atoms = done.atoms;
          listed = refl;
          went = subst (λ (n : ℕ). IsWent ctx id_pool p done.sheep q n carried.entries done.entries done.atoms) needed
              (went_as ctx id_pool trade carried.entries asks legal done served.1);
        })

    pub hop_back : received_hop ctx p q carried ≡ Ok new → IsBack p q carried new
    hop_back is = elim (is_same_asset p q) as (λ b. is_same_asset p q ≡ b
        → (if b then Ok carried
        else after_hop (hopped ctx (receiving ctx p q carried) carried.entries) (needed_before carried)) ≡ Ok new
        → IsBack p q carried new) [
          | true ↦ λ same so. same_back same (cc)
          | false ↦ λ other so. traded_back other so
        ] refl is

    same_on : is_same_asset p q ≡ true → carried ≡ new → IsOn p q carried new
    same_on is same = subst (λ (x : Asset). IsOn p x carried new) (same_assets p q is)
        (subst (IsOn p p carried) same (record {
          atoms = [];
          listed = nothing_after carried.atoms;
          went = record {
            carried = nothing_carried id_pool ctx.base_reserve p carried.amount carried.entries legal.keyed;
            legal = legal;
          };
        }))
      where
        nothing_after : (l : List ClaimAtom) → l ≡ l ++ []
        nothing_after [] = refl
        nothing_after (first ∷ l) = ap (λ (k : List ClaimAtom). first ∷ k) (nothing_after l)

    traded_on : is_same_asset p q ≡ false
        → after_hop (hopped ctx (sending ctx p q carried) carried.entries) (carried_on carried) ≡ Ok new
        → IsOn p q carried new
    traded_on other is =
        let trade = sending ctx p q carried in
        let asks = sending_asks ctx p q carried other in
        let its = went_hop (hopped ctx trade carried.entries) (carried_on carried) new is in
        let done = its.0 in
        let was = hop ctx trade carried.entries in
        let served = served_by_end trade done was was.end its.1 in
        let all : done.sheep ≡ carried.amount = ap (λ (d : Crossing). d.sheep) (sym served.1)
        ∙ eqb-true was.sheep carried.amount served.0 in
        subst (IsOn p q carried) its.2 (record {
          atoms = done.atoms;
          listed = refl;
          went = subst (λ (n : ℕ). IsWent ctx id_pool p n q done.wheat carried.entries done.entries done.atoms) all
              (went_as ctx id_pool trade carried.entries asks legal done served.1);
        })

    pub hop_on : sent_hop ctx p q carried ≡ Ok new → IsOn p q carried new
    hop_on is = elim (is_same_asset p q) as (λ b. is_same_asset p q ≡ b
        → (if b then Ok carried
        else after_hop (hopped ctx (sending ctx p q carried) carried.entries) (carried_on carried)) ≡ Ok new
        → IsOn p q carried new) [
          | true ↦ λ same so. same_on same (cc)
          | false ↦ λ other so. traded_on other so
        ] refl is

  -- ---- along a path

  went_then : (step : Result Carried HopFault) (next : Carried → Result Carried HopFault) (new : Carried)
      → and_then step next ≡ Ok new → (now : Carried) × (step ≡ Ok now) × (next now ≡ Ok new)
  went_then (Err fault) next new is = absurd (cc)
  went_then (Ok now) next new is = (now, refl, is)

  atoms_assoc : (a b c : List ClaimAtom) → ((a ++ b) ++ c) ≡ (a ++ (b ++ c))
  atoms_assoc [] b c = refl
  atoms_assoc (first ∷ a) b c = ap (λ (l : List ClaimAtom). first ∷ l) (atoms_assoc a b c)

  pub path_back : (first : Asset) (path : List Asset) (last : Asset) (carried new : Carried)
      → AreEntriesLegal id_pool carried.entries → received ctx first path last carried ≡ Ok new
      → IsBack first last carried new
  path_back first [] last carried new legal is = hop_back first last carried new legal is
  path_back first (next ∷ path) last carried new legal is =
      let its = went_then (received ctx next path last carried) (received_hop ctx first next) new is in
      let now = its.0 in
      let later = path_back next path last carried now legal its.1 in
      let one = hop_back first next now new later.went.legal its.2 in
      record {
        atoms = one.atoms ++ later.atoms;
        listed = one.listed ∙ ap (λ (l : List ClaimAtom). one.atoms ++ l) later.listed
            ∙ sym (atoms_assoc one.atoms later.atoms carried.atoms);
        went = record {
          carried = carried_back id_pool ctx.base_reserve first new.amount next now.amount last carried.amount
              carried.entries now.entries new.entries one.atoms later.atoms later.went.carried one.went.carried;
          legal = one.went.legal;
        };
      }

  pub path_on : (first : Asset) (path : List Asset) (last : Asset) (carried new : Carried)
      → AreEntriesLegal id_pool carried.entries → sent ctx first path last carried ≡ Ok new
      → IsOn first last carried new
  path_on first [] last carried new legal is = hop_on first last carried new legal is
  path_on first (next ∷ path) last carried new legal is =
      let its = went_then (sent_hop ctx first next carried) (sent ctx next path last) new is in
      let now = its.0 in
      let one = hop_on first next carried now legal its.1 in
      let later = path_on next path last now new one.went.legal its.2 in
      record {
        atoms = one.atoms ++ later.atoms;
        listed = later.listed ∙ ap (λ (l : List ClaimAtom). l ++ later.atoms) one.listed
            ∙ atoms_assoc carried.atoms one.atoms later.atoms;
        went = record {
          carried = carrying.carried_on id_pool ctx.base_reserve first carried.amount next now.amount last new.amount
              carried.entries now.entries new.entries one.atoms later.atoms one.went.carried later.went.carried;
          legal = later.went.legal;
        };
      }
