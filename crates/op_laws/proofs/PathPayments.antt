-- What a payment along a path leaves and moves is lawful.
use Rattle.op_laws.proofs.Prelude.{◌≡◌, sym, ap, ◌∙◌, ℕ, All, List, [], ◌∷◌, ◌++◌, arith, ints, All-cons, All-nil}
use Rattle.op_laws.proofs.Prelude.{All-append, ℤ, pos, neg_ℤ, ◌+ℤ◌, ◌-ℤ◌, AccountId, Asset, ClaimAtom, LedgerKey}
use Rattle.op_laws.proofs.Prelude.{EntryMap, OperationResult, Ctx, both_more, of_asset, Leaves, leaves_as, leaves_both}
use Rattle.op_laws.proofs.Prelude.{kept_in, more_in, trade_moves, moves_of, Holder, OfAccount, OfPool, Transit, Move}
use Rattle.op_laws.proofs.Prelude.{path_moves, IsMoved, ShiftsLegal, unless_issuer, shifts_as, shifts_both, IsLawful}
use Rattle.op_laws.proofs.Prelude.{gained, issued, IsUnderway}
use Rattle.op_flags.specs.ledger_types.declared.claim_atom.ClaimAtom.TheVariants as atom
use Rattle.op_laws.proofs.Carrying.{IsCarried, way_by, gained_on_way, held_on_way, more_on_way, of_neg, turned}
use Rattle.op_laws.proofs.Lawful.{lawful_with}
use Rattle.op_laws.proofs.MoveSums.{summed, summed_after, held_by, more_by, moved_more, sum_issued}
use Rattle.op_laws.proofs.MoveSums.{IsKept, AreEndsKept}
use Rattle.op_laws.proofs.MoveSums.{moves_describe_others, describes_all}
use Rattle.op_laws.proofs.Described.{more_for, account_location, pool_location}
use Rattle.op_laws.proofs.TradeMoves.{account_held}

-- ---- the moves of a path

trade_kept : (other : Holder) (sold bought : Asset) (n k : ℤ) (moves : List Move) → IsKept sold other
    → IsKept bought other → All AreEndsKept moves → All AreEndsKept (trade_moves Transit other sold n bought k ++ moves)
trade_kept other sold bought n k moves there forth rest =
    let gives : Move = record { from = other; to = Transit; asset = sold; amount = n } in
    let takes : Move = record { from = Transit; to = other; asset = bought; amount = k } in
    All-cons AreEndsKept gives (takes ∷ moves) (tt, there) (All-cons AreEndsKept takes moves (forth, tt) rest)

atoms_kept : (atoms : List ClaimAtom) → All AreEndsKept (moves_of Transit atoms)
atoms_kept [] = All-nil AreEndsKept
atoms_kept (atom.OrderBook seller id sold n bought k ∷ atoms) =
    trade_kept (OfAccount seller) sold bought n k (moves_of Transit atoms) (account_location sold seller)
    (account_location bought seller) (atoms_kept atoms)
atoms_kept (atom.LiquidityPool pool sold n bought k ∷ atoms) =
    trade_kept (OfPool pool) sold bought n k (moves_of Transit atoms) (pool_location sold pool)
    (pool_location bought pool)
    (atoms_kept atoms)
atoms_kept (atom.V0 seller id sold n bought k ∷ atoms) = atoms_kept atoms

module _ (ctx : Ctx) (destination : AccountId) (first : Asset) (a : ℕ) (atoms : List ClaimAtom) (last : Asset) (b : ℕ)
  where
    abbrev source : AccountId
    source = ctx.op_source

    abbrev given_move : Move
    given_move = record { from = OfAccount source; to = Transit; asset = first; amount = pos a }

    abbrev taken_move : Move
    taken_move = record { from = Transit; to = OfAccount destination; asset = last; amount = pos b }

    abbrev moves : List Move
    moves = path_moves ctx destination first (pos a) atoms last (pos b)

    ends_kept : All AreEndsKept moves
    ends_kept = All-cons AreEndsKept given_move (moves_of Transit atoms ++ taken_move ∷ [])
        (tt, account_location first source)
        (All-append AreEndsKept (moves_of Transit atoms) (taken_move ∷ []) (atoms_kept atoms)
        (All-cons AreEndsKept taken_move [] (account_location last destination, tt) (All-nil AreEndsKept)))

    -- nothing stays on its way
    none_on_way : (f l : ℤ) → ((f +ℤ pos 0) +ℤ ((l -ℤ f) +ℤ ((pos 0 +ℤ neg_ℤ l) +ℤ pos 0))) ≡ pos 0
    none_on_way f l = omega (arith, ints)

    way_summed : ((x : Asset) → summed (way_by x) (moves_of Transit atoms) ≡ turned x first a last b) → (x : Asset)
        → gained x Transit moves ≡ pos 0
    way_summed way x =
        gained_on_way x moves
        ∙ ap (λ n. (of_asset x first (pos a) +ℤ pos 0) +ℤ n)
        (summed_after (way_by x) (moves_of Transit atoms) (taken_move ∷ [])
        ∙ (λ i. way x i +ℤ ((pos 0 +ℤ of_neg x last (pos b) i) +ℤ pos 0)))
        ∙ none_on_way (of_asset x first (pos a)) (of_asset x last (pos b))

    -- what is held in all is what is issued
    all_held : (f l s k d : ℤ) → ((f +ℤ s) +ℤ ((k +ℤ (l -ℤ f)) +ℤ ((d +ℤ neg_ℤ l) +ℤ pos 0))) ≡ ((d +ℤ k) +ℤ s)
    all_held f l s k d = omega (arith, ints)

    shift_is : ((x : Asset) → summed (held_by x) (moves_of Transit atoms)
        ≡ (kept_in x atoms +ℤ turned x first a last b))
        → (x : Asset)
        → ((unless_issuer x last destination (pos b) +ℤ kept_in x atoms)
        +ℤ unless_issuer x first source (neg_ℤ (pos a)))
        ≡ issued x moves
    shift_is kept x =
        (λ i. (account_held x last destination (pos b) i +ℤ kept_in x atoms)
        +ℤ account_held x first source (neg_ℤ (pos a)) i)
        ∙ sym (all_held (of_asset x first (pos a)) (of_asset x last (pos b))
        (held_by x first (OfAccount source) (neg_ℤ (pos a))) (kept_in x atoms)
        (held_by x last (OfAccount destination) (pos b)))
        ∙ sym ((λ i. (held_on_way x first (pos a) i +ℤ held_by x first (OfAccount source) (neg_ℤ (pos a)))
        +ℤ ((summed_after (held_by x) (moves_of Transit atoms) (taken_move ∷ [])) i))
        ∙ (λ i. (of_asset x first (pos a) +ℤ held_by x first (OfAccount source) (neg_ℤ (pos a)))
        +ℤ (kept x i +ℤ ((held_by x last (OfAccount destination) (pos b)
        +ℤ (held_on_way x last (neg_ℤ (pos b)) ∙ of_neg x last (pos b)) i) +ℤ pos 0))))
        ∙ sum_issued x moves

    -- and so is what each entry holds
    all_more : (s m d : ℤ) → ((pos 0 +ℤ s) +ℤ (m +ℤ ((d +ℤ pos 0) +ℤ pos 0))) ≡ ((d +ℤ m) +ℤ s)
    all_more s m d = omega (arith, ints)

    more_is : ((k : LedgerKey) (x : Asset) → summed (more_by k x) (moves_of Transit atoms) ≡ more_in atoms k x)
        → (k : LedgerKey) (x : Asset)
        → ((more_for last (OfAccount destination) (pos b) k x +ℤ more_in atoms k x)
        +ℤ more_for first (OfAccount source) (neg_ℤ (pos a)) k x)
        ≡ moved_more moves k x
    more_is more k x =
        sym (all_more (more_by k x first (OfAccount source) (neg_ℤ (pos a))) (more_in atoms k x)
        (more_by k x last (OfAccount destination) (pos b)))
        ∙ sym ((λ i. (more_on_way k x first (pos a) i +ℤ more_by k x first (OfAccount source) (neg_ℤ (pos a)))
        +ℤ ((summed_after (more_by k x) (moves_of Transit atoms) (taken_move ∷ [])) i))
        ∙ (λ i. (pos 0 +ℤ more_by k x first (OfAccount source) (neg_ℤ (pos a)))
        +ℤ (more k x i +ℤ ((more_by k x last (OfAccount destination) (pos b)
        +ℤ more_on_way k x last (neg_ℤ (pos b)) i) +ℤ pos 0))))

    turned_round : (s m d : ℤ) → ((s +ℤ m) +ℤ d) ≡ ((d +ℤ m) +ℤ s)
    turned_round s m d = omega (arith, ints)

    -- what the destination takes, and what the source gives
    abbrev TakenBy : EntryMap → EntryMap → Type 0
    TakenBy = IsMoved ctx.id_pool ctx.base_reserve (λ x. unless_issuer x last destination (pos b))
        (more_for last (OfAccount destination) (pos b))

    abbrev GivenBy : EntryMap → EntryMap → Type 0
    GivenBy = IsMoved ctx.id_pool ctx.base_reserve (λ x. unless_issuer x first source (neg_ℤ (pos a)))
        (more_for first (OfAccount source) (neg_ℤ (pos a)))

    module _ (old new : EntryMap) (under : IsUnderway ctx old) (result : OperationResult)
        (way : (x : Asset) → summed (way_by x) (moves_of Transit atoms) ≡ turned x first a last b) where
      path_lawful : ShiftsLegal ctx.id_pool (λ x. issued x moves) old new
          → Leaves ctx.base_reserve (moved_more moves) old new
          → IsLawful ctx old (record { result = result; entries = new; ctx = ctx; moves = moves })
      path_lawful shifts left = lawful_with ctx old under (moved_more moves) result new moves shifts left
          (describes_all (moved_more moves) moves (moves_describe_others moves ends_kept) (way_summed way))

    -- the destination takes first, and the source gives last
    pub received_lawful : (old taken went new : EntryMap) → IsUnderway ctx old → (result : OperationResult)
        → TakenBy old taken → IsCarried ctx.id_pool ctx.base_reserve first a last b taken went atoms → GivenBy went new
        → IsLawful ctx old (record { result = result; entries = new; ctx = ctx; moves = moves })
    received_lawful old taken went new under result one carried two =
        let d = more_for last (OfAccount destination) (pos b) in
        let s = more_for first (OfAccount source) (neg_ℤ (pos a)) in
        let u = λ (x : Asset). unless_issuer x last destination (pos b) in
        let w = λ (x : Asset). unless_issuer x first source (neg_ℤ (pos a)) in
        path_lawful old new under result carried.way
        (shifts_as ctx.id_pool (λ x. (u x +ℤ kept_in x atoms) +ℤ w x) (λ x. issued x moves) old new
        (shift_is carried.kept)
        (shifts_both ctx.id_pool (λ x. u x +ℤ kept_in x atoms) w old went new
        (shifts_both ctx.id_pool u (λ x. kept_in x atoms) old taken went one.shifts carried.shifts) two.shifts))
        (leaves_as ctx.base_reserve (both_more (both_more d (more_in atoms)) s) (moved_more moves) old new
        (leaves_both ctx.base_reserve (both_more d (more_in atoms)) s old went new
        (leaves_both ctx.base_reserve d (more_in atoms) old taken went one.left carried.left) two.left)
        (more_is carried.more))

    -- the source gives first, and the destination takes last
    pub sent_lawful : (old given went new : EntryMap) → IsUnderway ctx old → (result : OperationResult)
        → GivenBy old given → IsCarried ctx.id_pool ctx.base_reserve first a last b given went atoms → TakenBy went new
        → IsLawful ctx old (record { result = result; entries = new; ctx = ctx; moves = moves })
    sent_lawful old given went new under result one carried two =
        let d = more_for last (OfAccount destination) (pos b) in
        let s = more_for first (OfAccount source) (neg_ℤ (pos a)) in
        let u = λ (x : Asset). unless_issuer x last destination (pos b) in
        let w = λ (x : Asset). unless_issuer x first source (neg_ℤ (pos a)) in
        path_lawful old new under result carried.way
        (shifts_as ctx.id_pool (λ x. (w x +ℤ kept_in x atoms) +ℤ u x) (λ x. issued x moves) old new
        (λ x. turned_round (w x) (kept_in x atoms) (u x) ∙ shift_is carried.kept x)
        (shifts_both ctx.id_pool (λ x. w x +ℤ kept_in x atoms) u old went new
        (shifts_both ctx.id_pool w (λ x. kept_in x atoms) old given went one.shifts carried.shifts) two.shifts))
        (leaves_as ctx.base_reserve (both_more (both_more s (more_in atoms)) d) (moved_more moves) old new
        (leaves_both ctx.base_reserve (both_more s (more_in atoms)) d old went new
        (leaves_both ctx.base_reserve s (more_in atoms) old given went one.left carried.left) two.left)
        (λ k x. turned_round (s k x) (more_in atoms k x) (d k x) ∙ more_is carried.more k x))
