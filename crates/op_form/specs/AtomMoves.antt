-- What the atoms of a trade move: what was sold goes from its seller, or from its pool, to the taker, and what was
-- bought goes back (CAP-0003, CAP-0038).
use Rattle.std.specs.Prelude.{ℤ, List, [], ◌∷◌, ◌++◌}
use Rattle.ledger_types.specs.declared.asset.Asset.{Asset}
use Rattle.ledger_types.specs.declared.claim_atom.ClaimAtom.{ClaimAtom}
use Rattle.ledger_types.specs.declared.claim_atom.ClaimAtom.TheVariants as atom
use Rattle.op_form.specs.Done.{Holder, OfAccount, OfPool, Move}

abbrev pub trade_moves : (taker other : Holder) → (sold : Asset) → ℤ → (bought : Asset) → ℤ → List Move
trade_moves taker other sold amount_sold bought amount_bought =
    record { from = other; to = taker; asset = sold; amount = amount_sold }
    ∷ record { from = taker; to = other; asset = bought; amount = amount_bought }
    ∷ []

abbrev pub atom_moves : Holder → ClaimAtom → List Move
atom_moves taker (atom.OrderBook seller id sold amount_sold bought amount_bought) =
    trade_moves taker (OfAccount seller) sold amount_sold bought amount_bought
atom_moves taker (atom.LiquidityPool pool sold amount_sold bought amount_bought) =
    trade_moves taker (OfPool pool) sold amount_sold bought amount_bought
atom_moves taker other = []

abbrev pub moves_of : Holder → List ClaimAtom → List Move
moves_of taker [] = []
moves_of taker (first ∷ atoms) = atom_moves taker first ++ moves_of taker atoms
