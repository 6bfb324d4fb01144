-- What both payments along paths test, answer and move (PathPaymentOpFrameBase in stellar-core).
use Rattle.std.specs.Prelude.{ℤ, Bool, true, false, not, ◌&&◌, List, [], ◌∷◌, ◌++◌, is_some}
use Rattle.ledger_types.specs.declared.ids.AccountId.{AccountId}
use Rattle.ledger_types.specs.declared.asset.Asset.{Asset}
use Rattle.ledger_types.specs.declared.claim_atom.ClaimAtom.{ClaimAtom}
use Rattle.op_types.specs.declared.payment_results.PathPaymentSuccess.{PathPaymentSuccess}
use Rattle.valid_values.specs.Assets.{is_valid_asset}
use Rattle.entry_map.specs.EntryMap.{EntryMap}
use Rattle.sponsor_rules.specs.entry_slots.Accounts.{account_at}
use Rattle.sponsor_rules.specs.declared.context.Ctx.{Ctx}
use Rattle.op_form.specs.AtomMoves.{moves_of}
use Rattle.op_form.specs.Assets.{is_issued_by}
use Rattle.op_form.specs.Done.{OfAccount, Transit, Move}
use Rattle.op_payment.specs.Paths.{is_same_asset}

abbrev pub are_valid : List Asset → Bool
are_valid [] = true
are_valid (first ∷ path) = is_valid_asset first && are_valid path

abbrev pub is_path_valid : (first : Asset) → List Asset → (last : Asset) → Bool
is_path_valid first path last = is_valid_asset first && is_valid_asset last && are_valid path

abbrev pub is_empty : List Asset → Bool
is_empty [] = true
is_empty (first ∷ path) = false

-- What is paid to its issuer, without a trade, needs no account of it.
abbrev pub is_nobody : AccountId → (first : Asset) → List Asset → (last : Asset) → EntryMap → Bool
is_nobody destination first path last m =
    not (is_issued_by last destination && is_same_asset first last && is_empty path)
    && not (is_some (account_at m destination))

-- what was traded, and what arrived
abbrev pub arrived : List ClaimAtom → AccountId → Asset → ℤ → PathPaymentSuccess
arrived atoms destination last amount =
    record { offers = atoms; last = record { destination = destination; asset = last; amount = amount } }

-- What the source gives is on its way, is traded, and then goes to the destination.
abbrev pub path_moves : Ctx → AccountId → (first : Asset) → (given : ℤ) → List ClaimAtom → (last : Asset) → (taken : ℤ)
    → List Move
path_moves ctx destination first given atoms last taken =
    record { from = OfAccount ctx.op_source; to = Transit; asset = first; amount = given }
    ∷ moves_of Transit atoms
    ++ record { from = Transit; to = OfAccount destination; asset = last; amount = taken } ∷ []
