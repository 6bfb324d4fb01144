-- What a checker is: the hash of a transaction, and its signatures with which of them are used.
use Rattle.std.specs.Prelude.{List, refl}
use Rattle.std.specs.Coded.{Coded, code_by, coded×, coded_list}
use Rattle.ledger_types.specs.declared.ids.Hash.{Hash}
use Rattle.ledger_types.specs.contracts.ids.Hash as hash
use Rattle.signer_check.specs.declared.held.HeldSignature.{HeldSignature}
use Rattle.signer_check.specs.contracts.held.HeldSignature as held

pub record Checks : Type 0 where
  -- the hash of the transaction
  pub hash : Hash
  -- its signatures, in their order
  pub signatures : List HeldSignature

-- both are stored as they are
abbrev pub checks_code : Coded Checks
checks_code =
    code_by (Hash × List HeldSignature) (coded× hash.the_row.coded (coded_list held.the_row.coded))
    (λ c. (c.hash, c.signatures)) (λ p. record { hash = p.0; signatures = p.1 }) (λ _. refl)
