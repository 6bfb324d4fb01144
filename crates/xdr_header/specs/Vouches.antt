-- The format of what outside verifiers say of signatures. It is this ledger's own.
use Rattle.std.specs.Prelude.{pos, List, [], ◌∷◌}
use Rattle.xdr_core.specs.declared.fault.XdrFault.{XdrFault}
use Rattle.xdr_core.specs.Leaves.{fixed}
use Rattle.xdr_core.specs.Combinators.{◌⨾◌, Arm, Part, part}
use Rattle.xdr_core.specs.Xdr.{Xdr, union_of}
use Rattle.op_types.specs.declared.vouch.Vouch.{Vouch}
use Rattle.op_types.specs.declared.vouch.Vouch.TheVariants as vouching
use Rattle.xdr_entries.specs.Basic.{arm, bytes64, hash}

-- a key's signature over the hash of a transaction
abbrev pub vouch_hash : Arm XdrFault Vouch
vouch_hash = arm (pos 0) (fixed 32 ⨾ hash ⨾ bytes64) (λ v. vouching.Hash v.0 v.1.0 v.1.1)

-- a key's signature over a payload (CAP-0040)
abbrev pub vouch_payload : Arm XdrFault Vouch
vouch_payload = arm (pos 3) (fixed 32 ⨾ bytes64 ⨾ bytes64) (λ v. vouching.Payload v.0 v.1.0 v.1.1)

abbrev pub vouch_arms : List (Arm XdrFault Vouch)
vouch_arms = vouch_hash ∷ vouch_payload ∷ []

abbrev pub vouch_part : Vouch → Part XdrFault Vouch
vouch_part (vouching.Hash key digest signature) = part vouch_hash (key, (digest, signature))
vouch_part (vouching.Payload key payload signature) = part vouch_payload (key, (payload, signature))

unfoldable pub vouch : Xdr Vouch
vouch = union_of vouch_part vouch_arms
