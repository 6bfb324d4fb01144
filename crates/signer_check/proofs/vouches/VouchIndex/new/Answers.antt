use Rattle.signer_check.proofs.Prelude.{List, [], ◌∷◌, ◌++◌, take, sym, ap, ◌∙◌}
use Rattle.std.proofs.Common.{subst}
use Rattle.std.proofs.lemmas.List.{take_all, take_more}
use Rattle.std.specs.BTreeMap.{is_at}
use Rattle.std.specs.Map.{lookup}
use Rattle.std.specs.Prelude.{unwrap_or}
use Rattle.ledger_types.specs.Bytes.{bytes_cmp}
use Rattle.op_types.specs.declared.vouch.Vouch.{Vouch}
use Rattle.signer_check.specs.Groups.{AreGrouped}
use Rattle.signer_check.proofs.vouches.VouchIndex.new.Goals as goal

pub loop-vouch-init : goal.loop-vouch-init
loop-vouch-init c = λ s. ap (λ entries. unwrap_or (lookup (is_at (bytes_cmp s)) entries) []) c.new-groups.ensures.empty

pub loop-vouch-preserved : goal.loop-vouch-preserved
loop-vouch-preserved c =
    let all = c.args.vouches.now in
    let index = c.loop-vouch.vouch-index in
    subst (λ (l : List Vouch). AreGrouped c.push_vouch.new.groups l)
    (ap (λ (v : Vouch). take index all ++ v ∷ []) c.vouch-item.is
    ∙ sym (take_more all index c.vouch-item.result c.loop-vouch-test.true))
    (c.in_ok-push_vouch.ensures (take index all) c.loop-vouch.invariant)

pub invariant_of-result : goal.invariant_of-result
invariant_of-result c =
    subst (λ (l : List Vouch). AreGrouped c.loop-vouch.groups l)
    (take_all c.loop-vouch.vouch-index c.args.vouches.now c.loop-vouch-test.false) c.loop-vouch.invariant
