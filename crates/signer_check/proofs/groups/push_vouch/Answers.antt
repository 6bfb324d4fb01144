use Rattle.signer_check.proofs.Prelude.{◌≡◌, ℕ, List, [], ◌∷◌, ◌++◌, false, refl, ap, ◌∙◌}
use Rattle.std.proofs.Common.{subst}
use Rattle.std.specs.Str.{bytes_eq}
use Rattle.op_types.specs.declared.vouch.Vouch.{Vouch}
use Rattle.signer_check.specs.Groups.{group_at, signature_of}
use Rattle.signer_check.proofs.Grouped.{grouped_at}
use Rattle.signer_check.proofs.groups.push_vouch.Goals as goal

pub returns : goal.returns
returns c vouches were s =
    let vouch = c.args.vouch.now in
    let signature = c.signature_of-signature.result in
    let same : signature ≡ signature_of vouch = c.signature_of-signature.ensures in
    let pushed : group_at c.put_group.new.groups signature ≡ group_at c.args.groups.now signature ++ vouch ∷ [] =
    c.in_ok-put_group.ensures.list ∙ c.in_ok-push.ensures.ok
    ∙ ap (λ (l : List Vouch). l ++ vouch ∷ []) c.take_group-list.ensures.list in
    let others : bytes_eq signature s ≡ false → group_at c.put_group.new.groups s ≡ group_at c.args.groups.now s =
    λ apart. c.in_ok-put_group.ensures.others s apart ∙ c.take_group-list.ensures.others s apart in
    grouped_at c.args.groups.now c.put_group.new.groups vouch vouches s (bytes_eq (signature_of vouch) s) refl (were s)
    (subst (λ (q : List ℕ). group_at c.put_group.new.groups q ≡ group_at c.args.groups.now q ++ vouch ∷ []) same pushed)
    (λ apart. others (ap (λ (q : List ℕ). bytes_eq q s) same ∙ apart))
