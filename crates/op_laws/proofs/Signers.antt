-- Signers that are removed: what they leave of accounts, and settled.
use Rattle.op_laws.proofs.Prelude.{◌≡◌, refl, sym, subst, ◌∙◌, ℕ, ◌≤◌, List, [], Option, Some, None, ℤ, pos, remove}
use Rattle.op_laws.proofs.Prelude.{AccountId, Asset, AccountEntry, SignerKey, EntryMap, account_at, signer_sponsor}
use Rattle.op_laws.proofs.Prelude.{total, without_subentry, index_of, found_at, found_signer, without_signer}
use Rattle.op_laws.proofs.Prelude.{without_counted_signer, map_without_signer, map_after_removing_signer, counts_edited}
use Rattle.op_laws.proofs.Prelude.{with_sponsors_core, core_kept_twice, KeepsCore, index_within_signers, View, view}
use Rattle.op_laws.proofs.Prelude.{nothing_owed, IsLegalOwing, held, view_of, nothing_settled, counts_subentry}
use Rattle.op_laws.proofs.Prelude.{signer_removed, PreauthsSettle, discharged_kept, no_subentry_core, next_edited}
use Rattle.op_laws.proofs.Prelude.{entries_legal, owing_of, none_more, IsNext, Leaves, leaves_itself}
use Rattle.op_flags.specs.ledger_types.declared.asset.Asset.TheVariants as asset
use Rattle.op_flags.specs.ledger_types.declared.signer.SignerKey.TheVariants.{PreAuthTx}
use Rattle.op_laws.proofs.Issued.{none_moved}
use Rattle.op_laws.proofs.Described.{described_by, describes_nothing}

-- the next account without a signer
unsigned_next : (base index : ℕ) (s : Option AccountId) (a : AccountEntry)
    → IsNext base (pos 0) a (without_subentry 1 s a)
    → IsNext base (pos 0) a (without_counted_signer (record { index = index; sponsor = s }) a)
unsigned_next base index s a next =
    let b = without_subentry 1 s a in
    let change = λ (xs : List (Option AccountId)). remove xs index in
    next_edited base (pos 0) a b (without_signer index b) next (with_sponsors_core change b (remove b.signers index))
    (λ which. counts_edited change which b (remove b.signers index))

-- an account keeps its core fields without a signer
pub without_core : (index : ℕ) (s : Option AccountId) (a : AccountEntry)
    → KeepsCore a (without_counted_signer (record { index = index; sponsor = s }) a)
without_core index s a =
    let b = without_subentry 1 s a in
    core_kept_twice a b (without_signer index b) (no_subentry_core 1 s a)
    (with_sponsors_core (λ (xs : List (Option AccountId)). remove xs index) b (remove b.signers index))

module _ (v : View) (id_pool : ℕ) (sum : ℤ) (m : EntryMap) (legal : IsLegalOwing v id_pool nothing_owed sum m)
    (base : ℕ) (id : AccountId) (which : SignerKey) where
  without_index : (a : AccountEntry) → account_at m id ≡ Some a → (o : Option ℕ) → index_of which a.signers ≡ o
      → Leaves base none_more m (map_without_signer id m (found_at a o))
  without_index a exists None found = leaves_itself base m legal.keyed
  without_index a exists (Some index) found =
      let s = signer_sponsor a index in
      discharged_kept base 1 id s m legal.keyed (λ b there.
      let same : a ≡ b = cc in
      subst (λ (x : AccountEntry). 1 ≤ x.num_sub_entries) same
      (counts_subentry v id_pool nothing_owed sum m legal nothing_settled id a exists index
      (index_within_signers which a.signers index found)))
      (without_counted_signer (record { index = index; sponsor = s })) (unsigned_next base index s)

  without_found : (o : Option AccountEntry) → account_at m id ≡ o
      → Leaves base none_more m (map_without_signer id m (found_signer which o))
  without_found None exists = leaves_itself base m legal.keyed
  without_found (Some a) exists = without_index a exists (index_of which a.signers) refl

  -- A signer is removed, if it is there.
  pub signer_kept : Leaves base none_more m (map_after_removing_signer id which m)
  signer_kept = without_found (account_at m id) refl

pub preauths_settle : PreauthsSettle
preauths_settle id_pool m id hash settled =
    let sum = total (held asset.Native) m in
    let new = map_after_removing_signer id (PreAuthTx hash) m in
    let legal = λ (x : Asset). signer_removed (view_of x m) id_pool nothing_owed (total (held x) m) id (PreAuthTx hash)
    m
    (owing_of x id_pool m settled.legal) nothing_settled in
    record {
      settled = record {
        legal = entries_legal (view m) id_pool sum new (legal asset.Native);
      };
      supply = λ x. (legal x).supply ∙ sym (none_moved x (total (held x) m));
      described = described_by none_more m new []
          (signer_kept (view m) id_pool sum m settled.legal 0 id (PreAuthTx hash)).holds describes_nothing;
    }
