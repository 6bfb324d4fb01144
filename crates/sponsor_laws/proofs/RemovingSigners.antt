-- Removing a signer keeps counts equal to their sums.
use Rattle.sponsor_laws.proofs.Prelude as prelude
use prelude.{◌≡◌, refl, ap, subst, ◌∙◌, ℕ, ◌+◌, ◌<◌, cond, length, Option, Some, None, arith, remove, length-remove}
use prelude.{AccountId, SignerKey, AccountEntry, EntryMap, SubEntries, Sponsored, account_at, with_account}
use prelude.{signer_sponsor, with_less, map_after_releasing, without_subentry, map_after_discounting, found_at}
use prelude.{index_of, without_signer, found_signer, map_without_signer, without_counted_signer, is_this}
use prelude.{signer_sponsors, RemovingSignerKeeps, counts_edited}
use Rattle.sponsor_rules.specs.ledger_types.declared.key.LedgerKey.TheVariants as key
use Rattle.sponsor_rules.specs.declared.signer_index.FoundSigner.{FoundSigner}
use Rattle.sponsor_laws.proofs.Even.{IsEven, even, kept_of, all_few, all_fit}
use Rattle.sponsor_laws.proofs.Shifts.{Shift, at_one, plus, no_shift, IsShiftedAccount, unshifted}
use Rattle.sponsor_laws.proofs.Changes.{less_keeps, twice}
use Rattle.sponsor_laws.proofs.Paying.{shared, shifted_discounting, shifted_payer}
use Rattle.sponsor_laws.proofs.Parts.{enough}
use Rattle.sponsor_laws.proofs.Edits.{IsEdited, edited, named_exists, signed_more}
use Rattle.sponsor_laws.proofs.SignerLists.{sponsors_removed}
use Rattle.sponsor_laws.proofs.SignedAccounts.{IsHeld, held_by, own_id, as_many_sponsors, signer_exists, own_of}
use Rattle.sponsor_laws.proofs.SignedAccounts.{index_within, sum-without, counts_subentry, sponsor_enough}
use Rattle.sponsor_laws.proofs.SignedAccounts.{index_within_signers}

without_subentry_id : (s : Option AccountId) (b : AccountEntry) → (without_subentry 1 s b).account_id ≡ b.account_id
without_subentry_id None b = less_keeps SubEntries 1 b
without_subentry_id (Some s) b = less_keeps Sponsored 1 (with_less SubEntries 1 b) ∙ less_keeps SubEntries 1 b

module _ (old : EntryMap) (h : IsEven old) (id : AccountId) (a : AccountEntry) (held : IsHeld old id a) (index : ℕ)
    (within : index < length a.signers) where
  own : a.account_id ≡ id
  own = own_id old h id a held

  -- a subentry less of the account, which the signer's sponsor no longer pays
  abbrev gone : Shift
  gone = plus (plus no_shift (at_one SubEntries 1 id)) (shared 1 (Some id) (signer_sponsor a index))

  without_signer_edits : (b : AccountEntry) → IsShiftedAccount no_shift gone a b
      → IsEdited no_shift gone old a (without_signer index b)
  without_signer_edits b shifted =
      let c = without_signer index b in
      let sponsors : signer_sponsors c ≡ remove (signer_sponsors a) index = sponsors_removed index b
      ∙ ap (λ xs. remove xs index) shifted.parts.sponsors in
      let signers : c.signers ≡ remove a.signers index = ap (λ xs. remove xs index) shifted.parts.signers in
      let shorter = length-remove a.signers index within in
      let length_now = ap length signers in
      let all = as_many_sponsors old h id a held in
      let sums = sum-without old h id a held index within (signer_sponsors c) sponsors in
      record {
        id = shifted.parts.id;
        counts = λ count. ap (λ n. n + gone count a.account_id)
            (counts_edited (λ xs. remove xs index) count b (remove b.signers index)) ∙ shifted.counts count;
        items = (let fewer = length-remove (signer_sponsors a) index (index_within old h id a held index within) in
            let new = ap length sponsors in omega arith);
        parts = λ count i.
            let before = own_of old h id a held count i a own in
            let after = own_of old h id a held count i c (shifted.parts.id ∙ own) in
            let more = signed_more count i id (length c.signers) (length a.signers) (signer_sponsors c)
            (signer_sponsors a) (signer_sponsor a index) (omega arith) sums in
            omega arith;
        names = λ i. named_exists old (signer_sponsors a) (signer_sponsors c) None i (let sum =
            sums (λ o. cond (is_this i o) 1 0) in omega arith) (λ none. absurd (cc)) (signer_exists old h id a held i);
      }

  -- the signer that was found
  abbrev the_signer : FoundSigner
  the_signer = record { index = index; sponsor = signer_sponsor a index }

  signer_removed : IsEven (with_account (map_after_releasing 1 (signer_sponsor a index) old) id
      (without_counted_signer the_signer))
  signer_removed =
      let s = signer_sponsor a index in
      let enough_of = sponsor_enough old h id a held index within no_shift refl (λ i. refl) in
      let second = shifted_discounting no_shift no_shift 1 old old h.own (unshifted old h.own) id s
      (enough no_shift SubEntries 1 id old (key.Account id) held.entry h held.there
      (counts_subentry old h id a held index within) refl) enough_of in
      let own_after = (shifted_payer no_shift no_shift 1 old old h.own (unshifted old h.own) s
      (λ x pays. (enough_of x pays).1)).own in
      let once = twice (map_after_releasing 1 s old) id (without_subentry 1 s) (without_signer index) own_after
      (without_subentry_id s) (λ b. refl) in
      subst IsEven once (edited no_shift gone id (without_signer index) old
      (map_after_discounting id 1 s old) h second held.entry a held.there held.is without_signer_edits
      (λ i. let le = all_few old i h in omega arith)
      (λ i. let le = all_fit old i h in omega arith))

module _ (old : EntryMap) (h : IsEven old) (id : AccountId) (key : SignerKey) where
  removed_at : (a : AccountEntry) (o : Option ℕ) → account_at old id ≡ Some a → index_of key a.signers ≡ o
      → IsEven (map_without_signer id old (found_at a o))
  removed_at a None exists found = h
  removed_at a (Some index) exists found = signer_removed old h id a (held_by old id a exists) index
      (index_within_signers key a.signers index found)

  removed_from : (o : Option AccountEntry) → account_at old id ≡ o
      → IsEven (map_without_signer id old (found_signer key o))
  removed_from None exists = h
  removed_from (Some a) exists = removed_at a (index_of key a.signers) exists refl

pub removing_signer_keeps : RemovingSignerKeeps
removing_signer_keeps id key old kept = kept_of _ (removed_from old (even old kept) id key (account_at old id) refl)
