-- Adding a signer keeps counts equal to their sums.
use Rattle.sponsor_laws.proofs.Prelude.{◌≡◌, ◌≢◌, refl, ap, subst, ◌∙◌, ℕ, ◌+◌, ◌≤◌, cond, length, Option, Some, None}
use Rattle.sponsor_laws.proofs.Prelude.{Ok, arith, sum_by, insert, length-insert, sum_by-insert, prefix_len-le-length}
use Rattle.sponsor_laws.proofs.Prelude.{AccountId, Signer, AccountEntry, EntryMap, Ctx, SubEntries, Sponsoring}
use Rattle.sponsor_laws.proofs.Prelude.{Sponsored, HasAccount, count_in, with_more, map_after_charging, with_subentry}
use Rattle.sponsor_laws.proofs.Prelude.{open_sponsor, payer_of, payer_by, subentry_tests_at, map_after_counting}
use Rattle.sponsor_laws.proofs.Prelude.{index_for, with_signer, map_after_adding_signer, map_with_signer, is_this}
use Rattle.sponsor_laws.proofs.Prelude.{is_there, signer_sponsors, IsApart, AddingSignerKeeps, counts_edited}
use Rattle.sponsor_laws.proofs.Even.{AreOwn, IsEven, even, kept_of}
use Rattle.sponsor_laws.proofs.Shifts.{Shift, at_one, plus, no_shift, IsShiftedAccount, unshifted}
use Rattle.sponsor_laws.proofs.Changes.{more_keeps, twice, shifted_raise}
use Rattle.sponsor_laws.proofs.Paying.{shared, shifted_counting}
use Rattle.sponsor_laws.proofs.Bounds.{done_by, have_passed, has_few, has_room, few_more, both_more, HasRoom}
use Rattle.sponsor_laws.proofs.Edits.{IsEdited, edited, named_exists, signed_more}
use Rattle.sponsor_laws.proofs.SignerLists.{sponsors_inserted}
use Rattle.sponsor_laws.proofs.SignedAccounts.{there_is, IsHeld, held_by, own_id, own_exists, as_many_sponsors}
use Rattle.sponsor_laws.proofs.SignedAccounts.{signer_exists, own_of, own_share}

-- a subentry more of the owner, which the sponsor pays, if there is one
abbrev signer_shift : AccountId → Option AccountId → Shift
signer_shift id s = plus (plus no_shift (at_one SubEntries 1 id)) (shared 1 (Some id) s)

with_subentry_id : (s : Option AccountId) (b : AccountEntry) → (with_subentry 1 s b).account_id ≡ b.account_id
with_subentry_id None b = more_keeps SubEntries 1 b
with_subentry_id (Some s) b = more_keeps Sponsored 1 (with_more SubEntries 1 b) ∙ more_keeps SubEntries 1 b

charging_own : (old : EntryMap) → IsEven old → (s : Option AccountId) → AreOwn (map_after_charging 1 s old)
charging_own old h None = h.own
charging_own old h (Some s) = (shifted_raise no_shift no_shift Sponsoring 1 s old old h.own (unshifted old h.own)).own

module _ (old : EntryMap) (h : IsEven old) (id : AccountId) (a : AccountEntry) (held : IsHeld old id a) where
  own : a.account_id ≡ id
  own = own_id old h id a held

  -- an account has the extension, once something is paid for it
  paid_for : (s : Option AccountId) (b : AccountEntry) → IsShiftedAccount (signer_shift id s) no_shift a b → s ≢ None
      → 1 ≤ count_in Sponsored b
  paid_for s b shifted some =
      let moved = shifted.counts Sponsored in
      let one : ◌≡◌ {A = ℕ} (cond (is_there s) 1 0) 1 = ap (λ t. cond t 1 0) (there_is s some) in
      let mine = own_share old h id a held s in
      omega arith

  with_signer_edits : (signer : Signer) (s : Option AccountId) → ((x : AccountId) → s ≡ Some x → HasAccount old x)
      → (b : AccountEntry) → IsShiftedAccount (signer_shift id s) no_shift a b
      → IsEdited (signer_shift id s) no_shift old a (with_signer signer s b)
  with_signer_edits signer s payer b shifted =
      let index = index_for signer.key b.signers in
      let c = with_signer signer s b in
      let within : index ≤ length b.signers = prefix_len-le-length _ b.signers in
      let sponsors : signer_sponsors c ≡ insert (signer_sponsors a) index s =
      sponsors_inserted index signer s b (paid_for s b shifted)
      ∙ ap (λ xs. insert xs index s) shifted.parts.sponsors in
      let sums = λ (g : Option AccountId → ℕ). ap (sum_by g) sponsors ∙ sum_by-insert g (signer_sponsors a) index s in
      let same_length = ap length shifted.parts.signers in
      let longer = length-insert b.signers index signer within in
      let all = as_many_sponsors old h id a held in
      record {
        id = shifted.parts.id;
        counts = λ count. ap (λ n. n + 0) (counts_edited (λ xs. insert xs index s) count b
            (insert b.signers index signer)) ∙ shifted.counts count;
        items = (let more = length-insert (signer_sponsors a) index s (omega arith) in let new = ap length sponsors in
            omega arith);
        parts = λ count i.
            let before = own_of old h id a held count i a own in
            let after = own_of old h id a held count i c (shifted.parts.id ∙ own) in
            let more = signed_more count i id (length a.signers) (length c.signers) (signer_sponsors a)
            (signer_sponsors c) s (omega arith) sums in
            omega arith;
        names = λ i. named_exists old (signer_sponsors a) (signer_sponsors c) s i (let sum =
            sums (λ o. cond (is_this i o) 1 0) in omega arith) (payer i) (signer_exists old h id a held i);
      }

  signer_added : (ctx : Ctx) (signer : Signer) (new : EntryMap) → HasAccount old (payer_of ctx id) → IsApart ctx id
      → map_after_adding_signer ctx id signer old ≡ Ok new → IsEven new
  signer_added ctx signer new payer_exists apart done =
      let s = open_sponsor ctx id in
      let m = map_after_counting id 1 s old in
      let after = map_with_signer id signer s old in
      let tests = have_passed ctx old id 1 after new done in
      let exists = own_exists old h id a held in
      let second = shifted_counting no_shift no_shift 1 old old h.own (unshifted old h.own) id s in
      let once = twice (map_after_charging 1 s old) id (with_subentry 1 s) (with_signer signer s) (charging_own old h s)
      (with_subentry_id s) (λ b. refl) in
      let payer_is : (x : AccountId) → s ≡ Some x → payer_of ctx id ≡ x = λ x pays. ap (payer_by id) pays in
      subst IsEven (once ∙ done_by (subentry_tests_at ctx old id 1) after new done)
      (edited (signer_shift id s) no_shift id (with_signer signer s) old m h second held.entry a held.there held.is
      (with_signer_edits signer s (λ x pays. subst (HasAccount old) (payer_is x pays) payer_exists))
      (λ i. let le = few_more old id i 1 h (has_few old id 1 h exists tests.not_full) in omega arith)
      (λ i. let le = both_more old i id s 1 h (has_room old id 1 h exists tests.owner) (λ x pays. (
        subst (λ y. HasRoom old y 1) (payer_is x pays) (has_room old (payer_of ctx id) 1 h payer_exists tests.payer),
        apart x pays,
      )) in omega arith))

pub adding_signer_keeps : AddingSignerKeeps
adding_signer_keeps ctx id signer old new kept exists payer_exists apart done =
    kept_of new (signer_added old (even old kept) id exists.0
    (held_by old id exists.0 exists.1) ctx signer new payer_exists apart done)
