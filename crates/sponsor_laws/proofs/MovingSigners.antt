-- Moving a signer to another payer keeps counts equal to their sums.
use Rattle.sponsor_laws.proofs.Prelude as prelude
use prelude.{◌≡◌, ◌≢◌, inl, inr, refl, sym, ap, subst, ◌∙◌, ℕ, ◌+◌, ◌<◌, ◌≤◌, cond, length, Option, Some, None, Ok}
use prelude.{slice_set, arith, length-set, AccountId, SignerKey, AccountEntry, EntryMap, Ctx, Sponsoring, Sponsored}
use prelude.{account_at, with_account, HasAccount, signer_sponsor, count_in, with_less, unless_first}
use prelude.{map_after_releasing, map_after_exchange, with_other_payer, payer_other_than, move_tests_at}
use prelude.{map_with_other_payer, found_at, index_of, with_signer_sponsor, found_signer, map_after_moving_found}
use prelude.{map_after_moving_signer_between, with_moved_signer, is_this, is_there, signer_sponsors, PayerExists}
use prelude.{MovingSignerKeeps, counts_edited}
use Rattle.sponsor_rules.specs.ledger_types.declared.key.LedgerKey.TheVariants as key
use Rattle.sponsor_laws.proofs.Even.{AreOwn, IsEven, even, kept_of, all_few}
use Rattle.sponsor_laws.proofs.Shifts.{Shift, plus, no_shift, IsShifted, IsShiftedAccount, unshifted}
use Rattle.sponsor_laws.proofs.Changes.{more_keeps, less_keeps, twice, shifted_raise}
use Rattle.sponsor_laws.proofs.Paying.{AreNone, HasEnough, shared, shifted_payer, shifted_payers}
use Rattle.sponsor_laws.proofs.Parts.{in_total}
use Rattle.sponsor_laws.proofs.Bounds.{done_by, pays_more, HasRoom}
use Rattle.sponsor_laws.proofs.Moving.{other_is, room_of}
use Rattle.sponsor_laws.proofs.Edits.{IsEdited, edited, named_exists, signed, signed_other}
use Rattle.sponsor_laws.proofs.SignerLists.{sponsors_set}
use Rattle.sponsor_laws.proofs.SignedAccounts.{there_is, IsHeld, held_by, own_id, as_many_sponsors, signer_exists}
use Rattle.sponsor_laws.proofs.SignedAccounts.{own_sum, own_of, own_share, sum-with, counts_sponsored, sponsor_enough}
use Rattle.sponsor_laws.proofs.SignedAccounts.{index_within_signers}

with_other_payer_id : (s t : Option AccountId) (b : AccountEntry) → (with_other_payer 1 s t b).account_id ≡ b.account_id
with_other_payer_id None None b = refl
with_other_payer_id None (Some t) b = more_keeps Sponsored 1 b
with_other_payer_id (Some s) None b = less_keeps Sponsored 1 b
with_other_payer_id (Some s) (Some t) b = more_keeps Sponsored 1 (with_less Sponsored 1 b) ∙ less_keeps Sponsored 1 b

module _ (old : EntryMap) (h : IsEven old) (id : AccountId) (a : AccountEntry) (held : IsHeld old id a) (index : ℕ)
    (within : index < length a.signers) where
  own : a.account_id ≡ id
  own = own_id old h id a held

  -- what the new sponsor pays, and what the old one no longer does
  abbrev enters : Option AccountId → Shift
  enters t = plus no_shift (shared 1 (Some id) t)

  abbrev goes : Shift
  goes = plus no_shift (shared 1 (Some id) (signer_sponsor a index))

  -- an account has the extension, once something is paid for it
  paid_for : (t : Option AccountId) (b : AccountEntry) → IsShiftedAccount (enters t) goes a b → t ≢ None
      → 1 ≤ count_in Sponsored b
  paid_for t b shifted some =
      let moved = shifted.counts Sponsored in
      let one : ◌≡◌ {A = ℕ} (cond (is_there t) 1 0) 1 = ap (λ x. cond x 1 0) (there_is t some) in
      let new = own_share old h id a held t in
      let was = own_share old h id a held (signer_sponsor a index) in
      let sum = own_sum old h id a held Sponsored in
      let le = in_total old (key.Account id) held.entry Sponsored id held.there in
      let part = counts_sponsored old h id a held index within in
      omega arith

  with_sponsor_edits : (t : Option AccountId) → ((x : AccountId) → t ≡ Some x → HasAccount old x) → (b : AccountEntry)
      → IsShiftedAccount (enters t) goes a b
      → IsEdited (enters t) goes old a (with_signer_sponsor index t b)
  with_sponsor_edits t payer b shifted =
      let c = with_signer_sponsor index t b in
      let sponsors : signer_sponsors c ≡ slice_set (signer_sponsors a) index t =
      sponsors_set index t b (paid_for t b shifted) ∙ ap (λ xs. slice_set xs index t) shifted.parts.sponsors in
      let same_length : length c.signers ≡ length a.signers = ap length shifted.parts.signers in
      let sums = sum-with old h id a held index within (signer_sponsors c) t sponsors in
      record {
        id = shifted.parts.id;
        counts = λ count. ap (λ n. n + goes count a.account_id)
            (counts_edited (λ xs. slice_set xs index t) count b b.signers) ∙ shifted.counts count;
        items = ap length sponsors ∙ length-set (signer_sponsors a) index t ∙ as_many_sponsors old h id a held
            ∙ sym same_length;
        parts = λ count i.
            let before = own_of old h id a held count i a own in
            let after = own_of old h id a held count i c (shifted.parts.id ∙ own) in
            let as_long : signed count i id (length c.signers) (signer_sponsors c)
            ≡ signed count i id (length a.signers) (signer_sponsors c) =
            ap (λ n. signed count i id n (signer_sponsors c)) same_length in
            let other = signed_other count i id (length a.signers) (signer_sponsors a) (signer_sponsors c)
            (signer_sponsor a index) t sums in
            omega arith;
        names = λ i. named_exists old (signer_sponsors a) (signer_sponsors c) t i (let sum =
            sums (λ o. cond (is_this i o) 1 0) in omega arith) (payer i) (signer_exists old h id a held i);
      }

  -- what is moved has enough to let go of
  enough_of : (x : AccountId) → signer_sponsor a index ≡ Some x
      → HasEnough no_shift no_shift Sponsored 1 id old × HasEnough no_shift no_shift Sponsoring 1 x old
  enough_of = sponsor_enough old h id a held index within no_shift refl (λ i. refl)

  exchange_own : (s t : Option AccountId) → ((x : AccountId) → s ≡ Some x
      → HasEnough no_shift no_shift Sponsoring 1 x old) → AreOwn (map_after_exchange 1 s t old)
  exchange_own s None enough = (shifted_payer no_shift no_shift 1 old old h.own (unshifted old h.own) s enough).own
  exchange_own s (Some t) enough =
      let released = shifted_payer no_shift no_shift 1 old old h.own (unshifted old h.own) s enough in
      (shifted_raise no_shift (plus no_shift (shared 1 None s)) Sponsoring 1 t old
      (map_after_releasing 1 s old) h.own released).own

  moved_between : (t : Option AccountId) → ((x : AccountId) → t ≡ Some x → HasAccount old x)
      → ((x : AccountId) → t ≡ Some x → HasRoom old x 1)
      → IsShifted (enters t) goes old (map_with_other_payer id 1 (signer_sponsor a index) t old)
      → IsEven (with_account (map_after_exchange 1 (signer_sponsor a index) t old) id
      (with_moved_signer index (signer_sponsor a index) t))
  moved_between t payer room second =
      let s = signer_sponsor a index in
      let once = twice (map_after_exchange 1 s t old) id (with_other_payer 1 s t) (with_signer_sponsor index t)
      (exchange_own s t (λ x pays. (enough_of x pays).1)) (with_other_payer_id s t) (λ b. refl) in
      subst IsEven once (edited (enters t) goes id (with_signer_sponsor index t) old
      (map_with_other_payer id 1 s t old) h second held.entry a held.there held.is (with_sponsor_edits t payer)
      (λ i. let le = all_few old i h in omega arith)
      (λ i. let le = pays_more old i t 1 h room in omega arith))

  none_done : (ctx : Ctx) (s t : Option AccountId) (new : EntryMap) → s ≡ None → t ≡ None
      → map_after_moving_signer_between ctx id index s t old ≡ Ok new → old ≡ new
  none_done ctx None None new was none done = cc
  none_done ctx None (Some t) new was none done = absurd (cc)
  none_done ctx (Some x) t new was none done = absurd (cc)

  between_done : (ctx : Ctx) (s t : Option AccountId) (new : EntryMap) → (AreNone s t → ⊥)
      → map_after_moving_signer_between ctx id index s t old ≡ Ok new
      → unless_first (move_tests_at ctx old id t 1) (with_account (map_after_exchange 1 s t old) id
      (with_moved_signer index s t)) ≡ Ok new
  between_done ctx None None new some done = absurd (some (refl, refl))
  between_done ctx s t new some done = done

  signer_moved : (ctx : Ctx) (t : Option AccountId) (new : EntryMap) → ((x : AccountId) → t ≡ Some x → HasAccount old x)
      → map_after_moving_signer_between ctx id index (signer_sponsor a index) t old ≡ Ok new → IsEven new
  signer_moved ctx t new payer done =
      let s = signer_sponsor a index in
      let after = with_account (map_after_exchange 1 s t old) id (with_moved_signer index s t) in
      elim (shifted_payers no_shift no_shift 1 old old h.own (unshifted old h.own) id s t enough_of) [
        | inl none ↦ subst IsEven (none_done ctx s t new none.0 none.1 done) h
        | inr some ↦
            let tested = between_done ctx s t new some.0 done in
            subst IsEven (done_by (move_tests_at ctx old id t 1) after new tested)
            (moved_between t payer (room_of old h ctx id t 1 after new payer tested) some.1)
      ]

module _ (old : EntryMap) (h : IsEven old) (id : AccountId) (key : SignerKey) (ctx : Ctx) (payer : Option AccountId)
    (new : EntryMap) (payer_exists : PayerExists payer old) where
  moved_at : (a : AccountEntry) (o : Option ℕ) → account_at old id ≡ Some a → index_of key a.signers ≡ o
      → map_after_moving_found ctx id payer old (found_at a o) ≡ Ok new → IsEven new
  moved_at a None exists found done = subst IsEven (cc) h
  moved_at a (Some index) exists found done =
      let t = payer_other_than id payer in
      let within = index_within_signers key a.signers index found in
      signer_moved old h id a (held_by old id a exists) index within ctx t new
      (λ x is. payer_exists x (other_is id payer x is)) done

  moved_from : (o : Option AccountEntry) → account_at old id ≡ o
      → map_after_moving_found ctx id payer old (found_signer key o) ≡ Ok new → IsEven new
  moved_from None exists done = subst IsEven (cc) h
  moved_from (Some a) exists done = moved_at a (index_of key a.signers) exists refl done

pub moving_signer_keeps : MovingSignerKeeps
moving_signer_keeps ctx id key payer old new kept payer_exists done =
    kept_of new (moved_from old (even old kept) id key ctx payer new payer_exists (account_at old id) refl done)
