-- ACCOUNT_MERGE is lawful.
use Rattle.op_laws.proofs.Prelude as prelude
use prelude.{◌≡◌, ◌≢◌, refl, sym, ap, subst, ◌∙◌, ℕ, ◌-◌, ◌<◌, Bool, true, false, not, nat_eq, nat_lt, cond}
use prelude.{List, [], ◌∷◌, length, get_or, All, Option, Some, None, arith, ints, eqb-true}
use prelude.{All-nil, All-cons, position_or_len_is, ℤ, pos, neg_ℤ, ◌+ℤ◌, ◌≤ℤ◌, if◌then◌else◌, list_any, is_eq}
use prelude.{AccountId, Asset, AccountEntry, Signer, account_of, asset_cmp, signer_key_cmp, EntryMap, erase}
use prelude.{account_in_entry, account_at, with_account, num_sponsoring, signer_sponsor, sponsor_of, part, Ctx}
use prelude.{Sponsorship, charge_of, count_in, with_less, map_after_releasing, without_subentry, is_same_account}
use prelude.{map_without_charge, map_after_removing, map_after_removing_entry, index_of, found_at, found_signer}
use prelude.{without_counted_signer, map_without_signer, map_after_removing_signer, same_account, apart_accounts}
use prelude.{with_count_is, with_count_keeps, counts_edited, View, view, nothing_owed, IsLegalOwing}
use prelude.{AreSponsorshipsSound, held, held_in, lumens_of, account_legal, nothing_settled, account_after}
use prelude.{account_elsewhere, counts_sponsoring, paid_by_other, signer_removed, account_entry, legal_as}
use prelude.{map_without_signers, map_without_account}
use prelude.{account_merge, with_more_lumens, map_after_lumens_credit, is_open_sponsor, IsLawful}
use prelude.{AreLawful, IsUnderway, releasing_kept, erase_beside, IsTaken, taken_legal, taken_left, pays_less, IsKeyed}
use prelude.{none_more, both_more, for_one, HoldsMore, holds_both, holds_as, still_holds, erase_holds, cancelled}
use prelude.{IsAfter, Leaves, leaves_itself, leaves_both, keeps_both}
use prelude.{erase_there, suc_minus_one, zero_add, not-false, or_parts, credit_is_taken}
use Rattle.std.proofs.Common.{remove}
use Rattle.op_flags.specs.ledger_types.declared.asset.Asset.TheVariants as asset
use Rattle.op_flags.specs.ledger_types.declared.key.LedgerKey.TheVariants as key
use Rattle.op_flags.specs.sponsor_rules.declared.count.Count.TheVariants as count
use Rattle.op_flags.proofs.sponsor_laws_proofs.Accounts.{with_count-keeps}
use Rattle.op_flags.proofs.legal_rules_proofs.Merging.{removed_account}
use Rattle.op_flags.specs.op_types.declared.account_ops.AccountMergeOp.{AccountMergeOp}
use Rattle.op_flags.specs.op_types.declared.account_results.AccountMergeResult.TheVariants as merge
use Rattle.op_account.specs.AccountMerge.{answer, merge_move}
use Rattle.op_laws.proofs.Lawful.{KeepsLegal, AreEachAfter, terms_kept, lawful_by}
use Rattle.op_laws.proofs.Lumens.{lumens_described, none_issued}
use Rattle.op_laws.proofs.Signers.{signer_kept, without_core}
use Rattle.op_laws.proofs.SetOptions.{is_its_key}
use Rattle.op_form.proofs.Steps.{done_so, anything}
use Rattle.op_form.proofs.Walks.{succeeded}
use Rattle.op_account.proofs.AccountSteps.{merge_steps}

-- ---- an account without its first signer

-- it is the first
at_first : (x : Signer) (xs : List Signer) → index_of x.key (x ∷ xs) ≡ Some 0
unfolding index_of
at_first x xs =
    let p = λ (y : Signer). is_eq (signer_key_cmp y.key x.key) in
    let at = position_or_len_is p (x ∷ xs) 0 x (omega arith) (λ k lt. absurd (omega arith)) (λ lt. is_its_key x.key) in
    ap (λ n. cond (nat_lt n (length (x ∷ xs))) (Some n) None) at ∙ ap (λ t. cond t (Some 0) None)
    (nat_lt_true 0 (length (x ∷ xs)) (omega arith))
  where
    nat_lt_true : (n k : ℕ) → n < k → nat_lt n k ≡ true
    nat_lt_true n k lt = grind arith

-- an account with a subentry less: how many it has, for how many it pays, and its signers
abbrev HasLess : AccountEntry → AccountEntry → Type 0
HasLess b c =
    (c.num_sub_entries ≡ b.num_sub_entries - 1) × (num_sponsoring c ≡ num_sponsoring b) × (c.signers ≡ b.signers)

less_itself : (b : AccountEntry) → HasLess b (with_less count.SubEntries 1 b)
less_itself b = (
  with_count_is count.SubEntries (b.num_sub_entries - 1) b,
  with_count_keeps count.SubEntries count.Sponsoring (b.num_sub_entries - 1) b (λ e. absurd (cc e)),
  (with_count-keeps count.SubEntries (b.num_sub_entries - 1) b).signers,
)

less_subentry : (s : Option AccountId) (b : AccountEntry) → HasLess b (without_subentry 1 s b)
less_subentry None b = less_itself b
less_subentry (Some x) b =
    let c = with_less count.SubEntries 1 b in
    let n = count_in count.Sponsored c - 1 in
    let first = less_itself b in (
      with_count_keeps count.Sponsored count.SubEntries n c (λ e. absurd (cc e)) ∙ first.0,
      with_count_keeps count.Sponsored count.Sponsoring n c (λ e. absurd (cc e)) ∙ first.1,
      (with_count-keeps count.Sponsored n c).signers ∙ first.2,
    )

-- what remains without its first signer
record IsUnsigned (xs : List Signer) (b c : AccountEntry) : Type 0 where
  signers : c.signers ≡ xs
  subentries : c.num_sub_entries ≡ b.num_sub_entries - 1
  pays : num_sponsoring c ≡ num_sponsoring b
  balance : c.balance ≡ b.balance

first_unsigned : (x : Signer) (xs : List Signer) (s : Option AccountId) (b : AccountEntry) → b.signers ≡ x ∷ xs
    → IsUnsigned xs b (without_counted_signer (record { index = 0; sponsor = s }) b)
first_unsigned x xs s b is =
    let c = without_subentry 1 s b in
    let less = less_subentry s b in
    let change = λ (ys : List (Option AccountId)). remove ys 0 in
    record {
      signers = ap (λ (ys : List Signer). remove ys 0) (less.2 ∙ is);
      subentries = counts_edited change count.SubEntries c (remove c.signers 0) ∙ less.0;
      pays = counts_edited change count.Sponsoring c (remove c.signers 0) ∙ less.1;
      balance = (without_core 0 s b).balance;
    }

-- ---- the map without it

module _ (v : View) (id_pool base : ℕ) (sum : ℤ) (src : AccountId) where
  module _ (m : EntryMap) (legal : IsLegalOwing v id_pool nothing_owed sum m) (x : Signer) (xs : List Signer)
      (b : AccountEntry) (existing : account_at m src ≡ Some b) (is : b.signers ≡ x ∷ xs) where
    abbrev s : Option AccountId
    s = signer_sponsor b 0

    within : 0 < length b.signers
    within = subst (λ (ys : List Signer). 0 < length ys) (sym is) (omega arith)

    abbrev now : EntryMap
    now = map_after_releasing 1 s m

    keyed_now : IsKeyed now
    keyed_now = (releasing_kept base 1 s m legal.keyed).keyed

    still_by : (o : Option AccountId) → s ≡ o → account_at (map_after_releasing 1 o m) src ≡ account_at m src
    still_by None to = refl
    still_by (Some y) to =
        let payer = counts_sponsoring v id_pool nothing_owed sum m legal nothing_settled src b existing 0 within y to in
        account_elsewhere m y (with_less count.Sponsoring 1) payer.account legal.keyed payer.exists
        (pays_less 1 payer.account).core.id src
        (λ same. paid_by_other v id_pool nothing_owed sum m legal nothing_settled
        src b existing 0 within y to (ap key.Account same))

    abbrev f : AccountEntry → AccountEntry
    f = without_counted_signer (record { index = 0; sponsor = s })

    removed_is : map_after_removing_signer src x.key m ≡ with_account now src f
    removed_is =
        ap (λ o. map_without_signer src m (found_signer x.key o)) existing
        ∙ ap (λ o. map_without_signer src m (found_at b o)) (ap (index_of x.key) is ∙ at_first x xs)

    pub first_removed : account_at (map_after_removing_signer src x.key m) src ≡ Some (f b)
    first_removed =
        ap (λ n. account_at n src) removed_is
        ∙ account_after now src f b keyed_now (still_by s refl ∙ existing) (without_core 0 s b).id

-- ---- all signers

-- an account without signers and subentries, that pays for nobody
record IsBare (id_pool base : ℕ) (src : AccountId) (balance : ℤ) (m new : EntryMap) : Type 0 where
  account : AccountEntry
  existing : account_at new src ≡ Some account
  subentries : account.num_sub_entries ≡ 0
  pays : num_sponsoring account ≡ 0
  same : account.balance ≡ balance
  legal : KeepsLegal id_pool m new
  leaves : Leaves base none_more m new

module _ (v : View) (id_pool base : ℕ) (sum : ℤ) (src : AccountId) where
  bare : (xs : List Signer) (m : EntryMap) → IsLegalOwing v id_pool nothing_owed sum m → (b : AccountEntry)
      → account_at m src ≡ Some b → b.signers ≡ xs → b.num_sub_entries ≡ length xs → num_sponsoring b ≡ 0
      → IsBare id_pool base src b.balance m (map_without_signers src xs m)
  unfolding map_without_signers
  bare [] m legal b existing is subs pays = record {
    account = b;
    existing = existing;
    subentries = subs;
    pays = pays;
    same = refl;
    legal = λ w n had. had;
    leaves = leaves_itself base m legal.keyed;
  }
  bare (x ∷ xs) m legal b existing is subs pays =
      let now = map_after_removing_signer src x.key m in
      let c = without_counted_signer (record { index = 0; sponsor = signer_sponsor b 0 }) b in
      let less = first_unsigned x xs (signer_sponsor b 0) b is in
      let rest = bare xs now
      (signer_removed v id_pool nothing_owed sum src x.key m legal nothing_settled) c
      (first_removed v id_pool base sum src m legal x xs b existing is) less.signers
      (less.subentries ∙ suc_minus_one b.num_sub_entries (length xs) subs) (less.pays ∙ pays) in
      record {
        account = rest.account;
        existing = rest.existing;
        subentries = rest.subentries;
        pays = rest.pays;
        same = rest.same ∙ less.balance;
        legal = λ w n had. rest.legal w n (signer_removed w id_pool nothing_owed n src x.key m had nothing_settled);
        leaves = keeps_both base m now (map_without_signers src xs now)
            (signer_kept v id_pool sum m legal base src x.key) rest.leaves;
      }

-- ---- the account is removed

-- accounts after one of them, which had a balance, is removed
record IsGone (base : ℕ) (src : AccountId) (balance : ℤ) (m new : EntryMap) : Type 0 where
  gone : account_at new src ≡ None
  now : EntryMap
  leaves : Leaves base none_more m now
  others : (id : AccountId) → id ≢ src → account_at new id ≡ account_at now id
  holds : HoldsMore (for_one src (neg_ℤ balance)) m new

nobody : (m : EntryMap) (id : AccountId) → account_at (erase m (key.Account id)) id ≡ None
unfolding account_at
nobody m id = ap account_in_entry (erase_there m (key.Account id))

removed_gone : (base : ℕ) (src : AccountId) (m : EntryMap) → IsKeyed m → (a : AccountEntry) → account_at m src ≡ Some a
    → IsGone base src a.balance m (map_after_removing (key.Account src) m)
removed_gone base src m keyed a existing =
    let found = account_entry m src a existing in
    let s = sponsor_of found.0 in
    let now = map_after_releasing 2 s m in
    let kept = releasing_kept base 2 s m keyed in
    let less = λ (x : Asset). lumens_of x (neg_ℤ a.balance) in
    subst (IsGone base src a.balance m)
    (ap (λ b. erase (map_without_charge (charge_of b) s m) (key.Account src)) (sym found.1.is)
    ∙ ap (map_after_removing_entry (key.Account src) m) (sym found.1.there))
    (record {
      gone = nobody now src;
      now = now;
      leaves = kept;
      others = λ id apart. erase_beside now (key.Account src) id (λ same. apart (cc));
      holds = holds_as (both_more none_more (for_one src (neg_ℤ a.balance))) (for_one src (neg_ℤ a.balance)) m
          (erase now (key.Account src))
          (holds_both none_more (for_one src (neg_ℤ a.balance)) m now (erase now (key.Account src)) kept.holds
          (erase_holds now (key.Account src) less (λ x. ap (λ n. n +ℤ less x)
          (still_holds m now kept.holds (key.Account src) x ∙ ap (part (held x)) found.1.there
          ∙ ap (held_in x) found.1.is) ∙ cancelled (is_eq (asset_cmp x asset.Native)) a.balance)))
          (λ k x. zero_add (for_one src (neg_ℤ a.balance) k x));
    })

-- ---- the operation

given_up : (t : Bool) (sum n k : ℤ) → n ≡ k
    → ((sum +ℤ (if t then k else pos 0)) +ℤ neg_ℤ (if t then n else pos 0)) ≡ sum
given_up true sum n k same = omega (arith, ints)
given_up false sum n k same = omega (arith, ints)

none_passes : (p : Sponsorship → Bool) (xs : List Sponsorship) → list_any p xs ≡ false → All (λ x. p x ≡ false) xs
none_passes p [] is = All-nil (λ x. p x ≡ false)
none_passes p (x ∷ xs) is =
    let both = or_parts (p x) (list_any p xs) is in
    All-cons (λ y. p y ≡ false) x xs both.0 (none_passes p xs both.1)

no_sponsor : (ctx : Ctx) (id : AccountId) → is_open_sponsor ctx id ≡ false
    → All (λ s. is_same_account s.sponsor id ≡ false) ctx.sponsorships
unfolding is_open_sponsor
no_sponsor ctx id is = none_passes (λ s. is_same_account s.sponsor id) ctx.sponsorships is

none_between : (d e : ℤ) → ((d +ℤ pos 0) +ℤ e) ≡ (d +ℤ e)
none_between d e = omega (arith, ints)

module _ (ctx : Ctx) (op : AccountMergeOp) (m : EntryMap) (under : IsUnderway ctx m) (a : AccountEntry)
    (existing : account_at m ctx.op_source ≡ Some a) (apart : account_of op.destination ≢ ctx.op_source)
    (signed : a.num_sub_entries ≡ length a.signers) (pays : num_sponsoring a ≡ 0)
    (opens : is_open_sponsor ctx ctx.op_source ≡ false) where
  abbrev src : AccountId
  src = ctx.op_source

  abbrev dest : AccountId
  dest = account_of op.destination

  abbrev base : ℕ
  base = ctx.base_reserve

  low : pos 0 ≤ℤ a.balance
  low = (account_legal (view m) ctx.id_pool nothing_owed _ m src a under.settled.legal existing).range.range.balance

  module _ (paid : EntryMap) (h : IsTaken dest a.balance m paid) where
    first : Leaves base (for_one dest a.balance) m paid
    first = taken_left base dest a.balance m paid h low under.settled.legal.keyed

    still : account_at paid src ≡ Some a
    still =
        ap (λ n. account_at n src) (sym h.is)
        ∙ account_elsewhere m dest (with_more_lumens a.balance) h.account under.settled.legal.keyed h.exists refl src
        (λ same. apart (sym same)) ∙ existing

    abbrev unsigned : EntryMap
    unsigned = map_without_signers src a.signers paid

    bared : IsBare ctx.id_pool base src a.balance paid unsigned
    bared = bare (view m) ctx.id_pool base _ src a.signers paid
        (taken_legal (view m) ctx.id_pool _ dest a.balance m paid h low under.settled.legal) a still refl signed pays

    abbrev new : EntryMap
    new = map_without_account src a paid

    gone : IsGone base src bared.account.balance unsigned new
    gone = removed_gone base src unsigned bared.leaves.keyed bared.account bared.existing

    merged_legal : KeepsLegal ctx.id_pool m new
    merged_legal v sum legal =
        legal_as v _ nothing_owed nothing_owed _ sum new
        (removed_account v ctx.id_pool (sum +ℤ lumens_of v.asset a.balance) unsigned src bared.account
        (bared.legal v (sum +ℤ lumens_of v.asset a.balance)
        (taken_legal v ctx.id_pool sum dest a.balance m paid h low legal))
        bared.existing bared.subentries bared.pays) (λ kind k. refl)
        (given_up (is_eq (asset_cmp v.asset asset.Native)) sum bared.account.balance a.balance bared.same)

    -- what holds before the account goes
    before : Leaves base (both_more (both_more (for_one dest a.balance) none_more) none_more) m gone.now
    before = leaves_both base (both_more (for_one dest a.balance) none_more) none_more m unsigned gone.now
        (leaves_both base (for_one dest a.balance) none_more m paid unsigned first bared.leaves) gone.leaves

    merged_holds : HoldsMore (both_more (for_one dest a.balance) (for_one src (neg_ℤ a.balance))) m new
    merged_holds =
        let to = for_one dest a.balance in
        let less = for_one src (neg_ℤ bared.account.balance) in
        holds_as (both_more (both_more to none_more) less) (both_more to (for_one src (neg_ℤ a.balance))) m new
        (holds_both (both_more to none_more) less m unsigned new
        (holds_both to none_more m paid unsigned first.holds bared.leaves.holds) gone.holds)
        (λ k x. none_between (to k x) (less k x) ∙ (λ i. to k x +ℤ for_one src (neg_ℤ (bared.same i)) k x))

    merged_each : AreEachAfter base m new
    merged_each id = elim (is_same_account src id) as (λ b. is_same_account src id ≡ b
        → IsAfter base (account_at m id) (account_at new id)) [
          | true ↦ λ tied.
              let none : account_at new id ≡ None = ap (account_at new) (sym (same_account src id tied)) ∙ gone.gone in
              subst (λ o. IsAfter base (account_at m id) o) (sym none) (record { covered = λ b is. absurd (cc) })
          | false ↦ λ differ.
              let other = apart_accounts src id differ in
              subst (λ o. IsAfter base (account_at m id) o) (sym (gone.others id (λ same. other (sym same))))
              (before.each id)
        ] refl

    merged_sound : AreSponsorshipsSound ctx new
    merged_sound = record {
      once = under.sponsorships.once;
      other = under.sponsorships.other;
      exist = λ k d lt.
          let sponsor = (get_or ctx.sponsorships k d).sponsor in
          let had = before.exist sponsor (under.sponsorships.exist k d lt) in
          (had.0, gone.others sponsor (apart_accounts sponsor src (no_sponsor ctx src opens k d lt)) ∙ had.1);
    }

  merged : (paid : EntryMap) → map_after_lumens_credit dest a.balance m ≡ Some paid
      → IsLawful ctx m (succeeded ctx (answer (merge.Success a.balance)) (map_without_account src a paid)
      (merge_move ctx op a ∷ []))
  merged paid is =
      let h = credit_is_taken dest a.balance m paid is in
      lawful_by ctx m under (both_more (for_one dest a.balance) (for_one src (neg_ℤ a.balance))) _
      (merged_legal paid h) (merged_each paid h) (merged_holds paid h) (lumens_described src dest a.balance)
      (none_issued src dest a.balance) (terms_kept ctx) refl (merged_sound paid h)

pub account_merge_is_lawful : AreLawful account_merge
account_merge_is_lawful ctx op m done under existing is =
    done_so anything (IsLawful ctx m) (account_merge ctx op m) done (merge_steps anything (IsLawful ctx m) ctx op m
    (λ a paid pass there may taken.
    let both = or_parts (not (nat_eq (num_sponsoring a) 0)) (is_open_sponsor ctx ctx.op_source) may.1.1.1.0 in
    merged ctx op m under a there (apart_accounts (account_of op.destination) ctx.op_source pass.0)
    (eqb-true a.num_sub_entries (length a.signers) (not-false _ may.1.0))
    (eqb-true (num_sponsoring a) 0 (not-false _ both.0)) both.1 paid taken)) is
