-- SET_OPTIONS is lawful.
use Rattle.op_laws.proofs.Prelude as prelude
use prelude.{◌≡◌, ◌≢◌, inr, refl, sym, ap, subst, ◌∙◌, ℕ, ◌<◌, ◌≤◌, Bool, true, false, cond, not, ◌&&◌, nat_eq}
use prelude.{nat_lt, nat_le, bit_and, List, [], length, get_or, All, insert, Option, Some, None, Result, Ok, arith}
use prelude.{ints, position-Some, fails_before_first, pos, unwrap_or, if◌then◌else◌, position_or_len, is_eq}
use prelude.{ordering_reverse, Ordering, Less, Equal, Greater, bytes_eq-Decides, AccountId, AccountEntry, Signer}
use prelude.{SignerKey, signer_key_cmp, signer_keys_total, signer_keys_exact, is_valid_text, EntryMap, account_at}
use prelude.{with_account, signer_sponsor, first_fault, Ctx, with_more, KeepsCore, map_after_charging}
use prelude.{map_after_releasing, with_subentry, open_sponsor, subentry_tests_at, index_for, index_of, found_at}
use prelude.{found_signer, with_counted_signer, map_with_signer, map_after_adding_signer, without_counted_signer}
use prelude.{map_without_signer, map_after_removing_signer, counts_edited, with_sponsors_core, core_kept_twice}
use prelude.{index_within_signers, KeepsAggregates, view, nothing_owed, IsAccountInRange, IsSponsorReady, lumens_of}
use prelude.{account_legal, account_changed, sponsors_ready, nothing_settled, account_after, account_elsewhere}
use prelude.{signer_added, signer_removed, legal_as, SetOptionsOp, OperationResult}
use prelude.{after_charge, with_signer_set, count_tests, map_after_weighing, map_after_signer, has_unknown}
use prelude.{◌||◌, is_own_key, is_bad_signer, is_bad_domain, new_flags, source_tests}
use prelude.{with_options, set_options, IsLawful, AreLawful, IsUnderway, charged_kept}
use prelude.{charging_left, releasing_kept, released_at, pays_more, subentry_charged, next_edited, IsKeyed, none_more}
use prelude.{IsNext, Leaves, leaves_itself, keeps_both, account_kept, first_passed, went_on}
use prelude.{went_after_charge, add_sub_self, add_zero, not-false, or_parts, Equal-is, unless_first_ok}
use borrow.Author.Tests.{ltb-false}
use Rattle.op_flags.specs.ledger_types.declared.signer.SignerKey.TheVariants as signer
use Rattle.op_flags.specs.sponsor_rules.declared.count.Count.TheVariants as count
use Rattle.op_flags.specs.legal_rules.SignerLaws.{IsNewSigner}
use Rattle.op_flags.specs.op_types.declared.account_results.SetOptionsResult.TheVariants as set
use Rattle.op_options.specs.OptionTests.{answer, is_bad_payload}
use Rattle.op_laws.proofs.Flags.{flags_set}
use Rattle.op_laws.proofs.Lawful.{KeepsLegal, lawful_still}
use Rattle.op_laws.proofs.Signers.{without_core}
use Rattle.op_laws.proofs.Signers.{signer_kept}
use Rattle.op_laws.proofs.SignerWeights.{weighed_legal, weighed_left}
use Rattle.op_form.proofs.Steps.{done_so, anything, AllPass}
use Rattle.op_form.proofs.Walks.{succeeded}
use Rattle.op_options.proofs.OptionSteps.{options_steps}

-- ---- keys of signers

self_equal : (o : Ordering) → o ≡ ordering_reverse o → o ≡ Equal
self_equal Less is = absurd (cc)
self_equal Equal is = refl
self_equal Greater is = absurd (cc)

pub is_its_key : (k : SignerKey) → is_eq (signer_key_cmp k k) ≡ true
is_its_key k = ap is_eq (self_equal (signer_key_cmp k k) (signer_keys_total.antisymm k k))

not_passed : (t : Bool) (n : ℕ) → cond t (Some n) None ≡ None → t ≡ false
not_passed true n is = absurd (cc)
not_passed false n is = refl

-- a key that no signer has
no_index : (which : SignerKey) (xs : List Signer) → index_of which xs ≡ None → All (λ x. x.key ≢ which) xs
unfolding index_of
no_index which xs none k d lt same =
    let p = λ (x : Signer). is_eq (signer_key_cmp x.key which) in
    let le = ltb-false (position_or_len p xs) (length xs) (not_passed _ (position_or_len p xs) none) in
    let fails = fails_before_first p xs k d (omega arith) in
    let passes : p (get_or xs k d) ≡ true = ap (λ y. is_eq (signer_key_cmp y which)) same ∙ is_its_key which in
    absurd (cc)

-- the key of the signer that was found
its_index : (which : SignerKey) (xs : List Signer) (index : ℕ) → index_of which xs ≡ Some index → (d : Signer)
    → (get_or xs index d).key ≡ which
unfolding index_of
its_index which xs index found d =
    let p = λ (x : Signer). is_eq (signer_key_cmp x.key which) in
    let at = position-Some p xs index d found in
    signer_keys_exact (get_or xs index d).key which
    ((Equal-is (signer_key_cmp (get_or xs index d).key which)).0 at.1)

not_own : (id : AccountId) (k : SignerKey) → is_own_key id k ≡ false → k ≢ signer.Ed25519 id.0
not_own id k test same =
    let own : is_own_key id k ≡ true = ap (is_own_key id) same ∙ (bytes_eq-Decides id.0 id.0).1 refl in
    absurd (cc)

-- ---- a change of one account, seen there

changed_flags : (now : EntryMap) → IsKeyed now → (id : AccountId) (f : AccountEntry → AccountEntry) (a b : AccountEntry)
    → account_at now id ≡ Some a → KeepsCore a (f a) → account_at (with_account now id f) id ≡ Some b
    → b.flags ≡ a.flags
changed_flags now keyed id f a b exists core there =
    let here = account_after now id f a keyed exists core.id in
    let same : f a ≡ b = cc in
    ap (λ (x : AccountEntry). x.flags) (sym same) ∙ core.flags

-- ---- the signer

module _ (ctx : Ctx) (m : EntryMap) (under : IsUnderway ctx m) (a : AccountEntry)
    (exists : account_at m ctx.op_source ≡ Some a) where
  abbrev src : AccountId
  src = ctx.op_source

  abbrev base : ℕ
  base = ctx.base_reserve

  keyed : IsKeyed m
  keyed = under.settled.legal.keyed

  -- a map in which the signer is set, and the source has its flags
  record IsSigned (signed : EntryMap) : Type 0 where
    legal : KeepsLegal ctx.id_pool m signed
    leaves : Leaves base none_more m signed
    flags : (b : AccountEntry) → account_at signed src ≡ Some b → b.flags ≡ a.flags

  itself_signed : IsSigned m
  itself_signed = record {
    legal = λ v sum legal. legal;
    leaves = leaves_itself base m keyed;
    flags = λ b there. let same : b ≡ a = cc in ap (λ (x : AccountEntry). x.flags) same;
  }

  -- ---- removed

  removed_flags_at : (which : SignerKey) (o : Option ℕ) → index_of which a.signers ≡ o → (b : AccountEntry)
      → account_at (map_without_signer src m (found_at a o)) src ≡ Some b → b.flags ≡ a.flags
  removed_flags_at which None found b there = let same : b ≡ a = cc in ap (λ (x : AccountEntry). x.flags) same
  removed_flags_at which (Some index) found b there =
      let s = signer_sponsor a index in
      let now = map_after_releasing 1 s m in
      let first = releasing_kept base 1 s m keyed in
      let at = first.exist src (a, exists) in
      let r = released_at base 1 s m keyed src at.0 at.1 in
      let was = r.existed in
      let same : r.was ≡ a = cc in
      let f = without_counted_signer (record { index = index; sponsor = s }) in
      let core = without_core index s at.0 in
      changed_flags now first.keyed src f at.0 b at.1 core there ∙ r.core.flags
      ∙ ap (λ (x : AccountEntry). x.flags) same

  removed_signed : (which : SignerKey) → IsSigned (map_after_removing_signer src which m)
  removed_signed which = record {
    legal = λ v sum legal. signer_removed v ctx.id_pool nothing_owed sum src which m legal nothing_settled;
    leaves = signer_kept (view m) ctx.id_pool _ m under.settled.legal base src which;
    flags = λ b there. removed_flags_at which (index_of which a.signers) refl b
        (ap (λ o. account_at (map_without_signer src m (found_signer which o)) src) (sym exists) ∙ there);
  }

  -- ---- added

  ready : IsSponsorReady ctx src m
  ready = sponsors_ready ctx m src under.sponsorships

  -- who pays is another account
  still_there : (t : Option AccountId) → open_sponsor ctx src ≡ t
      → account_at (map_after_charging 1 t m) src ≡ account_at m src
  still_there None is = refl
  still_there (Some x) is =
      let payer = ready.exists x is in
      account_elsewhere m x (with_more count.Sponsoring 1) payer.0 keyed payer.1 (pays_more 1 payer.0).core.id src
      (λ same. ready.other x is (sym same))

  module _ (s : Signer) where
    abbrev t : Option AccountId
    t = open_sponsor ctx src

    abbrev now : EntryMap
    now = map_after_charging 1 t m

    signed_core : (c : AccountEntry) → KeepsCore c (with_counted_signer s t c)
    signed_core c =
        let b = with_subentry 1 t c in
        let index = index_for s.key b.signers in
        core_kept_twice c b (with_counted_signer s t c) (subentry_charged 1 t c).core
        (with_sponsors_core (λ (xs : List (Option AccountId)). insert xs index t) b (insert b.signers index s))

    signed_next : (c : AccountEntry) → account_at now src ≡ Some c → IsNext base (pos 0) c (with_subentry 1 t c)
        → IsNext base (pos 0) c (with_counted_signer s t c)
    signed_next c there next =
        let b = with_subentry 1 t c in
        let index = index_for s.key b.signers in
        let change = λ (xs : List (Option AccountId)). insert xs index t in
        next_edited base (pos 0) c b (with_counted_signer s t c) next
        (with_sponsors_core change b (insert b.signers index s))
        (λ which. counts_edited change which b (insert b.signers index s))

    added_signed : (signed : EntryMap) → IsNewSigner src a.signers s → map_after_adding_signer ctx src s m ≡ Ok signed
        → IsSigned signed
    added_signed signed fresh done =
        let f = with_counted_signer s t in
        let test = unless_first_ok (subentry_tests_at ctx m src 1) (map_with_signer src s t m) signed done in
        let leaves = charged_kept ctx m src 1 keyed test.0 f signed_next in
        record {
          legal = λ v sum legal. signer_added v ctx.id_pool nothing_owed sum ctx src a s m signed legal exists fresh
              ready
              done;
          leaves = subst (Leaves base none_more m) test.1 leaves;
          flags = λ b there.
              let at : account_at now src ≡ Some a = still_there t refl ∙ exists in
              changed_flags now (now_keyed test.0) src f a b at (signed_core a)
              (ap (λ n. account_at n src) test.1 ∙ there);
        }
      where
        now_keyed : first_fault (subentry_tests_at ctx m src 1) ≡ None → IsKeyed now
        now_keyed none = (charging_left ctx m src 1 keyed none).keyed

  -- ---- weighed

  weighed_signed : (s : Signer) → (1 ≤ s.weight) × (s.weight ≤ 255) → (index : ℕ)
      → index_of s.key a.signers ≡ Some index → IsSigned (with_account m src (with_signer_set index s))
  weighed_signed s weight index found =
      let within = index_within_signers s.key a.signers index found in
      let same = its_index s.key a.signers index found in
      record {
        legal = weighed_legal index s weight a within same m src exists ctx.id_pool;
        leaves = weighed_left index s weight a within same m src exists base keyed;
        flags = λ b there. changed_flags m keyed src (with_signer_set index s) a b exists (record {
          id = refl;
          balance = refl;
          liabilities = refl;
          seq_num = refl;
          thresholds = refl;
          flags = refl;
        }) there;
      }

  -- ---- the signer that is given

  same_ok : {F : Type 0} (x y : EntryMap) → ◌≡◌ {A = Result EntryMap F} (Ok x) (Ok y) → x ≡ y
  same_ok x y is = cc

  fewer_than : (n : ℕ) → nat_le 20 n ≡ false → n < 20
  fewer_than n h = grind arith

  at_most_255 : (n : ℕ) → nat_lt 255 n ≡ false → n ≤ 255
  at_most_255 n h = grind arith

  not_zero : (n : ℕ) → nat_eq n 0 ≡ false → 1 ≤ n
  not_zero n h = grind arith

  by_index : (s : Signer) → (1 ≤ s.weight) × (s.weight ≤ 255) → is_own_key src s.key ≡ false → (signed : EntryMap)
      → (o : Option ℕ) → index_of s.key a.signers ≡ o → map_after_weighing ctx s a m (found_at a o) ≡ Ok signed
      → IsSigned signed
  by_index s weight own signed None found is =
      let first = went_on (count_tests a) (after_charge (map_after_adding_signer ctx src s m) (answer set.LowReserve)
      (λ x. Ok x)) signed is in
      let second = went_after_charge (map_after_adding_signer ctx src s m) (answer set.LowReserve) (λ x. Ok x) signed
      first.1 in
      let few = first_passed (nat_le 20 (length a.signers)) (answer set.TooManySigners) [] first.0 in
      let same = same_ok {F = OperationResult} second.0 signed second.2 in
      subst IsSigned same (added_signed s second.0 (record {
        room = fewer_than (length a.signers) few.0;
        weight = weight;
        other = not_own src s.key own;
        new = no_index s.key a.signers found;
      }) second.1)
  by_index s weight own signed (Some index) found is =
      subst IsSigned (same_ok {F = OperationResult} (with_account m src (with_signer_set index s)) signed is)
      (weighed_signed s weight index found)

  by_weight : (s : Signer) → s.weight ≤ 255 → is_own_key src s.key ≡ false → (signed : EntryMap) (b : Bool)
      → nat_eq s.weight 0 ≡ b → (if b then Ok (map_after_removing_signer src s.key m)
      else map_after_weighing ctx s a m (found_signer s.key (Some a))) ≡ Ok signed → IsSigned signed
  by_weight s high own signed true none is =
      subst IsSigned (same_ok {F = OperationResult} (map_after_removing_signer src s.key m) signed is)
      (removed_signed s.key)
  by_weight s high own signed false some is = by_index s (not_zero s.weight some, high) own signed
      (index_of s.key a.signers) refl is

  by_signer : (o : Option Signer) → is_bad_signer ctx o ≡ false → (signed : EntryMap)
      → map_after_signer ctx a m o ≡ Ok signed → IsSigned signed
  by_signer None bad signed is = subst IsSigned (same_ok {F = OperationResult} m signed is) itself_signed
  by_signer (Some s) bad signed is =
      let all = or_parts (is_own_key src s.key || nat_lt 255 s.weight) (is_bad_payload ctx.version s.key) bad in
      let both = or_parts (is_own_key src s.key) (nat_lt 255 s.weight) all.0 in
      by_weight s (at_most_255 s.weight both.1) both.0 signed (nat_eq s.weight 0) refl is

-- ---- the other options

domain_valid : (o : Option (List ℕ)) (was : List ℕ) → is_bad_domain o ≡ false → is_valid_text was ≡ true
    → is_valid_text (unwrap_or o was) ≡ true
domain_valid None was bad valid = valid
domain_valid (Some domain) was bad valid = not-false (is_valid_text domain) bad

module _ (op : SetOptionsOp) (a : AccountEntry) (unknown : has_unknown op.set_flags ≡ false)
    (domain : is_bad_domain op.home_domain ≡ false)
    (clawback : (not (nat_eq (bit_and (new_flags op a.flags) 8) 0) && nat_eq (bit_and (new_flags op a.flags) 2) 0)
    ≡ false) where
  options_aggregates : KeepsAggregates a (with_options op a)
  options_aggregates = record {
    id = refl;
    subentries = refl;
    sponsoring = refl;
    sponsored = refl;
    liabilities = refl;
    signers = refl;
    sponsors = refl;
  }

  options_range : IsAccountInRange a → IsAccountInRange (with_options op a)
  options_range r = record {
    range = record {
      balance = r.range.balance;
      buying = r.range.buying;
      selling = r.range.selling;
      fits = r.range.fits;
    };
    seq_num = r.seq_num;
    greatest_seq_num = r.greatest_seq_num;
    flags = flags_set op a.flags r.flags unknown clawback;
    home_domain = domain_valid op.home_domain a.home_domain domain r.home_domain;
    signers = r.signers;
  }

  options_legal : (id_pool : ℕ) (m : EntryMap) (id : AccountId) → account_at m id ≡ Some a
      → KeepsLegal id_pool m (with_account m id (with_options op))
  options_legal id_pool m id exists v sum legal =
      legal_as v _ nothing_owed nothing_owed _ sum _
      (account_changed v id_pool nothing_owed sum m id (with_options op) a legal exists options_aggregates
      (options_range (account_legal v id_pool nothing_owed sum m id a legal exists).range)) (λ kind k. refl)
      (add_sub_self sum (lumens_of v.asset a.balance))

options_next : (op : SetOptionsOp) (base : ℕ) (a : AccountEntry) → IsNext base (pos 0) a (with_options op a)
options_next op base a = record {
  id = refl;
  balance = sym (add_zero a.balance);
  covered = inr (omega (arith, ints));
}

-- ---- the operation

module _ (ctx : Ctx) (op : SetOptionsOp) (m : EntryMap) (under : IsUnderway ctx m)
    (unknown : has_unknown op.set_flags ≡ false) (bad : is_bad_signer ctx op.signer ≡ false)
    (domain : is_bad_domain op.home_domain ≡ false) where
  options_lawful : (a : AccountEntry) (signed : EntryMap) → account_at m ctx.op_source ≡ Some a
      → AllPass (source_tests op a) → map_after_signer ctx a m op.signer ≡ Ok signed
      → IsLawful ctx m (succeeded ctx (answer set.Success) (with_account signed ctx.op_source (with_options op)) [])
  options_lawful a signed exists pass is =
      let src = ctx.op_source in
      let base = ctx.base_reserve in
      let h = by_signer ctx m under a exists op.signer bad signed is in
      let at = h.leaves.exist src (a, exists) in
      let flags = h.flags at.0 at.1 in
      let new = with_account signed src (with_options op) in
      lawful_still ctx m under (answer set.Success) new
      (λ v sum legal. options_legal op at.0 unknown domain
      (ap (λ n. not (nat_eq (bit_and (new_flags op n) 8) 0) && nat_eq (bit_and (new_flags op n) 2) 0) flags ∙ pass.1.0)
      ctx.id_pool signed src at.1 v sum (h.legal v sum legal))
      (keeps_both base m signed new h.leaves (account_kept base signed h.leaves.keyed src (with_options op)
      (λ b there. options_next op base b)))

pub set_options_is_lawful : AreLawful set_options
set_options_is_lawful ctx op m done under exists is =
    done_so anything (IsLawful ctx m) (set_options ctx op m) done (options_steps anything (IsLawful ctx m) ctx op m
    (λ a signed given there may made. options_lawful ctx op m under
    (or_parts (has_unknown op.set_flags) (has_unknown op.clear_flags) given.0).0 given.1.1.1.0 given.1.1.1.1.0 a signed
    there may made)) is
