-- CREATE_ACCOUNT is lawful.
use Rattle.op_laws.proofs.Prelude as prelude
use prelude.{◌≡◌, ◌≢◌, refl, sym, ap, subst, ◌∙◌, ℕ, ◌+◌, ◌*◌, ◌^◌, ◌<◌, true, false, is_some, [], ◌∷◌, Option, Some}
use prelude.{None, Ok, inl, arith, ints, ℤ, pos, neg_ℤ, int_lt, ◌+ℤ◌, ◌-ℤ◌, ◌*ℤ◌, ◌≤ℤ◌, get, is_eq, is_lt, int_cmp}
use prelude.{AccountId, Asset, AccountEntry, is_valid_text, total, part, has_flag, LedgerEntry, key_of, key_of_body}
use prelude.{asset_cmp, EntryMap, put, account_in, account_at, HasAccount, account_liabilities, available, greatest_i64}
use prelude.{Ctx, own_tests, sponsored_account_entry, map_after_adding_account, map_after_adding, with_more}
use prelude.{map_after_charging, is_same_account, open_sponsor, payer_tests_at, same_account, apart_accounts, view}
use prelude.{nothing_owed, IsEntryLegal, IsSponsorReady, held, held_in, lumens_of, account_legal, not_above_balance}
use prelude.{sponsors_ready, account_added_so, absent_after, legal_as, new_account, new_entry, create_account}
use prelude.{map_after_lumens_debit, IsLawful, AreLawful, IsUnderway, payers_had, charging_kept, IsChargedFrom}
use prelude.{charged_at, IsGiven, given_legal, given_left, given_back, reserves_of, pays_more, paid_more, IsKeyed}
use prelude.{none_more, both_more, under_key, for_one, HoldsMore, put_holds, IsAfter, Leaves, is_itself_after}
use prelude.{leaves_both, leaves_as, keyed_put, first_passed, put_elsewhere, put_there, add_zero_at_most}
use prelude.{int_cmp_not_less, int_lt_false, natural_nonnegative, zero_add, or_parts, unless_first_ok, debit_is_given}
use prelude.{account_under, accounts_exact, nothing_under}
use Rattle.op_flags.specs.ledger_types.declared.asset.Asset.TheVariants as asset
use Rattle.op_flags.specs.ledger_types.declared.price.Liabilities.{Liabilities}
use Rattle.op_flags.specs.ledger_types.declared.entry.LedgerEntryBody.TheVariants as body
use Rattle.op_flags.specs.ledger_types.declared.key.LedgerKey.TheVariants as key
use Rattle.op_flags.specs.entry_slots.Accounts.{account_of}
use Rattle.op_flags.specs.sponsor_rules.declared.count.Count.TheVariants as count
use Rattle.op_flags.specs.sponsor_rules.declared.fault.AddFault.TheVariants.{LowReserve}
use Rattle.op_flags.specs.op_types.declared.account_ops.CreateAccountOp.{CreateAccountOp}
use Rattle.op_flags.specs.op_types.declared.payment_results.CreateAccountResult.TheVariants as create
use Rattle.op_account.specs.CreateAccount.{answer, start_move}
use Rattle.op_laws.proofs.Lawful.{KeepsLegal, lawful_here}
use Rattle.op_laws.proofs.Lumens.{lumens_move, lumens_described, none_issued}
use Rattle.op_flags.proofs.legal_rules_proofs.Multiples.{still_available}
use Rattle.op_form.proofs.Steps.{done_so, anything}
use Rattle.op_form.proofs.Walks.{succeeded}
use Rattle.op_account.proofs.AccountSteps.{create_steps}

-- ---- where no account exists

-- nothing is under its key
pub absent_at : (m : EntryMap) (id : AccountId) → IsKeyed m → account_at m id ≡ None → get m (key.Account id) ≡ None
unfolding account_at
absent_at m id keyed none =
    nothing_under accounts_exact m (key.Account id) (account_under id) (keyed (key.Account id)) none

nobody_at : (m : EntryMap) (id : AccountId) → get m (key.Account id) ≡ None → account_at m id ≡ None
unfolding account_at
nobody_at m id none = ap account_of none

-- ---- a new account is put

new_after : (base : ℕ) (a : AccountEntry) → pos 0 ≤ℤ available a base → IsAfter base None (Some a)
new_after base a covered = record {
  covered = λ b is. let same : a ≡ b = cc in inl (subst (λ x. pos 0 ≤ℤ available x base) same covered);
}

module _ (base : ℕ) (m : EntryMap) (keyed : IsKeyed m) (e : LedgerEntry) (a : AccountEntry)
    (is : e.body ≡ body.Account a) (none : account_at m a.account_id ≡ None)
    (covered : pos 0 ≤ℤ available a base) where
  abbrev now : EntryMap
  now = put m e

  its_key : key_of e ≡ key.Account a.account_id
  its_key = ap key_of_body is

  here : account_at now a.account_id ≡ Some a
  unfolding account_at
  here = ap (λ k. account_of (get now k)) (sym its_key) ∙ ap account_of (put_there m e) ∙ ap account_in is

  pub beside : (id : AccountId) → a.account_id ≢ id → account_at now id ≡ account_at m id
  unfolding account_at
  beside id apart = ap account_of (put_elsewhere m e (key.Account id) (λ same.
      let keys : key.Account id ≡ key.Account a.account_id = same ∙ its_key in
      apart (cc)))

  new_held : (x : Asset) → part (held x) (get m (key_of e)) ≡ pos 0
  new_held x = ap (part (held x)) (ap (get m) its_key ∙ absent_at m a.account_id keyed none)

  new_holds : HoldsMore (for_one a.account_id a.balance) m now
  new_holds = subst (λ q. HoldsMore (under_key q (λ x. lumens_of x a.balance)) m now) its_key
      (put_holds m e (λ x. lumens_of x a.balance) (λ x. ap (held_in x) is
      ∙ sym (ap (λ n. n +ℤ lumens_of x a.balance) (new_held x) ∙ zero_add (lumens_of x a.balance))))

  pub new_account_left : Leaves base (for_one a.account_id a.balance) m now
  new_account_left = record {
    each = λ id. elim (is_same_account a.account_id id) as (λ b. is_same_account a.account_id id ≡ b
        → IsAfter base (account_at m id) (account_at now id)) [
          | true ↦ λ tied. subst (λ x. IsAfter base (account_at m x) (account_at now x))
              (same_account a.account_id id tied)
              (subst (λ o. IsAfter base o (account_at now a.account_id)) (sym none)
              (subst (λ o. IsAfter base None o) (sym here) (new_after base a covered)))
          | false ↦ λ apart. subst (λ o. IsAfter base (account_at m id) o)
              (sym (beside id (apart_accounts a.account_id id apart))) (is_itself_after base (account_at m id))
        ] refl;
    holds = new_holds;
    exist = λ id existing. elim (is_same_account a.account_id id) as (λ b. is_same_account a.account_id id ≡ b
        → HasAccount now id) [
          | true ↦ λ tied. (a, ap (account_at now) (sym (same_account a.account_id id tied)) ∙ here)
          | false ↦ λ apart. (existing.0, beside id (apart_accounts a.account_id id apart) ∙ existing.1)
        ] refl;
    keyed = keyed_put m e keyed;
  }

-- ---- what the new account can spend

two_covered : (b : ℤ) (n : ℕ) → pos n ≤ℤ b → pos 0 ≤ℤ (b -ℤ pos n -ℤ pos 0)
two_covered b n le = omega (arith, ints)

no_reserve : (n : ℤ) → n ≤ℤ (pos 2 +ℤ neg_ℤ (pos 2)) → n ≤ℤ pos 0
no_reserve n le = omega (arith, ints)

module _ (ctx : Ctx) (op : CreateAccountOp) where
  abbrev base : ℕ
  base = ctx.base_reserve

  abbrev its : AccountEntry
  its = new_account ctx op

  -- two reserves of its own
  own_covered : pos (2 * base) ≤ℤ op.starting_balance → pos 0 ≤ℤ available its base
  own_covered enough = two_covered op.starting_balance (2 * base) enough

  abbrev sponsored : AccountEntry
  sponsored = with_more count.Sponsored 2 its

  -- a sponsor pays its two reserves
  sponsored_covered : pos 0 ≤ℤ op.starting_balance → pos 0 ≤ℤ available sponsored base
  sponsored_covered low =
      let h = paid_more 2 its in
      let none : (pos 0 *ℤ pos base) ≡ pos 0 = zero_times base in
      let less = still_available op.starting_balance op.starting_balance (pos 0) (reserves_of sponsored)
      (account_liabilities sponsored).selling base (itself op.starting_balance)
      (no_reserve (reserves_of sponsored) h.reserves) in
      let selling : (account_liabilities sponsored).selling ≡ pos 0 =
      ap (λ (l : Liabilities). l.selling) h.core.liabilities in
      low_left op.starting_balance (pos 0 *ℤ pos base) (reserves_of sponsored *ℤ pos base)
      (account_liabilities sponsored).selling sponsored.balance low none selling less h.core.balance
    where
      zero_times : (n : ℕ) → (pos 0 *ℤ pos n) ≡ pos 0
      zero_times n = ap pos (let is : 0 * n ≡ 0 = omega arith in is)

      itself : (x : ℤ) → x ≤ℤ x
      itself x = omega (arith, ints)

      low_left : (b z p s c : ℤ) → pos 0 ≤ℤ b → z ≡ pos 0 → s ≡ pos 0 → (b -ℤ z -ℤ s) ≤ℤ (b -ℤ p -ℤ s) → c ≡ b
          → pos 0 ≤ℤ (c -ℤ p -ℤ s)
      low_left b z p s c low none zero le same = omega (arith, ints)

-- ---- the account is added

-- accounts after one was added: of what another one had no more is available
record IsAdded (ctx : Ctx) (op : CreateAccountOp) (m new : EntryMap) : Type 0 where
  leaves : Leaves ctx.base_reserve (for_one op.destination op.starting_balance) m new
  others : (id : AccountId) (b : AccountEntry) → op.destination ≢ id → account_at new id ≡ Some b
      → IsChargedFrom ctx.base_reserve m id b

module _ (ctx : Ctx) (op : CreateAccountOp) (m : EntryMap) (keyed : IsKeyed m) (low : pos 0 ≤ℤ op.starting_balance)
    (none : account_at m op.destination ≡ None) where
  abbrev entry : LedgerEntry
  entry = new_entry ctx op

  added_alone : (new : EntryMap) → map_after_adding_account ctx entry (its ctx op) None m ≡ Ok new → IsAdded ctx op m
      new
  added_alone new done =
      let test = unless_first_ok (own_tests ctx (its ctx op)) (put m entry) new done in
      let two = first_passed (is_lt (int_cmp op.starting_balance (pos (2 * ctx.base_reserve)))) LowReserve [] test.0 in
      let covered = own_covered ctx op (int_cmp_not_less op.starting_balance (pos (2 * ctx.base_reserve)) two.0) in
      subst (IsAdded ctx op m) test.1 (record {
        leaves = new_account_left ctx.base_reserve m keyed entry (its ctx op) refl none covered;
        others = λ id b apart there. charged_at ctx.base_reserve 2 None m keyed id b
            (sym (beside ctx.base_reserve m keyed entry (its ctx op) refl none covered id apart) ∙ there);
      })

  added_sponsored : (x : AccountId) → HasAccount m x → (new : EntryMap)
      → map_after_adding_account ctx entry (its ctx op) (Some x) m ≡ Ok new → IsAdded ctx op m new
  added_sponsored x existing new done =
      let b = sponsored ctx op in
      let h = paid_more 2 (its ctx op) in
      let e = sponsored_account_entry x entry (its ctx op) in
      let now = map_after_charging 2 (Some x) m in
      let test = unless_first_ok (payer_tests_at ctx m x 2) (put now e) new done in
      let had = payers_had ctx m x 2 None (Some x) test.0 in
      let first = charging_kept ctx.base_reserve 2 (Some x) m keyed had.0 in
      let covered = sponsored_covered ctx op low in
      let still = nobody_at now op.destination
      (absent_after m x (with_more count.Sponsoring 2) existing.0 keyed existing.1
      (pays_more 2 existing.0).core.id (key.Account op.destination) (absent_at m op.destination keyed none)) in
      let gone : account_at now b.account_id ≡ None = ap (account_at now) h.core.id ∙ still in
      subst (IsAdded ctx op m) test.1 (record {
        leaves = leaves_as ctx.base_reserve (both_more none_more (for_one b.account_id b.balance))
            (for_one op.destination op.starting_balance) m (put now e)
            (leaves_both ctx.base_reserve none_more (for_one b.account_id b.balance) m now (put now e) first
            (new_account_left ctx.base_reserve now first.keyed e b refl gone covered))
            (λ k x. zero_add (for_one b.account_id b.balance k x)
            ∙ (λ i. for_one (h.core.id i) (h.core.balance i) k x));
        others = λ id c apart there. charged_at ctx.base_reserve 2 (Some x) m keyed id c
            (sym (beside ctx.base_reserve now first.keyed e b refl gone covered id
            (λ same. apart (sym h.core.id ∙ same))) ∙ there);
      })

  added_by : (o : Option AccountId) → ((x : AccountId) → o ≡ Some x → HasAccount m x) → (new : EntryMap)
      → map_after_adding_account ctx entry (its ctx op) o m ≡ Ok new → IsAdded ctx op m new
  added_by None exist new done = added_alone new done
  added_by (Some x) exist new done = added_sponsored x (exist x refl) new done

-- ---- the new account is legal

first_fits : (n : ℕ) → n < 2147483647 → pos ((n + 1) * 2 ^ 32) ≤ℤ greatest_i64
first_fits n lt = omega (arith, ints)

no_text : is_valid_text [] ≡ true
unfolding is_valid_text
no_text = refl

no_flag : has_flag 0 8 ≡ true → has_flag 0 2 ≡ true
no_flag is = absurd (cc)

new_legal : (ctx : Ctx) (op : CreateAccountOp) (id_pool : ℕ) → ctx.seq < 2147483647 → pos 0 ≤ℤ op.starting_balance
    → op.starting_balance ≤ℤ greatest_i64 → IsEntryLegal id_pool (new_entry ctx op)
new_legal ctx op id_pool early low high = record {
  range = record {
    body = record {
      range = record {
        balance = low;
        buying = natural_nonnegative 0;
        selling = natural_nonnegative 0;
        fits = add_zero_at_most op.starting_balance greatest_i64 high;
      };
      seq_num = natural_nonnegative ((ctx.seq + 1) * 2 ^ 32);
      greatest_seq_num = first_fits ctx.seq early;
      flags = record { known = omega arith; clawback = no_flag };
      home_domain = no_text;
      signers = record {
        few = omega arith;
        rising = λ i j d lt within. absurd (omega arith);
        weights = λ k d lt. absurd (omega arith);
        others = λ k d lt. absurd (omega arith);
        items = refl;
        paid_by_others = λ k d lt. absurd (omega arith);
      };
    };
    paid = λ some. absurd (some refl);
  };
  bound = tt;
  few = omega arith;
  fits = omega arith;
  filled = tt;
}

-- ---- the operation

none_of : (o : Option AccountEntry) → is_some o ≡ false → o ≡ None
none_of None h = refl
none_of (Some a) h = absurd (cc)

under_all : (n s w b buying g : ℤ) → n ≤ℤ s → s ≤ℤ w → (n ≤ℤ w → n ≤ℤ b) → pos 0 ≤ℤ buying → (b +ℤ buying) ≤ℤ g
    → n ≤ℤ g
under_all n s w b buying g one two most low fits =
    let le = most (through n s w one two) in last n b buying g le low fits
  where
    through : (a b c : ℤ) → a ≤ℤ b → b ≤ℤ c → a ≤ℤ c
    through a b c one two = omega (arith, ints)

    last : (n b buying g : ℤ) → n ≤ℤ b → pos 0 ≤ℤ buying → (b +ℤ buying) ≤ℤ g → n ≤ℤ g
    last n b buying g le low fits = omega (arith, ints)

module _ (ctx : Ctx) (op : CreateAccountOp) (m : EntryMap) (under : IsUnderway ctx m)
    (low : pos 0 ≤ℤ op.starting_balance) (apart : op.destination ≢ ctx.op_source)
    (none : account_at m op.destination ≡ None) where
  abbrev src : AccountId
  src = ctx.op_source

  abbrev dest : AccountId
  dest = op.destination

  abbrev amount : ℤ
  amount = op.starting_balance

  ready : IsSponsorReady ctx dest m
  ready = sponsors_ready ctx m dest under.sponsorships

  -- what the source had for it is a number of 64 bits
  amount_fits : (added new : EntryMap) → IsAdded ctx op m added → IsGiven ctx.base_reserve src amount added new
      → amount ≤ℤ greatest_i64
  amount_fits added new left h =
      let v = view m in
      let sum = total (held asset.Native) m in
      let from = left.others src h.account apart h.exists in
      let was = from.was in
      let range = (account_legal v ctx.id_pool nothing_owed sum m src was under.settled.legal
      from.existed).range.range in
      under_all amount (available h.account ctx.base_reserve) (available was ctx.base_reserve) was.balance
      (account_liabilities was).buying greatest_i64 h.enough from.less
      (not_above_balance v ctx.id_pool nothing_owed sum m src was ctx.base_reserve amount under.settled.legal
      (omega (arith, ints)) from.existed) range.buying range.fits

  created_legal : (added new : EntryMap) → map_after_adding ctx dest (new_entry ctx op) m ≡ Ok added
      → IsGiven ctx.base_reserve src amount added new → amount ≤ℤ greatest_i64 → KeepsLegal ctx.id_pool m new
  created_legal added new is h high v sum legal =
      legal_as v (IsEntryLegal ctx.id_pool) nothing_owed nothing_owed _ sum new
      (given_legal v ctx.id_pool ctx.base_reserve (sum +ℤ lumens_of v.asset amount) src amount added new h low
      (account_added_so v ctx.id_pool nothing_owed sum ctx (its ctx op) (new_entry ctx op) m added legal refl
      (record { subentries = refl; signers = refl; ext = refl }) (record {
        free = absent_at m dest legal.keyed none;
        unsponsored = refl;
        id_free = λ id. add_zero_at_most _ (pos 1) (legal.offers id);
      }) (new_legal ctx op ctx.id_pool under.seq low high) ready is)) (λ kind k. refl)
      (given_back (is_eq (asset_cmp v.asset asset.Native)) sum amount)

  created : (added new : EntryMap) → map_after_adding ctx dest (new_entry ctx op) m ≡ Ok added
      → map_after_lumens_debit ctx src amount added ≡ Some new
      → IsLawful ctx m (succeeded ctx (answer create.Success) new (start_move ctx op ∷ []))
  created added new is also =
      let h = debit_is_given ctx src amount added new also in
      let left = added_by ctx op m under.settled.legal.keyed low none (open_sponsor ctx dest) ready.exists added is in
      let more = both_more (for_one dest amount) (for_one src (neg_ℤ amount)) in
      lawful_here ctx m under more (answer create.Success) new (lumens_move src dest amount ∷ [])
      (created_legal added new is h (amount_fits added new left h))
      (leaves_both ctx.base_reserve (for_one dest amount) (for_one src (neg_ℤ amount)) m added new left.leaves
      (given_left ctx.base_reserve src amount added new h left.leaves.keyed))
      (lumens_described src dest amount) (none_issued src dest amount)

pub create_account_is_lawful : AreLawful create_account
create_account_is_lawful ctx op m done under existing is =
    done_so anything (IsLawful ctx m) (create_account ctx op m) done (create_steps anything (IsLawful ctx m) ctx op m
    (λ added new pass first also.
    let both = or_parts (int_lt op.starting_balance (pos 0)) (is_same_account op.destination ctx.op_source) pass.0 in
    created ctx op m under (int_lt_false op.starting_balance (pos 0) both.0)
    (apart_accounts op.destination ctx.op_source both.1) (none_of (account_at m op.destination) pass.1.0) added new
    first also)) is
