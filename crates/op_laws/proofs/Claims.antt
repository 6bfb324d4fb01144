-- CREATE_CLAIMABLE_BALANCE, CLAIM_CLAIMABLE_BALANCE and CLAWBACK_CLAIMABLE_BALANCE are lawful.
use Rattle.op_laws.proofs.Prelude as prelude
use prelude.{◌≡◌, refl, sym, ap, subst, ◌∙◌, ℕ, Bool, true, false, not, ◌||◌, ◌∷◌, [], length, map, Option, Some, None}
use prelude.{Ok, arith, ints, ℤ, pos, neg_ℤ, int_le, ◌+ℤ◌, ◌≤ℤ◌, if◌then◌else◌, get, is_eq, AccountId}
use prelude.{ClaimableBalanceId, AccountEntry, Asset, TrustLineEntry, ClaimableBalanceEntry, LedgerEntry, LedgerKey}
use prelude.{asset_cmp, key_of, is_valid_asset, EntryMap, erase, with_account, HasAccount, sponsor_of, line_at}
use prelude.{with_line, part, Ctx, map_after_adding, open_sponsor, payer_of, map_after_releasing, map_after_removing}
use prelude.{map_after_removing_entry, nothing_owed, AreEntriesLegal, IsBodyInRange, IsBalanceInRange, of_asset, held}
use prelude.{sponsors_ready, balance_added_so, balance_removed_so, nothing_settled, map_after_debit}
use prelude.{map_after_line_debit_of, line_debit_tests, is_issued_by, line_asset_of, OfAccount, OfBalance}
use prelude.{map_after_lumens_debit, with_less_lumens, flagged_ext, fixed_claimant, IsLawful, AreLawful, AreLawfulWhere}
use prelude.{AreClaimantsFew, issued, is_issuer, IsUnderway, IsMoved, unless_issuer, shifts_as, shifts_both, ok_of}
use prelude.{releasing_kept, erased_left, none_more, both_more, under_key, still_holds, cancelled, Leaves, leaves_both}
use prelude.{leaves_as, keeps_then, add_zero_at_most, nonnegative_from_positive, positive_from_int_le, not-false}
use prelude.{or_parts, unless_first_ok, debit_is_given, with_beside, accounts_exact, lines_exact}
use Rattle.op_flags.specs.ledger_types.declared.asset.Asset.TheVariants as asset
use Rattle.op_flags.specs.ledger_types.declared.entry.LedgerEntryBody.TheVariants as body
use Rattle.op_flags.specs.ledger_types.declared.key.LedgerKey.TheVariants as key
use Rattle.op_flags.specs.op_types.declared.balance_ops.CreateClaimableBalanceOp.{CreateClaimableBalanceOp}
use Rattle.op_flags.specs.op_types.declared.balance_results.CreateClaimableBalanceResult.TheVariants as create
use Rattle.op_flags.specs.op_types.declared.balance_results.ClaimClaimableBalanceResult.TheVariants as claim
use Rattle.op_flags.specs.op_types.declared.balance_results.ClawbackClaimableBalanceResult.TheVariants as claw
use Rattle.op_flags.specs.op_form.declared.amounts.DebitFault.TheVariants as debit
use Rattle.op_flags.specs.op_form.Amounts.{with_less}
use Rattle.op_claim.specs.ClaimClaimableBalance as claiming
use Rattle.op_claim.specs.ClawbackClaimableBalance as clawing
use Rattle.op_claim.specs.CreateClaimableBalance as creating
use Rattle.op_laws.proofs.Amounts.{amount_taken, amount_given}
use Rattle.op_laws.proofs.AsideMoves.{balance_issues_none, less_of, put_aside_issued, taken_back, taken_back_issued}
use Rattle.op_laws.proofs.IssuedMoves.{same_issuer, issued_so, issued_by_move}
use Rattle.op_laws.proofs.Lawful.{lawful_with, shifted_after}
use Rattle.op_flags.proofs.BalanceLeft.{balance_left, no_balance, new_flags, payer_exists}
use Rattle.op_laws.proofs.NewBalances.{IsBalanceEntry, balance_entry, claimants_in_range}
use Rattle.op_laws.proofs.Described.{more_for, account_location, balance_location, moved, move_describes, more_turned}
use Rattle.op_laws.proofs.Described.{redeemed_more, balance_more}
use Rattle.op_form.proofs.Steps.{done_so, anything}
use Rattle.op_form.proofs.Walks.{succeeded}
use Rattle.op_claim.proofs.ClaimSteps.{create_balance_steps, claim_steps, clawback_balance_steps}
use Rattle.op_flags.specs.ledger_types.declared.asset.TrustLineAsset.{TrustLineAsset}

-- ---- what moves issue and give

claimed_issued : (x held : Asset) (id : ClaimableBalanceId) (to : AccountId) (n : ℤ)
    → (neg_ℤ (of_asset x held n) +ℤ unless_issuer x held to n) ≡ issued x (taken_back (OfBalance id) to held n ∷ [])
claimed_issued x held id to n =
    ap (λ k. k +ℤ unless_issuer x held to n) (less_of x held n)
    ∙ taken_back_issued x held (OfBalance id) to n (balance_issues_none held id)

clawed_of : (b : Bool) (n : ℤ) → neg_ℤ (if b then n else pos 0) ≡ (if b then issued_so false true n else pos 0)
clawed_of true n = omega (arith, ints)
clawed_of false n = refl

clawed_issued : (x held : Asset) (id : ClaimableBalanceId) (to : AccountId) (n : ℤ) → is_issued_by held to ≡ true
    → neg_ℤ (of_asset x held n) ≡ issued x (taken_back (OfBalance id) to held n ∷ [])
clawed_issued x held id to n issuer =
    clawed_of (is_eq (asset_cmp x held)) n
    ∙ (λ i. of_asset x held (issued_so (balance_issues_none held id i) (sym issuer i) n))
    ∙ (λ i. of_asset x held (issued_so (is_issuer held (OfBalance id)) (same_issuer held to i) n))
    ∙ issued_by_move x held (OfBalance id) (OfAccount to) n

-- ---- a balance that is removed

module _ (id_pool base : ℕ) (m : EntryMap) (legal : AreEntriesLegal id_pool m) (id : ClaimableBalanceId)
    (b : ClaimableBalanceEntry) (found : (e : LedgerEntry) × IsBalanceEntry m id b e) where
  abbrev its_key : LedgerKey
  its_key = key.ClaimableBalance id

  abbrev e1 : LedgerEntry
  e1 = record found.0 { body = body.ClaimableBalance b }

  at : get m its_key ≡ Some e1
  at = found.1.there ∙ ap Some (λ i. record found.0 { body = found.1.is i })

  pub its_range : IsBalanceInRange b
  its_range = (legal.entries its_key e1 at).range.body

  abbrev less : Asset → ℤ
  less x = of_asset x b.asset (neg_ℤ b.amount)

  erased : (now : EntryMap) → Leaves base none_more m now
      → Leaves base (more_for b.asset (OfBalance id) (neg_ℤ b.amount)) m (erase now its_key)
  erased now first = leaves_as base (under_key its_key less) (more_for b.asset (OfBalance id) (neg_ℤ b.amount)) m
      (erase now its_key)
      (keeps_then base (under_key its_key less) m now (erase now its_key) first
      (erased_left base now its_key less first.keyed (λ other same. absurd (cc))
      (λ x. ap (λ n. n +ℤ less x) (still_holds m now first.holds its_key x ∙ ap (part (held x)) at)
      ∙ cancelled (is_eq (asset_cmp x b.asset)) b.amount)))
      (balance_more b.asset id (neg_ℤ b.amount))

  pub balance_gone : IsMoved id_pool base (λ x. neg_ℤ (of_asset x b.asset b.amount))
      (more_for b.asset (OfBalance id) (neg_ℤ b.amount)) m (map_after_removing its_key m)
  balance_gone =
      let n = length b.claimants in
      let s = sponsor_of e1 in
      record {
        shifts = λ v sum was. balance_removed_so v id_pool nothing_owed sum n its_key e1 m was nothing_settled at refl;
        left = subst (Leaves base (more_for b.asset (OfBalance id) (neg_ℤ b.amount)) m)
            (sym (ap (map_after_removing_entry its_key m) at))
            (erased (map_after_releasing n s m) (releasing_kept base n s m legal.keyed));
      }

-- ---- CLAIM_CLAIMABLE_BALANCE

pub claim_claimable_balance_is_lawful : AreLawful claiming.claim_claimable_balance
claim_claimable_balance_is_lawful ctx op m done under exists is =
    done_so anything (IsLawful ctx m) (claiming.claim_claimable_balance ctx op m) done
    (claim_steps anything (IsLawful ctx m) ctx op m (λ b taken there may took.
    let src = ctx.op_source in
    let found = balance_entry m op.balance_id b there in
    let gone = balance_gone ctx.id_pool ctx.base_reserve m under.settled.legal op.balance_id b found in
    let range = its_range ctx.id_pool ctx.base_reserve m under.settled.legal op.balance_id b found in
    let low = nonnegative_from_positive b.amount range.amount in
    let now = map_after_removing (key.ClaimableBalance op.balance_id) m in
    let shift = λ (x : Asset). neg_ℤ (of_asset x b.asset b.amount) in
    let now_legal = shifted_after ctx m under none_more shift now gone.shifts in
    let one = amount_taken ctx ctx.id_pool now now_legal src b.amount low taken b.asset took in
    let moves = claiming.claim_move ctx op b ∷ [] in
    let less = more_for b.asset (OfBalance op.balance_id) (neg_ℤ b.amount) in
    let more = more_for b.asset (OfAccount src) b.amount in
    let all = moved b.asset (OfBalance op.balance_id) (OfAccount src) b.amount in
    lawful_with ctx m under all (claiming.answer claim.Success) taken moves
    (shifts_as ctx.id_pool (λ x. neg_ℤ (of_asset x b.asset b.amount) +ℤ unless_issuer x b.asset src b.amount)
    (λ x. issued x moves) m taken (λ x. claimed_issued x b.asset op.balance_id src b.amount)
    (shifts_both ctx.id_pool shift (λ x. unless_issuer x b.asset src b.amount) m now taken gone.shifts one.shifts))
    (leaves_as ctx.base_reserve (both_more less more) all m taken
    (leaves_both ctx.base_reserve less more m now taken gone.left one.left) (more_turned less more))
    (move_describes b.asset (OfBalance op.balance_id) (OfAccount src) b.amount (balance_location b.asset op.balance_id)
    (account_location b.asset src)))) is

-- ---- CLAWBACK_CLAIMABLE_BALANCE

pub clawback_claimable_balance_is_lawful : AreLawful clawing.clawback_claimable_balance
clawback_claimable_balance_is_lawful ctx op m done under exists is =
    done_so anything (IsLawful ctx m) (clawing.clawback_claimable_balance ctx op m) done
    (clawback_balance_steps anything (IsLawful ctx m) ctx op m (λ b there may.
    let src = ctx.op_source in
    let issuer = not-false (is_issued_by b.asset src) may.0 in
    let found = balance_entry m op.balance_id b there in
    let gone = balance_gone ctx.id_pool ctx.base_reserve m under.settled.legal op.balance_id b found in
    let new = map_after_removing (key.ClaimableBalance op.balance_id) m in
    let moves = clawing.clawback_move ctx op b ∷ [] in
    let from = OfBalance op.balance_id in
    let all = moved b.asset from (OfAccount src) b.amount in
    lawful_with ctx m under all (clawing.answer claw.Success) new moves
    (shifts_as ctx.id_pool (λ x. neg_ℤ (of_asset x b.asset b.amount)) (λ x. issued x moves) m new
    (λ x. clawed_issued x b.asset op.balance_id src b.amount issuer) gone.shifts)
    (leaves_as ctx.base_reserve (more_for b.asset from (neg_ℤ b.amount)) all m new gone.left
    (redeemed_more b.asset from (OfAccount src) b.amount (sym (same_issuer b.asset src) ∙ issuer)))
    (move_describes b.asset from (OfAccount src) b.amount (balance_location b.asset op.balance_id)
    (account_location b.asset src)))) is

-- ---- what a debit leaves under other keys

account_beside : (m : EntryMap) (id : AccountId) (f : AccountEntry → AccountEntry) (balance : ClaimableBalanceId)
    → get (with_account m id f) (key.ClaimableBalance balance) ≡ get m (key.ClaimableBalance balance)
unfolding with_account
account_beside m id f balance =
    with_beside accounts_exact m (key.Account id) f (key.ClaimableBalance balance) (λ a exists same. absurd (cc))

line_beside : (m : EntryMap) (id : AccountId) (held : TrustLineAsset) (f : TrustLineEntry → TrustLineEntry)
    (balance : ClaimableBalanceId)
    → get (with_line m id held f) (key.ClaimableBalance balance) ≡ get m (key.ClaimableBalance balance)
unfolding with_line
line_beside m id held f balance =
    with_beside lines_exact m (key.TrustLine id held) f (key.ClaimableBalance balance) (λ t exists same. absurd (cc))

module _ (ctx : Ctx) (id : AccountId) (n : ℤ) (m new : EntryMap) (balance : ClaimableBalanceId) where
  abbrev IsAsItWas : Type 0
  IsAsItWas = get new (key.ClaimableBalance balance) ≡ get m (key.ClaimableBalance balance)

  by_line : (held : Asset) (o : Option TrustLineEntry) → line_at m id (line_asset_of held) ≡ o
      → map_after_line_debit_of id (line_asset_of held) n m o ≡ Ok new → IsAsItWas
  by_line held None exists is = absurd (cc)
  by_line held (Some t) exists is =
      let tests = unless_first_ok (line_debit_tests n t) (with_line m id (line_asset_of held) (with_less n)) new is in
      ap (λ q. get q (key.ClaimableBalance balance)) (sym tests.1)
      ∙ line_beside m id (line_asset_of held) (with_less n) balance

  by_issuer : (held : Asset) (b : Bool) → is_issued_by held id ≡ b
      → (if b then Ok m else map_after_line_debit_of id (line_asset_of held) n m (line_at m id (line_asset_of held)))
      ≡ Ok new → IsAsItWas
  by_issuer held true issuer is = let same : m ≡ new = cc in ap (λ q. get q (key.ClaimableBalance balance)) (sym same)
  by_issuer held false other is = by_line held (line_at m id (line_asset_of held)) refl is

  balance_beside : (held : Asset) → map_after_debit ctx id held n m ≡ Ok new → IsAsItWas
  balance_beside asset.Native is =
      let h = debit_is_given ctx id n m new (ok_of (map_after_lumens_debit ctx id n m) debit.Short new is) in
      ap (λ q. get q (key.ClaimableBalance balance)) (sym h.is)
      ∙ account_beside m id (with_less_lumens n) balance
  balance_beside (asset.Alphanum4 code issuer) is =
      by_issuer (asset.Alphanum4 code issuer) (is_issued_by (asset.Alphanum4 code issuer) id) refl is
  balance_beside (asset.Alphanum12 code issuer) is =
      by_issuer (asset.Alphanum12 code issuer) (is_issued_by (asset.Alphanum12 code issuer) id) refl is

-- ---- CREATE_CLAIMABLE_BALANCE

module _ (ctx : Ctx) (op : CreateClaimableBalanceOp) (m : EntryMap) (few : AreClaimantsFew op)
    (under : IsUnderway ctx m) (exists : HasAccount m ctx.op_source) (low : pos 1 ≤ℤ op.amount)
    (valid : is_valid_asset op.asset ≡ true) (good : creating.are_claimants_bad op.claimants ≡ false)
    (free : get m (key.ClaimableBalance (creating.new_id ctx)) ≡ None) where
  abbrev src : AccountId
  src = ctx.op_source

  abbrev can : Bool
  can = creating.can_claw_back ctx op m

  abbrev entry : LedgerEntry
  entry = creating.new_balance ctx op can

  abbrev balance : ClaimableBalanceEntry
  balance = record {
    balance_id = creating.new_id ctx;
    claimants = map (fixed_claimant ctx.close_time) op.claimants;
    asset = op.asset;
    amount = op.amount;
    ext = flagged_ext can;
  }

  abbrev times : ℕ
  times = length balance.claimants

  entry_range : IsBodyInRange ctx.id_pool entry.body
  entry_range = record {
    amount = low;
    asset = valid;
    flags = new_flags can;
    claimants = claimants_in_range ctx.close_time op.claimants good few;
  }

  given_added : (now new : EntryMap) → map_after_debit ctx src op.asset op.amount m ≡ Ok now
      → map_after_adding ctx src entry now ≡ Ok new
      → IsLawful ctx m (succeeded ctx (creating.answer (create.Success (creating.new_id ctx))) new
      (creating.create_move ctx op ∷ []))
  given_added now new is also =
      let n = op.amount in
      let one = amount_given ctx ctx.id_pool m under.settled.legal src n
      (nonnegative_from_positive n low) now op.asset is in
      let shift = λ (x : Asset). unless_issuer x op.asset src (neg_ℤ n) in
      let now_legal = shifted_after ctx m under none_more shift now one.shifts in
      let ready = sponsors_ready ctx m src under.sponsorships in
      let payer = payer_exists now src (open_sponsor ctx src) (one.left.exist src exists)
      (λ sponsor at. one.left.exist sponsor (ready.exists sponsor at)) in
      let moves = creating.create_move ctx op ∷ [] in
      let to = OfBalance (creating.new_id ctx) in
      let less = more_for op.asset (OfAccount src) (neg_ℤ n) in
      let more = more_for op.asset to n in
      let all = moved op.asset (OfAccount src) to n in
      let still_free = balance_beside ctx src n m now (creating.new_id ctx) op.asset is ∙ free in
      lawful_with ctx m under all (creating.answer (create.Success (creating.new_id ctx))) new moves
      (shifts_as ctx.id_pool (λ x. unless_issuer x op.asset src (neg_ℤ n) +ℤ of_asset x op.asset n)
      (λ x. issued x moves) m new
      (λ x. put_aside_issued x op.asset src to n (balance_issues_none op.asset (creating.new_id ctx)))
      (shifts_both ctx.id_pool shift (λ x. of_asset x op.asset n) m now new one.shifts
      (λ v sum legal. balance_added_so v ctx.id_pool nothing_owed sum ctx src balance entry now new legal refl (record {
        free = still_free;
        unsponsored = refl;
        id_free = λ id. add_zero_at_most _ (pos 1) (legal.offers id);
      }) entry_range payer also)))
      (leaves_as ctx.base_reserve (both_more less more) all m new
      (leaves_both ctx.base_reserve less more m now new one.left
      (leaves_as ctx.base_reserve (under_key (key_of entry) (λ x. held x entry)) more now new
      (balance_left ctx now (payer_of ctx src) times entry new one.left.keyed (λ id at. absurd (cc)) still_free also)
      (balance_more op.asset (creating.new_id ctx) n))) (more_turned less more))
      (move_describes op.asset (OfAccount src) to n (account_location op.asset src)
      (balance_location op.asset (creating.new_id ctx)))

pub create_claimable_balance_is_lawful : AreLawfulWhere AreClaimantsFew creating.create_claimable_balance
create_claimable_balance_is_lawful ctx op m done few under exists is =
    done_so anything (IsLawful ctx m) (creating.create_claimable_balance ctx op m) done
    (create_balance_steps anything (IsLawful ctx m) ctx op m (λ given new pass free first also.
    let bad = not (is_valid_asset op.asset) in
    let last = or_parts (int_le op.amount (pos 0) || bad) (creating.are_claimants_bad op.claimants) pass.0 in
    let both = or_parts (int_le op.amount (pos 0)) bad last.0 in
    given_added ctx op m few under exists (positive_from_int_le op.amount both.0)
    (not-false (is_valid_asset op.asset) both.1) last.1
    (no_balance m (creating.new_id ctx) under.settled.legal.keyed free) given new first also)) is
