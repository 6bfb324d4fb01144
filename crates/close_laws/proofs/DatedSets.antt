-- A set leaves accounts dated, and so does a close, by the header of the ledger that it closes.
use Rattle.bucket_levels.specs.entry_map.EntryMap.{EntryMap}
use Rattle.close_laws.proofs.DatedEntries.{dating}
use Rattle.close_laws.proofs.NextLegal.{upgraded_from}
use Rattle.close_laws.proofs.Prelude.{SetsConserve, ap, applied_in, arith, finished, get, ltb-false}
use Rattle.close_laws.proofs.Prelude.{natural_positive_from_unequal, refl, setting_in, subst, sym, upgraded_header}
use Rattle.close_laws.proofs.SetsKeep.{Admits, set_keeps}
use Rattle.close_laws.proofs.Unmarked.{AreMapsAlike, existed, next_alike}
use Rattle.close_laws.proofs.Unrefused.{either_false, later_time}
use Rattle.close_laws.specs.Legal.{AreClosed, IsClosable}
use Rattle.close_rules.specs.State.{ClosingState}
use Rattle.close_rules.specs.entry_sums.Sums.{EachEntry}
use Rattle.close_rules.specs.ledger_types.declared.account.AccountEntryExtensionV3.{AccountEntryExtensionV3}
use Rattle.close_rules.specs.ledger_types.declared.entry.LedgerEntryBody.{LedgerEntryBody}
use Rattle.close_rules.specs.ledger_types.declared.header.StellarValue.{StellarValue}
use Rattle.close_rules.specs.ledger_types.declared.ids.Hash.{Hash}
use Rattle.close_rules.specs.ledger_types.declared.signer.Signer.{Signer}
use Rattle.close_rules.specs.ledger_types.declared.signer.SignerKey.{SignerKey}
use Rattle.close_rules.specs.legal_rules.Dated.{AreDated, IsBodyDated, IsKeyDated, IsThirdDated, dated_from}
use Rattle.close_rules.specs.op_types.declared.operation.OperationBody.{OperationBody}
use Rattle.close_rules.specs.op_types.declared.transaction.TransactionSet.{TransactionSet}
use Rattle.close_rules.specs.sponsor_rules.declared.context.Ctx.{Ctx}
use Rattle.close_rules.specs.tx_apply.Set.{Setting, set_done}
use Rattle.close_rules.specs.xdr_header.declared.record.CloseRecord.{CloseRecord}
use Rattle.op_laws.proofs.AccountsAsked.{AccountAsked, IsOfAccounts, of_accounts}
use Rattle.std.proofs.lemmas.List.Elements.{All-nil, All-weaker}
use Rattle.std.specs.Prelude.{All, Bool, List, None, Option, Some, false, length, nat_eq, nat_lt, true, ℕ, ◌+◌, ◌||◌}
use Rattle.std.specs.Prelude.{◌≡◌, ◌≤◌}
use Rattle.close_rules.specs.ledger_types.declared.entry.LedgerEntryBody.TheVariants as body
use Rattle.close_rules.specs.ledger_types.declared.signer.SignerKey.TheVariants as signer_key
use Rattle.close_rules.specs.op_options.OptionTests as tests
use Rattle.close_rules.specs.op_types.declared.operation.OperationBody.TheVariants as operation

-- ---- the signer of SET_OPTIONS

first_false : (a b : Bool) → (a || b) ≡ false → a ≡ false
first_false true b none = none
first_false false b none = refl

payload_dated : (version : ℕ) (key : SignerKey) → tests.is_bad_payload version key ≡ false → IsKeyDated version key
payload_dated version (signer_key.SignedPayload id payload) good = (
  ltb-false version 19 (first_false (nat_lt version 19) (nat_eq (length payload) 0) good),
  natural_positive_from_unequal (length payload)
      (either_false (nat_lt version 19) (nat_eq (length payload) 0) good),
)
payload_dated version other good = tt

key_dated : (ctx : Ctx) (one : Signer) → tests.is_bad_signer ctx (Some one) ≡ false → IsKeyDated ctx.version one.key
key_dated ctx one good =
    payload_dated ctx.version one.key
    (either_false (tests.is_own_key ctx.op_source one.key || nat_lt 255 one.weight)
    (tests.is_bad_payload ctx.version one.key) good)

-- ---- operations

module _ (version seq close_time : ℕ) where
  free : IsOfAccounts (dating version seq close_time)
  free = record {
    line = λ t. tt;
    offer = λ o. tt;
    data_entry = λ d. tt;
    balance = λ b. tt;
    pool = λ p. tt;
    sponsor = λ one. tt;
    named = λ of. tt;
    answer = λ of. tt;
    asks = λ asks. asks;
  }

  accounts_asked : (ctx : Ctx) (of : OperationBody) → (dating version seq close_time).Context ctx
      → AccountAsked (dating version seq close_time) ctx of
  accounts_asked ctx (operation.CreateAccount op) is =
      record { third = tt; signers = All-nil (λ (signer : Signer). IsKeyDated version signer.key) }
  accounts_asked ctx (operation.SetOptions op) is = (
    λ good one given. subst (λ n. IsKeyDated n one.key) is.0
        (key_dated ctx one (subst (λ o. tests.is_bad_signer ctx o ≡ false) given good)),
    λ range a dated. record { third = dated.third; signers = dated.signers },
  )
  accounts_asked ctx other is = tt

  admits : Admits (dating version seq close_time) (λ of. Unit {0})
  admits = record {
    asked = λ ctx m of admitted is.
        of_accounts (dating version seq close_time) free ctx m of (accounts_asked ctx of is);
    indexed = λ ctx index source is. is;
  }

-- ---- sets

-- the accounts of a map are dated, in a ledger of this version, number and close time
abbrev AreDatedIn : (version seq close_time : ℕ) → EntryMap → Type 0
AreDatedIn version seq close_time m = EachEntry (λ k e. IsBodyDated version seq close_time e.body) m

-- a set whose ledger closes with this number and time, or earlier
set_dated : (setting : Setting) (set : TransactionSet) (seq close_time : ℕ) (m : EntryMap)
    → setting.header.ledger_seq + 1 ≤ seq → setting.close_time ≤ close_time
    → AreDatedIn setting.header.ledger_version seq close_time m
    → AreDatedIn setting.header.ledger_version seq close_time (set_done setting set m).entries
set_dated setting set seq close_time m number time dated =
    set_keeps (dating setting.header.ledger_version seq close_time) (λ of. Unit {0})
    (admits setting.header.ledger_version seq close_time) setting (λ id_pool entire. (refl, (number, time))) set m
    (λ i d within. λ j e inside. tt) dated

-- ---- later ledgers

-- a ledger's version, number and close time, and those of a later one
record IsLater (version seq close_time version_after seq_after close_time_after : ℕ) : Type 0 where
  versions : version ≤ version_after
  numbers : seq ≤ seq_after
  times : close_time ≤ close_time_after

module _ (version seq close_time version_after seq_after close_time_after : ℕ)
    (later : IsLater version seq close_time version_after seq_after close_time_after) where
  from_later : dated_from ≤ version → dated_from ≤ version_after
  from_later from = let le = later.versions in omega arith

  third_later : (third : Option AccountEntryExtensionV3) → IsThirdDated version seq close_time third
      → IsThirdDated version_after seq_after close_time_after third
  third_later None dated = tt
  third_later (Some third) dated = (
    from_later dated.0,
    (omega (arith, later.numbers, dated.1.0), omega (arith, later.times, dated.1.1)),
  )

  key_later : (key : SignerKey) → IsKeyDated version key → IsKeyDated version_after key
  key_later (signer_key.SignedPayload id payload) dated = (from_later dated.0, dated.1)
  key_later other dated = tt

  signers_later : (signers : List Signer) → All (λ signer. IsKeyDated version signer.key) signers
      → All (λ signer. IsKeyDated version_after signer.key) signers
  signers_later signers dated =
      All-weaker (λ (signer : Signer). IsKeyDated version signer.key)
      (λ (signer : Signer). IsKeyDated version_after signer.key) (λ signer. key_later signer.key) signers dated

  body_later : (of : LedgerEntryBody) → IsBodyDated version seq close_time of
      → IsBodyDated version_after seq_after close_time_after of
  body_later (body.Account account) dated = record {
    third = third_later _ dated.third;
    signers = signers_later account.signers dated.signers;
  }
  body_later other dated = tt

  each_later : (m : EntryMap) → AreDatedIn version seq close_time m
      → AreDatedIn version_after seq_after close_time_after m
  each_later m dated = λ k e there. body_later e.body (dated k e there)

-- ---- closes

-- entries that differ in the ledgers of their last changes alone are as dated
alike_dated : (version seq close_time : ℕ) (m n : EntryMap) → AreMapsAlike m n → AreDatedIn version seq close_time m
    → AreDatedIn version seq close_time n
alike_dated version seq close_time m n alike each = λ k e there.
    let x = existed (get m k) (get n k) e (alike k) there in
    subst (IsBodyDated version seq close_time) (λ i. (x.2 i).0) (each k x.0 x.1)

one_more : (n : ℕ) → n ≤ n + 1
one_more n = omega arith

no_less : (n m : ℕ) → n ≡ m → n ≤ m
no_less n m is = omega arith

pub next_dated : SetsConserve → (s : ClosingState) (closing : CloseRecord) (after : EntryMap) (list_hash : Hash)
    → IsClosable s closing → AreClosed s closing after → AreDated (finished (upgraded_header s closing) list_hash) after
next_dated conserve s closing after list_hash can closed =
    let next = finished (upgraded_header s closing) list_hash in
    let from = upgraded_from conserve s closing can list_hash in
    let worked = (applied_in s closing).entries in
    let version = s.header.ledger_version in
    let seq = s.header.ledger_seq + 1 in
    let close_time = closing.scp_value.close_time in
    let before = each_later version s.header.ledger_seq s.header.scp_value.close_time version seq close_time
    (record {
      versions = no_less version version refl;
      numbers = one_more s.header.ledger_seq;
      times = later_time s closing can.unrefused;
    })
    s.entries can.state.dated in
    let done = alike_dated version seq close_time worked after
    (next_alike _ s.entries worked after closed)
    (set_dated (setting_in s closing) closing.tx_set seq close_time s.entries (no_less seq seq refl)
    (no_less close_time close_time refl) before) in
    each_later version seq close_time next.ledger_version next.ledger_seq next.scp_value.close_time
    (record {
      versions = from.version;
      numbers = no_less seq next.ledger_seq (sym from.counts.ledger_seq);
      times = no_less close_time next.scp_value.close_time
          (sym (ap (λ (value : StellarValue). value.close_time) from.counts.scp_value));
    })
    after done
