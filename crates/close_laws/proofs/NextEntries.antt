-- What a close leaves can be written.
use Rattle.close_laws.proofs.Prelude as prelude
use prelude.{◌≡◌, ℕ, ◌+◌, ◌^◌, ◌<◌, ◌≤◌, refl, sym, ap, subst, ◌∙◌, List, [], length, All, Option, Some, None, inl, inr}
use prelude.{arith, ints, All-nil, All-weaker, ◌+ℤ◌, ◌≤ℤ◌, FitsSigned, w64, get, Signer, AccountEntry}
use prelude.{AccountEntryExtensionV1, AccountEntryExtensionV2, TrustLineAsset, TrustLineEntry, Liabilities, OfferEntry}
use prelude.{DataEntry, ClaimableBalanceEntry, LiquidityPoolEntry, LedgerEntry, LedgerEntryBody, LedgerEntryExtensionV1}
use prelude.{LedgerKey, key_of_body, u32, i64, extension, list_of, optional, extension_of, CloseRecord, account_id}
use prelude.{signer, liabilities, account_extension_v2, account_extension_v1, account_head, account_tail, account_entry}
use prelude.{trust_line_entry, claimant, claimable_balance_entry, offer_entry, liquidity_pool_entry, data_entry}
use prelude.{ledger_entry_body, ledger_entry_extension_v1, ledger_entry, EntryMap, parts_of, IsNextAt, account_at}
use prelude.{account_in, account_liabilities, liabilities_in, num_sponsoring, num_sponsored, second_in, sponsorship_in}
use prelude.{use_count, sponsor_in, greatest_i64, IsReadyAccount, Uses, stated, stated_at, AreSubentriesFew}
use prelude.{DoReservesFit, IsLegal, IsAccountInRange, AreLineFlags, IsTrustLineInRange, IsBalanceInRange}
use prelude.{IsPoolInRange, IsBodyInRange, TransactionLaws, LegalSettles, SettledLegal, AreEncodable, finished}
use prelude.{SetsConserve, ClosingState, IsEncoded, setting_in, applied_in, upgraded_header, IsClosable, AreClosed}
use prelude.{EntriesStayEncodable}
use prelude.{third_in}
use Rattle.std.proofs.Common.{ℤ, pos}
use Rattle.close_rules.specs.ledger_types.declared.asset.TrustLineAsset.TheVariants as line
use Rattle.close_rules.specs.ledger_types.declared.entry.LedgerEntryBody.TheVariants as body
use Rattle.close_rules.specs.entry_slots.Accounts.{account_of}
use Rattle.close_laws.proofs.Unmarked.{AreMapsAlike, next_alike, existed}
use Rattle.close_laws.proofs.Encoded.{each_encoded}
use Rattle.close_laws.proofs.EncodedSets.{set_encoded, time_fits}
use Rattle.close_laws.proofs.Unrefused.{seq_below}
use Rattle.close_laws.proofs.NextLegal.{can_close, next_settled, next_is_legal}
use Rattle.close_laws.proofs.Bytes.{IsIdIf, no_id, IsThird, no_third, IsKey, sponsors_in, AreAccountBytes}
use Rattle.close_laws.proofs.Bytes.{AreDataBytes, AreBodyBytes}
use Rattle.close_laws.proofs.Bytes.{AreLineBytes, AreBalanceBytes, AreOfferBytes, ArePoolBytes, AreEntryBytes, AreBytes}
use Rattle.close_laws.proofs.BytesSets.{set_bytes}
use Rattle.close_laws.proofs.ShortBalances.{AreLineNumbers, AreBalanceNumbers}
use Rattle.close_laws.proofs.ShortPools.{ArePoolNumbers}
use Rattle.close_laws.proofs.ShortEntries.{AreAccountNumbers, AreBodyNumbers, entry_encodable}
use Rattle.close_laws.proofs.UsesFew.{uses_few}

-- ---- the bytes of entries that can be written

signer_key_encoded : (one : Signer) → IsEncoded signer one → IsKey one
unfolding signer
signer_key_encoded one encoded = record { within = encoded.within.0; sized = encoded.sized.0 }

all_keys : (all : List Signer) → IsEncoded (list_of 20 signer) all → All IsKey all
all_keys all encoded = λ k d within. signer_key_encoded _ (each_encoded 20 signer all encoded k d within)

v2_sponsors : (ext : AccountEntryExtensionV2) → IsEncoded account_extension_v2 ext
    → All IsIdIf ext.signer_sponsoring_ids
unfolding account_extension_v2
v2_sponsors ext encoded =
    each_encoded 20 (optional account_id) ext.signer_sponsoring_ids
    (record { within = encoded.within.1.1.0; sized = encoded.sized.1.1.0 })

second_sponsors : (second : Option AccountEntryExtensionV2)
    → IsEncoded (extension_of (pos 2) account_extension_v2) second → All IsIdIf (sponsors_in second)
unfolding extension
second_sponsors None encoded = All-nil IsIdIf
second_sponsors (Some ext) encoded = v2_sponsors ext (record { within = encoded.within; sized = encoded.sized })

v2_third : (ext : AccountEntryExtensionV2) → IsEncoded account_extension_v2 ext → IsThird ext.ext
unfolding account_extension_v2
v2_third ext encoded = record { within = encoded.within.1.1.1; sized = encoded.sized.1.1.1 }

second_third : (second : Option AccountEntryExtensionV2)
    → IsEncoded (extension_of (pos 2) account_extension_v2) second → IsThird (third_in second)
unfolding extension
second_third None encoded = no_third
second_third (Some ext) encoded = v2_third ext (record { within = encoded.within; sized = encoded.sized })

v1_second : (ext : AccountEntryExtensionV1) → IsEncoded account_extension_v1 ext
    → IsEncoded (extension_of (pos 2) account_extension_v2) ext.ext
unfolding account_extension_v1
v1_second ext encoded = record { within = encoded.within.1; sized = encoded.sized.1 }

ext_sponsors : (ext : Option AccountEntryExtensionV1) → IsEncoded (extension_of (pos 1) account_extension_v1) ext
    → All IsIdIf (sponsors_in (second_in ext))
unfolding extension
ext_sponsors None encoded = All-nil IsIdIf
ext_sponsors (Some ext) encoded =
    second_sponsors ext.ext (v1_second ext (record { within = encoded.within; sized = encoded.sized }))

ext_third : (ext : Option AccountEntryExtensionV1) → IsEncoded (extension_of (pos 1) account_extension_v1) ext
    → IsThird (third_in (second_in ext))
unfolding extension
ext_third None encoded = no_third
ext_third (Some ext) encoded =
    second_third ext.ext (v1_second ext (record { within = encoded.within; sized = encoded.sized }))

signers_encoded : (account : AccountEntry) → IsEncoded account_entry account
    → IsEncoded (list_of 20 signer) account.signers
unfolding account_entry account_tail
signers_encoded account encoded = record { within = encoded.within.1.1.1.0; sized = encoded.sized.1.1.1.0 }

sized_at_most_greatest : (n : ℤ) → i64.sized n → n ≤ℤ greatest_i64
unfolding i64
sized_at_most_greatest n sized = most n sized
  where
    most : (n : ℤ) → FitsSigned w64 n → n ≤ℤ greatest_i64
    most n fits = grind (arith, ints)

liabilities_selling : (owed : Liabilities) → IsEncoded liabilities owed → owed.selling ≤ℤ greatest_i64
unfolding liabilities i64
liabilities_selling owed encoded = sized_at_most_greatest owed.selling encoded.sized.1

v1_selling : (ext : AccountEntryExtensionV1) → IsEncoded account_extension_v1 ext
    → ext.liabilities.selling ≤ℤ greatest_i64
unfolding account_extension_v1
v1_selling ext encoded =
    liabilities_selling ext.liabilities (record { within = encoded.within.0; sized = encoded.sized.0 })

ext_selling : (ext : Option AccountEntryExtensionV1) → IsEncoded (extension_of (pos 1) account_extension_v1) ext
    → (liabilities_in ext).selling ≤ℤ greatest_i64
unfolding extension
ext_selling None encoded = omega (arith, ints)
ext_selling (Some ext) encoded = v1_selling ext (record { within = encoded.within; sized = encoded.sized })

account_bytes : (account : AccountEntry) → IsEncoded account_entry account → AreAccountBytes account
unfolding account_entry account_head account_tail
account_bytes account encoded = record {
  id = record { within = encoded.within.0.0; sized = encoded.sized.0.0 };
  inflation_dest = record { within = encoded.within.0.1.1.1.1.0; sized = encoded.sized.0.1.1.1.1.0 };
  home_domain = record { within = encoded.within.1.0; sized = encoded.sized.1.0 };
  thresholds = record { within = encoded.within.1.1.0; sized = encoded.sized.1.1.0 };
  signers = all_keys account.signers (signers_encoded account encoded);
  sponsors = ext_sponsors account.ext (record { within = encoded.within.1.1.1.1; sized = encoded.sized.1.1.1.1 });
  third = ext_third account.ext (record { within = encoded.within.1.1.1.1; sized = encoded.sized.1.1.1.1 });
  selling = ext_selling account.ext (record { within = encoded.within.1.1.1.1; sized = encoded.sized.1.1.1.1 });
}

data_bytes : (entry : DataEntry) → IsEncoded data_entry entry → AreDataBytes entry
unfolding data_entry
data_bytes entry encoded = record {
  id = record { within = encoded.within.0; sized = encoded.sized.0 };
  name = record { within = encoded.within.1.0; sized = encoded.sized.1.0 };
  value = record { within = encoded.within.1.1.0; sized = encoded.sized.1.1.0 };
}

line_bytes : (held : TrustLineEntry) → IsEncoded trust_line_entry held → AreLineBytes held
unfolding trust_line_entry
line_bytes held encoded = record {
  id = record { within = encoded.within.0; sized = encoded.sized.0 };
  asset = record { within = encoded.within.1.0; sized = encoded.sized.1.0 };
}

balance_bytes : (balance : ClaimableBalanceEntry) → IsEncoded claimable_balance_entry balance
    → AreBalanceBytes balance
unfolding claimable_balance_entry
balance_bytes balance encoded = record {
  id = record { within = encoded.within.0; sized = encoded.sized.0 };
  claimants = each_encoded 10 claimant balance.claimants
      (record { within = encoded.within.1.0; sized = encoded.sized.1.0 });
  asset = record { within = encoded.within.1.1.0; sized = encoded.sized.1.1.0 };
  amount = record { within = encoded.within.1.1.1.0; sized = encoded.sized.1.1.1.0 };
}

offer_bytes : (offer : OfferEntry) → IsEncoded offer_entry offer → AreOfferBytes offer
unfolding offer_entry
offer_bytes offer encoded = record {
  id = record { within = encoded.within.0; sized = encoded.sized.0 };
  offer_id = record { within = encoded.within.1.0; sized = encoded.sized.1.0 };
  selling = record { within = encoded.within.1.1.0; sized = encoded.sized.1.1.0 };
  buying = record { within = encoded.within.1.1.1.0; sized = encoded.sized.1.1.1.0 };
  amount = record { within = encoded.within.1.1.1.1.0; sized = encoded.sized.1.1.1.1.0 };
  price = record { within = encoded.within.1.1.1.1.1.0; sized = encoded.sized.1.1.1.1.1.0 };
}

pool_bytes : (pool : LiquidityPoolEntry) → IsEncoded liquidity_pool_entry pool → ArePoolBytes pool
unfolding liquidity_pool_entry
pool_bytes pool encoded = record {
  id = record { within = encoded.within.0; sized = encoded.sized.0 };
  params = record { within = encoded.within.1.0; sized = encoded.sized.1.0 };
  reserve_a = sized_at_most_greatest pool.reserve_a encoded.sized.1.1.0;
  reserve_b = sized_at_most_greatest pool.reserve_b encoded.sized.1.1.1.0;
  shares = sized_at_most_greatest pool.total_pool_shares encoded.sized.1.1.1.1.0;
  lines = sized_at_most_greatest pool.pool_shares_trust_line_count encoded.sized.1.1.1.1.1;
}

body_bytes : (of : LedgerEntryBody) → IsEncoded ledger_entry_body of → AreBodyBytes of
unfolding ledger_entry_body
body_bytes (body.Account account) encoded =
    account_bytes account (record { within = encoded.within; sized = encoded.sized })
body_bytes (body.Data entry) encoded =
    data_bytes entry (record { within = encoded.within; sized = encoded.sized })
body_bytes (body.TrustLine held) encoded =
    line_bytes held (record { within = encoded.within; sized = encoded.sized })
body_bytes (body.ClaimableBalance balance) encoded =
    balance_bytes balance (record { within = encoded.within; sized = encoded.sized })
body_bytes (body.Offer offer) encoded =
    offer_bytes offer (record { within = encoded.within; sized = encoded.sized })
body_bytes (body.LiquidityPool pool) encoded =
    pool_bytes pool (record { within = encoded.within; sized = encoded.sized })

sponsor_id : (ext : LedgerEntryExtensionV1) → IsEncoded ledger_entry_extension_v1 ext → IsIdIf ext.sponsoring_id
unfolding ledger_entry_extension_v1
sponsor_id ext encoded = record { within = encoded.within.0; sized = encoded.sized.0 }

sponsor_bytes : (ext : Option LedgerEntryExtensionV1) → IsEncoded (extension_of (pos 1) ledger_entry_extension_v1) ext
    → IsIdIf (sponsor_in ext)
unfolding extension
sponsor_bytes None encoded = no_id
sponsor_bytes (Some ext) encoded = sponsor_id ext (record { within = encoded.within; sized = encoded.sized })

entry_bytes : (e : LedgerEntry) → IsEncoded ledger_entry e → AreEntryBytes e
unfolding ledger_entry
entry_bytes e encoded = record {
  body = body_bytes e.body (record { within = encoded.within.1.0; sized = encoded.sized.1.0 });
  sponsor = sponsor_bytes e.ext (record { within = encoded.within.1.1; sized = encoded.sized.1.1 });
}

entry_seq : (e : LedgerEntry) → IsEncoded ledger_entry e → e.last_modified_ledger_seq < 4294967296
unfolding ledger_entry u32
entry_seq e encoded = below encoded.sized.0
  where
    below : {n : ℕ} → n < 256 ^ 4 → n < 4294967296
    below lt = omega arith

pub map_bytes : (m : EntryMap) → AreEncodable m → AreBytes m
map_bytes m encodable = λ k e there.
    let found = encodable k e there in
    entry_bytes e (record { within = found.within; sized = found.sized })

-- ---- after the close

abbrev Parts : Type 0
Parts = LedgerEntryBody × Option LedgerEntryExtensionV1

record ArePartsBytes (parts : Parts) : Type 0 where
  body : AreBodyBytes parts.0
  sponsor : IsIdIf (sponsor_in parts.1)

bytes_by_parts : (x e : LedgerEntry) → parts_of x ≡ parts_of e → AreEntryBytes x → AreEntryBytes e
bytes_by_parts x e same bytes =
    let parts : ArePartsBytes (parts_of e) =
    subst ArePartsBytes same (record { body = bytes.body; sponsor = bytes.sponsor }) in
    record { body = parts.body; sponsor = parts.sponsor }

alike_bytes : (m n : EntryMap) → AreMapsAlike m n → AreBytes m → AreBytes n
alike_bytes m n alike each = λ k e there.
    let x = existed (get m k) (get n k) e (alike k) there in
    bytes_by_parts x.0 e x.2 (each k x.0 x.1)

some_is : (a b : LedgerEntry) → Some a ≡ Some b → a ≡ b
some_is a b e = cc

-- the number of a ledger is that of the closing one, or what it was
seq_of : (seq : ℕ) (before worked after : Option LedgerEntry) (e : LedgerEntry) → seq < 4294967296
    → ((was : LedgerEntry) → before ≡ Some was → was.last_modified_ledger_seq < 4294967296)
    → IsNextAt seq before worked after → after ≡ Some e → e.last_modified_ledger_seq < 4294967296
seq_of seq None None after e lt old is there = absurd (let none = sym is ∙ there in none_is none)
  where
    none_is : None ≡ Some e → ⊥
    none_is h = absurd (cc)
seq_of seq (Some was) None after e lt old is there = absurd (let none = sym is ∙ there in none_is none)
  where
    none_is : None ≡ Some e → ⊥
    none_is h = absurd (cc)
seq_of seq None (Some x) after e lt old is there =
    subst (λ (z : LedgerEntry). z.last_modified_ledger_seq < 4294967296) (some_is _ e (sym is ∙ there)) lt
seq_of seq (Some was) (Some x) after e lt old is there =
    elim is [
      | inl h ↦ subst (λ (z : LedgerEntry). z.last_modified_ledger_seq < 4294967296) (some_is _ e (sym h.1 ∙ there))
          (old was refl)
      | inr h ↦ subst (λ (z : LedgerEntry). z.last_modified_ledger_seq < 4294967296) (some_is _ e (sym h.1 ∙ there)) lt
    ]

-- ---- the numbers of accounts

at_most_entire : (balance buying : ℤ) → pos 0 ≤ℤ buying → (balance +ℤ buying) ≤ℤ greatest_i64 → balance ≤ℤ greatest_i64
at_most_entire balance buying low fits = omega (arith, ints)

buying_at_most : (balance buying : ℤ) → pos 0 ≤ℤ balance → (balance +ℤ buying) ≤ℤ greatest_i64 → buying ≤ℤ greatest_i64
buying_at_most balance buying low fits = omega (arith, ints)

few_recorded : (signers : List Signer) (second : Option AccountEntryExtensionV2)
    → length (sponsorship_in signers second).signer_sponsoring_ids ≡ length signers → length signers ≤ 20
    → length (sponsors_in second) ≤ 20
few_recorded signers None same few = omega arith
few_recorded signers (Some ext) same few = omega (arith, same, few)

account_numbers : (account : AccountEntry) → IsAccountInRange account → account.num_sub_entries ≤ 1000
    → account.num_sub_entries + num_sponsoring account ≤ 4294967295 → IsReadyAccount account
    → (account_liabilities account).selling ≤ℤ greatest_i64 → AreAccountNumbers account
account_numbers account range few fits ready selling = record {
  balance_low = range.range.balance;
  balance_high = at_most_entire account.balance
      (account_liabilities account).buying range.range.buying range.range.fits;
  seq_low = range.seq_num;
  seq_high = range.greatest_seq_num;
  subentries = few;
  flags = range.flags.known;
  signers = range.signers.few;
  weights = All-weaker (λ one. (1 ≤ one.weight) × (one.weight ≤ 255)) (λ one. one.weight ≤ 255) (λ one both. both.1)
      account.signers range.signers.weights;
  ext = record {
    buying_low = range.range.buying;
    buying_high = buying_at_most account.balance (account_liabilities account).buying range.range.balance
        range.range.fits;
    selling_low = range.range.selling;
    selling_high = selling;
    sponsored = below_sponsored (num_sponsored account) ready.sponsored;
    sponsoring = below_sponsoring account.num_sub_entries (num_sponsoring account) fits;
    few = few_recorded account.signers (second_in account.ext) range.signers.items range.signers.few;
  };
}
  where
    below_sponsored : (n : ℕ) → n ≤ 4294967293 → n < 4294967296
    below_sponsored n le = omega arith

    below_sponsoring : (k n : ℕ) → k + n ≤ 4294967295 → n < 4294967296
    below_sponsoring k n le = omega arith

-- ---- the numbers of lines, claimable balances and pools

flags_few : (of : TrustLineAsset) (flags : ℕ) → AreLineFlags of flags → flags ≤ 7
flags_few line.Native flags both = both.0
flags_few (line.Alphanum4 code issuer) flags both = both.0
flags_few (line.Alphanum12 code issuer) flags both = both.0
flags_few (line.PoolShare pool) flags none = omega (arith, none)

line_numbers : (held : TrustLineEntry) → IsTrustLineInRange held → use_count held ≤ℤ pos 1000 → AreLineNumbers held
line_numbers held range few = record {
  balance_low = range.range.balance;
  balance_high = below_limit held.balance _ held.limit range.range.buying range.range.fits range.greatest;
  limit_low = at_least_one held.limit range.limit;
  limit_high = range.greatest;
  flags = flags_few held.asset held.flags range.flags;
  buying_low = range.range.buying;
  buying_high = buying_below held.balance _ held.limit range.range.balance range.range.fits range.greatest;
  selling_low = range.range.selling;
  selling_high = selling_below _ held.balance held.limit _ range.range.covered range.range.buying range.range.fits
      range.greatest;
  uses_low = range.uses;
  uses_few = few;
}
  where
    below_limit : (balance buying limit : ℤ) → pos 0 ≤ℤ buying → (balance +ℤ buying) ≤ℤ limit → limit ≤ℤ greatest_i64
        → balance ≤ℤ greatest_i64
    below_limit balance buying limit low fits most = omega (arith, ints)

    at_least_one : (limit : ℤ) → pos 1 ≤ℤ limit → pos 0 ≤ℤ limit
    at_least_one limit low = omega (arith, ints)

    buying_below : (balance buying limit : ℤ) → pos 0 ≤ℤ balance → (balance +ℤ buying) ≤ℤ limit → limit ≤ℤ greatest_i64
        → buying ≤ℤ greatest_i64
    buying_below balance buying limit low fits most = omega (arith, ints)

    selling_below : (selling balance limit buying : ℤ) → selling ≤ℤ balance → pos 0 ≤ℤ buying
        → (balance +ℤ buying) ≤ℤ limit → limit ≤ℤ greatest_i64 → selling ≤ℤ greatest_i64
    selling_below selling balance limit buying covered low fits most = omega (arith, ints)

balance_numbers : (balance : ClaimableBalanceEntry) → IsBalanceInRange balance → AreBalanceNumbers balance
balance_numbers balance range = record {
  few = range.claimants.few;
  predicates = range.claimants.predicates;
  flags = range.flags;
}

pool_numbers : (pool : LiquidityPoolEntry) → IsPoolInRange pool → ArePoolNumbers pool
pool_numbers pool range = record {
  reserve_a = range.reserve_a;
  reserve_b = range.reserve_b;
  shares = range.shares;
  lines = range.lines;
}

-- ---- all entries

-- the bytes of what the set of a record leaves
pub applied_bytes : TransactionLaws → LegalSettles → (s : ClosingState) (closing : CloseRecord) → IsClosable s closing
    → AreBytes (applied_in s closing).entries
applied_bytes laws settles s closing can =
    set_bytes laws settles (setting_in s closing) closing.tx_set s.entries (can_close s closing can)
    (time_fits closing can.encoded) (set_encoded closing can.encoded) can.few (map_bytes s.entries can.state.entries)

module _ (laws : TransactionLaws) (settles : LegalSettles) (legal : SettledLegal) (conserve : SetsConserve)
    (s : ClosingState) (closing : CloseRecord) (after : EntryMap) (can : IsClosable s closing)
    (closed : AreClosed s closing after) where
  next_bytes : AreBytes after
  next_bytes =
      alike_bytes (applied_in s closing).entries after
      (next_alike (s.header.ledger_seq + 1) s.entries (applied_in s closing).entries after closed)
      (applied_bytes laws settles s closing can)

  next_seq : (k : LedgerKey) (e : LedgerEntry) → get after k ≡ Some e → e.last_modified_ledger_seq < 4294967296
  next_seq k e there =
      seq_of (s.header.ledger_seq + 1) (get s.entries k) (get (applied_in s closing).entries k) (get after k) e
      (small (seq_below s closing can.unrefused can.state.legal.header.seq_high))
      (λ was exists. let found = can.state.entries k was exists in
      entry_seq was (record { within = found.within; sized = found.sized }))
      (closed.each k) there
    where
      small : {n : ℕ} → n < 2147483647 → n + 1 < 4294967296
      small lt = omega arith

  -- legal under any header, whose hash of the levels says nothing of entries
  next_legal : IsLegal (finished (upgraded_header s closing) (record { 0 = [] })) after
  next_legal = next_is_legal legal conserve s closing after (record { 0 = [] }) can closed

  abbrev id_pool : ℕ
  id_pool = (finished (upgraded_header s closing) (record { 0 = [] })).id_pool

  range : (k : LedgerKey) (e : LedgerEntry) (of : LedgerEntryBody) → get after k ≡ Some e → e.body ≡ of
      → IsBodyInRange id_pool of
  range k e of there is = subst (IsBodyInRange id_pool) is (next_legal.entries k e there).body

  exists : (k : LedgerKey) (e : LedgerEntry) (account : AccountEntry) → get after k ≡ Some e
      → e.body ≡ body.Account account → account_at after account.account_id ≡ Some account
  unfolding account_at
  exists k e account there is =
      ap (λ (q : LedgerKey). account_of (get after q)) (ap key_of_body (sym is) ∙ next_legal.keyed k e there)
      ∙ ap account_of there ∙ ap account_in is

  used : (k : LedgerKey) (e : LedgerEntry) (held : TrustLineEntry) → get after k ≡ Some e
      → e.body ≡ body.TrustLine held → use_count held ≤ℤ pos 1000
  used k e held there is =
      let at = ap key_of_body (sym is) ∙ next_legal.keyed k e there in
      let states = ap (λ (q : LedgerKey). stated_at Uses (get after q)) at ∙ ap (stated_at Uses) there
      ∙ ap (stated Uses) is in
      subst (λ n. n ≤ℤ pos 1000) states
      (uses_few (finished (upgraded_header s closing) (record { 0 = [] })) after next_legal held.account_id held.asset)

  bytes_of : (k : LedgerKey) (e : LedgerEntry) (of : LedgerEntryBody) → get after k ≡ Some e → e.body ≡ of
      → AreBodyBytes of
  bytes_of k e of there is = subst AreBodyBytes is (next_bytes k e there).body

  numbers_of : (k : LedgerKey) (e : LedgerEntry) (of : LedgerEntryBody) → get after k ≡ Some e → e.body ≡ of
      → AreBodyNumbers of
  numbers_of k e (body.Account account) there is =
      let settled = next_settled conserve s closing can after closed in
      let at = exists k e account there is in
      account_numbers account (range k e (body.Account account) there is)
      (subst AreSubentriesFew is (next_legal.few k e there)) (subst DoReservesFit is (next_legal.fits k e there))
      ((laws.ready (applied_in s closing).id_pool after settled).ready account.account_id account at)
      (bytes_of k e (body.Account account) there is).selling
  numbers_of k e (body.TrustLine held) there is =
      line_numbers held (range k e (body.TrustLine held) there is) (used k e held there is)
  numbers_of k e (body.ClaimableBalance balance) there is =
      balance_numbers balance (range k e (body.ClaimableBalance balance) there is)
  numbers_of k e (body.Offer offer) there is = (range k e (body.Offer offer) there is).flags
  numbers_of k e (body.LiquidityPool pool) there is =
      pool_numbers pool (range k e (body.LiquidityPool pool) there is)
  numbers_of k e (body.Data entry) there is = tt

  pub next_encodable : AreEncodable after
  next_encodable k e there =
      entry_encodable e (next_seq k e there) (next_bytes k e there) (numbers_of k e e.body there refl)

pub entries_stay_encodable : TransactionLaws → LegalSettles → SettledLegal → SetsConserve → EntriesStayEncodable
entries_stay_encodable laws settles legal conserve s closing after can closed =
    next_encodable laws settles legal conserve s closing after can closed
