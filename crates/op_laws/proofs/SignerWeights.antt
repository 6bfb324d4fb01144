-- A signer that is there and gets another weight.
use Rattle.op_laws.proofs.Prelude.{◌≡◌, inl, inr, refl, sym, ap, subst, ◌∙◌, ℕ, ◌<◌, ◌≤◌, List, [], ◌∷◌, length, get_or}
use Rattle.op_laws.proofs.Prelude.{map, Option, Some, None, slice_set, arith, ints, cases_eq, length-set}
use Rattle.op_laws.proofs.Prelude.{get_or-set_same, get_or-set_other, All-set, pos, AccountId, Signer, AccountEntry}
use Rattle.op_laws.proofs.Prelude.{signer_key_cmp, EntryMap, account_at, with_account, second_in, sponsorship_in}
use Rattle.op_laws.proofs.Prelude.{KeepsAggregates, nothing_owed, AreSignersInRange, IsAccountInRange, lumens_of}
use Rattle.op_laws.proofs.Prelude.{account_legal, account_changed, legal_as, with_signer_set, IsKeyed, none_more}
use Rattle.op_laws.proofs.Prelude.{IsNext, Leaves, account_kept, add_sub_self, add_zero}
use Rattle.op_flags.specs.ledger_types.declared.account.AccountEntryExtensionV2.{AccountEntryExtensionV2}
use Rattle.op_flags.specs.sponsor_laws.Sums.{signer_sponsors}
use Rattle.op_laws.proofs.Lawful.{KeepsLegal}

-- ---- sponsors

none_each : (xs ys : List Signer) → length xs ≡ length ys
    → ◌≡◌ {A = List (Option AccountId)} (map (λ s. None) xs) (map (λ s. None) ys)
none_each [] [] same = refl
none_each [] (y ∷ ys) same = absurd (omega arith)
none_each (x ∷ xs) [] same = absurd (omega arith)
none_each (x ∷ xs) (y ∷ ys) same = ap (λ l. None ∷ l) (none_each xs ys (omega arith))

same_sponsors : (xs ys : List Signer) (o : Option AccountEntryExtensionV2) → length xs ≡ length ys
    → (sponsorship_in xs o).signer_sponsoring_ids ≡ (sponsorship_in ys o).signer_sponsoring_ids
same_sponsors xs ys None same = none_each xs ys same
same_sponsors xs ys (Some ext) same = refl

-- ---- signers

module _ (id : AccountId) (xs : List Signer) (sponsors : List (Option AccountId))
    (was : AreSignersInRange id xs sponsors) (index : ℕ) (within : index < length xs) (s : Signer)
    (same : (d : Signer) → (get_or xs index d).key ≡ s.key) where
  abbrev ys : List Signer
  ys = slice_set xs index s

  key_at : (k : ℕ) (d : Signer) → (get_or ys k d).key ≡ (get_or xs k d).key
  key_at k d = elim (cases_eq k index) [
    | inl here ↦
        ap (λ i. (get_or ys i d).key) here ∙ ap (λ (x : Signer). x.key) (get_or-set_same xs index s d within)
        ∙ sym (same d) ∙ ap (λ i. (get_or xs i d).key) (sym here)
    | inr apart ↦ ap (λ (x : Signer). x.key) (get_or-set_other xs index k s d apart)
  ]

  pub signers_weighed : (1 ≤ s.weight) × (s.weight ≤ 255) → AreSignersInRange id ys sponsors
  signers_weighed weight = record {
    few = let long = length-set xs index s in let few = was.few in omega arith;
    rising = λ i j d lt in_ys.
        let long = length-set xs index s in
        (λ t. signer_key_cmp (key_at i d t) (key_at j d t)) ∙ was.rising i j d lt (omega arith);
    weights = All-set (λ (x : Signer). (1 ≤ x.weight) × (x.weight ≤ 255)) xs index s weight was.weights;
    others = λ k d in_ys own.
        let long = length-set xs index s in
        was.others k d (omega arith) (sym (key_at k d) ∙ own);
    items = was.items ∙ sym (length-set xs index s);
    paid_by_others = was.paid_by_others;
  }

-- ---- the account

module _ (index : ℕ) (s : Signer) (weight : (1 ≤ s.weight) × (s.weight ≤ 255)) (a : AccountEntry)
    (within : index < length a.signers) (same : (d : Signer) → (get_or a.signers index d).key ≡ s.key) where
  abbrev b : AccountEntry
  b = with_signer_set index s a

  as_long : length b.signers ≡ length a.signers
  as_long = length-set a.signers index s

  its_sponsors : signer_sponsors b ≡ signer_sponsors a
  its_sponsors = same_sponsors b.signers a.signers (second_in a.ext) as_long

  weighed_aggregates : KeepsAggregates a b
  weighed_aggregates = record {
    id = refl;
    subentries = refl;
    sponsoring = refl;
    sponsored = refl;
    liabilities = refl;
    signers = as_long;
    sponsors = its_sponsors;
  }

  weighed_range : IsAccountInRange a → IsAccountInRange b
  weighed_range r = record {
    range = record {
      balance = r.range.balance;
      buying = r.range.buying;
      selling = r.range.selling;
      fits = r.range.fits;
    };
    seq_num = r.seq_num;
    greatest_seq_num = r.greatest_seq_num;
    flags = r.flags;
    home_domain = r.home_domain;
    signers = subst (AreSignersInRange a.account_id b.signers) (sym its_sponsors)
        (signers_weighed a.account_id a.signers (signer_sponsors a) r.signers index within s same weight);
  }

  weighed_next : (base : ℕ) → IsNext base (pos 0) a b
  weighed_next base = record {
    id = refl;
    balance = sym (add_zero a.balance);
    covered = inr (omega (arith, ints));
  }

  module _ (m : EntryMap) (id : AccountId) (exists : account_at m id ≡ Some a) where
    pub weighed_legal : (id_pool : ℕ) → KeepsLegal id_pool m (with_account m id (with_signer_set index s))
    weighed_legal id_pool v sum legal =
        legal_as v _ nothing_owed nothing_owed _ sum _
        (account_changed v id_pool nothing_owed sum m id (with_signer_set index s) a legal exists weighed_aggregates
        (weighed_range (account_legal v id_pool nothing_owed sum m id a legal exists).range)) (λ kind k. refl)
        (add_sub_self sum (lumens_of v.asset a.balance))

    pub weighed_left : (base : ℕ) → IsKeyed m → Leaves base none_more m (with_account m id (with_signer_set index s))
    weighed_left base keyed = account_kept base m keyed id (with_signer_set index s) (λ c there.
        let also : a ≡ c = cc in
        subst (λ x. IsNext base (pos 0) x (with_signer_set index s x)) also (weighed_next base))
