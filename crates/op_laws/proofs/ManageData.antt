-- MANAGE_DATA is lawful.
use Rattle.op_laws.proofs.Prelude as prelude
use prelude.{List, Option, [], ap, is_some, length, nat_eq, not, refl, subst, sym, true, ℕ, ◌∙◌, ◌≡◌, ◌≤◌, Some, None}
use prelude.{Ok, arith, ℤ, pos, get, AccountId, Asset, AccountEntry, LedgerEntry, LedgerEntryBody, LedgerKey, key_of}
use prelude.{key_of_body, is_valid_text, EntryMap, put, erase, account_at, HasAccount, sponsor_of, part, Ctx}
use prelude.{map_after_adding, without_subentry, map_after_discounting, map_after_removing, map_after_removing_entry}
use prelude.{Kind, Subentries, View, view, weight, nothing_owed, IsEntryLegal, IsLegalOwing, IsDataInRange, held}
use prelude.{held_in, sponsors_ready, subentry_added_so, nothing_settled, subentry_removed, owns, legal_as}
use prelude.{replace_legal, subentry_of, name_tests, new_data, with_value, manage_data, IsLawful, AreLawful, IsUnderway}
use prelude.{subentry_kept, discharged_kept, erased_kept, put_beside, IsKeyed, none_more, put_same, Leaves, keeps_both}
use prelude.{accounts_kept, keyed_put, add_neg_zero, add_sub_self, add_zero, add_zero_at_most}
use prelude.{natural_positive_from_unequal, zero_sub_zero, zeros_add_to_zero, data_settled, not-false, or_parts}
use prelude.{IsEntryOf, data_exact, data_under, entry_found, nothing_under, with_found}
use Rattle.op_flags.specs.ledger_types.declared.data_entry.DataEntry.{DataEntry}
use Rattle.op_flags.specs.ledger_types.declared.entry.LedgerEntryBody.TheVariants as body
use Rattle.op_flags.specs.ledger_types.declared.key.LedgerKey.TheVariants as key
use Rattle.op_flags.specs.entry_slots.DataEntries.{data_at, with_data, data_kind}
use Rattle.op_flags.specs.op_types.declared.account_results.ManageDataResult.TheVariants as manage
use Rattle.op_options.specs.ManageData.{answer}
use Rattle.op_laws.proofs.Lawful.{KeepsLegal, lawful_still}
use Rattle.op_form.proofs.Steps.{done_so, anything, AllPass}
use Rattle.op_form.proofs.Walks.{succeeded}
use Rattle.op_options.proofs.OptionSteps.{data_steps}

-- ---- the entry of data

abbrev IsDataEntry : EntryMap → AccountId → List ℕ → DataEntry → LedgerEntry → Type 0
IsDataEntry m id name d e = IsEntryOf data_kind m (key.Data id name) d e

data_entry : (m : EntryMap) (id : AccountId) (name : List ℕ) (d : DataEntry) → data_at m id name ≡ Some d
    → (e : LedgerEntry) × IsDataEntry m id name d e
unfolding data_at
data_entry m id name d h = entry_found data_exact m (key.Data id name) d h

-- where no data is under its key, nothing is
no_data : (m : EntryMap) (id : AccountId) (name : List ℕ) → IsKeyed m → data_at m id name ≡ None
    → get m (key.Data id name) ≡ None
unfolding data_at
no_data m id name keyed none =
    nothing_under data_exact m (key.Data id name) (data_under id name) (keyed (key.Data id name)) none

-- data holds nothing
nothing_held_in : (x : Asset) (b : LedgerEntryBody) (id : AccountId) (name : List ℕ) → key_of_body b ≡ key.Data id name
    → held_in x b ≡ pos 0
nothing_held_in x (body.Data d) id name own = refl
nothing_held_in x other id name own = absurd (cc)

nothing_held_of : (x : Asset) (o : Option LedgerEntry) (id : AccountId) (name : List ℕ)
    → ((e : LedgerEntry) → o ≡ Some e → key_of e ≡ key.Data id name) → part (held x) o ≡ pos 0
nothing_held_of x None id name own = refl
nothing_held_of x (Some e) id name own = nothing_held_in x e.body id name (own e refl)

nothing_held : (m : EntryMap) (id : AccountId) (name : List ℕ) → IsKeyed m → (x : Asset)
    → part (held x) (get m (key.Data id name)) ≡ pos 0
nothing_held m id name keyed x =
    nothing_held_of x (get m (key.Data id name)) id name (keyed (key.Data id name))

-- ---- adding

module _ (ctx : Ctx) (m : EntryMap) (under : IsUnderway ctx m) (exists : HasAccount m ctx.op_source) (name : List ℕ)
    (range : (value : List ℕ)
    → IsDataInRange (record { account_id = ctx.op_source; data_name = name; data_value = value })) where
  abbrev src : AccountId
  src = ctx.op_source

  added_legal : (value : List ℕ) (new : EntryMap) → data_at m src name ≡ None
      → map_after_adding ctx src (new_data ctx name value) m ≡ Ok new → KeepsLegal ctx.id_pool m new
  added_legal value new none done v sum legal =
      let entry = new_data ctx name value in
      legal_as v (IsEntryLegal ctx.id_pool) _ nothing_owed _ sum new
      (subentry_added_so v ctx.id_pool ctx.id_pool nothing_owed sum ctx src 1 entry m new legal refl (record {
        free = no_data m src name legal.keyed none;
        unsponsored = refl;
        id_free = λ id. add_zero_at_most _ (pos 1) (legal.offers id);
      }) (omega arith) (record {
        range = record { body = range value; paid = λ some. absurd (some refl) };
        bound = tt;
        few = tt;
        fits = tt;
        filled = tt;
      }) exists (sponsors_ready ctx m src under.sponsorships) done)
      (λ kind k. zeros_add_to_zero (pos 0) _ refl
      (data_settled v entry (record { account_id = src; data_name = name; data_value = value })
      kind k)) (add_zero sum)

  added_lawful : (value : List ℕ) (new : EntryMap) → data_at m src name ≡ None
      → map_after_adding ctx src (new_data ctx name value) m ≡ Ok new
      → IsLawful ctx m (succeeded ctx (answer manage.Success) new [])
  added_lawful value new none is =
      lawful_still ctx m under (answer manage.Success) new (added_legal value new none is)
      (subentry_kept ctx m src 1 (new_data ctx name value) new under.settled.legal.keyed (λ id at. absurd (cc))
      (λ x. refl) (nothing_held m src name under.settled.legal.keyed) is)

  -- ---- another value

  abbrev valued_entry : LedgerEntry → DataEntry → LedgerEntry
  valued_entry e d = record e { body = body.Data d }

  value_unmoved : (value : List ℕ) (d : DataEntry) (v : View) (kind : Kind) (k : LedgerKey) (e : LedgerEntry)
      → weight v kind k (valued_entry e (with_value value d)) ≡ weight v kind k (valued_entry e d)
  value_unmoved value d v Subentries k e = refl
  value_unmoved value d v other k e = refl

  with_data_is : (value : List ℕ) (d : DataEntry) (e : LedgerEntry) → IsDataEntry m src name d e
      → with_data m src name (with_value value) ≡ put m (valued_entry e (with_value value d))
  unfolding with_data
  with_data_is value d e here = with_found data_exact m (key.Data src name) (with_value value) d e here

  valued_legal : (value : List ℕ) (d : DataEntry) (e : LedgerEntry) → IsDataEntry m src name d e
      → KeepsLegal ctx.id_pool m (put m (valued_entry e (with_value value d)))
  valued_legal value d e here v sum legal =
      let there : get m (key.Data src name) ≡ Some (valued_entry e d) = here.there
      ∙ ap Some (λ i. record e { body = here.is i }) in
      let was = legal.entries (key.Data src name) (valued_entry e d) there in
      legal_as v (IsEntryLegal ctx.id_pool) _ nothing_owed _ sum _
      (replace_legal v (IsEntryLegal ctx.id_pool) nothing_owed nothing_owed sum m (key.Data src name)
      (valued_entry e d) (valued_entry e (with_value value d)) there legal (record {
        own = refl;
        params = refl;
        offers = λ id. refl;
        aggregates = λ kind k. value_unmoved value d v kind k e ∙ sym (add_zero _);
      }) (record {
        range = record {
          body = record { some = was.range.body.some; name = was.range.body.name };
          paid = was.range.paid;
        };
        bound = tt;
        few = tt;
        fits = tt;
        filled = tt;
      })) (λ kind k. refl) (add_sub_self sum (pos 0))

  valued_lawful : (value : List ℕ) (d : DataEntry) → data_at m src name ≡ Some d
      → IsLawful ctx m (succeeded ctx (answer manage.Success) (with_data m src name (with_value value)) [])
  valued_lawful value d at =
      let found = data_entry m src name d at in
      let e1 = valued_entry found.0 (with_value value d) in
      let put_so = with_data_is value d found.0 found.1 in
      lawful_still ctx m under (answer manage.Success) (with_data m src name (with_value value))
      (subst (KeepsLegal ctx.id_pool m) (sym put_so) (valued_legal value d found.0 found.1))
      (subst (Leaves ctx.base_reserve none_more m) (sym put_so) (accounts_kept ctx.base_reserve none_more m (put m e1)
      (keyed_put m e1 under.settled.legal.keyed) (put_beside m e1 (λ id same. absurd (cc)))
      (put_same m e1 (λ x. sym (nothing_held m d.account_id d.data_name under.settled.legal.keyed x)))))

-- ---- removing

module _ (id_pool base : ℕ) (m : EntryMap) (id : AccountId) (name : List ℕ) where
  abbrev its_key : LedgerKey
  its_key = key.Data id name

  module _ (e : LedgerEntry) (d : DataEntry) (there : get m its_key ≡ Some (record e { body = body.Data d })) where
    abbrev e1 : LedgerEntry
    e1 = record e { body = body.Data d }

    removed_legal : KeepsLegal id_pool m (map_after_removing_entry its_key m (Some e1))
    removed_legal v sum legal = legal_as v (IsEntryLegal id_pool) _ nothing_owed _ sum _
        (subentry_removed v id_pool nothing_owed sum m legal nothing_settled d.account_id 1 its_key e1 there
        (subentry_of (body.Data d) d.account_id 1 refl))
        (λ kind k. zero_sub_zero _ (data_settled v e d kind k)) (add_neg_zero sum)

    had_one : (v : View) (sum : ℤ) → IsLegalOwing v id_pool nothing_owed sum m → (a : AccountEntry)
        → account_at m d.account_id ≡ Some a → 1 ≤ a.num_sub_entries
    had_one v sum legal a exists =
        let own = owns v id_pool nothing_owed sum m legal nothing_settled d.account_id 1 its_key e1 there
        (subentry_of (body.Data d) d.account_id 1 refl) in
        let also = own.exists in
        let same : own.account ≡ a = cc in
        subst (λ (b : AccountEntry). 1 ≤ b.num_sub_entries) same own.enough

    removed_left : (v : View) (sum : ℤ) → IsLegalOwing v id_pool nothing_owed sum m
        → Leaves base none_more m (map_after_removing_entry its_key m (Some e1))
    removed_left v sum legal =
        let s = sponsor_of e1 in
        let now = map_after_discounting d.account_id 1 s m in
        let first = discharged_kept base 1 d.account_id s m legal.keyed (had_one v sum legal)
        (without_subentry 1 s) (λ a next. next) in
        keeps_both base m now (erase now its_key) first
        (erased_kept base now its_key first.keyed (λ other same. absurd (cc)) (nothing_held now id name first.keyed))

removed_lawful : (ctx : Ctx) (m : EntryMap) → IsUnderway ctx m → (name : List ℕ)
    → is_some (data_at m ctx.op_source name) ≡ true
    → IsLawful ctx m (succeeded ctx (answer manage.Success) (map_after_removing (key.Data ctx.op_source name) m) [])
removed_lawful ctx m under name some =
    let src = ctx.op_source in
    let k = key.Data src name in
    let there = exists_then (data_at m src name) some in
    let found = data_entry m src name there.0 there.1 in
    let is_so : found.0 ≡ record found.0 { body = body.Data there.0 } = λ i. record found.0 { body = found.1.is i } in
    let at = found.1.there ∙ ap Some is_so in
    let removed_so : map_after_removing_entry k m (Some (record found.0 { body = body.Data there.0 }))
    ≡ map_after_removing k m = sym (ap (map_after_removing_entry k m) at) in
    lawful_still ctx m under (answer manage.Success) (map_after_removing k m)
    (subst (KeepsLegal ctx.id_pool m) removed_so
    (removed_legal ctx.id_pool ctx.base_reserve m src name found.0 there.0 at))
    (subst (Leaves ctx.base_reserve none_more m) removed_so
    (removed_left ctx.id_pool ctx.base_reserve m src name found.0 there.0 at (view m) _ under.settled.legal))
  where
    exists_then : (o : Option DataEntry) → is_some o ≡ true → (d : DataEntry) × (o ≡ Some d)
    exists_then None test = absurd (cc)
    exists_then (Some d) test = (d, refl)

-- ---- the operation

in_range : (id : AccountId) (name : List ℕ) → AllPass (name_tests name) → (value : List ℕ)
    → IsDataInRange (record { account_id = id; data_name = name; data_value = value })
in_range id name pass value =
    let both = or_parts (nat_eq (length name) 0) (not (is_valid_text name)) pass.0 in
    record {
      some = natural_positive_from_unequal (length name) both.0;
      name = not-false (is_valid_text name) both.1;
    }

pub manage_data_is_lawful : AreLawful manage_data
manage_data_is_lawful ctx op m done under exists is =
    let name = op.data_name in
    done_so anything (IsLawful ctx m) (manage_data ctx op m) done
    (data_steps anything (IsLawful ctx m) ctx op m (record {
      removed = λ pass none there. removed_lawful ctx m under name there;
      added = λ value new pass given none made.
          added_lawful ctx m under exists name (in_range ctx.op_source name pass) value new none made;
      changed = λ value was pass given at.
          valued_lawful ctx m under exists name (in_range ctx.op_source name pass) value was at;
    })) is
