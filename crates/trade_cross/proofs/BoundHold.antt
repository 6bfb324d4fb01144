-- What offers bind and release, and what is paid, in a map of which an invariant holds.
use Rattle.entry_map.specs.EntryMap.{EntryMap}
use Rattle.entry_slots.specs.AccountExtensions.{account_liabilities}
use Rattle.entry_slots.specs.Accounts.{account_at}
use Rattle.ledger_types.proofs.Arithmetic.{sub_natural_at_most}
use Rattle.ledger_types.specs.declared.account.AccountEntry.{AccountEntry}
use Rattle.ledger_types.specs.declared.ids.AccountId.{AccountId}
use Rattle.ledger_types.specs.declared.key.LedgerKey.{LedgerKey}
use Rattle.ledger_types.specs.declared.offer.OfferEntry.{OfferEntry}
use Rattle.legal_rules.specs.Binding.{acquiring, binding, bound_account, bound_line, releasing, risen}
use Rattle.legal_rules.specs.OfferLiabilities.{bound_of}
use Rattle.legal_rules.specs.Payments.{paid}
use Rattle.legal_rules.specs.Trades.{holder}
use Rattle.reserve_rules.specs.Reserve.{greatest_i64}
use Rattle.std.proofs.Common.{arith, refl, sym, ◌∙◌}
use Rattle.std.proofs.lemmas.Int.{ints}
use Rattle.std.specs.Prelude.{None, Option, Some, neg_ℤ, pos, ℕ, ℤ, ◌+ℤ◌, ◌≡◌, ◌≤ℤ◌}
use Rattle.sponsor_rules.proofs.Changes.{account_changed, line_changed, one_changed}
use Rattle.sponsor_rules.proofs.Charges.{removing_holds}
use Rattle.sponsor_rules.proofs.Entries.{Invariant, IsBoundBy}
use Rattle.trade_cross.specs.Cancelling.{map_after_cancelling}
use Rattle.trade_cross.specs.Crossing.{offer_key}
use Rattle.trade_cross.specs.Holdings.{line_paid, paying}
use Rattle.ledger_types.specs.declared.key.LedgerKey.TheVariants as key

-- ---- what may be sold

-- the account under a key may sell so much more; what a line sells is in its balance
abbrev pub MaySell : EntryMap → Option LedgerKey → ℤ → Type 0
MaySell m (Some (key.Account id)) selling =
    (a : AccountEntry) → account_at m id ≡ Some a
    → IsBoundBy (account_liabilities a).selling ((account_liabilities a).selling +ℤ selling)
MaySell m other selling = Unit {0}

as_much : (was : ℤ) → was ≤ℤ greatest_i64 → (was +ℤ pos 0) ≤ℤ greatest_i64
as_much was le = omega (arith, ints)

less_may : (m : EntryMap) (o : Option LedgerKey) (n : ℕ) → MaySell m o (neg_ℤ (pos n))
less_may m (Some (key.Account id)) n = λ a at le. sub_natural_at_most (account_liabilities a).selling greatest_i64 n le
less_may m other n = tt

pub same_may : (m : EntryMap) (o : Option LedgerKey) → MaySell m o (pos 0)
same_may m (Some (key.Account id)) = λ a at le. as_much (account_liabilities a).selling le
same_may m other = tt

-- the same accounts may sell the same
pub still_may : (m now : EntryMap) (o : Option LedgerKey) (selling : ℤ)
    → ((id : AccountId) → account_at now id ≡ account_at m id) → MaySell m o selling → MaySell now o selling
still_may m now (Some (key.Account id)) selling same may = λ a at. may a (sym (same id) ∙ at)
still_may m now other selling same may = tt

-- ---- changes

module _ (i : Invariant) where
  pub paying_holds : (o : Option LedgerKey) (n : ℤ) (m : EntryMap) → i.Holds m → i.Holds (paying o n m)
  paying_holds None n m holds = holds
  paying_holds (Some (key.Account id)) n m holds = account_changed i (paid n) (λ a. i.numbered _ _ a) m id holds
  paying_holds (Some (key.TrustLine id held)) n m holds =
      line_changed i (line_paid n) (λ t fits. i.same_line t _ refl refl fits) m id held holds
  paying_holds (Some other) n m holds = holds

  binding_holds : (o : Option LedgerKey) (selling buying : ℤ) (m : EntryMap) → (i.Asks → MaySell m o selling)
      → i.Holds m → i.Holds (binding o selling buying m)
  binding_holds None selling buying m may holds = holds
  binding_holds (Some (key.Account id)) selling buying m may holds =
      one_changed i m id (bound_account selling buying)
      (λ a at fits. i.liable (risen selling buying (account_liabilities a)) a (λ asks. may asks a at) fits) holds
  binding_holds (Some (key.TrustLine id held)) selling buying m may holds =
      line_changed i (bound_line selling buying) (λ t fits. i.same_line t _ refl refl fits) m id held holds
  binding_holds (Some other) selling buying m may holds = holds

  -- what an offer binds is released
  pub releasing_holds : (o : OfferEntry) (m : EntryMap) → i.Holds m → i.Holds (releasing o m)
  releasing_holds o m holds =
      let mid = binding (holder o.seller_id o.selling) (neg_ℤ (pos (bound_of o).wheat)) (pos 0) m in
      binding_holds (holder o.seller_id o.buying) (pos 0) (neg_ℤ (pos (bound_of o).sheep)) mid
      (λ asks. same_may mid (holder o.seller_id o.buying))
      (binding_holds (holder o.seller_id o.selling) (neg_ℤ (pos (bound_of o).wheat)) (pos 0) m
      (λ asks. less_may m (holder o.seller_id o.selling) (bound_of o).wheat) holds)

  -- what an offer binds is bound, where what it sells may be sold
  pub acquiring_holds : (o : OfferEntry) (m : EntryMap)
      → (i.Asks → MaySell m (holder o.seller_id o.selling) (pos (bound_of o).wheat)) → i.Holds m
      → i.Holds (acquiring o m)
  acquiring_holds o m may holds =
      let mid = binding (holder o.seller_id o.selling) (pos (bound_of o).wheat) (pos 0) m in
      binding_holds (holder o.seller_id o.buying) (pos 0) (pos (bound_of o).sheep) mid
      (λ asks. same_may mid (holder o.seller_id o.buying))
      (binding_holds (holder o.seller_id o.selling) (pos (bound_of o).wheat) (pos 0) m may holds)

  -- an offer is removed without a trade
  pub cancelling_holds : (o : OfferEntry) (m : EntryMap) → i.Holds m → i.Holds (map_after_cancelling o m)
  cancelling_holds o m holds =
      removing_holds i (offer_key o) (releasing o m) (i.others (offer_key o) tt) (releasing_holds o m holds)
