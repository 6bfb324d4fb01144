-- Amounts of any asset that accounts give and take, as moves say.
use Rattle.op_laws.proofs.Prelude.{◌≡◌, refl, ℕ, Ok, ℤ, pos, neg_ℤ, ◌≤ℤ◌, AccountId, Asset, LedgerKey, EntryMap, Ctx}
use Rattle.op_laws.proofs.Prelude.{Increase, AreEntriesLegal, leaves_as, map_after_debit, map_after_credit, OfAccount}
use Rattle.op_laws.proofs.Prelude.{IsMoved, more_of, unless_issuer}
use Rattle.op_flags.specs.ledger_types.declared.asset.Asset.TheVariants as asset
use Rattle.op_payment.proofs.Amounts as plain
use Rattle.op_laws.proofs.Described.{more_for, account_more}

-- what entries hold more, in other words
moved_as : (id_pool base : ℕ) (shift : Asset → ℤ) (d e : Increase) (old new : EntryMap)
    → ((k : LedgerKey) (x : Asset) → d k x ≡ e k x) → IsMoved id_pool base shift d old new
    → IsMoved id_pool base shift e old new
moved_as id_pool base shift d e old new same moved = record {
  shifts = moved.shifts;
  left = leaves_as base d e old new moved.left same;
}

more_described : (held : Asset) (id : AccountId) (n : ℤ) (k : LedgerKey) (x : Asset)
    → more_of held id n k x ≡ more_for held (OfAccount id) n k x
more_described asset.Native id n k x = refl
more_described (asset.Alphanum4 code issuer) id n k x = account_more (asset.Alphanum4 code issuer) refl id n k x
more_described (asset.Alphanum12 code issuer) id n k x = account_more (asset.Alphanum12 code issuer) refl id n k x

module _ (ctx : Ctx) (id_pool : ℕ) (m : EntryMap) (legal : AreEntriesLegal id_pool m) (id : AccountId) (n : ℤ)
    (low : pos 0 ≤ℤ n) (new : EntryMap) where
  pub amount_given : (held : Asset) → map_after_debit ctx id held n m ≡ Ok new
      → IsMoved id_pool ctx.base_reserve (λ x. unless_issuer x held id (neg_ℤ n))
      (more_for held (OfAccount id) (neg_ℤ n)) m new
  amount_given held is = moved_as id_pool ctx.base_reserve (λ x. unless_issuer x held id (neg_ℤ n))
      (more_of held id (neg_ℤ n)) (more_for held (OfAccount id) (neg_ℤ n)) m new (more_described held id (neg_ℤ n))
      (plain.amount_given ctx id_pool m legal id n low new held is)

  pub amount_taken : (held : Asset) → map_after_credit id held n m ≡ Ok new
      → IsMoved id_pool ctx.base_reserve (λ x. unless_issuer x held id n) (more_for held (OfAccount id) n) m new
  amount_taken held is = moved_as id_pool ctx.base_reserve (λ x. unless_issuer x held id n) (more_of held id n)
      (more_for held (OfAccount id) n) m new (more_described held id n)
      (plain.amount_taken ctx id_pool m legal id n low new held is)
