-- Lines of pool shares that are added and removed.
use Rattle.legal_rules.proofs.Prelude as prelude
use prelude.{◌≡◌, refl, ap, ◌∙◌, ℕ, Bool, true, false, Option, Some, None, arith, ints, ℤ, pos, neg_ℤ, ◌+ℤ◌, ◌-ℤ◌}
use prelude.{if◌then◌else◌, AccountId, Hash, PoolParams, LedgerKey, total, is_key, for_key, uses_of, Kind, Subentries}
use prelude.{Sponsoring, Sponsored, Shares, ShareLines, Uses, View, offer_with, weighed, plus, less, beside_reserves}
use prelude.{IsEntryLegal, share_line, share_aggregates, ShareLineAdded, ShareLineRemoved, add_zero, add_zero_at_most}
use Rattle.hash_ids.specs.ledger_types.declared.asset.TrustLineAsset.TheVariants as line
use Rattle.hash_ids.specs.ledger_types.declared.entry.LedgerEntryExtensionV1.{LedgerEntryExtensionV1}
use Rattle.hash_ids.specs.ledger_types.declared.key.LedgerKey.TheVariants as key
use Rattle.legal_rules.proofs.Steps.{legal_as}
use Rattle.legal_rules.proofs.Kept.{subentry_added_so, subentry_removed_so}

less_zero : (x : ℤ) (t : Bool) → (x -ℤ (if t then pos 0 else pos 0)) ≡ x
less_zero x true = omega (arith, ints)
less_zero x false = omega (arith, ints)

counts : (v : View) (seq : ℕ) (ext : Option LedgerEntryExtensionV1) (id : AccountId) (pool : Hash) (params : PoolParams)
    (balance limit : ℤ) → v.pools pool ≡ Some params → (kind : Kind) (k : LedgerKey)
    → beside_reserves (weighed v (share_line seq ext id pool balance limit)) kind k
    ≡ share_aggregates id pool params balance kind k
counts v seq ext id pool params balance limit known Subentries k = refl
counts v seq ext id pool params balance limit known Sponsoring k = refl
counts v seq ext id pool params balance limit known Sponsored k = refl
counts v seq ext id pool params balance limit known Shares k =
    less_zero (for_key k (Some (key.LiquidityPool pool)) balance) (is_key (key.TrustLine id (line.PoolShare pool)) k)
counts v seq ext id pool params balance limit known ShareLines k =
    less_zero (for_key k (Some (key.LiquidityPool pool)) (pos 1)) (is_key (key.TrustLine id (line.PoolShare pool)) k)
counts v seq ext id pool params balance limit known Uses k =
    less_zero (uses_of k id (v.pools pool)) (is_key (key.TrustLine id (line.PoolShare pool)) k)
    ∙ ap (uses_of k id) known
counts v seq ext id pool params balance limit known kind k =
    less_zero (pos 0) (is_key (key.TrustLine id (line.PoolShare pool)) k)

pub share_line_added : ShareLineAdded
share_line_added v id_pool next owed sum ctx seq id pool params balance limit old new legal known free wide range exists
    ready done =
    legal_as v (IsEntryLegal next) _ (plus owed (share_aggregates id pool params balance)) _ sum new
    (subentry_added_so v id_pool next owed sum ctx id 2 (share_line seq None id pool balance limit) old new legal refl
    (record {
      free = free;
      unsponsored = refl;
      id_free = λ n. add_zero_at_most (total (offer_with n) old) (pos 1) (legal.offers n);
    }) wide range exists ready done)
    (λ kind k. ap (λ n. owed kind k +ℤ n) (counts v seq None id pool params balance limit known kind k))
    (add_zero sum)

pub share_line_removed : ShareLineRemoved
share_line_removed v id_pool owed sum seq ext id pool params balance limit m legal settled known there =
    legal_as v (IsEntryLegal id_pool) _ (plus owed (less (share_aggregates id pool params balance))) _ sum _
    (subentry_removed_so v id_pool owed sum id 2 (key.TrustLine id (line.PoolShare pool))
    (share_line seq ext id pool balance limit) m legal settled there refl)
    (λ kind k. ap (λ n. owed kind k +ℤ neg_ℤ n) (counts v seq ext id pool params balance limit known kind k))
    (add_zero sum)
