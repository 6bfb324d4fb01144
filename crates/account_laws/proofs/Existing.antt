-- That each account that existed goes on existing, as an invariant of maps: entries are put and changed, and entries of
-- other kinds are erased.
use Rattle.account_laws.specs.Existing.{DoAccountsExist}
use Rattle.close_laws.specs.entry_map.EntryMap.{EntryMap}
use Rattle.close_laws.specs.ledger_types.declared.entry.LedgerEntryBody.{LedgerEntryBody}
use Rattle.close_laws.specs.ledger_types.declared.ids.AccountId.{AccountId}
use Rattle.close_laws.specs.ledger_types.declared.key.LedgerKey.{LedgerKey}
use Rattle.close_laws.proofs.sponsor_laws_proofs.Settling.{exists_erased, exists_put}
use Rattle.std.specs.Prelude.{◌≢◌}
use Rattle.sponsor_rules.proofs.Entries.{FitsBody, Invariant, IsOther, Kinds}
use Rattle.op_form.proofs.Steps.{anything}
use Rattle.op_form.proofs.Walks.{Logic}
use Rattle.close_laws.specs.ledger_types.declared.entry.LedgerEntryBody.TheVariants as body
use Rattle.close_laws.specs.ledger_types.declared.key.LedgerKey.TheVariants as key

-- each account of the old entries exists
pub record Keeps (old m : EntryMap) : Type 0 where
  pub each : DoAccountsExist old m

pub keeps_itself : (m : EntryMap) → Keeps m m
keeps_itself m = record { each = λ id exists. exists }

pub apart : (k : LedgerKey) (id : AccountId) → IsOther k → key.Account id ≢ k
apart (key.Account own) id other same = absurd other
apart k id other same = absurd (cc)

-- nothing is asked of an entry
abbrev pub any : Kinds
any = record {
  Account = λ a. Unit {0};
  Line = λ t. Unit {0};
  Offer = λ o. Unit {0};
  Data = λ d. Unit {0};
  Balance = λ b. Unit {0};
  Pool = λ p. Unit {0};
  Sponsor = λ s. Unit {0};
  Key = λ k. Unit {0};
  Extension = λ ext. Unit {0};
  Named = λ a. Unit {0};
}

pub any_body : (b : LedgerEntryBody) → FitsBody any b
any_body (body.Account a) = tt
any_body other = tt

abbrev pub kept : EntryMap → Invariant
kept old = record {
  of = any;
  Holds = Keeps old;
  Goes = IsOther;
  others = λ k other. other;
  found = λ m k e keeps there. record { body = any_body e.body; sponsor = tt };
  putting = λ m e keeps fits. record { each = λ id exists. exists_put m e id (keeps.each id exists) };
  erasing = λ m k keeps other.
      record { each = λ id exists. exists_erased m k id (apart k id other) (keeps.each id exists) };
  Asks = ⊥;
  nobody = tt;
  counted = λ count n a fits. tt;
  numbered = λ balance seq_num a fits. tt;
  sequenced = λ n ext given a fits. tt;
  signed = λ index one sponsor key named a fits. tt;
  unsigned = λ index a fits. tt;
  sponsored = λ index sponsor named a fits. tt;
  weighed = λ index one key a fits. tt;
  liable = λ owed a within fits. tt;
  same_line = λ t s same asset fits. tt;
  pooled = λ a b shares lines p bound fits. tt;
  pool_assets = λ p fits. (tt, tt);
  pool_bounds = λ p fits asks. absurd asks;
  offer_left = λ n o facts. tt;
  Reported = λ one. Unit {0};
  crossed = λ o wheat sheep fits. tt;
  swapped = λ p id wheat sheep sold bought first second own fits. tt;
}

abbrev pub existing : EntryMap → Logic
existing old = record {
  inv = kept old;
  answers = anything;
  Context = λ ctx. Unit {0};
  sponsor = λ ctx id context. tt;
  extension = λ ctx context. tt;
  opened = λ ctx one named context. tt;
  closed = λ ctx index context. tt;
  drawn = λ ctx ids context. tt;
}
