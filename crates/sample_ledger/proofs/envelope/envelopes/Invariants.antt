use Rattle.sample_ledger.proofs.Prelude.{◌≡◌, map, range_with_len, envelope_of}
use Rattle.sample_ledger.proofs.envelope.envelopes.Given as goal

abbrev pub invariant-loop-account : goal.invariant-loop-account
invariant-loop-account l = l.envelopes ≡ map (envelope_of l.accounts l.k) (range_with_len 0 l.account)
