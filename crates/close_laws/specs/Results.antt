-- That what a close answers can be written.
use Rattle.close_rules.specs.xdr_header.declared.record.CloseRecord.{CloseRecord}
use Rattle.close_rules.specs.xdr_results.Results.{transaction_result_set}
use Rattle.close_rules.specs.State.{ClosingState}
use Rattle.close_rules.specs.Close.{applied_in, result_set}
use Rattle.close_laws.specs.Legal.{IsClosable}

-- the results of a set keep the bounds on lengths
abbrev pub ResultsAreEncoded : Type 0
ResultsAreEncoded = (s : ClosingState) (closing : CloseRecord) → IsClosable s closing
    → transaction_result_set.within (result_set (applied_in s closing).results)
