use Rattle.legal_rules.proofs.amounts.seq_nums_keep.Goals as goal
use Rattle.legal_rules.proofs.SeqNums.{seq_nums_keep}

pub returns : goal.returns
returns c = seq_nums_keep
