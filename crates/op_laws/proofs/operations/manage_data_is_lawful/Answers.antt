use Rattle.op_laws.proofs.operations.manage_data_is_lawful.Goals as goal
use Rattle.op_laws.proofs.ManageData.{manage_data_is_lawful}

pub returns : goal.returns
returns c = manage_data_is_lawful
