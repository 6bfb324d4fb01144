pub mod Plain
pub mod PayloadLaws
pub mod AnswerLaws
pub mod OperationLaws
pub mod TransactionLaws
pub mod AllLaws
