pub mod FieldLaws
pub mod OperationLaws
pub mod BodyLaws
pub mod TransactionLaws
pub mod AllLaws
