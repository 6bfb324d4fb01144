pub mod Payment
pub mod Paths
pub mod PathPayment
pub mod PathReceive
pub mod PathSend
pub mod PathCalls
pub mod Operations
