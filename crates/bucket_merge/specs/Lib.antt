pub mod Merge
pub mod Walk
pub mod Job
pub mod Pending
pub mod Joining
pub mod Taking
