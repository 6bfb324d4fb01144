pub mod Coded
pub mod Answers
pub mod Results
