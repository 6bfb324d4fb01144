pub mod AccountSteps
