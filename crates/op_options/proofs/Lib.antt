pub mod OptionSteps
