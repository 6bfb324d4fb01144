pub mod SponsorSteps
