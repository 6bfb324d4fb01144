pub mod States
pub mod Answers
pub mod Worked
pub mod Leveled
pub mod Heading
pub mod Closing
pub mod Counted
pub mod ImageFiles
pub mod Judging
pub use Rattle.bucket_levels.specs as bucket_levels
pub use Rattle.close_laws.specs as close_laws
pub use Rattle.image_rules.specs as image_rules
pub use Rattle.page_cache.specs as page_cache
