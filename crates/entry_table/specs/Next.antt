-- The entries after a close, under their own crate's name.
pub use Rattle.entry_changes.specs.Next.{stamped, IsNextAt, AreNextEntries, IsExactBatch}
