-- Entries that can be in a bucket's file, under their own crate's name.
pub use Rattle.entry_table.specs.entry_changes.Encodable.{max_entry_len, IsEntryEncodable, AreEncodable}
