-- What a clause reads of a publisher.
use Rattle.std.specs.Prelude.{ℕ}
use Rattle.ledger_readers.specs.declared.publisher.PublisherOf.{PublisherOf}

module _ {T O S F : Type 0} {g : _} {h : _} where
  -- the list of the views that it published
  abbrev pub published : PublisherOf T O S F g h → F
  published p = p.prefix

  abbrev pub reader_count : PublisherOf T O S F g h → ℕ
  reader_count p = p.readers
