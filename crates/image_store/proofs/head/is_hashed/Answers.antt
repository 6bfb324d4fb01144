use Rattle.image_store.proofs.Prelude.{arith}
use Rattle.image_store.proofs.Words.{offset_two}
use Rattle.image_store.proofs.head.is_hashed.Goals as goal

pub read_exact-requires-clause-within : goal.read_exact-requires-clause-within
read_exact-requires-clause-within g c = λ reported.
    let size = (c.requires.size reported).size in
    omega (arith, size, offset_two c.args.head.now.format c.if-head-ne2.false)
