-- The byte j, both ids and the tail hashed one after the other: the law `tag_is`.
use Rattle.sketch.proofs.Tags.{with_bytes, with_tail, tag_is}
use Rattle.sketch.proofs.hashing.tag.Goals as goal

pub returns : goal.returns
returns c =
    tag_is _ _ c.hash-first.ensures
    (with_bytes _ _ c.to_be_bytes.ensures c.hash_from-second.ensures)
    (with_bytes _ _ c.to_be_bytes-2.ensures c.hash_from-third.ensures)
    (with_tail _ c.args.s c.tail.ensures c.to_be_bytes-3.ensures c.hash_from.ensures)
