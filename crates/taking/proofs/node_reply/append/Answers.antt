-- 18, or copying goes on behind the bytes.
use Rattle.std.proofs.Common.{refl, arith, rules}
use Rattle.taking.proofs.Literal.{literal_long, literal_advances}
use Rattle.taking.proofs.node_reply.append.Goals as goal

pub returns-then-state : goal.returns-then-state
returns-then-state c = literal_long c.requires (search rules) c.end.ensures

pub returns-then-left-count : goal.returns-then-left-count
returns-then-left-count c = literal_long c.requires (search rules) c.end-then-left-count.ensures

pub returns : goal.returns
returns c =
    let one = c.if-state.false in
    let two = c.if-left-count.false in
    literal_advances c.requires (omega (arith, one, two)) c.copy_bytes.ensures refl refl c.advance.ensures
