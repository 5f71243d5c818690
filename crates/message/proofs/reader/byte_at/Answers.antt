-- The law `byte_of`; the words before and the first byte of each are passed over.
use Rattle.std.proofs.Common.{arith}
use Rattle.message.proofs.Words.{bytes_given}
use Rattle.message.proofs.Parts.{room_is, byte_of}
use Rattle.message.proofs.reader.byte_at.Goals as goal

pub overflow_mul-first : goal.overflow_mul-first
overflow_mul-first c = omega (arith, room_is c.args.message.now c.args.at, c.requires)

pub overflow_add-result : goal.overflow_add-result
overflow_add-result c = omega (arith, room_is c.args.message.now c.args.at, c.requires)

pub overflow_add-result-2 : goal.overflow_add-result-2
overflow_add-result-2 c = omega (arith, room_is c.args.message.now c.args.at, c.requires)

pub overflow_add-result-3 : goal.overflow_add-result-3
overflow_add-result-3 c = omega (arith, room_is c.args.message.now c.args.at, c.requires)

pub bounds-message-first : goal.bounds-message-first
bounds-message-first c = omega (arith, room_is c.args.message.now c.args.at, c.requires)

pub returns : goal.returns
returns c = byte_of c.args.message.now c.args.at (bytes_given c.args.message.now (λ i. (c.type_inv.message i).fits)) c.args.j c.requires
