-- The number, or no word at all.
use Rattle.message_writer.proofs.Writing.{trail_number_stored, no_trail_number_stored}
use Rattle.message_writer.proofs.put.put_trail_number.Goals as goal

pub returns-in-Some : goal.returns-in-Some
returns-in-Some c = rw c.in-Some.is (trail_number_stored c.in-Some.x c.put_number.ensures)

pub returns-in_default : goal.returns-in_default
returns-in_default c = rw c.in_default.is (no_trail_number_stored _)
