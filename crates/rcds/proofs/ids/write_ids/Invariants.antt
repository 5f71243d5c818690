-- The first i ids are written, and the bytes after them are as they came.
use Rattle.std.proofs.Common.{◌++◌, ◌≡◌, ◌*◌, length, take, drop}
use Rattle.rcds.specs.Trails.{bytes_of_ids}
use Rattle.rcds.proofs.ids.write_ids.Given as goal

abbrev pub invariant-loop-i : goal.invariant-loop-i
invariant-loop-i l = (length l.ids ≡ length l.initial.ids) × (l.ids ≡ bytes_of_ids (take l.i l.id-items) ++ drop (l.i * 8) l.initial.ids)
