-- By what concluding answers: the laws of `Advancing`.
use Rattle.std.proofs.Common.{refl, arith, rules}
use Rattle.refusal.proofs.Numbers.{number_nonzero}
use Rattle.advance.proofs.Advancing.{advanced_over, advanced_on}
use Rattle.advance.proofs.advance.Goals as goal

pub returns-in-Ok-Going : goal.returns-in-Ok-Going
returns-in-Ok-Going c = advanced_on _ (rw c.in-Ok-Going.field-0-is at c.in-Ok-Going.ensures) refl (search rules) c.going.ensures

pub returns-in-Ok-Whole : goal.returns-in-Ok-Whole
returns-in-Ok-Whole c = advanced_over _ (rw c.in-Ok-Whole.field-0-is at c.in-Ok-Whole.ensures) (λ z. omega (arith, z)) c.over.ensures

pub returns-in-Err : goal.returns-in-Err
returns-in-Err c = advanced_over _ c.in-Err.ensures (number_nonzero _) c.over-in-Err.ensures
