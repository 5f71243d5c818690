-- A trail number that is carried, or left out.
use Rattle.std.proofs.Common.{Bool, true, false, Option, None, Some, ◌≡◌, ℕ, refl}
use Rattle.std.proofs.Math.Bool.{not, beq}
use Rattle.std.specs.Option.{is_some, unwrap_or}
use Rattle.message.specs.Reading.{stated_by}
use Rattle.protocol.specs.Numbers.{meant_by, rightly}

pub meant_is : (trail : Option ℕ) → unwrap_or trail 0 ≡ meant_by (stated_by trail)
unfolding meant_by
meant_is None = refl
meant_is (Some x) = refl

pub rightly_is : (trail : Option ℕ) (none only : Bool) → is_some trail ≡ not none → beq none only ≡ rightly (stated_by trail) only
unfolding rightly
rightly_is None true true e = refl
rightly_is None true false e = refl
rightly_is None false only e = absurd cc
rightly_is (Some x) true only e = absurd cc
rightly_is (Some x) false true e = refl
rightly_is (Some x) false false e = refl
