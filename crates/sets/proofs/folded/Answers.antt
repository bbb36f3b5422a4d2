-- `folded` meets its contract: both parts of the sum are at most the lower halves. Assumes nothing.
use mathlib.Core.Path.{refl}
use Prim.Native.Nat.{◌/◌, ◌^◌}
use native.Mathlib.Omega.{arith}
use lib.Bits.{and_le_r}
use Rattle.sets.specs.Lanes.{folded}
use Rattle.sets.proofs.folded.Goals as goal

pub overflow_add-result : goal.overflow_add-result
overflow_add-result c = let a = c.args in omega (arith, and_le_r a.word a.halves, and_le_r (a.word / 2 ^ a.width) a.halves)

pub returns : goal.returns
unfolding folded
returns c = refl
