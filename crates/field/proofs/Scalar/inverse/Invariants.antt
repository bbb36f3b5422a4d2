-- `Scalar::inverse` meets its contract. The loop keeps factor times the inverse of what is left, modulo q. Assumes nothing.
use mathlib.Core.Path.{◌≡◌}
use Prim.Native.Nat.{◌*◌, ◌%◌, ◌<◌}
use Rattle.field.specs.Definitions.{q, inverse_of}
use Rattle.field.proofs.Scalar.inverse.Given as goal

abbrev pub invariant-loop-left : goal.invariant-loop-left
invariant-loop-left l = (l.left < q) × (l.initial.left < q) × (l.factor.0 * inverse_of l.left % q ≡ inverse_of l.initial.left)

abbrev pub decreases-loop-left : goal.decreases-loop-left
decreases-loop-left l = l.left
