-- `power_of` meets its contract. The loop keeps product × square ^ left modulo m, until none or one is left. Assumes nothing.
use mathlib.Core.Path.{◌≡◌}
use Prim.Native.Nat.{◌*◌, ◌%◌, ◌^◌, ◌<◌}
use Rattle.field.proofs.power_of.Given as goal

abbrev pub invariant-loop-left : goal.invariant-loop-left
invariant-loop-left l = (l.product < l.m) × (l.square < 2 ^ 32) × (l.product * l.square ^ l.left % l.m ≡ l.initial.square ^ l.initial.left % l.m)

abbrev pub decreases-loop-left : goal.decreases-loop-left
decreases-loop-left l = l.left
