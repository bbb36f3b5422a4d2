-- `mask` meets its contract. The loop has read the bytes passed, whose number has 8 bits for each. Assumes nothing.
use mathlib.Core.Path.{◌≡◌}
use Prim.Native.Nat.{◌*◌, ◌-◌, ◌^◌, ◌≤◌, ◌<◌}
use Rattle.records.specs.Bytes.{wide_at}
use Rattle.records.proofs.mask.Given as goal

abbrev pub invariant-loop-i : goal.invariant-loop-i
invariant-loop-i l = (l.i ≤ l.width) × (l.width ≤ 8) × (l.number < 2 ^ (8 * l.i)) × (l.number ≡ wide_at l.i l.s 4)

abbrev pub decreases-loop-i : goal.decreases-loop-i
decreases-loop-i l = l.width - l.i
