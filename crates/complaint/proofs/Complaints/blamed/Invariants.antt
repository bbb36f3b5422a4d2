-- `Complaints::blamed` meets its contract. The loop has the union of the kept masks of the parties passed. Assumes nothing.
use mathlib.Core.Path.{◌≡◌}
use Prim.Native.Nat.{◌+◌, ◌-◌, ◌≤◌}
use lib.Bits.{bit_or}
use Rattle.algebra.specs.Fold.{fold}
use Rattle.complaint.specs.Definitions.{mask_by}
use Rattle.complaint.proofs.Complaints.blamed.Given as goal

abbrev pub invariant-loop-i : goal.invariant-loop-i
invariant-loop-i l = (l.i ≤ l.n) × (l.blamed ≡ fold bit_or 0 l.i (λ j. mask_by l.self (j + 1)))

abbrev pub decreases-loop-i : goal.decreases-loop-i
decreases-loop-i l = l.n - l.i
