-- `read_on` meets its contract. The loop reads the log turn by turn; the measure is what is left of it. Assumes nothing.
use Prim.Native.Nat.{◌-◌}
use lib.ListN.{length}
use Rattle.summary.proofs.Reading.{Reading}
use Rattle.summary.proofs.read_on.Given as goal

abbrev pub invariant-loop-from : goal.invariant-loop-from
invariant-loop-from l = Reading l.log l.run l.from l.bytes

abbrev pub decreases-loop-from : goal.decreases-loop-from
decreases-loop-from l = length l.log - l.from
