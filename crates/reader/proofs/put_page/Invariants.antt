-- `put_page` meets its contract. The loop reads the log turn by turn; the measure is what is left of it. Assumes nothing.
use mathlib.Core.Path.{◌≡◌}
use Prim.Native.Nat.{◌-◌}
use lib.ListN.{length}
use Rattle.reader.specs.Stretches.{most_rows}
use Rattle.reader.proofs.Reading.{Reading}
use Rattle.reader.proofs.put_page.Given as goal

abbrev pub invariant-loop-from : goal.invariant-loop-from
invariant-loop-from l = (length l.numbers ≡ most_rows) × Reading l.log l.initial.page l.page l.run l.from l.position

abbrev pub decreases-loop-from : goal.decreases-loop-from
decreases-loop-from l = length l.log - l.from
