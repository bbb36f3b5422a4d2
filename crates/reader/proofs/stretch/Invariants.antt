-- `stretch` meets its contract: a row each turn, until one is none. Assumes nothing.
use mathlib.Core.Path.{◌≡◌}
use Prim.Native.Nat.{◌+◌, ◌-◌, ◌≤◌}
use lib.ListN.{drop}
use Rattle.reader.specs.Stretches.{most_rows, stretch_of}
use Rattle.reader.proofs.stretch.Given as goal

abbrev pub invariant-loop-count : goal.invariant-loop-count
invariant-loop-count l = (l.count ≤ most_rows) × (l.count + stretch_of (most_rows - l.count) l.length (drop l.from l.rest) ≡ stretch_of most_rows l.length l.rest)

abbrev pub decreases-loop-count : goal.decreases-loop-count
decreases-loop-count l = most_rows - l.count
