-- `combined_share` meets its contract. The loop keeps the sum over the dealers of QUAL passed. Assumes nothing.
use mathlib.Core.Path.{◌≡◌}
use Rattle.sets.specs.Masks.{has}
use Rattle.writers.specs.Writers.{combined_share}
use Rattle.writers.proofs.combined_share.Given as goal

abbrev pub invariant-loop-i : goal.invariant-loop-i
invariant-loop-i l = l.sum ≡ combined_share l.i (has l.qual) l.shares l.u
