-- `table` meets its contract: the loop has stored the values of each u passed, and raised the powers to the last of them. Assumes nothing.
use mathlib.Core.Path.{◌≡◌}
use Prim.Native.Nat.{◌-◌, ◌≤◌}
use Rattle.parameters.specs.Definitions.{most_parties}
use Rattle.combination.specs.Combination.{powers_at}
use Rattle.combination.specs.Tables.{table_to}
use Rattle.combination.proofs.table.Given as goal

abbrev pub invariant-loop-u : goal.invariant-loop-u
invariant-loop-u l = (l.u ≤ l.count) × (l.count ≤ most_parties) × (l.quorum ≤ most_parties) × (l.powers ≡ powers_at l.n l.initial.powers (l.u - 1)) × (l.values ≡ table_to l.n l.qual l.quorum l.initial.powers l.u)

abbrev pub decreases-loop-u : goal.decreases-loop-u
decreases-loop-u l = l.count - l.u
