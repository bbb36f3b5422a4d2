-- `Row::reversed` meets its contract. The loop has stored the points passed. Assumes nothing.
use Rattle.std.proofs.Common.{◌≡◌, ◌-◌}
use Rattle.lists.specs.LoadLaws.{part}
use Rattle.field.specs.Definitions.{scalar}
use Rattle.rows.specs.Definitions.{nth}
use Rattle.rows.proofs.Row.reversed.Given as goal

abbrev pub invariant-loop-i : goal.invariant-loop-i
invariant-loop-i l = l.place-items ≡ part 64 (scalar 0) l.m (λ k. nth l.self (l.m - 1 - k)) l.i
