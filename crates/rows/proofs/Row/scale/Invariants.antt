-- `Row::scale` meets its contract. The loop keeps the product of the differences passed. Assumes nothing.
use Rattle.std.proofs.Common.{◌≡◌}
use Rattle.interpolation.proofs.WeightLaws.{differences}
use Rattle.rows.specs.Definitions.{nth}
use Rattle.rows.proofs.Row.scale.Given as goal

abbrev pub invariant-loop-l : goal.invariant-loop-l
invariant-loop-l l = l.below ≡ differences (nth l.fn.self) l.l l.fn.i l.own
