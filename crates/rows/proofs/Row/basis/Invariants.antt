-- `Row::basis` meets its contract. The loop has stored the scales passed. Assumes nothing.
use Rattle.std.proofs.Common.{◌≡◌}
use Rattle.lists.specs.LoadLaws.{part}
use Rattle.field.specs.Definitions.{scalar}
use Rattle.rows.specs.Definitions.{size, nth, scale}
use Rattle.rows.proofs.Row.basis.Given as goal

abbrev pub invariant-loop-i : goal.invariant-loop-i
invariant-loop-i l = l.scale-items ≡ part 64 (scalar 0) l.m (scale (nth l.self) (size l.self)) l.i
