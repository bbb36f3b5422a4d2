-- `Row::sum` meets its contract. The loop keeps the sum of weight × value over the places passed. Assumes nothing.
use Rattle.std.proofs.Common.{◌≡◌, length, get_or}
use Rattle.algebra.specs.Fold.{fold}
use Rattle.field.specs.Definitions.{scalar, plus, times}
use Rattle.rows.specs.Definitions.{nth}
use Rattle.rows.proofs.Row.sum.Given as goal

abbrev pub invariant-loop-w : goal.invariant-loop-w
invariant-loop-w l = l.sum ≡ fold plus (scalar 0) (length l.yielded) (λ k. times (nth l.fn.self k) (get_or l.fn.values k (scalar 0)))
