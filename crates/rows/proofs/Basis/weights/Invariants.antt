-- `Basis::weights` meets its contract. The loop has stored the weights passed, made from the partial products of both orders. Assumes nothing.
use Rattle.std.proofs.Common.{◌≡◌, ℕ, ◌-◌}
use Rattle.lists.specs.LoadLaws.{part}
use Rattle.field.specs.declared.Scalar.{Scalar}
use Rattle.field.specs.Definitions.{scalar, times}
use Rattle.rows.specs.declared.Row.{Row}
use Rattle.rows.specs.Definitions.{nth}
use Rattle.rows.proofs.Basis.weights.Given as goal

-- weight k as the loop makes it
abbrev pub made : Row → Row → Row → ℕ → ℕ → Scalar
made prefix suffix scales m k = times (times (nth prefix k) (nth suffix (m - 1 - k))) (nth scales k)

abbrev pub invariant-loop-i : goal.invariant-loop-i
invariant-loop-i l = l.weight-items ≡ part 64 (scalar 0) l.m (made l.prefix l.suffix l.scales l.m) l.i
