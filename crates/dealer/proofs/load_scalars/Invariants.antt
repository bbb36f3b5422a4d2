-- `load_scalars` meets its contract. The loop has stored the scalars passed. Assumes nothing.
use Rattle.std.proofs.Common.{◌≡◌, get_or}
use Rattle.field.specs.Definitions.{scalar}
use Rattle.arrays.specs.Arrays.{scalars}
use Rattle.dealer.proofs.load_scalars.Given as goal

abbrev pub invariant-loop-i : goal.invariant-loop-i
invariant-loop-i l = l.values ≡ scalars l.i (λ k. scalar (get_or l.list k 0))
