-- `challenge_values` meets its contract. The loop has stored the challenges passed. Assumes nothing.
use Rattle.std.proofs.Common.{◌≡◌, ◌+◌}
use Rattle.lists.specs.LoadLaws.{part}
use Rattle.field.specs.Definitions.{scalar}
use Rattle.arrays.specs.Arrays.{challenge_in}
use Rattle.arrays.proofs.challenge_values.Given as goal

abbrev pub invariant-loop-v : goal.invariant-loop-v
invariant-loop-v l = l.value-items ≡ part 64 (scalar 0) l.m (λ k. challenge_in l.a l.list l.u (k + 1)) l.v
