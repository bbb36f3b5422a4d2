-- `combined_values` meets its contract. The loop has stored the products passed. Assumes nothing.
use Rattle.std.proofs.Common.{◌≡◌}
use Rattle.sets.specs.Masks.{has}
use Rattle.lists.specs.LoadLaws.{part}
use Rattle.field.specs.Definitions.{identity}
use Rattle.arrays.specs.Arrays.{commitment_in}
use Rattle.combination.specs.Combination.{combined_value}
use Rattle.combination.proofs.combined_values.Given as goal

abbrev pub invariant-loop-v : goal.invariant-loop-v
invariant-loop-v l = l.value-items ≡ part 64 identity l.m (combined_value l.n (has l.qual) (commitment_in l.powers) 1) l.v
