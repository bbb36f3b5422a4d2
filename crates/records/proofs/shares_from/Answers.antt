-- `shares_from` meets its contract. Assumes nothing.
use native.Mathlib.Omega.{arith}
use Rattle.parameters.specs.Definitions.{quorum}
use Rattle.records.specs.Tags.{shares_from}
use Rattle.records.proofs.shares_from.Goals as goal

pub overflow_mul-result : goal.overflow_mul-result
unfolding quorum
overflow_mul-result c = omega arith

pub overflow_add-result : goal.overflow_add-result
unfolding quorum
overflow_add-result c = omega arith

pub returns : goal.returns
unfolding shares_from
returns c = rw c.quorum.ensures
