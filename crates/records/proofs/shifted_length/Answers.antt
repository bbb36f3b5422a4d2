-- `shifted_length` meets its contract: CH with one number more. Assumes nothing.
use native.Mathlib.Omega.{arith}
use Rattle.records.specs.Tags.{challenges_length, shifted_length}
use Rattle.records.proofs.RecordLaws.{byte_product}
use Rattle.records.proofs.shifted_length.Goals as goal

pub overflow_add-result : goal.overflow_add-result
unfolding challenges_length
overflow_add-result c =
    let k = c.before.args in
    omega (arith, c.challenges_length.ensures, byte_product k.a k.b (omega arith) (omega arith))

pub returns : goal.returns
unfolding challenges_length shifted_length
returns c = omega (arith, c.challenges_length.ensures)
