-- `rows_length` meets its contract. Assumes nothing.
use native.Mathlib.Nat.{mul-le-mul}
use native.Mathlib.Omega.{arith}
use Prim.Native.Nat.{◌*◌, ◌≤◌}
use Rattle.records.specs.Tags.{response_length}
use Rattle.reader.proofs.rows_length.Goals as goal

pub overflow_mul-whole : goal.overflow_mul-whole
unfolding response_length
overflow_mul-whole c =
    let a = c.args in
    let row : c.response_length.result ≤ 1024 = omega (arith, c.response_length.ensures) in
    let most : a.rows * c.response_length.result ≤ 256 * 1024 = mul-le-mul c.requires row in
    omega arith
