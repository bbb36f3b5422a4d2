-- `Setup::key_at` meets its contract. Assumes nothing.
use native.Mathlib.Omega.{arith}
use mathlib.Core.Path.{◌∙◌}
use Prim.Native.Nat.{◌+◌, ◌-◌}
use lib.ListN.{get_or}
use Rattle.field.specs.Definitions.{identity}
use Rattle.parameters.specs.ParameterLaws.{bounds_of, key_max}
use Rattle.arrays.specs.ArrayLaws.{values_interpolated}
use Rattle.dealing.specs.Definitions.{key_in}
use Rattle.protocol.specs.Transcript.{key_at}
use Rattle.dealing.proofs.Setup.key_at.Goals as goal

pub overflow_add-self : goal.overflow_add-self
overflow_add-self c =
    let start = c.before.before.before in
    omega (arith, key_max (bounds_of start.args.self.n start.args.self.t start.args.self.a start.requires))

pub returns : goal.returns
unfolding key_at key_in
returns c =
    let points = c.before.before in
    let start = points.before.before.before.before in
    let s = start.args.self in
    c.product.ensures
    ∙ rw (c.weights.ensures, points.committed_points.ensures, points.key_values-values.ensures)
    (values_interpolated (s.t + s.a) s.a (λ v. get_or s.key (v + 1 - s.a) identity) start.args.x (omega (arith, key_max (bounds_of s.n s.t s.a start.requires))))
