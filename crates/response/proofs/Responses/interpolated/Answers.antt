-- `Responses::interpolated` meets its contract. Assumes nothing.
use native.Mathlib.Omega.{arith}
use mathlib.Core.Path.{◌∙◌, ◌≡◌, sym}
use Rattle.interpolation.specs.Definitions.{slot}
use Rattle.rows.proofs.BasisLaws.{weights_by_is}
use Rattle.interpolation.proofs.PointLaws.{slot_is}
use Rattle.arrays.specs.ArrayLaws.{members_interpolated}
use Rattle.response.specs.Definitions.{phi_of}
use Rattle.response.proofs.Responses.interpolated.Goals as goal

pub returns : goal.returns
unfolding phi_of
returns c =
    let p = c.args.self.now in
    let at : c.point.result ≡ slot c.args.k = c.point.ensures ∙ sym (slot_is c.args.k) in
    c.sum.ensures
    ∙ rw (c.member_numbers.ensures, c.weights.ensures, c.requires, weights_by_is, at)
    (members_interpolated c.args.n p.responders p.numbers c.args.u (slot c.args.k) (omega arith))
