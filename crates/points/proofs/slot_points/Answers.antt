-- `slot_points` meets its contract. Assumes nothing.
use Rattle.std.proofs.Common.{rules, ◌≡◌, ◌∙◌, ◌+◌, sym}
use Rattle.interpolation.specs.Definitions.{slot, point}
use Rattle.interpolation.proofs.PointLaws.{slot_is}
use Rattle.points.proofs.slot_points.Goals as goal

pub returns : goal.returns
returns c =
    c.listed.ensures (λ v. slot (v + 1))
    (λ v l x e.
    let given : x ≡ point 1 (v + 1) = search rules in
    given ∙ sym (slot_is (v + 1)))
