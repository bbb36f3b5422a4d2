-- `committed_points` meets its contract. Assumes nothing.
use Rattle.std.proofs.Common.{rules, ◌≡◌, ◌∙◌, ◌+◌, sym}
use Rattle.interpolation.specs.Definitions.{committed_point, point}
use Rattle.interpolation.proofs.PointLaws.{committed_is}
use Rattle.points.proofs.committed_points.Goals as goal

pub returns : goal.returns
returns c =
    c.listed.ensures (committed_point c.args.a)
    (λ v l x e.
    let given : x ≡ point (v + 1) c.args.a = search rules in
    given ∙ sym (committed_is c.args.a v))
