-- `member_points` meets its contract. Assumes nothing.
use Rattle.std.proofs.Common.{rules, ◌≡◌, ◌∙◌, sym}
use Rattle.interpolation.specs.Definitions.{party, point}
use Rattle.interpolation.proofs.PointLaws.{party_is}
use Rattle.arrays.specs.Arrays.{member_points}
use Rattle.arrays.proofs.member_points.Goals as goal

pub returns : goal.returns
unfolding member_points
returns c =
    c.of_members.ensures party
    (λ j l x e.
    let given : x ≡ point j 0 = search rules in
    given ∙ sym (party_is j))
